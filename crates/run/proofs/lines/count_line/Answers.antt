use native.Mathlib.Omega.{arith}
use Prim.Native.Nat.{◌+◌}
use mathlib.Core.Path.{◌≡◌, ◌∙◌, sym}
use Rattle.std.specs.Prelude.{Some}
use Rattle.layout.specs.Packed.{some_but}
use Rattle.layout.specs.Rows.{blocks}
use Rattle.layout.specs.Silent.{silent_block}
use Rattle.line.specs.Tally.{counted_tally}
use Rattle.layout.proofs.OptionLaws.{some_but_some, some_but_none}
use Rattle.run.proofs.PlaceLaws.{silent_row, silent_block_lem, silent_block_below}
use Rattle.run.proofs.lines.count_line.Goals as goal

pub count-requires-clause-row_or_none : goal.count-requires-clause-row_or_none
count-requires-clause-row_or_none c = omega (arith, silent_row c.args.p.row c.requires.silent)

pub silent_at-requires : goal.silent_at-requires
silent_at-requires c = omega (arith, silent_row c.args.p.row c.requires.silent)

pub returns-in-Some : goal.returns-in-Some
returns-in-Some c =
    let p = c.args.p in
    let counted : c.count.new.self ≡ counted_tally c.args.tally.now p.row (p.lines + 1) = c.count.ensures in
    let found : Some c.in-Some.block ≡ some_but blocks (silent_block p.row) = c.in-Some.ensures in
    let block = (some_but_some _ _ _ found).0 ∙ silent_block_lem p.row c.requires.silent in
    c.raise.ensures ∙ rw (counted, block)

pub returns-in_default : goal.returns-in_default
returns-in_default c =
    let none = some_but_none _ _ (sym c.in_default.is ∙ c.silent_at.ensures) in
    absurd (omega (arith, none, silent_block_below c.args.p.row c.requires.silent))
