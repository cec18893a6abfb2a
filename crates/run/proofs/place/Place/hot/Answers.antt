use mathlib.Core.Path.{◌∙◌, sym}
use native.Mathlib.Omega.{arith}
use Prim.Native.Nat.{◌+◌, ◌-◌}
use Rattle.layout.proofs.KindLaws.{kind_most}
use Rattle.run.proofs.PlaceLaws.{at_line, at_field, bars_within}
use Rattle.run.proofs.place.Place.hot.Goals as goal

pub returns-then-self-eq-ROWS : goal.returns-then-self-eq-ROWS
returns-then-self-eq-ROWS c =
    c.line_start-start.ensures ∙ sym (at_line c.args.self c.args.bytes c.if-self-eq-ROWS.true)

pub overflow_add-bars : goal.overflow_add-bars
overflow_add-bars c =
    let placed = c.requires in
    omega (arith, c.start_at.ensures, bars_within c.args.self placed (omega (arith, placed.row)))

pub number-requires : goal.number-requires
number-requires c =
    let bars = c.args.self.index - c.start_at.result + 1 in
    omega (arith, c.kind_of.ensures, kind_most c.args.self.row bars)

pub returns : goal.returns
returns c =
    rw (
      at_field c.args.self c.args.bytes (omega (arith, c.requires.row)),
      c.number.ensures,
      c.kind_of.ensures,
      c.fields_at.ensures,
      c.start_at.ensures,
      c.line_start-start.ensures,
    )
