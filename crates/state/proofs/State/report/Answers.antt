use mathlib.Core.Path.{◌∙◌, sym}
use native.Mathlib.Omega.{arith}
use Rattle.std.proofs.lemmas.List.{length-take-le}
use Rattle.state.proofs.RangeLaws.{state_tally}
use Rattle.state.proofs.State.report.Goals as goal

pub copy_from_slice-requires : goal.copy_from_slice-requires
copy_from_slice-requires c =
    let all = (state_tally c.args.self.now (sym c.is_ranged.ensures ∙ c.if-not-is_ranged.false)).each_row in
    rw all (length-take-le 134 c.args.counts.now (omega (arith, c.if-counts-lt-ROWS.false)))
