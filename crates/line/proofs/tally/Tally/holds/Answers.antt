use native.Mathlib.Omega.{arith}
use Rattle.line.proofs.StatementLaws.{occurs_most}
use Rattle.line.proofs.tally.Tally.holds.Goals as goal

pub overflow_add-result : goal.overflow_add-result
overflow_add-result c = omega (arith, occurs_most _ c.args.self.now.counts c.requires.below c.args.r, c.occurs.ensures)
