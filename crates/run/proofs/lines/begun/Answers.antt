use native.Mathlib.Omega.{arith}
use Rattle.run.proofs.HeadLaws.{stays}
use Rattle.run.proofs.lines.begun.Goals as goal

pub returns-then-p-ne-ROWS : goal.returns-then-p-ne-ROWS
returns-then-p-ne-ROWS c =
    let placed = c.requires.0 in
    stays _ _ c.args.p placed (omega (arith, placed.row, c.if-p-ne-ROWS.true))
