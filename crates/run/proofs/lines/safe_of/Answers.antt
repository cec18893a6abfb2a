use native.Mathlib.Omega.{arith}
use Rattle.run.specs.Places.{safe_of}
use Rattle.run.proofs.lines.safe_of.Goals as goal

pub returns : goal.returns
unfolding safe_of
returns c = rw (c.saturating_sub-2.ensures, c.min-end.ensures, c.saturating_sub.ensures)
