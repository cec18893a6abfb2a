use Rattle.std.proofs.Common.{◌≤◌}
use Rattle.whole.specs.Whole.{Plain}
use Rattle.whole.proofs.text.text_past.Given as goal

abbrev pub invariant-loop-j : goal.invariant-loop-j
invariant-loop-j l = (l.i ≤ l.j) × Plain l.s l.i l.j
