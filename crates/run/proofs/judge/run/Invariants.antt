use Prim.Native.Nat.{◌-◌}
use lib.ListN.{length}
use Rattle.run.proofs.LoopLaws.{Passed}
use Rattle.run.proofs.judge.run.Given as goal

abbrev pub invariant-loop-i : goal.invariant-loop-i
invariant-loop-i l = Passed l.piece l.initial.line.hot l.initial.tally l.line.hot l.tally l.i

abbrev pub decreases-loop-i : goal.decreases-loop-i
decreases-loop-i l = length l.piece - l.i
