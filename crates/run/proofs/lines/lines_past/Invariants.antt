use Prim.Native.Nat.{◌-◌}
use Rattle.run.specs.Places.{Along}
use Rattle.run.proofs.lines.lines_past.Given as goal

abbrev pub invariant-loop-p : goal.invariant-loop-p
invariant-loop-p l = Along l.s l.before l.initial.p l.initial.tally l.p l.tally

abbrev pub decreases-loop-p : goal.decreases-loop-p
decreases-loop-p l = l.safe - l.p.at
