use Prim.Native.Nat.{◌-◌}
use Rattle.run.specs.Places.{Fielded}
use Rattle.run.proofs.FieldPasses.{place_at}
use Rattle.run.proofs.lines.fields_past.Given as goal

abbrev pub invariant-loop-at : goal.invariant-loop-at
invariant-loop-at l = Fielded l.s l.safe l.p (place_at l.p l.at l.index)

abbrev pub decreases-loop-at : goal.decreases-loop-at
decreases-loop-at l = l.safe - l.at
