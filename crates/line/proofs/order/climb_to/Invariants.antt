use Prim.Native.Nat.{◌≤◌}
use mathlib.Core.Path.{◌≡◌}
use Rattle.layout.specs.Rows.{row_count, level}
use Rattle.layout.specs.Climb.{climb}
use Rattle.line.proofs.order.climb_to.Given as goal

abbrev pub invariant-loop-x : goal.invariant-loop-x
invariant-loop-x l = record { row_or_none : l.x ≤ row_count; climbs : climb l.n l.from ≡ climb l.n l.x }

abbrev pub decreases-loop-x : goal.decreases-loop-x
decreases-loop-x l = level l.x
