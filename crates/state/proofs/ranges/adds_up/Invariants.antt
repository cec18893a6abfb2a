use Rattle.std.proofs.Common.{◌≡◌, ◌+◌, drop}
use Rattle.rules.specs.Totals.{sum}
use Rattle.state.proofs.ranges.adds_up.Given as goal

-- what is left of the total still has the numbers from here on to meet
abbrev pub invariant-loop-n : goal.invariant-loop-n
invariant-loop-n l = sum l.numbers + l.left ≡ l.total + sum (drop l.n-index l.numbers)
