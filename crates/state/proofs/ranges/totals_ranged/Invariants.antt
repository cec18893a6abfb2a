use Rattle.std.proofs.Common.{◌≡◌, ℕ, ◌<◌, get_or}
use Rattle.rules.specs.Totals.{block_count}
use Rattle.state.proofs.ranges.totals_ranged.Given as goal

abbrev pub invariant-loop-x : goal.invariant-loop-x
invariant-loop-x l = (k : ℕ) → k < l.x → block_count k l.counts ≡ get_or l.totals k 0
