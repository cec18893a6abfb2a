-- Each block's counts are a part of all counts.
use mathlib.Core.Path.{◌≡◌, sym}
use mathlib.Core.Bool.{true, false}
use mathlib.Core.List.{List}
use Prim.Native.Nat.{ℕ, ◌+◌, ◌-◌, ◌<◌, ◌≤◌}
use native.Mathlib.Numerals.{add-one}
use borrow.Author.Tests.{eq-eqb}
use lib.Dec.{eqb}
use lib.ListN.{length, get_or, take, drop}
use Rattle.layout.specs.Rows.{row_count, blocks, block_starts}
use Rattle.layout.proofs.StartLaws.{starts_rise, starts_end}
use Rattle.rules.specs.Totals.{sum, block_count}
use Rattle.rules.proofs.CountLaws.{block_part}
use Rattle.layout.proofs.Below.{all_below_lem}
use Rattle.state.proofs.ListLaws.{all_fails}
use Rattle.state.specs.Ranges.{totals_to}

-- of block x, whose rows end where those of the next one begin
module _ (x : ℕ) (h : x < blocks) where
  pub part_rises : get_or block_starts x 0 ≤ get_or block_starts (x + 1) 0
  part_rises = rw add-one (starts_rise x h)

  pub part_ends : get_or block_starts (x + 1) 0 ≤ row_count
  part_ends = rw add-one (starts_end x h)

  pub part_sum : (counts : List ℕ) → length counts ≡ row_count
      → sum (take (get_or block_starts (x + 1) 0 - get_or block_starts x 0) (drop (get_or block_starts x 0) counts))
      ≡ block_count x counts
  part_sum counts e = rw add-one (sym (block_part x counts e h))

pub totals_hold : (counts totals : List ℕ) → ((k : ℕ) → k < blocks → block_count k counts ≡ get_or totals k 0)
    → totals_to counts totals blocks ≡ true
totals_hold counts totals f = all_below_lem _ blocks (λ k h. eq-eqb _ _ (f k h))

pub totals_fail : (counts totals : List ℕ) (x : ℕ) → x < blocks → eqb (block_count x counts) (get_or totals x 0) ≡ false
    → totals_to counts totals blocks ≡ false
totals_fail counts totals x h e = all_fails _ blocks x h e
