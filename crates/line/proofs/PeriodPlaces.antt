-- What the answer says that a row has a place among those that have a period, or none; and what is kept of its pairs.
use Rattle.std.specs.Prelude.{Option, Some, None}
use mathlib.Core.Path.{◌≡◌, sym}
use mathlib.Core.List.{List, [], ◌∷◌}
use Prim.Native.Nat.{ℕ, suc, ◌<◌, ◌≤◌, zero-le, suc-le-suc}
use native.Mathlib.Omega.{arith}
use lib.Dec.{eqb}
use lib.ListN.{length}
use borrow.Author.Tests.{le-ltb}
use Rattle.layout.specs.Packed.{some_but}
use Rattle.layout.specs.Rows.{place_of}
use Rattle.layout.specs.Periods.{periods, period_codes, period_count, period_of, later_date}
use Rattle.rules.proofs.TestLaws.{pick_le}
use Rattle.rules.specs.Periods.{most_pairs}
use Rattle.layout.proofs.OptionLaws.{some_but_some, some_but_none}
use Rattle.layout.proofs.PeriodLaws.{no_later}
use Rattle.line.specs.Machine.{pairs_kept}

place_most : (x : ℕ) (ys : List ℕ) → place_of x ys ≤ length ys
unfolding place_of
place_most x [] = zero-le
place_most x (y ∷ ys) = pick_le (eqb x y) 0 (suc (place_of x ys)) (suc (length ys)) zero-le (suc-le-suc (place_most x ys))

period_most : (r : ℕ) → period_of r ≤ period_count
unfolding period_of period_codes periods
period_most r = place_most _ period_codes

module _ (r : ℕ) where
  pub place_is : (place : ℕ) → Some place ≡ some_but period_count (period_of r) → period_of r ≡ place
  place_is place e = sym (some_but_some period_count (period_of r) place e).0

  pub place_below : (place : ℕ) → Some place ≡ some_but period_count (period_of r) → place < period_count
  place_below place e = let h = some_but_some period_count (period_of r) place e in let m = period_most r in omega arith

  pub no_place : ◌≡◌ {A = Option ℕ} None (some_but period_count (period_of r)) → period_of r ≡ period_count
  no_place e = some_but_none period_count (period_of r) e

  pub no_date : ◌≡◌ {A = Option ℕ} None (some_but period_count (period_of r)) → later_date r ≡ 0
  no_date e = let p = no_place e in no_later r (le-ltb (period_of r) period_count (omega arith))

-- so many pairs of a row are kept at most
pub kept_most : (counts : List ℕ) (r : ℕ) → pairs_kept counts r ≤ most_pairs
unfolding pairs_kept
kept_most counts r = omega arith

-- for the functions that ask a row's place
pub ruleset places = (place_is, place_below, no_place, no_date, kept_most)
