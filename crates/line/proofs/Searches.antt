-- A search in a list, by the entries up to a place.
use mathlib.Core.Path.{◌≡◌, ◌∙◌, refl, sym, ap}
use mathlib.Core.Bool.{Bool, true, false, not, ◌&&◌, ◌||◌, and_comm}
use mathlib.Core.List.{List}
use Prim.Native.Nat.{ℕ, zero, suc, ◌+◌, ◌-◌, ◌≤◌}
use native.Mathlib.Omega.{arith}
use native.Mathlib.Nat.{zero-add}
use lib.Dec.{eqb}
use lib.ListN.{length, get_or, take, drop, length-drop}
use Rattle.std.specs.List.{list_all, list_any, range_with_len}
use Rattle.std.proofs.Math.Seq.{take-length}
use Rattle.std.proofs.lemmas.List.{get_or-drop}
use Rattle.std.proofs.lemmas.List.FromFn.{length-range_with_len, get_or-range_with_len}
use Rattle.std.proofs.lemmas.List.Folds.{list_all_more, list_any_more}
use Rattle.layout.specs.Lists.{all_below}
use Rattle.layout.proofs.Below.{all_same}

or_turned : (a b : Bool) → (not a || b) ≡ not (not b && a)
or_turned true true = refl
or_turned true false = refl
or_turned false true = refl
or_turned false false = refl

module _ (test : ℕ → Bool) (xs : List ℕ) where
  pub all_is : (n : ℕ) → n ≤ length xs → list_all test (take n xs) ≡ all_below n (λ i. test (get_or xs i 0))
  unfolding all_below
  all_is zero l = refl
  all_is (suc n) l =
      let next : suc n ≡ n + 1 = omega arith in
      ap (λ k. list_all test (take k xs)) next ∙ list_all_more test xs n 0 (omega arith)
      ∙ rw (all_is n (omega arith)) (and_comm _ (test (get_or xs n 0)))

  pub any_is : (n : ℕ) → n ≤ length xs → list_any test (take n xs) ≡ not (all_below n (λ i. not (test (get_or xs i 0))))
  unfolding all_below
  any_is zero l = refl
  any_is (suc n) l =
      let next : suc n ≡ n + 1 = omega arith in
      ap (λ k. list_any test (take k xs)) next ∙ list_any_more test xs n 0 (omega arith)
      ∙ rw (any_is n (omega arith)) (or_turned _ (test (get_or xs n 0)))

-- of the numbers below n
pub all_numbers : (test : ℕ → Bool) (n : ℕ) → list_all test (range_with_len 0 n) ≡ all_below n test
all_numbers test n =
    let numbers = range_with_len 0 n in
    let long = length-range_with_len 0 n in
    ap (list_all test) (sym (take-length numbers) ∙ ap (λ k. take k numbers) long)
    ∙ all_is test numbers n (omega arith)
    ∙ all_same n _ test (λ k l. ap test (get_or-range_with_len 0 n k 0 l ∙ zero-add k))

-- of the n entries from a place on
pub any_from : (v place n : ℕ) (xs : List ℕ) → place + n ≤ length xs
    → list_any (λ y. eqb y v) (take (place + n - place) (drop place xs))
    ≡ not (all_below n (λ i. not (eqb (get_or xs (place + i) 0) v)))
any_from v place n xs l =
    let width : place + n - place ≡ n = omega arith in
    ap (λ k. list_any (λ y. eqb y v) (take k (drop place xs))) width
    ∙ any_is (λ y. eqb y v) (drop place xs) n (omega (arith, length-drop place xs))
    ∙ ap not (all_same n _ _ (λ i b. ap (λ y. not (eqb y v)) (get_or-drop place xs i 0)))
