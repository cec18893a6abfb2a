-- A test at each number below another: where one fails, and at each element of a list.
use mathlib.Core.Path.{◌≡◌, sym}
use mathlib.Core.Bool.{Bool, true, false}
use mathlib.Core.List.{List}
use borrow.Author.Tests.{eq-eqb}
use Prim.Native.Nat.{ℕ, ◌<◌}
use lib.ListN.{length, get_or}
use Rattle.std.specs.List.{list_all}
use Rattle.std.proofs.lemmas.List.Elements.{All-get_or, All-from_get_or}
use Rattle.std.proofs.lemmas.List.Sums.{AllPass-from_list_all, list_all-from_AllPass}
use Rattle.std.proofs.lemmas.Bool.{false_from_ne_true}
use Rattle.layout.specs.Lists.{all_below}
use Rattle.layout.proofs.Below.{all_at, all_below_lem}
use Rattle.rules.proofs.TestLaws.{split}

-- where one of these numbers fails the test
pub all_fails : (test : ℕ → Bool) (n k : ℕ) → k < n → test k ≡ false → all_below n test ≡ false
all_fails test n k h e = false_from_ne_true (all_below n test) (λ t. let p = all_at test n t k h in cc)

pub list_all_below : (test : ℕ → Bool) (xs : List ℕ) → list_all test xs ≡ all_below (length xs) (λ k. test (get_or xs k 0))
list_all_below test xs =
    split (list_all test xs)
    (λ t. let each = AllPass-from_list_all test xs t in
    rw t (sym (all_below_lem _ (length xs) (λ k h. All-get_or (λ x. test x ≡ true) xs k 0 h each))))
    (λ f. rw f (sym (false_from_ne_true (all_below (length xs) (λ k. test (get_or xs k 0)))
    (λ t. let each = list_all-from_AllPass test xs (All-from_get_or (λ x. test x ≡ true) xs 0 (all_at _ (length xs) t)) in cc))))

-- with a list's length where that is asked
pub ruleset list_tests = (list_all_below, eq-eqb)
