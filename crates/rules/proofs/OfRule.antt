-- The numbers of rules: none of them is a call's.
use mathlib.Core.Path.{◌≡◌}
use mathlib.Core.Bool.{true, ◌||◌, or-true, and-false}
use Prim.Native.Nat.{ℕ, ◌≤◌}
use native.Mathlib.Omega.{arith}
use lib.Dec.{eqb, leb}
use borrow.Author.Tests.{ne_eqb, lt-leb}
use Rattle.rules.specs.Numbers.{is_rule}
use Rattle.rules.proofs.TestLaws.{both}

-- nothing refused, or a rule's number
abbrev pub OfRule : ℕ → Type 0
OfRule n = (eqb n 0 || is_rule n) ≡ true

pub of_rule : (n : ℕ) → is_rule n ≡ true → OfRule n
of_rule n e = rw e (or-true (eqb n 0))

-- none of them is 17, 18 or 19
pub not_of_call : {X : Type 0} (n : ℕ) → OfRule n → 17 ≤ n → n ≤ 19 → X
not_of_call n e l m =
    both e
    (rw (
      ne_eqb n 0 (λ z. omega arith),
      lt-leb n 16 (omega arith),
      ne_eqb n 20 (λ z. omega arith),
      ne_eqb n 21 (λ z. omega arith),
      ne_eqb n 23 (λ z. omega arith),
      ne_eqb n 24 (λ z. omega arith),
      and-false (leb 1 n),
    ))
