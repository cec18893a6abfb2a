-- How many of some bytes pass a test, before the first that does not.
use Rattle.std.proofs.Common.{◌≡◌, ℕ, zero, suc, ◌+◌, ◌<◌, ◌≤◌, Bool, true, List, get_or, ap, add-zero, suc-add, arith}
use Rattle.rules.proofs.TestLaws.{split}
use Rattle.whole.specs.Word.{alike}

module _ (test : ℕ → Bool) where
  pub alike_le : (n : ℕ) (s : List ℕ) (i : ℕ) → alike test n s i ≤ n
  unfolding alike
  alike_le zero s i = omega arith
  alike_le (suc n) s i =
      let most = alike_le n s (suc i) in
      split (test (get_or s i 0)) (λ t. rw t (omega arith)) (λ t. rw t (omega arith))

  -- each of them passes it
  pub alike_pass : (n : ℕ) (s : List ℕ) (i k : ℕ) → k < alike test n s i → test (get_or s (i + k) 0) ≡ true
  unfolding alike
  alike_pass zero s i k l = absurd (omega arith)
  alike_pass (suc n) s i zero l =
      split (test (get_or s i 0)) (λ e. rw (add-zero i) e) (λ e. absurd (omega (arith, rw e at l)))
  alike_pass (suc n) s i (suc k) l =
      let on : i + suc k ≡ suc i + k = omega arith in
      split (test (get_or s i 0))
      (λ e. rw on (alike_pass n s (suc i) k (omega (arith, rw e at l))))
      (λ e. absurd (omega (arith, rw e at l)))

  -- after n that pass it the next bytes count; before, they do not
  pub alike_on : (n m : ℕ) (s : List ℕ) (i : ℕ) → alike test n s i ≡ n → alike test (n + m) s i ≡ n + alike test m s (i + n)
  unfolding alike
  alike_on zero m s i e =
      let a : 0 + m ≡ m = omega arith in
      let b : i + 0 ≡ i = omega arith in
      rw (a, b) (omega arith)
  alike_on (suc n) m s i e =
      let on : i + suc n ≡ suc i + n = omega arith in
      rw (suc-add n m)
      (split (test (get_or s i 0))
      (λ d. rw (d, on) (omega (arith, alike_on n m s (suc i) (omega (arith, rw d at e)))))
      (λ d. absurd (omega (arith, rw d at e))))

  pub alike_short : (n m : ℕ) (s : List ℕ) (i : ℕ) → alike test n s i < n → alike test (n + m) s i ≡ alike test n s i
  unfolding alike
  alike_short zero m s i h = absurd (omega arith)
  alike_short (suc n) m s i h =
      rw (suc-add n m)
      (split (test (get_or s i 0))
      (λ d. rw d (ap suc (alike_short n m s (suc i) (omega (arith, rw d at h)))))
      (λ d. rw d))
