-- Marks, the top bits of a word's bytes: where the first one is that of the first byte that fails a test, they tell how many pass it.
use Rattle.std.proofs.Common.{◌≡◌, ℕ, zero, suc, ◌+◌, ◌*◌, ◌/◌, ◌%◌, ◌<◌, Bool, true, false, List, get_or, refl, ap, arith}
use Rattle.std.specs.Int.Count.{count_trailing_zeros}
use Rattle.rules.proofs.TestLaws.{split}
use Rattle.whole.specs.Word.{word_of, alike}

-- the zeros below a byte
tz_even : (k m : ℕ) → count_trailing_zeros (suc k) (m * 2) ≡ suc (count_trailing_zeros k m)
unfolding count_trailing_zeros
tz_even k m =
    let last : m * 2 % 2 ≡ 0 = omega arith in
    let half : m * 2 / 2 ≡ m = omega arith in
    rw (last, half)

tz_odd : (k m : ℕ) → count_trailing_zeros (suc k) (m * 2 + 1) ≡ 0
unfolding count_trailing_zeros
tz_odd k m = let last : (m * 2 + 1) % 2 ≡ 1 = omega arith in rw last

abbrev eight : ℕ → ℕ
eight k = suc (suc (suc (suc (suc (suc (suc (suc k)))))))

tz_byte : (k m : ℕ) → count_trailing_zeros (eight k) (m * 256) ≡ eight (count_trailing_zeros k m)
tz_byte k m =
    let e : m * 256 ≡ m * 2 * 2 * 2 * 2 * 2 * 2 * 2 * 2 = omega arith in
    rw (e, tz_even, tz_even, tz_even, tz_even, tz_even, tz_even, tz_even, tz_even)

tz_top : (k m : ℕ) → count_trailing_zeros (eight k) (m * 256 + 128) ≡ 7
tz_top k m =
    let e : m * 256 + 128 ≡ (m * 2 + 1) * 2 * 2 * 2 * 2 * 2 * 2 * 2 = omega arith in
    rw (e, tz_even, tz_even, tz_even, tz_even, tz_even, tz_even, tz_even, tz_odd)

-- the bits of n bytes
abbrev pub bits : ℕ → ℕ
bits zero = 0
bits (suc n) = eight (bits n)

-- The marks of a word of n bytes, for any n: a byte that passes the test has none, and leaves those of the others as they are; one that
-- fails it has one.
pub record Marks (test : ℕ → Bool) (marks : ℕ → ℕ → ℕ) : Type 0 where
  pub above : ℕ → ℕ → ℕ → ℕ
  pub none : marks 0 0 ≡ 0
  pub passed : (n b x : ℕ) → b < 256 → test b ≡ true → marks (suc n) (x * 256 + b) ≡ marks n x * 256
  pub failed : (n b x : ℕ) → b < 256 → test b ≡ false → marks (suc n) (x * 256 + b) ≡ above n b x * 256 + 128

-- no mark tells n bytes that pass; else the first one tells how many do before it
pub record Told (test : ℕ → Bool) (n : ℕ) (s : List ℕ) (i m : ℕ) : Type 0 where
  pub all : m ≡ 0 → n ≡ alike test n s i
  pub some : (m ≡ 0 → ⊥) → count_trailing_zeros (bits n) m / 8 ≡ alike test n s i

pub told : {test : ℕ → Bool} {marks : ℕ → ℕ → ℕ} → Marks test marks → (n : ℕ) (s : List ℕ) (i : ℕ)
    → ((k : ℕ) → get_or s k 0 < 256) → Told test n s i (marks n (word_of n s i))
unfolding alike word_of
told law zero s i b = record { all = λ e. refl; some = λ n. absurd (n law.none) }
told {test} {marks} law (suc n) s i b = split (test c) (passes (told law n s (suc i) b)) fails
  where
    c : ℕ
    c = get_or s i 0

    x : ℕ
    x = word_of n s (suc i)

    passes : Told test n s (suc i) (marks n x) → test c ≡ true → Told test (suc n) s i (marks (suc n) (x * 256 + c))
    passes r e =
        rw (law.passed n c x (b i) e)
        (record {
          all = λ z. rw e (ap suc (r.all (omega arith)));
          some = λ z. rw (e, tz_byte (bits n) (marks n x)) (omega (arith, r.some (λ q. z (omega arith))));
        })

    fails : test c ≡ false → Told test (suc n) s i (marks (suc n) (x * 256 + c))
    fails e =
        rw (law.failed n c x (b i) e)
        (record { all = λ z. absurd (omega arith); some = λ z. rw (e, tz_top (bits n) (law.above n c x)) })

-- of eight bytes: w is their word, m its marks
pub told_eight : {test : ℕ → Bool} {marks : ℕ → ℕ → ℕ} → Marks test marks → (s : List ℕ) (i : ℕ) → ((k : ℕ) → get_or s k 0 < 256)
    → {w m : ℕ} → w ≡ word_of 8 s i → m ≡ marks 8 w → Told test 8 s i m
told_eight law s i b p q = rw (q, p) (told law 8 s i b)
