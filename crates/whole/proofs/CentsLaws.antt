-- A comma, two digits and a bar in a word, from one sum, two `^`, one `|` and one `&`.
use Rattle.std.proofs.Common.{◌≡◌, ℕ, suc, ◌+◌, ◌/◌, ◌%◌, ◌^◌, ◌<◌, true, T, eqb, List, get_or, sym, ◌∙◌, arith, eqb→eq, eq-eqb}
use Rattle.std.proofs.Math.Nat.{zero-div}
use Rattle.std.specs.Int.Bits.{bit_and, bit_or, bit_xor, and_shr, or_shr, xor_shr, and_mod, or_mod, xor_mod}
use lib.Ieee.Bits.{is_true}
use Rattle.layout.specs.Lists.{all_below}
use Rattle.layout.proofs.Below.{those, those_at}
use Rattle.rules.specs.Bytes.{bar}
use Rattle.rules.specs.Fields.{is_digit, comma}
use Rattle.whole.specs.Word.{alike, leading, word_of}
use Rattle.whole.proofs.ByteLaws.{digit_bounds}
use Rattle.whole.proofs.WordLaws.{four_bytes}

-- ",00|", the bits of it that are fixed, and what is added to each digit
abbrev cents : ℕ
cents = 0x7c30302c

abbrev fixed : ℕ
fixed = 0xfff0f0ff

abbrev six_each : ℕ
six_each = 0x00060600

-- the bits of m in which u or v is not as c
abbrev off : ℕ → ℕ → ℕ → ℕ → ℕ
off m c u v = bit_and (bit_or (bit_xor u c) (bit_xor v c)) m

off_part : (j k m c u v : ℕ) → off m c u v / 2 ^ j % 2 ^ k
    ≡ off (m / 2 ^ j % 2 ^ k) (c / 2 ^ j % 2 ^ k) (u / 2 ^ j % 2 ^ k) (v / 2 ^ j % 2 ^ k)
off_part j k m c u v = simp (and_shr, or_shr, xor_shr, and_mod, or_mod, xor_mod)

-- the bytes with no such bit: computed
is_fixed_lem : (c b : ℕ) → T (those 256 (λ b. eqb (off 255 c b b) 0) (eqb c)) → b < 256 → off 255 c b b ≡ 0 → b ≡ c
is_fixed_lem c b t h e = sym (eqb→eq c b (those_at 256 (λ b. eqb (off 255 c b b) 0) (eqb c) t b h (eq-eqb _ 0 e)))

is_digit_lem : (b : ℕ) → b < 256 → off 240 48 b ((b + 6) % 256) ≡ 0 → is_digit b ≡ true
unfolding those all_below is_digit
is_digit_lem b h e = is_true (is_digit b) (those_at 256 (λ b. eqb (off 240 48 b ((b + 6) % 256)) 0) is_digit tt b h (eq-eqb _ 0 e))

module _ (s : List ℕ) (i x : ℕ) (word : x ≡ word_of 4 s i) (bytes : (k : ℕ) → get_or s k 0 < 256)
    (none : off fixed cents x (x + six_each) ≡ 0) where
  -- none in the byte from bit j on
  byte : (j u v : ℕ) → x / 2 ^ j % 256 ≡ u → (x + six_each) / 2 ^ j % 256 ≡ v
      → off (fixed / 2 ^ j % 256) (cents / 2 ^ j % 256) u v ≡ 0
  byte j u v p q = rw (← p, ← q) (sym (off_part j 8 fixed cents x (x + six_each)) ∙ rw (none, zero-div))

  pub cents_are : (get_or s i 0 ≡ comma) × (leading 2 s (i + 1) ≡ 2) × (get_or s (i + 3) 0 ≡ bar)
  unfolding those all_below alike
  cents_are =
      let a = get_or s i 0 in
      let b = get_or s (i + 1) 0 in
      let c = get_or s (i + 2) 0 in
      let d = get_or s (i + 3) 0 in
      let sum = word ∙ four_bytes s i in
      let first = bytes i in
      let second = bytes (i + 1) in
      let third = bytes (i + 2) in
      let fourth = bytes (i + 3) in
      -- no digit's sum carries into the next byte
      let one = is_digit_lem b second (byte 8 b ((b + 6) % 256) (omega arith) (omega arith)) in
      let one_small = digit_bounds b one in
      let two = is_digit_lem c third (byte 16 c ((c + 6) % 256) (omega arith) (omega arith)) in
      let two_small = digit_bounds c two in
      let next : suc (i + 1) ≡ i + 2 = omega arith in (
        is_fixed_lem comma a tt first (byte 0 a a (omega arith) (omega arith)),
        rw (one, next, two),
        is_fixed_lem bar d tt fourth (byte 24 d d (omega arith) (omega arith)),
      )
