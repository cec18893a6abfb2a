-- Words: some bytes as one number, and the marks of those that are no digits, or that end a field, from a few sums and bits.
use Rattle.std.proofs.Common.{◌≡◌, ℕ, suc, ◌+◌, ◌*◌, ◌/◌, ◌%◌, ◌^◌, ◌<◌, Bool, false, not, List, get_or, take, drop, get_or-take, get_or-drop, sym, refl, ◌∙◌, mod-eq_of_lt, arith, lit≤, lit<}
use Rattle.std.specs.Int.{w32, w64, from_le_bytes}
use Rattle.std.specs.Int.Bits.{bit_and, bit_or, bit_xor, and_block, or_block, xor_block, and_lt, or_lt, xor_lt, and_mod, or_mod, and_le_r}
use Rattle.std.proofs.lemmas.Bool.{not-true}
use Rattle.layout.specs.Pick.{pick}
use Rattle.layout.specs.Lists.{all_below}
use Rattle.layout.proofs.Below.{below_equal}
use Rattle.rules.specs.Bytes.{bar}
use Rattle.rules.specs.Fields.{is_digit}
use Rattle.whole.specs.Whole.{ends}
use Rattle.whole.specs.Word.{word_of, each, other_marks, stop_marks}
use Rattle.whole.proofs.ByteLaws.{digit_bounds}
use Rattle.whole.proofs.MarkLaws.{Marks}

byte_of : (n : ℕ) (s : List ℕ) (i k : ℕ) → k < n → get_or (take n (drop i s)) k 0 ≡ get_or s (i + k) 0
byte_of n s i k h = rw (get_or-take, get_or-drop)

pub four_bytes : (s : List ℕ) (i : ℕ)
    → word_of 4 s i ≡ get_or s i 0 + get_or s (i + 1) 0 * 256 + get_or s (i + 2) 0 * 65536 + get_or s (i + 3) 0 * 16777216
unfolding word_of
four_bytes s i =
    let one : i + 1 ≡ suc i = omega arith in
    let two : i + 2 ≡ suc (suc i) = omega arith in
    let three : i + 3 ≡ suc (suc (suc i)) = omega arith in
    rw (one, two, three) (omega arith)

two_halves : (s : List ℕ) (i : ℕ) → word_of 8 s i ≡ word_of 4 s i + word_of 4 s (i + 4) * 4294967296
unfolding word_of
two_halves s i = let four : i + 4 ≡ suc (suc (suc (suc i))) = omega arith in rw four (omega arith)

-- what std makes of the bytes
pub four_word : (s : List ℕ) (i : ℕ) → from_le_bytes w32 (take 4 (drop i s)) ≡ word_of 4 s i
four_word s i =
    let first : i + 0 ≡ i = omega arith in
    rw (byte_of 4 s i 0 (lit< tt), byte_of 4 s i 1 (lit< tt), byte_of 4 s i 2 (lit< tt), byte_of 4 s i 3 (lit< tt), four_bytes s i, first)
    (omega arith)

pub eight_word : (s : List ℕ) (i : ℕ) → from_le_bytes w64 (take 8 (drop i s)) ≡ word_of 8 s i
eight_word s i =
    let first : i + 0 ≡ i = omega arith in
    let fifth : i + 4 + 1 ≡ i + 5 = omega arith in
    let sixth : i + 4 + 2 ≡ i + 6 = omega arith in
    let seventh : i + 4 + 3 ≡ i + 7 = omega arith in
    rw (byte_of 8 s i 0 (lit< tt), byte_of 8 s i 1 (lit< tt), byte_of 8 s i 2 (lit< tt), byte_of 8 s i 3 (lit< tt))
    (rw (byte_of 8 s i 4 (lit< tt), byte_of 8 s i 5 (lit< tt), byte_of 8 s i 6 (lit< tt), byte_of 8 s i 7 (lit< tt))
    (rw (two_halves s i, four_bytes s i, four_bytes s (i + 4), first, fifth, sixth, seventh) (omega arith)))

-- of a sum that wraps the bits that are looked at are those of the sum
pub and_wrapped : (k a m : ℕ) → m < 2 ^ k → bit_and (a % 2 ^ k) m ≡ bit_and a m
and_wrapped k a m h =
    let whole : m % 2 ^ k ≡ m = mod-eq_of_lt h in
    let fits : bit_and a m < 2 ^ k = omega (arith, and_le_r a m) in
    let same : bit_and (a % 2 ^ k) (m % 2 ^ k) ≡ bit_and a m = sym (and_mod a m k) ∙ mod-eq_of_lt fits in
    rw whole at same

-- Digits. The marks' lowest byte, for each byte: computed.
abbrev other_here : ℕ → ℕ
other_here b = bit_and (bit_or ((b + 70) % 256) ((b + 208) % 256)) 128

other_here_lem : (b : ℕ) → b < 256 → other_here b ≡ pick (is_digit b) 0 128
unfolding all_below is_digit
other_here_lem b h = below_equal 256 other_here (λ b. pick (is_digit b) 0 128) tt b h

-- and what stands above it: the two sums carry
abbrev other_above : ℕ → ℕ → ℕ → ℕ
other_above n b x = bit_and (bit_or (x + each 70 n + (b + 70) / 256) (x + each 207 n + (b + 208) / 256)) (each 128 n)

other_byte : (n b x : ℕ) → other_marks (suc n) (x * 256 + b) ≡ other_above n b x * 256 + other_here b
unfolding other_marks each
other_byte n b x =
    let above = x + each 70 n + (b + 70) / 256 in
    let above2 = x + each 207 n + (b + 208) / 256 in
    let here = (b + 70) % 256 in
    let here2 = (b + 208) % 256 in
    let sum : x * 256 + b + (each 70 n * 256 + 70) ≡ above * 2 ^ 8 + here = omega arith in
    let sum2 : x * 256 + b + (each 207 n * 256 + 207 + 1) ≡ above2 * 2 ^ 8 + here2 = omega arith in
    let fits : bit_or here here2 < 2 ^ 8 = or_lt 8 here here2 (omega arith) (omega arith) in
    rw (
      sum,
      sum2,
      or_block 8 above above2 here here2 (omega arith) (omega arith),
      and_block 8 (bit_or above above2) (each 128 n) (bit_or here here2) 128 fits (omega arith),
    )

pub other_marks_lem : Marks is_digit other_marks
unfolding other_marks each
other_marks_lem =
    record {
      above = other_above;
      none = refl;
      passed = λ n b x h e.
          let bounds = digit_bounds b e in
          let first : x + each 70 n + (b + 70) / 256 ≡ x + each 70 n = omega arith in
          let second : x + each 207 n + (b + 208) / 256 ≡ x + (each 207 n + 1) = omega arith in
          other_byte n b x ∙ rw (first, second, other_here_lem b h, e) (omega arith);
      failed = λ n b x h e. other_byte n b x ∙ rw (other_here_lem b h, e);
    }

-- the two sums as they are made: they wrap
pub others_are : (x : ℕ)
    → bit_and (bit_or ((x + 0x4646464646464646) % 2 ^ 64) ((x + 0xcfcfcfcfcfcfcfd0) % 2 ^ 64)) 0x8080808080808080 ≡ other_marks 8 x
unfolding other_marks each
others_are x =
    let first = x + 0x4646464646464646 in
    let second = x + 0xcfcfcfcfcfcfcfd0 in
    let joined : bit_or (first % 2 ^ 64) (second % 2 ^ 64) ≡ bit_or first second % 2 ^ 64 = sym (or_mod first second 64) in
    rw joined (and_wrapped 64 (bit_or first second) 0x8080808080808080 (lit≤ tt))

-- Bytes that end no field, in the same way.
abbrev pub is_plain : ℕ → Bool
is_plain b = not (ends b)

abbrev turned : ℕ → ℕ
turned b = bit_xor b bar

abbrev stop_here : ℕ → ℕ
stop_here b = bit_and (bit_and (bit_or ((b + 224) % 256) ((turned b + 255) % 256)) (bit_xor b 128)) 128

stop_here_lem : (b : ℕ) → b < 256 → stop_here b ≡ pick (is_plain b) 0 128
unfolding all_below ends
stop_here_lem b h = below_equal 256 stop_here (λ b. pick (is_plain b) 0 128) tt b h

-- both sums carry at a byte that ends no field
stop_carries : (b : ℕ) → b < 256 → ends b ≡ false → ((b + 224) / 256 ≡ 1) × ((turned b + 255) / 256 ≡ 1)
unfolding all_below ends
stop_carries b h e =
    let first = below_equal 256 (λ b. pick (ends b) 1 ((b + 224) / 256)) (λ b. 1) tt b h in
    let second = below_equal 256 (λ b. pick (ends b) 1 ((turned b + 255) / 256)) (λ b. 1) tt b h in
    (rw e at first, rw e at second)

abbrev stop_above : ℕ → ℕ → ℕ → ℕ
stop_above n b x =
    bit_and
    (bit_and (bit_or (x + each 223 n + (b + 224) / 256) (bit_xor x (each bar n) + each 254 n + (turned b + 255) / 256))
    (bit_xor x (each 128 n)))
    (each 128 n)

stop_byte : (n b x : ℕ) → b < 256 → stop_marks (suc n) (x * 256 + b) ≡ stop_above n b x * 256 + stop_here b
unfolding stop_marks each
stop_byte n b x h =
    let y = bit_xor x (each bar n) in
    let t = bit_xor x (each 128 n) in
    let small : turned b < 2 ^ 8 = xor_lt 8 b bar (omega arith) (omega arith) in
    let clear : bit_xor b 128 < 2 ^ 8 = xor_lt 8 b 128 (omega arith) (omega arith) in
    let above = x + each 223 n + (b + 224) / 256 in
    let above2 = y + each 254 n + (turned b + 255) / 256 in
    let here = (b + 224) % 256 in
    let here2 = (turned b + 255) % 256 in
    let sum : x * 256 + b + (each 223 n * 256 + 223 + 1) ≡ above * 2 ^ 8 + here = omega arith in
    let sum2 : y * 256 + turned b + (each 254 n * 256 + 254 + 1) ≡ above2 * 2 ^ 8 + here2 = omega arith in
    let fits : bit_or here here2 < 2 ^ 8 = or_lt 8 here here2 (omega arith) (omega arith) in
    let both : bit_and (bit_or here here2) (bit_xor b 128) < 2 ^ 8 = and_lt 8 _ _ fits clear in
    rw (
      xor_block 8 x (each bar n) b bar (omega arith) (omega arith),
      xor_block 8 x (each 128 n) b 128 (omega arith) (omega arith),
      sum,
      sum2,
      or_block 8 above above2 here here2 (omega arith) (omega arith),
      and_block 8 (bit_or above above2) t (bit_or here here2) (bit_xor b 128) fits clear,
      and_block 8 (bit_and (bit_or above above2) t) (each 128 n) (bit_and (bit_or here here2) (bit_xor b 128)) 128 both (omega arith),
    )

pub stop_marks_lem : Marks is_plain stop_marks
unfolding stop_marks each
stop_marks_lem =
    record {
      above = stop_above;
      none = refl;
      passed = λ n b x h e.
          let carries = stop_carries b h (not-true (ends b) e) in
          let y = bit_xor x (each bar n) in
          let first : x + each 223 n + (b + 224) / 256 ≡ x + (each 223 n + 1) = omega (arith, carries.0) in
          let second : y + each 254 n + (turned b + 255) / 256 ≡ y + (each 254 n + 1) = omega (arith, carries.1) in
          stop_byte n b x h ∙ rw (first, second, stop_here_lem b h, e) (omega arith);
      failed = λ n b x h e. stop_byte n b x h ∙ rw (stop_here_lem b h, e);
    }

pub stops_are : (x : ℕ)
    → bit_and
    (bit_and (bit_or ((x + 0xdfdfdfdfdfdfdfe0) % 2 ^ 64) ((bit_xor x 0x7c7c7c7c7c7c7c7c + 0xfefefefefefefeff) % 2 ^ 64))
    (bit_xor x 0x8080808080808080))
    0x8080808080808080
    ≡ stop_marks 8 x
unfolding stop_marks each
stops_are x =
    let first = x + 0xdfdfdfdfdfdfdfe0 in
    let second = bit_xor x 0x7c7c7c7c7c7c7c7c + 0xfefefefefefefeff in
    let joined : bit_or (first % 2 ^ 64) (second % 2 ^ 64) ≡ bit_or first second % 2 ^ 64 = sym (or_mod first second 64) in
    let clear = bit_xor x 0x8080808080808080 in
    let twice : bit_or first second % 2 ^ 64 % 2 ^ 64 ≡ bit_or first second % 2 ^ 64 = omega arith in
    let cut : bit_and (bit_or first second % 2 ^ 64) clear % 2 ^ 64 ≡ bit_and (bit_or first second) clear % 2 ^ 64 =
    and_mod (bit_or first second % 2 ^ 64) clear 64 ∙ rw twice (sym (and_mod (bit_or first second) clear 64)) in
    let small : 0x8080808080808080 < 2 ^ 64 = lit≤ tt in
    rw joined
    (sym (and_wrapped 64 (bit_and (bit_or first second % 2 ^ 64) clear) 0x8080808080808080 small)
    ∙ rw cut (and_wrapped 64 (bit_and (bit_or first second) clear) 0x8080808080808080 small))
