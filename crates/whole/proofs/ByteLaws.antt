-- Digits, and bytes that end no field.
use Rattle.std.proofs.Common.{◌≡◌, ℕ, ◌≤◌, true, false, leb, arith, le-ltb, ne_eqb, leb-true}
use Rattle.rules.specs.Bytes.{bar}
use Rattle.rules.specs.Fields.{is_digit}
use Rattle.std.proofs.lemmas.Bool.{and_parts}
use Rattle.whole.specs.Whole.{ends}

pub digit_bounds : (b : ℕ) → is_digit b ≡ true → (48 ≤ b) × (b ≤ 57)
unfolding is_digit
digit_bounds b e =
    let parts = and_parts (leb 48 b) (leb b 57) e in
    (leb-true 48 b parts.0, leb-true b 57 parts.1)

pub digit_plain : (b : ℕ) → is_digit b ≡ true → ends b ≡ false
unfolding ends
digit_plain b e =
    let bounds = digit_bounds b e in
    rw (le-ltb b 32 (omega arith), ne_eqb b bar (λ p. omega arith))
