-- Of a number with d decimals: the kept value says how many are still to come, nothing is wrong while the bytes so far can go on;
-- and where nothing is wrong, none is to come exactly if the word is such a number.
use mathlib.Core.Path.{◌≡◌, ◌∙◌, refl, sym, ap}
use mathlib.Core.Bool.{Bool, true, false, not, ◌&&◌, ◌||◌, and-false}
use mathlib.Core.List.{List, [], ◌∷◌}
use mathlib.Core.Logic.{⊎_elim}
use Prim.Native.Nat.{ℕ, zero, suc, ◌+◌, ◌-◌, ◌≤◌}
use native.Mathlib.Omega.{arith}
use lib.Dec.{eqb, ltb}
use lib.ListN.{length}
use borrow.Author.Tests.{ne_eqb, eqb-true, eqb-false, lt-ltb}
use Rattle.layout.specs.Kind.{decimals}
use Rattle.rules.specs.Bytes.{empty}
use Rattle.rules.specs.Fields.{is_digit, all_digits, is_decimal, begins_decimal, comma, form_of}
use Rattle.rules.specs.Position.{position}
use Rattle.field.specs.declared.bytes.Field.{Field}
use Rattle.field.specs.Streaming.{wrong_at, wrong_with, comma_fits, digit_fits, decimal_with, with_byte, field_after}
use Rattle.std.proofs.lemmas.Bool.{and_parts}
use Rattle.rules.proofs.TestLaws.{split, both}
use Rattle.rules.proofs.DecimalLaws.{comma_first, decimal_first, digits_first, digits_no_decimal, one_number}
use Rattle.rules.proofs.DecimalLaws.{SomeDecimals, begins_parts, digits_begin, decimals_begin, begins_before}
use Rattle.field.proofs.LengthLaws.{length_is}
use Rattle.field.proofs.WrongLaws.{Marked, marked_on, marked_right, marked_at}

-- what the value says of the word: no comma has come, or n decimals have, or the word can't go on
data Kept (d : ℕ) (w : List ℕ) (v : ℕ) : Type 0 where
  no_comma : all_digits w ≡ true → v ≡ 0 → Kept d w v
  to_come : (n : ℕ) → is_decimal n w ≡ true → n + v ≡ d + 1 → 1 ≤ v → Kept d w v
  spoilt : begins_decimal d w ≡ false → Kept d w v

-- a byte that is no digit, where it is no comma that can stand
ends_there : (d b : ℕ) (w : List ℕ) → is_digit b ≡ false → is_decimal 0 (b ∷ w) ≡ false → begins_decimal d (b ∷ w) ≡ false
ends_there d b w t c = split (begins_decimal d (b ∷ w)) (λ e. ⊎_elim digits some (begins_parts d (b ∷ w) e)) (λ e. e)
  where
    digits : all_digits (b ∷ w) ≡ true → begins_decimal d (b ∷ w) ≡ false
    digits e = both (and_parts (is_digit b) (all_digits w) (sym (digits_first b w) ∙ e)).0 t

    some : SomeDecimals d (b ∷ w) → begins_decimal d (b ∷ w) ≡ false
    some (zero, h, e) = both e c
    some (suc n, h, e) = both (and_parts (is_digit b) (is_decimal n w) (sym (decimal_first b n w) ∙ e)).0 t

-- one decimal too many
too_many : (d : ℕ) (w : List ℕ) → is_decimal (suc d) w ≡ true → begins_decimal d w ≡ false
too_many d w p =
    split (begins_decimal d w)
    (λ e. ⊎_elim (λ q. both p (digits_no_decimal (suc d) w q))
    (λ s. absurd (omega (arith, s.1, one_number (suc d) s.0 w p s.2)))
    (begins_parts d w e))
    (λ e. e)

wrong_before : (d b : ℕ) (w : List ℕ) → begins_decimal d w ≡ false → begins_decimal d (b ∷ w) ≡ false
wrong_before d b w e = split (begins_decimal d (b ∷ w)) (λ t. both (begins_before d b w t) e) (λ t. t)

some_bytes : (w : List ℕ) → ltb 0 (length w) ≡ not (empty w)
unfolding empty
some_bytes [] = refl
some_bytes (b ∷ w) = lt-ltb 0 (suc (length w)) (omega arith)

abbrev fits : Field → ℕ → Bool
fits f b = digit_fits f b || comma_fits f b

-- one more byte: it fits exactly if the word can go on with it
record Next (d : ℕ) (f : Field) (b : ℕ) (w : List ℕ) : Type 0 where
  goes_on : begins_decimal d (b ∷ w) ≡ (fits f b && begins_decimal d w)
  kept : Kept d (b ∷ w) (decimal_with d f b).value

module _ (d : ℕ) (f : Field) (b : ℕ) (w : List ℕ) (len : f.length ≡ length w) where
  -- by what the two tests say
  right : (digit_fits f b ≡ true) → begins_decimal d w ≡ true → begins_decimal d (b ∷ w) ≡ true → Kept d (b ∷ w) (f.value - 1)
      → Next d f b w
  unfolding decimal_with
  right t before now k = record { goes_on = rw (t, before, now); kept = rw t k }

  wrong : digit_fits f b ≡ false → comma_fits f b ≡ false → begins_decimal d (b ∷ w) ≡ false → Next d f b w
  wrong t c now = record { goes_on = rw (t, c, now); kept = spoilt now }

  comma_right : all_digits w ≡ true → f.value ≡ 0 → comma_fits f b ≡ is_decimal 0 (b ∷ w)
  unfolding comma_fits
  comma_right p z = rw (z, len, comma_first b w, p, some_bytes w) (in_order_lem (eqb b comma) (not (empty w)))
    where
      in_order_lem : (c l : Bool) → (c && true && l) ≡ (c && l && true)
      in_order_lem true true = refl
      in_order_lem true false = refl
      in_order_lem false l = refl

  comma_next : digit_fits f b ≡ false → comma_fits f b ≡ true → begins_decimal d w ≡ true → is_decimal 0 (b ∷ w) ≡ true → Next d f b w
  unfolding decimal_with
  comma_next t fit before c =
      record {
        goes_on = rw (t, fit, before, decimals_begin d (b ∷ w) 0 (omega arith) c);
        kept = rw (t, fit) (to_come 0 c (omega arith) (omega arith));
      }

  second_comma : 1 ≤ f.value → comma_fits f b ≡ false
  unfolding comma_fits
  second_comma l = rw (ne_eqb f.value 0 (λ e. omega arith), and-false (eqb b comma))

  next : Kept d w f.value → Next d f b w
  unfolding digit_fits
  next (no_comma p z) =
      split (is_digit b)
      (λ t. let all = digits_first b w ∙ rw (t, p) in
      right (rw (t, z)) (digits_begin d w p) (digits_begin d (b ∷ w) all) (no_comma all (omega arith)))
      (λ t. split (is_decimal 0 (b ∷ w))
      (λ c. comma_next (rw t) (comma_right p z ∙ c) (digits_begin d w p) c)
      (λ c. wrong (rw t) (comma_right p z ∙ c) (ends_there d b w t c)))
  next (to_come n p h l) =
      split (is_digit b)
      (λ t. let more : is_decimal (suc n) (b ∷ w) ≡ true = decimal_first b n w ∙ rw (t, p) in
      split (eqb f.value 1)
      (λ one. let z : n ≡ d = omega (arith, eqb-true f.value 1 one) in
      wrong (rw (t, one)) (second_comma l) (too_many d (b ∷ w) (rw z at more)))
      (λ two. let v = eqb-false f.value 1 two in
      right (rw (t, two)) (decimals_begin d w n (omega arith) p) (decimals_begin d (b ∷ w) (suc n) (omega arith) more)
      (to_come (suc n) more (omega arith) (omega arith))))
      (λ t. wrong (rw t) (second_comma l)
      (ends_there d b w t
      (split (all_digits w)
      (λ q. both p (digits_no_decimal n w q))
      (λ q. comma_first b w ∙ rw q (and-false (eqb b comma && not (empty w)))))))
  next (spoilt e) =
      record {
        goes_on = rw (wrong_before d b w e, e) (sym (and-false (fits f b)));
        kept = spoilt (wrong_before d b w e);
      }

  wrong_next : (decimal_with d f b).wrong ≡ wrong_with (fits f b) f
  unfolding decimal_with
  wrong_next =
      split (digit_fits f b) (λ t. rw t) (λ t. split (comma_fits f b) (λ c. rw (t, c)) (λ c. rw (t, c)))

module _ (kind d : ℕ) (on : (f : Field) (b : ℕ) → with_byte kind f b ≡ decimal_with d f b) where
  after : (w : List ℕ) → Kept d w (field_after kind w).value
  unfolding field_after
  after [] = no_comma (unfold all_digits in refl) refl
  after (b ∷ w) = let f = field_after kind w in rw (on f b) (next d f b w (length_is kind w) (after w)).kept

  decimals_marked : (w : List ℕ) → Marked kind (form_of (decimals d)) w
  unfolding field_after form_of
  decimals_marked [] = rw (digits_begin d [] (unfold all_digits in refl))
  decimals_marked (b ∷ w) =
      let f = field_after kind w in
      marked_on kind (form_of (decimals d)) (fits f b) b w (ap (λ g. g.wrong) (on f b) ∙ wrong_next d f b w (length_is kind w))
      (next d f b w (length_is kind w) (after w)).goes_on (decimals_marked w)

  pub decimals_position : (w : List ℕ) → wrong_at (field_after kind w) ≡ position (form_of (decimals d)) w
  decimals_position w = marked_at kind (form_of (decimals d)) w (decimals_marked w)

  pub decimals_is : (w : List ℕ) → (eqb (field_after kind w).wrong 0 && eqb (field_after kind w).value 1) ≡ is_decimal d w
  unfolding form_of
  decimals_is w =
      let v = (field_after kind w).value in
      ap (λ t. t && eqb v 1) (marked_right kind (form_of (decimals d)) w (decimals_marked w)) ∙ go v (after w)
    where
      go : (v : ℕ) → Kept d w v → (begins_decimal d w && eqb v 1) ≡ is_decimal d w
      go v (no_comma p z) = rw (z, digits_no_decimal d w p) (and-false (begins_decimal d w))
      go v (to_come n p h l) =
          rw (decimals_begin d w n (omega arith) p)
          (split (eqb v 1)
          (λ t. let z : n ≡ d = omega (arith, eqb-true v 1 t) in t ∙ sym (rw z at p))
          (λ t. t ∙ sym (split (is_decimal d w)
          (λ q. absurd (omega (arith, eqb-false v 1 t, one_number n d w p q)))
          (λ q. q))))
      go v (spoilt e) = rw e (split (is_decimal d w) (λ t. both (decimals_begin d w d (omega arith) t) e) sym)
