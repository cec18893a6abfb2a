-- Of a kind whose bytes are digits: nothing is wrong exactly if all are digits, else the first that is none is known; and the
-- value is theirs, up to the cap.
use mathlib.Core.Path.{◌≡◌, ◌∙◌, refl, sym, ap}
use mathlib.Core.Bool.{true, ◌&&◌}
use mathlib.Core.List.{List, [], ◌∷◌}
use Prim.Native.Nat.{ℕ, suc, ◌+◌, ◌-◌, ◌*◌, ◌^◌, ◌<◌, min}
use native.Mathlib.Omega.{arith}
use lib.Dec.{eqb, leb}
use lib.ListN.{length}
use borrow.Author.Tests.{leb-true}
use Rattle.rules.specs.Fields.{Form, is_digit, all_digits, value}
use Rattle.rules.specs.Position.{position}
use Rattle.field.specs.declared.bytes.Field.{Field}
use Rattle.field.specs.Streaming.{cap, wrong_at, value_with, digit_with, with_byte, field_after}
use Rattle.std.proofs.lemmas.Bool.{and_parts}
use Rattle.rules.proofs.TestLaws.{same_test}
use Rattle.rules.proofs.DecimalLaws.{digits_first}
use Rattle.field.proofs.WrongLaws.{Marked, marked_on, marked_right, marked_at}

-- past the cap the value stays there
stays : (v d : ℕ) → min cap (min cap v * 10 + d) ≡ min cap (v * 10 + d)
stays v d = omega arith

module _ (kind : ℕ) (on : (f : Field) (b : ℕ) → with_byte kind f b ≡ digit_with f b) where
  module _ (form : Form) (begins : (w : List ℕ) → form.begins w ≡ all_digits w) where
    digits_marked : (w : List ℕ) → Marked kind form w
    unfolding field_after digit_with
    digits_marked [] = rw (begins []) (unfold all_digits in refl)
    digits_marked (b ∷ w) =
        marked_on kind form (is_digit b) b w (ap (λ f. f.wrong) (on (field_after kind w) b))
        (begins (b ∷ w) ∙ digits_first b w ∙ ap (λ t. is_digit b && t) (sym (begins w))) (digits_marked w)

    pub digits_right : (w : List ℕ) → eqb (field_after kind w).wrong 0 ≡ all_digits w
    digits_right w = marked_right kind form w (digits_marked w) ∙ begins w

    pub digits_position : (w : List ℕ) → wrong_at (field_after kind w) ≡ position form w
    digits_position w = marked_at kind form w (digits_marked w)

  pub digits_value : (w : List ℕ) → (field_after kind w).value ≡ min cap (value w)
  unfolding field_after digit_with value_with value
  digits_value [] = refl
  digits_value (b ∷ w) =
      ap (λ f. f.value) (on (field_after kind w) b) ∙ ap (λ v. min cap (v * 10 + (b - 48))) (digits_value w)
      ∙ stays (value w) (b - 48)

pub digit_below : (b : ℕ) → is_digit b ≡ true → b - 48 < 10
unfolding is_digit
digit_below b e = let h = leb-true b 57 (and_parts (leb 48 b) (leb b 57) e).1 in omega arith

-- n digits have a value below 10 ^ n
pub value_below : (w : List ℕ) → all_digits w ≡ true → value w < 10 ^ length w
unfolding all_digits value
value_below [] e = omega arith
value_below (b ∷ w) e =
    let h = digit_below b (and_parts (is_digit b) (all_digits w) e).0 in
    let r = value_below w (and_parts (is_digit b) (all_digits w) e).1 in
    let s : value w * 10 + (b - 48) < 10 ^ suc (length w) = omega arith in
    s

-- a number below the cap is met by the kept value exactly if it is met by the value
pub capped_is : (v n : ℕ) → n < cap → eqb (min cap v) n ≡ eqb v n
capped_is v n h = same_test (min cap v) n v n (λ e. omega arith) (λ e. omega arith)
