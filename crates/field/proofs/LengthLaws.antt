-- At every kind number: how long the field is, and its ranges. Of field 1, and of the code that a 9900 line speaks of: the code.
use mathlib.Core.Path.{◌≡◌, ◌∙◌, refl, ap}
use mathlib.Core.Bool.{Bool, true, false}
use mathlib.Core.List.{List, [], ◌∷◌}
use Prim.Native.Nat.{ℕ, suc, ◌+◌, ◌*◌, ◌/◌, ◌%◌, ◌<◌, ◌≤◌}
use native.Mathlib.Nat.{mod-lt}
use native.Mathlib.Numerals.{add-one}
use native.Mathlib.Omega.{arith}
use lib.Dec.{eqb, ltb}
use lib.ListN.{length}
use Rattle.layout.specs.Pick.{pick}
use Rattle.layout.specs.Text.{code_number}
use Rattle.layout.specs.Kind.{code_field, line_code}
use Rattle.layout.specs.Packed.{kind_number, c_class, decimals_class, size_unit, most_kind}
use Rattle.rules.specs.Fields.{is_digit}
use Rattle.rules.specs.Rules.{byte_limit}
use Rattle.field.specs.declared.bytes.Field.{Field}
use Rattle.field.specs.Streaming.{FieldFit, cap, longer, wrong_at, wrong_with, code_with, value_with, digit_with, matches}
use Rattle.field.specs.Streaming.{text_with, comma_fits, digit_fits, decimal_with, is_fixed_class, fixed_text, with_byte}
use Rattle.field.specs.Streaming.{field_after}

-- what holds of both choices holds of the choice
either : {A : Type 0} (P : A → Type 0) (t : Bool) {a b : A} → P a → P b → P (pick t a b)
either P true p q = p
either P false p q = q

-- what holds after one more byte of a field of each class holds after one more byte of any kind
module _ (P : Field → Type 0) (kind : ℕ) (f : Field) (b : ℕ) where
  by_class :
      P (longer f f.wrong f.value) →
      P (code_with f b) →
      P (decimal_with (kind / size_unit) f b) →
      ((text : List ℕ) → P (text_with text f b)) →
      P (digit_with f b) →
      P (with_byte kind f b)
  unfolding with_byte
  by_class plain code decimal text digit =
      let class = kind % size_unit in
      either P (eqb class c_class) plain
      (either P (ltb class c_class) code
      (either P (eqb class decimals_class) decimal
      (either P (is_fixed_class class) (text (fixed_text class)) digit)))

pub one_longer : (kind : ℕ) (f : Field) (b : ℕ) → (with_byte kind f b).length ≡ f.length + 1
unfolding text_with decimal_with digit_with
one_longer kind f b =
    let P : Field → Type 0 = λ g. g.length ≡ f.length + 1 in
    by_class P kind f b refl refl (either P (digit_fits f b) refl (either P (comma_fits f b) refl refl)) (λ text. refl) refl

pub length_is : (kind : ℕ) (w : List ℕ) → (field_after kind w).length ≡ length w
unfolding field_after
length_is kind [] = refl
length_is kind (b ∷ w) =
    one_longer kind (field_after kind w) b ∙ add-one (field_after kind w).length ∙ ap suc (length_is kind w)

module _ (kind : ℕ) (on : (f : Field) (b : ℕ) → with_byte kind f b ≡ code_with f b) where
  code_value : (w : List ℕ) → (field_after kind w).value ≡ code_number w
  unfolding field_after code_number
  code_value [] = refl
  code_value (b ∷ w) =
      ap (λ f. f.value) (on (field_after kind w) b) ∙ ap (λ v. v % 16777216 * 256 + b) (code_value w)

pub code_is : (w : List ℕ) → (field_after (kind_number code_field) w).value ≡ code_number w
unfolding with_byte kind_number
code_is = code_value (kind_number code_field) (λ f b. refl)

pub line_code_is : (w : List ℕ) → (field_after (kind_number line_code) w).value ≡ code_number w
unfolding with_byte kind_number
line_code_is = code_value (kind_number line_code) (λ f b. refl)

-- one more byte keeps a field within its ranges
fit_longer : (f : Field) → f.length ≤ byte_limit → (wrong value : ℕ) → wrong ≤ f.length + 1 → value ≤ cap
    → FieldFit (longer f wrong value)
fit_longer f h wrong value w v = record { length = omega arith; wrong = w; value = v }

pub wrong_at_le : (f : Field) → f.wrong ≤ f.length → wrong_at f ≤ f.length + 1
unfolding wrong_at
wrong_at_le f h = either (λ w. w ≤ f.length + 1) (eqb f.wrong 0) (omega arith) (omega arith)

marked_le : (right : Bool) (f : Field) → f.wrong ≤ f.length → wrong_with right f ≤ f.length + 1
marked_le right f h = either (λ w. w ≤ f.length + 1) right (omega arith) (wrong_at_le f h)

pub fit_after : {f : Field} {b : ℕ} → FieldFit f → b < 256 → f.length ≤ byte_limit → (kind : ℕ) → kind ≤ most_kind
    → FieldFit (with_byte kind f b)
unfolding text_with decimal_with digit_with value_with
fit_after {f} {b} fit hb h kind hk =
    by_class FieldFit kind f b
    (fit_longer f h _ _ (omega (arith, fit.wrong)) fit.value)
    (fit_longer f h _ _ (omega (arith, fit.wrong)) (omega (arith, mod-lt f.value {m = 16777216} (omega arith))))
    (either FieldFit (digit_fits f b)
    (fit_longer f h _ _ (omega (arith, fit.wrong)) (omega (arith, fit.value)))
    (either FieldFit (comma_fits f b)
    (fit_longer f h _ _ (omega (arith, fit.wrong)) (omega arith))
    (fit_longer f h _ _ (wrong_at_le f fit.wrong) fit.value)))
    (λ text. fit_longer f h _ _ (marked_le (matches text f.length b) f fit.wrong) fit.value)
    (fit_longer f h _ _ (marked_le (is_digit b) f fit.wrong) (omega arith))
