-- Field 2 of an opening, once its bar has passed: the kept value says whether it is 0 or 1.
use mathlib.Core.Path.{◌≡◌, refl}
use mathlib.Core.Bool.{Bool, true, false, not, ◌&&◌, ◌||◌}
use mathlib.Core.List.{List, [], ◌∷◌}
use mathlib.Core.Logic.{◌⊎◌, inl, inr, ⊎_elim}
use Prim.Native.Nat.{ℕ}
use native.Mathlib.Omega.{arith}
use lib.Dec.{eqb}
use lib.ListN.{length}
use Rattle.layout.specs.Pick.{pick}
use Rattle.layout.specs.Text.{bytes}
use Rattle.layout.specs.Kind.{opens}
use Rattle.layout.specs.Packed.{kind_number}
use Rattle.rules.specs.Bytes.{empty}
use Rattle.rules.specs.Fields.{all_digits, same_bytes, is_text, form_of}
use Rattle.field.specs.Streaming.{value_with, digit_with, with_byte, field_after}
use Rattle.field.specs.Ruled.{ruled}
use Rattle.rules.proofs.TestLaws.{split}
use Rattle.field.proofs.TextLaws.{same_eq}

-- where no rule is broken the content is right
content_right : (characters size content : Bool) (rest : ℕ)
    → pick characters 10 (pick size 11 (pick (not content) 12 rest)) ≡ 0 → content ≡ true
content_right true size content rest e = absurd (omega arith)
content_right false true content rest e = absurd (omega arith)
content_right false false true rest e = refl
content_right false false false rest e = absurd (omega arith)

digit_text : (due : ℕ) (w : List ℕ) → ruled (form_of opens) due w ≡ 0 → (w ≡ 48 ∷ []) ⊎ (w ≡ 49 ∷ [])
unfolding ruled form_of is_text bytes
digit_text due w e =
    let filled = not (empty w) in
    let right =
    content_right (filled && not (all_digits w)) (filled && not (eqb (length w) 1)) (is_text "0" w || is_text "1" w) _ e in
    split (is_text "0" w)
    (λ t. inl (same_eq w (48 ∷ []) t))
    (λ t. inr (same_eq w (49 ∷ []) (rw t at right)))

pub opens_zero : (due : ℕ) (w : List ℕ) → ruled (form_of opens) due w ≡ 0
    → is_text "0" w ≡ eqb (field_after (kind_number opens) w).value 0
unfolding is_text same_bytes bytes kind_number field_after with_byte digit_with value_with
opens_zero due w e = ⊎_elim (λ p. rw p) (λ p. rw p) (digit_text due w e)
