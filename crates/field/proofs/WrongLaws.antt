-- Of a kind whose wrong bytes are those that its form can't go on with: the kept position is that of the first of them.
use mathlib.Core.Path.{◌≡◌, ◌∙◌, refl, sym}
use mathlib.Core.Bool.{Bool, true, false, ◌&&◌}
use mathlib.Core.List.{List, ◌∷◌}
use Prim.Native.Nat.{ℕ, ◌≤◌}
use native.Mathlib.Omega.{arith}
use lib.Dec.{eqb}
use borrow.Author.Tests.{ne_eqb, eqb-false}
use Rattle.layout.specs.Pick.{pick}
use Rattle.rules.specs.Fields.{Form}
use Rattle.rules.specs.Position.{position}
use Rattle.field.specs.declared.bytes.Field.{Field}
use Rattle.field.specs.Streaming.{wrong_at, wrong_with, field_after}
use Rattle.rules.proofs.TestLaws.{split}
use Rattle.rules.proofs.PositionLaws.{position_some, position_begins, position_wrong}
use Rattle.field.proofs.LengthLaws.{length_is}

pub wrong_at_some : (f : Field) → 1 ≤ wrong_at f
unfolding wrong_at
wrong_at_some f =
    split (eqb f.wrong 0) (λ t. rw t (omega arith)) (λ t. rw t (omega (arith, eqb-false f.wrong 0 t)))

-- nothing is wrong after a byte exactly if the byte is right and nothing was wrong
pub right_on : (right : Bool) (f : Field) → eqb (wrong_with right f) 0 ≡ (right && eqb f.wrong 0)
right_on true f = refl
right_on false f = ne_eqb (wrong_at f) 0 (λ e. omega (arith, wrong_at_some f))

module _ (kind : ℕ) (form : Form) where
  -- while the bytes so far can go on nothing is wrong, and then the position is kept
  abbrev pub Marked : List ℕ → Type 0
  Marked w = (field_after kind w).wrong ≡ pick (form.begins w) 0 (position form w)

  pub marked_right : (w : List ℕ) → Marked w → eqb (field_after kind w).wrong 0 ≡ form.begins w
  marked_right w m =
      split (form.begins w)
      (λ t. rw (m, t))
      (λ t. rw (m, t) (ne_eqb (position form w) 0 (λ e. omega (arith, position_some form w))))

  -- at a byte that is wrong or missing it is the position of the word
  pub marked_at : (w : List ℕ) → Marked w → wrong_at (field_after kind w) ≡ position form w
  unfolding wrong_at
  marked_at w m =
      rw (marked_right w m, m, length_is kind w)
      (split (form.begins w) (λ t. rw (t, position_begins form w t) (omega arith)) (λ t. rw t))

  -- one more byte, which is right exactly if the word can go on with it
  pub marked_on : (right : Bool) (b : ℕ) (w : List ℕ) → (field_after kind (b ∷ w)).wrong ≡ wrong_with right (field_after kind w)
      → form.begins (b ∷ w) ≡ (right && form.begins w) → Marked w → Marked (b ∷ w)
  marked_on true b w e q m =
      e ∙ m ∙ split (form.begins w) (λ t. rw (q, t)) (λ t. rw (q, t) (sym (position_wrong form b w (q ∙ t))))
  marked_on false b w e q m = e ∙ marked_at w m ∙ rw q (sym (position_wrong form b w q))
