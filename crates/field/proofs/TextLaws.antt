-- Of a fixed text: nothing is wrong exactly if each byte so far is the text's, and at the bar that is the text, if it is as long.
use mathlib.Core.Path.{◌≡◌, ◌∙◌, refl, sym, ap, ap₂}
use mathlib.Core.Bool.{Bool, true, false, ◌&&◌}
use mathlib.Core.List.{List, [], ◌∷◌, reverse, reverse-append}
use Prim.Native.Nat.{ℕ, zero, suc, ◌<◌, ◌≤◌}
use native.Mathlib.Omega.{arith}
use lib.Dec.{eqb}
use lib.ListN.{length, get_or, take, length-reverse}
use lib.Seq.{take-suc, take-length, length-take-le}
use borrow.Author.Tests.{eqb-true, eqb-false, eq-eqb}
use Rattle.rules.specs.Fields.{same_bytes}
use Rattle.field.specs.declared.bytes.Field.{Field}
use Rattle.field.specs.Streaming.{matches, text_with, is_fixed, with_byte, field_after}
use Rattle.std.proofs.lemmas.Bool.{and_parts}
use Rattle.field.proofs.LengthLaws.{length_is}
use Rattle.field.proofs.WrongLaws.{right_on}

-- each byte so far is the text's byte at its place
unfoldable fits : List ℕ → List ℕ → Bool
fits text [] = true
fits text (b ∷ w) = matches text (length w) b && fits text w

same_refl : (w : List ℕ) → same_bytes w w ≡ true
unfolding same_bytes
same_refl [] = refl
same_refl (b ∷ w) = rw (eq-eqb b b refl) (same_refl w)

pub same_eq : (v w : List ℕ) → same_bytes v w ≡ true → v ≡ w
unfolding same_bytes
same_eq [] [] e = refl
same_eq [] (c ∷ cs) e = search e
same_eq (b ∷ bs) [] e = search e
same_eq (b ∷ bs) (c ∷ cs) e =
    ap₂ ◌∷◌ (eqb-true b c (and_parts (eqb b c) (same_bytes bs cs) e).0) (same_eq bs cs (and_parts (eqb b c) (same_bytes bs cs) e).1)

one_more : (text : List ℕ) (k : ℕ) → k < length text → reverse (take (suc k) text) ≡ get_or text k 256 ∷ reverse (take k text)
one_more text k h = ap reverse (take-suc text k 256 h) ∙ reverse-append (take k text) (get_or text k 256 ∷ [])

fits_take : (text w : List ℕ) → length w ≤ length text → fits text w ≡ true → w ≡ reverse (take (length w) text)
unfolding fits matches
fits_take text [] h e = refl
fits_take text (b ∷ w) h e =
    let p = (and_parts (matches text (length w) b) (fits text w) e).0 in
    let q = (and_parts (matches text (length w) b) (fits text w) e).1 in
    ap₂ ◌∷◌ (sym (eqb-true (get_or text (length w) 256) b p)) (fits_take text w (omega arith) q)
    ∙ sym (one_more text (length w) (omega arith))

take_fits : (text : List ℕ) (k : ℕ) → k ≤ length text → fits text (reverse (take k text)) ≡ true
unfolding fits matches
take_fits text zero h = refl
take_fits text (suc k) h =
    let short = length-take-le k text (omega arith) in
    rw (one_more text k (omega arith), length-reverse (take k text), short, eq-eqb (get_or text k 256) (get_or text k 256) refl)
    (take_fits text k (omega arith))

-- what fits the text and is as long is the text
fits_whole : (text w : List ℕ) → (fits text w && eqb (length w) (length text)) ≡ same_bytes w (reverse text)
fits_whole text w = go (fits text w) refl (eqb (length w) (length text)) refl (same_bytes w (reverse text)) refl
  where
    go : (f : Bool) → fits text w ≡ f → (l : Bool) → eqb (length w) (length text) ≡ l → (s : Bool)
        → same_bytes w (reverse text) ≡ s → (f && l) ≡ s
    go true a true b true c = refl
    go true a true b false c =
        let n = eqb-true (length w) (length text) b in
        let whole = ap (λ k. reverse (take k text)) n ∙ ap reverse (take-length text) in
        let e : w ≡ reverse text = fits_take text w (omega arith) a ∙ whole in
        sym (same_refl (reverse text)) ∙ ap (λ v. same_bytes v (reverse text)) (sym e) ∙ c
    go true a false b true c =
        absurd (eqb-false (length w) (length text) b (ap length (same_eq w (reverse text) c) ∙ length-reverse text))
    go true a false b false c = refl
    go false a l b true c =
        let e = same_eq w (reverse text) c in
        sym a ∙ ap (fits text) (e ∙ ap reverse (sym (take-length text))) ∙ take_fits text (length text) (omega arith)
    go false a l b false c = refl

module _ (kind : ℕ) (text : List ℕ) (on : (f : Field) (b : ℕ) → with_byte kind f b ≡ text_with text f b) where
  text_right : (w : List ℕ) → eqb (field_after kind w).wrong 0 ≡ fits text w
  unfolding field_after text_with fits
  text_right [] = refl
  text_right (b ∷ w) =
      ap (λ f. eqb f.wrong 0) (on (field_after kind w) b)
      ∙ right_on (matches text (field_after kind w).length b) (field_after kind w)
      ∙ ap₂ (λ n t. matches text n b && t) (length_is kind w) (text_right w)

  pub text_is : (w : List ℕ) → is_fixed (field_after kind w) (length text) ≡ same_bytes w (reverse text)
  unfolding is_fixed
  text_is w = rw (text_right w, length_is kind w) (fits_whole text w)
