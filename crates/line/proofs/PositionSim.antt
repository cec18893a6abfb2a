-- 02, request e: the position that a rule gives at the state of the bytes received is the one that the rules give.
use mathlib.Core.Path.{◌≡◌, ◌∙◌, refl}
use mathlib.Core.Bool.{Bool, true, false, not, ◌||◌}
use mathlib.Core.List.{List}
use Prim.Native.Nat.{ℕ}
use native.Mathlib.Omega.{arith}
use native.Mathlib.Numerals.{add-one}
use lib.Dec.{eqb}
use lib.ListN.{length}
use borrow.Author.Tests.{not-true}
use Rattle.layout.specs.Pick.{pick}
use Rattle.layout.specs.Kinds.{kind}
use Rattle.rules.specs.Bytes.{bar, row_at_hand, bars, word, empty}
use Rattle.rules.specs.Fields.{form_of}
use Rattle.rules.specs.Rules.{Fault, clear, breaks, rules, first_broken, fault_by, fault, form_at_hand, control_byte, wrong_byte}
use Rattle.std.proofs.lemmas.Bool.{and_parts, or_left, or_right}
use Rattle.rules.proofs.TestLaws.{split, both}
use Rattle.rules.proofs.FaultLaws.{Place, starts, codes, fills, ends, place, code_fault, field_fault, byte_fault, end_fault}
use Rattle.rules.proofs.FaultLaws.{fault_start, fault_code, fault_field, fault_past}
use Rattle.field.proofs.FaultLaws.{position_is_lem}
use Rattle.field.proofs.LengthLaws.{length_is}
use Rattle.line.specs.Machine.{position_of}
use Rattle.line.proofs.HotOf.{hot_of}
use Rattle.line.proofs.FieldSim.{wrong_form}

module _ (seen : List ℕ) where
  -- the state tells the position that the fault gives
  data Told : Fault → Type 0 where
    nothing : Told clear
    at : {n f p : ℕ} → position_of (hot_of seen) n ≡ p → Told (breaks n f p)

  pick_told : (t : Bool) (a b : Fault) → Told a → Told b → Told (pick t a b)
  pick_told true a b p q = p
  pick_told false a b p q = q

  if_told : (t : Bool) (a b : Fault) → (t ≡ true → Told a) → Told b → Told (pick t a b)
  if_told true a b p q = p refl
  if_told false a b p q = q

  -- a rule that gives none
  none_told : (n f : ℕ) → (eqb n 2 || eqb n 10) ≡ false → Told (breaks n f 0)
  unfolding position_of
  none_told n f e =
      let two = split (eqb n 2) (λ t. both (or_left (eqb n 2) (eqb n 10) t) e) (λ t. t) in
      let ten = split (eqb n 10) (λ t. both (or_right (eqb n 2) (eqb n 10) t) e) (λ t. t) in
      at {n = n} {f = f} {p = 0} (rw (two, ten))

  code_told : Told (code_fault seen)
  code_told = search (pick_told, none_told, nothing) depth 8

  -- 10: the first byte that no field passing it could have there
  ten_told : (f : ℕ) → wrong_form seen ≡ true → Told (breaks 10 f (wrong_byte seen))
  unfolding position_of wrong_byte form_at_hand
  ten_told f e =
      let k = kind (row_at_hand seen) (bars seen) in
      let w = word seen in
      at {n = 10} {f = f}
      (position_is_lem k w (not-true ((form_of k).characters w) (and_parts (not (empty w)) (not ((form_of k).characters w)) e).1))

  field_told : Told (field_fault seen)
  field_told =
      if_told (wrong_form seen) _ _ (ten_told (bars seen))
      (search (pick_told, none_told, nothing) depth 12)

  -- 2: the place of the control byte
  two_told : (f : ℕ) → Told (breaks 2 f (control_byte seen))
  unfolding position_of control_byte
  two_told f =
      at {n = 2} {f = f} {p = control_byte seen}
      (rw (length_is (hot_of seen).kind (word seen)) (add-one (length (word seen))))

  byte_told : (b : ℕ) → Told (byte_fault seen b)
  byte_told b = search (pick_told, none_told, two_told, nothing) depth 8

  end_told : (b : ℕ) → Told (end_fault seen b)
  end_told b = search (pick_told, none_told, nothing) depth 8

  first_told : (b : ℕ) → Told (first_broken rules seen b)
  first_told b = go (place seen)
    where
      go : Place seen → Told (first_broken rules seen b)
      go (starts z) = rw (fault_start seen b z) (search (pick_told, none_told, nothing) depth 8)
      go (codes e) = rw (fault_code seen b e) (pick_told (eqb b bar) _ _ code_told (byte_told b))
      go (fills h i) = rw (fault_field seen b h i) (pick_told (eqb b bar) _ _ field_told (byte_told b))
      go (ends h p) = rw (fault_past seen b p) (end_told b)

  fault_told : (b : ℕ) → Told (fault seen b)
  unfolding fault fault_by
  fault_told b = search (pick_told, none_told, first_told) depth 8

  pub position_told : (b n f p : ℕ) → fault seen b ≡ breaks n f p → position_of (hot_of seen) n ≡ p
  position_told b n f p e = go (fault seen b) (fault_told b) e
    where
      go : (t : Fault) → Told t → t ≡ breaks n f p → position_of (hot_of seen) n ≡ p
      go t nothing q = absurd (let z : ◌≡◌ {A = ℕ} 0 1 = cc in omega arith)
      go t (at {n = m} {f = g} {p = r} told) q =
          let number : m ≡ n = cc in
          let position : r ≡ p = cc in
          rw (← number) (told ∙ position)
