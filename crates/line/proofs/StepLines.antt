-- A step raises the lines ended by one at LF, which ends a line whose row is known, and at no other byte.
use mathlib.Core.Path.{◌≡◌, refl, subst}
use mathlib.Core.Bool.{Bool, true, false, ◌&&◌}
use mathlib.Core.List.{List}
use Prim.Native.Nat.{ℕ, ◌+◌, ◌<◌}
use native.Mathlib.Omega.{arith}
use lib.Dec.{eqb, leb, ltb}
use borrow.Author.Tests.{ltb-true}
use Rattle.layout.specs.Pick.{pick}
use Rattle.layout.specs.Rows.{row_count, row9999}
use Rattle.rules.specs.Bytes.{LF, is_end_byte}
use Rattle.rules.specs.Rules.{byte_limit}
use Rattle.line.specs.Machine.{HotFit, Asked, code_bar_of, field_bar_of, bar_of, control_of, in_field_of, past_of, start_of, step_of}
use Rattle.line.specs.declared.hot.Hot.{Hot}
use Rattle.line.specs.Machine.{Step, Next, Broken}

-- P holds of the state that a step goes on with
data Onward (P : Hot → Type 0) : Step → Type 0 where
  on : {n : Hot} → P n → Onward P (Next n)
  broken : {rule field : ℕ} → Onward P (Broken rule field)

pick_onward : (P : Hot → Type 0) (t : Bool) (a b : Step) → Onward P a → Onward P b → Onward P (pick t a b)
pick_onward P true a b p q = p
pick_onward P false a b p q = q

onward : (P : Hot → Type 0) (s : Step) (n : Hot) → Onward P s → s ≡ Next n → P n
onward P s n (on {n = k} p) e = let q : k ≡ n = cc in subst P q p
onward P s n broken e = absurd (let z : ◌≡◌ {A = ℕ} 0 1 = cc in omega arith)

module _ (h : Hot) (ss os : List ℕ) (a : Asked) where
  -- every byte but LF
  abbrev Same : Hot → Type 0
  Same n = n.lines ≡ h.lines

  in_same : (b : ℕ) → Onward Same (in_field_of h ss os a b)
  unfolding in_field_of bar_of code_bar_of field_bar_of control_of
  in_same b = search (pick_onward, on, broken) depth 12

  other_onward : (b : ℕ) → eqb b LF ≡ false → Onward Same (step_of h ss os a b)
  unfolding step_of start_of past_of
  other_onward b e = rw e (search (pick_onward, on, broken, in_same) depth 12)

  -- LF: a line ends past its last field, so that its row is known
  abbrev Ends : Hot → Type 0
  Ends n = (n.lines ≡ h.lines + 1) × (h.row < row_count)

  lf_onward : HotFit h → Onward Ends (step_of h ss os a LF)
  unfolding step_of start_of past_of in_field_of control_of
  lf_onward f =
      pick_onward Ends (leb byte_limit h.bytes) _ _ broken
      (go (eqb h.bars 0) refl (ltb h.fields h.bars) refl)
    where
      go : (z : Bool) → eqb h.bars 0 ≡ z → (t : Bool) → ltb h.fields h.bars ≡ t
          → Onward Ends (pick z (start_of h LF) (pick t (past_of h LF) (in_field_of h ss os a LF)))
      go true e t d = pick_onward Ends (eqb h.last row9999) _ _ broken broken
      go false e true d =
          let past = ltb-true h.fields h.bars d in
          pick_onward Ends (eqb h.field.length 0) _ _ broken (on (refl, f.coded (omega (arith, f.some_field))))
      go false e false d = pick_onward Ends (eqb h.field.length 0 && is_end_byte LF) _ _ broken broken

  module _ (b : ℕ) (n : Hot) (e : step_of h ss os a b ≡ Next n) where
    pub other_lines : eqb b LF ≡ false → n.lines ≡ h.lines
    other_lines t = onward Same (step_of h ss os a b) n (other_onward b t) e

    pub lf_lines : HotFit h → b ≡ LF → (n.lines ≡ h.lines + 1) × (h.row < row_count)
    lf_lines f p = onward Ends (step_of h ss os a b) n (rw p (lf_onward f)) e
