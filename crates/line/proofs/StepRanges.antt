-- A step keeps within the ranges: from a hot part in range it goes on to one in range, or breaks a rule at a field of
-- the line.
use mathlib.Core.Path.{◌≡◌, refl}
use mathlib.Core.Bool.{Bool, true, false}
use mathlib.Core.List.{List}
use Prim.Native.Nat.{ℕ, ◌+◌, ◌<◌, ◌≤◌}
use native.Mathlib.Omega.{arith}
use lib.Dec.{T, eqb, leb, ltb, leb→le}
use borrow.Author.Tests.{eqb-true, eqb-false, leb-false, ltb-false}
use Rattle.layout.specs.Pick.{pick}
use Rattle.layout.specs.Rows.{row_count, none, fields, most_fields}
use Rattle.layout.specs.Kinds.{kind}
use Rattle.layout.specs.Packed.{kind_number, most_kind}
use Rattle.rules.specs.Rules.{byte_limit}
use Rattle.field.specs.Streaming.{empty_fault, digits_fault, content_fault, number_fault, text_fault, fault_of}
use Rattle.field.specs.declared.bytes.Field.{Field}
use Rattle.line.specs.Machine.{HotFit, most_bars, most_says, grown_of, moved_of, ended_of, code_bar_of}
use Rattle.line.specs.Machine.{stands_of, room_of, misplaced_of, word_row, says_of, field_bar_of}
use Rattle.line.specs.Machine.{Asked, pair_rule_of, asked_rule_of, found_of, bar_of}
use Rattle.line.specs.Machine.{control_of, in_field_of, past_of, start_of, step_of}
use Rattle.rules.specs.Numbers.{is_rule}
use Rattle.line.specs.declared.hot.Hot.{Hot}
use Rattle.line.specs.Machine.{Step, Next, Broken}
use Rattle.layout.proofs.KindLaws.{kind_most}
use Rattle.layout.proofs.RowLaws.{fields_two, fields_most}
use Rattle.line.proofs.HotRanges.{moved_fit, grown_fit, ended_fit, says_le}
use Rattle.line.proofs.RowLaws.{word_row_le}
use Rattle.rules.proofs.OfRule.{OfRule}

-- what a bar finds is 0 or a rule
pick_rule : (t : Bool) (a b : ℕ) → OfRule a → OfRule b → OfRule (pick t a b)
pick_rule true a b p q = p
pick_rule false a b p q = q

module _ (class size : ℕ) (f : Field) (due : ℕ) where
  empty_rule : OfRule (empty_fault class)
  unfolding empty_fault
  empty_rule = search pick_rule depth 8

  digits_rule : OfRule (digits_fault class f.value)
  unfolding digits_fault
  digits_rule = search pick_rule depth 8

  content_rule : OfRule (content_fault class f.value due)
  unfolding content_fault
  content_rule = search (pick_rule, digits_rule) depth 8

  number_rule : OfRule (number_fault class size f due)
  unfolding number_fault
  number_rule = search (pick_rule, empty_rule, content_rule) depth 8

  text_rule : OfRule (text_fault class size f)
  unfolding text_fault
  text_rule = search pick_rule depth 8

fault_rule : (kind : ℕ) (f : Field) (due : ℕ) → OfRule (fault_of kind f due)
unfolding fault_of
fault_rule kind f due = search (pick_rule, text_rule, number_rule) depth 8

found_rule : (h : Hot) (a : Asked) → OfRule (found_of h a)
unfolding found_of asked_rule_of pair_rule_of
found_rule h a = search (pick_rule, fault_rule) depth 8

-- where a step leads
pub data Leads (h : Hot) : Step → Type 0 where
  goes : {n : Hot} → HotFit n → n.bytes ≡ h.bytes + 1 → h.bytes < byte_limit → Leads h (Next n)
  stops : {rule field : ℕ} → is_rule rule ≡ true → field ≤ most_bars → Leads h (Broken rule field)

pick_leads : (h : Hot) (t : Bool) (a b : Step) → Leads h a → Leads h b → Leads h (pick t a b)
pick_leads h true a b p q = p
pick_leads h false a b p q = q

module _ (h : Hot) (f : HotFit h) (small : h.bytes < byte_limit) where
  -- at the field at hand, and at no field or field 1
  stops_here : (rule : ℕ) → is_rule rule ≡ true → Leads h (Broken rule h.bars)
  stops_here rule k = stops {rule = rule} {field = h.bars} k f.bars

  stops_at : (rule field : ℕ) → is_rule rule ≡ true → T (leb field 1) → Leads h (Broken rule field)
  stops_at rule field k t =
      let le = leb→le field 1 t in
      stops {rule = rule} {field = field} k (omega arith)

  moved_leads : h.bars ≤ most_fields → (r fields kind says : ℕ) → r ≤ row_count → (2 ≤ h.bars + 1 → r < row_count)
      → 1 ≤ fields → fields ≤ most_fields → kind ≤ most_kind → says ≤ most_says → Leads h (Next (moved_of h r fields kind says))
  moved_leads room r fields kind says row coded some most small-kind said =
      goes {n = moved_of h r fields kind says}
      (moved_fit h f small room r fields kind says row coded some most small-kind said)
      refl small

  grown_leads : (b : ℕ) → b < 256 → Leads h (Next (grown_of h b))
  grown_leads b byte = goes {n = grown_of h b} (grown_fit h f small b byte) refl small

  ended_leads : Leads h (Next (ended_of h))
  ended_leads = goes {n = ended_of h} (ended_fit h f small) refl small

  -- in a field of the line
  module _ (room : h.bars ≤ most_fields) where
    code_leads : (ss os : List ℕ) (r : ℕ) → r ≤ row_count → Leads h (code_bar_of h ss os r)
    unfolding code_bar_of
    code_leads ss os r le = go (eqb r none) refl
      where
        go : (t : Bool) → eqb r none ≡ t
            → Leads h (pick t (Broken 3 1)
            (pick (stands_of h.last r)
            (pick (misplaced_of h.says r) (Broken 5 1)
            (pick (room_of ss os r) (Next (moved_of h r (fields r) (kind_number (kind r 2)) 0)) (Broken 6 1)))
            (Broken 4 1)))
        go true e = stops_at 3 1 refl tt
        go false e =
            let known : r < row_count = let other = eqb-false r none e in omega arith in
            let some = fields_two r known in
            let next =
            moved_leads room r (fields r) (kind_number (kind r 2)) 0 le (λ two. known) (omega arith) (fields_most r le)
            (kind_most r 2) (omega arith)
            in
            search (pick_leads, stops_at, next) depth 8

    field_leads : 2 ≤ h.bars → (n : ℕ) → OfRule n → Leads h (field_bar_of h n)
    unfolding field_bar_of
    field_leads two n found = go (eqb n 0) refl
      where
        go : (t : Bool) → eqb n 0 ≡ t
            → Leads h (pick t (Next (moved_of h h.row h.fields (kind_number (kind h.row (h.bars + 1))) (says_of h)))
            (Broken n h.bars))
        go true e =
            moved_leads room h.row h.fields _ _ f.row (λ three. f.coded two) f.some_field f.fields
            (kind_most h.row (h.bars + 1)) (says_le h f)
        go false e = stops {rule = n} {field = h.bars} (rw e at found) f.bars

    bar_leads : 1 ≤ h.bars → (ss os : List ℕ) (a : Asked) → Leads h (bar_of h ss os a)
    unfolding bar_of
    bar_leads one ss os a = go (eqb h.bars 1) refl
      where
        go : (t : Bool) → eqb h.bars 1 ≡ t
            → Leads h (pick t (code_bar_of h ss os (word_row h)) (field_bar_of h (found_of h a)))
        go true e = code_leads ss os (word_row h) (word_row_le h)
        go false e = let other = eqb-false h.bars 1 e in field_leads (omega arith) _ (found_rule h a)

    control_leads : (b : ℕ) → Leads h (control_of h b)
    unfolding control_of
    control_leads b = search (pick_leads, stops_here) depth 8

    in_leads : 1 ≤ h.bars → (ss os : List ℕ) (a : Asked) (b : ℕ) → b < 256 → Leads h (in_field_of h ss os a b)
    unfolding in_field_of
    in_leads one ss os a b byte = search (pick_leads, bar_leads, control_leads, grown_leads) depth 8

    start_leads : h.bars ≡ 0 → (b : ℕ) → Leads h (start_of h b)
    unfolding start_of
    start_leads z b =
        let next =
        moved_leads room h.row h.fields 1 h.says f.row (λ two. absurd (omega arith)) f.some_field f.fields
        (omega arith) f.says
        in
        search (pick_leads, stops_at, next) depth 8

  past_leads : (b : ℕ) → b < 256 → Leads h (past_of h b)
  unfolding past_of
  past_leads b byte = search (pick_leads, stops_at, stops_here, grown_leads, ended_leads) depth 8

  line_leads : (ss os : List ℕ) (a : Asked) (b : ℕ) → b < 256
      → Leads h (pick (eqb h.bars 0) (start_of h b) (pick (ltb h.fields h.bars) (past_of h b) (in_field_of h ss os a b)))
  line_leads ss os a b byte = go (eqb h.bars 0) (ltb h.fields h.bars) refl refl
    where
      go : (t u : Bool) → eqb h.bars 0 ≡ t → ltb h.fields h.bars ≡ u
          → Leads h (pick t (start_of h b) (pick u (past_of h b) (in_field_of h ss os a b)))
      go true u e d = let z = eqb-true h.bars 0 e in start_leads (omega arith) z b
      go false true e d = past_leads b byte
      go false false e d =
          let l = ltb-false h.fields h.bars d in
          let some = eqb-false h.bars 0 e in
          in_leads (omega (arith, f.fields)) (omega arith) ss os a b byte

pub step_leads : (h : Hot) → HotFit h → (ss os : List ℕ) (a : Asked) (b : ℕ) → b < 256 → Leads h (step_of h ss os a b)
unfolding step_of
step_leads h f ss os a b byte = go (leb byte_limit h.bytes) refl
  where
    go : (t : Bool) → leb byte_limit h.bytes ≡ t
        → Leads h (pick t (Broken 16 0)
        (pick (eqb h.bars 0) (start_of h b) (pick (ltb h.fields h.bars) (past_of h b) (in_field_of h ss os a b))))
    go true e = stops {rule = 16} {field = 0} refl (omega arith)
    go false e = line_leads h f (leb-false _ _ e) ss os a b byte
