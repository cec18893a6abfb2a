-- Rules 10 to 13, 24, 20, 21 and 23 at the state of the bytes received: what the bar after a field finds.
use mathlib.Core.Path.{◌≡◌, ◌∙◌, refl, sym, ap}
use mathlib.Core.Bool.{Bool, true, false, not, ◌&&◌, ◌||◌}
use mathlib.Core.List.{List, ◌∷◌}
use Prim.Native.Nat.{ℕ, ◌+◌, ◌<◌, ◌≤◌}
use native.Mathlib.Omega.{arith}
use native.Mathlib.Numerals.{add-one}
use lib.Dec.{eqb}
use lib.ListN.{length}
use borrow.Author.Tests.{eq-eqb, eqb-true}
use Rattle.layout.specs.Pick.{pick}
use Rattle.layout.specs.Rows.{block, is_closing, fields, row9999}
use Rattle.layout.specs.Kind.{date}
use Rattle.layout.specs.Kinds.{kind}
use Rattle.layout.specs.Packed.{kind_number}
use Rattle.layout.specs.Periods.{later_date}
use Rattle.rules.specs.Bytes.{lines, rows, row_at_hand, bars, word, empty}
use Rattle.rules.specs.Counts.{due}
use Rattle.rules.specs.Fields.{Form, form_of, states}
use Rattle.rules.specs.Periods.{seen_before, crowded}
use Rattle.rules.specs.Statements.{all_true}
use Rattle.rules.specs.Rules.{Fault, clear, breaks, form_at_hand, is_pair_bar, with_bar, wrong_byte}
use Rattle.rules.proofs.TestLaws.{split, pick_le}
use Rattle.layout.proofs.RoleLaws.{opening_kind, fields_9999, kind_9999}
use Rattle.layout.proofs.PeriodLaws.{period_9999, later_some}
use Rattle.rules.proofs.ByteLaws.{bars_lines, rows_length}
use Rattle.rules.proofs.FaultLaws.{field_fault}
use Rattle.rules.proofs.StandLaws.{stand_closing}
use Rattle.rules.proofs.BlockLaws.{since, since_le, due_9999, due_since}
use Rattle.rules.proofs.SoundLaws.{Sound}
use Rattle.field.specs.Streaming.{cap, fault_of}
use Rattle.field.specs.Ruled.{ruled}
use Rattle.field.proofs.FaultLaws.{fault_is}
use Rattle.field.proofs.OpeningLaws.{opens_zero}
use Rattle.line.specs.Machine.{due_of, Asked, pair_rule_of, asked_rule_of, found_of}
use Rattle.rules.proofs.CountKinds.{count_row}
use Rattle.line.proofs.DateLaws.{dates_kinds}
use Rattle.line.proofs.HotOf.{hot_of, pick_same, OpeningTold}

-- what is due is asked of counts alone
ruled_due : (f : Form) (m n : ℕ) (w : List ℕ) → (f.is_count ≡ true → m ≡ n) → ruled f m w ≡ ruled f n w
unfolding ruled
ruled_due f m n w e = split f.is_count (λ t. rw (e t)) (λ t. rw t)

or_second : (a b : Bool) → (a || b) ≡ true → b ≡ false → a ≡ true
or_second true b e f = refl
or_second false b e f = sym f ∙ e

-- field 2 of 9999 is no date
date_9999 : eqb (kind_number (kind row9999 2)) (kind_number date) ≡ false
unfolding kind_number
date_9999 = rw kind_9999

-- the number of the rule that the bar after the field at hand breaks, 0 where it breaks none
abbrev pub found : List ℕ → ℕ
found seen = ruled (form_of (kind (row_at_hand seen) (bars seen))) (due (row_at_hand seen) (rows seen)) (word seen)

-- the same with those that are asked of the lines before, if it breaks none of them
abbrev pub holds : List ℕ → Bool
holds seen = all_true (row9999 ∷ rows seen) (lines seen)

abbrev asked_at : List ℕ → ℕ
asked_at seen =
    pick (is_pair_bar seen && seen_before (with_bar seen) (lines seen)) 20
    (pick (is_pair_bar seen && crowded (with_bar seen) (lines seen)) 21
    (pick (eqb (row_at_hand seen) row9999 && eqb (bars seen) 2 && not (holds seen)) 23 0))

abbrev pub found_at : List ℕ → ℕ
found_at seen = pick (eqb (found seen) 0) (asked_at seen) (found seen)

-- what the state answers of the lines before is so, where it is asked
pub record Answers (seen : List ℕ) (a : Asked) : Type 0 where
  pub of_holds : a.holds ≡ holds seen
  pub of_pair : 2 ≤ bars seen → bars seen ≤ fields (row_at_hand seen) → found seen ≡ 0 → is_pair_bar seen ≡ true
      → (a.repeated ≡ seen_before (with_bar seen) (lines seen)) × (a.crowded ≡ crowded (with_bar seen) (lines seen))

module _ (seen : List ℕ) (late : 2 ≤ bars seen) (s : Sound seen) where
  -- 13: what a count must state
  due_is : (form_of (kind (row_at_hand seen) (bars seen))).is_count ≡ true → due_of (hot_of seen) ≡ due (row_at_hand seen) (rows seen)
  unfolding due_of
  due_is e =
      let r = row_at_hand seen in
      let known = s.known late in
      let counts = count_row r (bars seen) known.0 e in
      split (eqb r row9999)
      (λ t. rw t (rw (eqb-true r row9999 t, due_9999 (rows seen), rows_length seen, add-one)))
      (λ t. let c = or_second (is_closing r) (eqb r row9999) counts t in
      let ends = sym (stand_closing (rows seen) r known.0 c) ∙ known.1 in
      rw t (rw (due_since (rows seen) s.stood r known.0 c ends, add-one)))

  due_small : due_of (hot_of seen) < cap
  unfolding due_of
  due_small =
      let r = row_at_hand seen in
      let n = length (lines seen) in
      let nine = pick_le (eqb (block r) (block row9999)) 1 0 1 (omega arith) (omega arith) in
      let few : since (rows seen) ≤ n = omega (arith, since_le (rows seen), rows_length seen) in
      let in_block : since (rows seen) + 1 + pick (eqb (block r) (block row9999)) 1 0 ≤ n + 2 = omega arith in
      let all = pick_le (eqb r row9999) (n + 1) _ (n + 2) (omega arith) in_block in
      omega (arith, bars_lines seen, s.short)

  field_is_lem : fault_of (hot_of seen).kind (hot_of seen).field (due_of (hot_of seen)) ≡ found seen
  field_is_lem =
      let k = kind (row_at_hand seen) (bars seen) in
      fault_is k (due_of (hot_of seen)) (word seen) due_small
      ∙ ruled_due (form_of k) (due_of (hot_of seen)) (due (row_at_hand seen) (rows seen)) (word seen) due_is

  -- 23: 9999 has no field after its second, and that is no date
  last_is : bars seen ≤ fields (row_at_hand seen) → (a : Asked) → a.holds ≡ holds seen → is_pair_bar seen ≡ false
      → asked_rule_of (hot_of seen) a ≡ pick (eqb (row_at_hand seen) row9999 && eqb (bars seen) 2 && not (holds seen)) 23 0
  unfolding asked_rule_of pair_rule_of is_pair_bar
  last_is within a h other =
      rw (other, h)
      (split (eqb (row_at_hand seen) row9999)
      (λ t. let row = eqb-true (row_at_hand seen) row9999 t in
      let two : bars seen ≡ 2 = omega (arith, ap fields row ∙ fields_9999) in
      rw (t, eq-eqb (bars seen) 2 two, row, two, date_9999))
      (λ t. rw (t, pick_same {A = ℕ} (eqb (hot_of seen).kind (kind_number date)) 0)))

  -- 20 and 21: the later date is a date
  pair_is : bars seen ≤ fields (row_at_hand seen) → (a : Asked) → Answers seen a → found seen ≡ 0 → is_pair_bar seen ≡ true
      → asked_rule_of (hot_of seen) a ≡ asked_at seen
  unfolding asked_rule_of pair_rule_of
  pair_is within a answers none at =
      let r = row_at_hand seen in
      let e : bars seen ≡ later_date r = eqb-true (bars seen) (later_date r) (unfold is_pair_bar in at) in
      let known = (s.known late).0 in
      let p = later_some r (omega arith) in
      let is_date_lem : kind_number (kind r (bars seen)) ≡ kind_number date = ap kind_number (rw e (dates_kinds r known p).1) in
      let q = answers.of_pair late within none at in
      rw (
        at,
        eq-eqb (hot_of seen).kind (kind_number date) is_date_lem,
        eq-eqb (bars seen) (later_date r) e,
        q.0,
        q.1,
        period_9999 r known p,
      )

  pub found_is : bars seen ≤ fields (row_at_hand seen) → (a : Asked) → Answers seen a → found_of (hot_of seen) a ≡ found_at seen
  unfolding found_of
  found_is within a answers =
      rw field_is_lem
      (split (eqb (found seen) 0)
      (λ t. rw t
      (split (is_pair_bar seen)
      (λ u. pair_is within a answers (eqb-true (found seen) 0 t) u)
      (λ u. last_is within a answers.of_holds u ∙ rw u)))
      (λ t. rw t))

-- an opening's field 2 that its bar passes is 0 where its value is
none_found : (n asked : ℕ) → pick (eqb n 0) asked n ≡ 0 → n ≡ 0
none_found n asked e = split (eqb n 0) (λ t. eqb-true n 0 t) (λ t. rw t at e)

pub opening_told : (seen : List ℕ) → found_at seen ≡ 0 → OpeningTold seen
opening_told seen none two o =
    let z = none_found (found seen) _ none in
    let k = opening_kind (row_at_hand seen) o in
    rw (two, k) (opens_zero (due (row_at_hand seen) (rows seen)) (word seen) (rw (two, k) at z))

abbrev fault_for : ℕ → ℕ → ℕ → Fault
fault_for n f p = pick (eqb n 0) clear (breaks n f p)

-- the rules of a field's bar, as one number; the first gives a position
abbrev numbered : (a b c d e : Bool) → ℕ
numbered a b c d e = pick a 10 (pick b 11 (pick c 12 (pick d 13 (pick e 24 0))))

abbrev numbered_late : (t u g : Bool) → ℕ
numbered_late t u g = pick t 20 (pick u 21 (pick g 23 0))

by_late : (t u g : Bool) (f : ℕ)
    → pick t (breaks 20 f 0) (pick u (breaks 21 f 0) (pick g (breaks 23 f 0) clear)) ≡ fault_for (numbered_late t u g) f 0
by_late true u g f = refl
by_late false true g f = refl
by_late false false true f = refl
by_late false false false f = refl

by_number : (a b c d e t u g : Bool) (f p : ℕ)
    → pick a (breaks 10 f p)
    (pick b (breaks 11 f 0)
    (pick c (breaks 12 f 0)
    (pick d (breaks 13 f 0)
    (pick e (breaks 24 f 0) (pick t (breaks 20 f 0) (pick u (breaks 21 f 0) (pick g (breaks 23 f 0) clear)))))))
    ≡ fault_for (pick (eqb (numbered a b c d e) 0) (numbered_late t u g) (numbered a b c d e)) f (pick a p 0)
by_number true b c d e t u g f p = refl
by_number false true c d e t u g f p = refl
by_number false false true d e t u g f p = refl
by_number false false false true e t u g f p = refl
by_number false false false false true t u g f p = refl
by_number false false false false false t u g f p = by_late t u g f

abbrev pub wrong_form : List ℕ → Bool
wrong_form seen = not (empty (word seen)) && not ((form_at_hand seen).characters (word seen))

pub field_fault_is : (seen : List ℕ)
    → field_fault seen ≡ fault_for (found_at seen) (bars seen) (pick (wrong_form seen) (wrong_byte seen) 0)
unfolding ruled form_at_hand
field_fault_is seen =
    let w = word seen in
    let f = form_of (kind (row_at_hand seen) (bars seen)) in
    by_number (not (empty w) && not (f.characters w)) (not (empty w) && not (f.size (length w))) (not (f.content w))
    (f.is_count && not (states (due (row_at_hand seen) (rows seen)) w)) (not (empty w) && not (f.digits w))
    (is_pair_bar seen && seen_before (with_bar seen) (lines seen)) (is_pair_bar seen && crowded (with_bar seen) (lines seen))
    (eqb (row_at_hand seen) row9999 && eqb (bars seen) 2 && not (holds seen)) (bars seen) (wrong_byte seen)
