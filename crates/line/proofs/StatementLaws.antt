-- What 9900 lines state: of each row, and of no row, one number tells all statements of it; and together they tell rule 23.
use mathlib.Core.Path.{◌≡◌, ◌∙◌, refl, sym, ap}
use mathlib.Core.Bool.{Bool, true, false, not, ◌&&◌, ◌||◌, and-true, and_assoc, and-false}
use mathlib.Core.List.{List, [], ◌∷◌, map}
use Prim.Native.Nat.{ℕ, zero, suc, ◌+◌, ◌<◌, ◌≤◌, min, zero-le, suc-le-suc}
use native.Mathlib.Omega.{arith}
use native.Mathlib.Numerals.{add-one}
use native.Mathlib.Decide.{ℕ_discrete}
use lib.Dec.{eqb, ltb}
use lib.ListN.{length, get_or, set}
use borrow.Author.Tests.{eq-eqb, ne_eqb, eqb-true, lt-ltb, ltb-true}
use Rattle.layout.specs.Pick.{pick}
use Rattle.layout.specs.Lists.{tabulate, all_below}
use Rattle.layout.specs.Rows.{row_count, none, row9900, row9999, row_of_code}
use Rattle.layout.specs.Kind.{N-}
use Rattle.layout.specs.Packed.{kind_number}
use Rattle.layout.specs.Text.{code_number}
use Rattle.layout.proofs.Below.{all_below_lem, all_same}
use Rattle.layout.proofs.CodeLaws.{row_of_code_le}
use Rattle.layout.proofs.TabulateLaws.{tabulate_at, tabulate_set}
use Rattle.rules.specs.Bytes.{field, row_of, row_of_word, empty}
use Rattle.rules.specs.Counts.{lines_of_row, counts_of_rows}
use Rattle.rules.specs.Fields.{value, states}
use Rattle.rules.specs.Statements.{occurs, is_true, all_true}
use Rattle.rules.proofs.TestLaws.{split, same_test, pick_le}
use Rattle.field.specs.Streaming.{cap, with_byte, field_after}
use Rattle.field.specs.declared.bytes.Field.{Field}
use Rattle.field.proofs.LengthLaws.{length_is}
use Rattle.field.proofs.DigitLaws.{digits_value, capped_is}
use Rattle.line.specs.Machine.{Below, entry_of, number_unit, untrue, number_of, joined_of, occurs_of, holds_of, all_hold_of}

-- the bounds of the numbers
pub word_row_le : (w : List ℕ) → row_of_word w ≤ row_count
unfolding row_of_word
word_row_le w = pick_le (eqb (length w) 4) (row_of_code (code_number w)) none row_count (row_of_code_le (code_number w)) (omega arith)

pub word_row_small : (w : List ℕ) → row_of_word w < number_unit
word_row_small w = let h = word_row_le w in omega arith

pub entry_most : (m : ℕ) (xs : List ℕ) → Below m xs → (r : ℕ) → entry_of xs r ≤ m
unfolding entry_of
entry_most m xs h r = split (ltb r row_count) (λ t. rw t (h r (ltb-true r row_count t))) (λ t. rw t zero-le)

pub occurs_most : (m : ℕ) (counts : List ℕ) → Below m counts → (r : ℕ) → occurs_of counts r ≤ m + 1
unfolding occurs_of
occurs_most m counts h r =
    let most = entry_most m counts h r in
    omega (arith, pick_le (eqb r row9999) 1 0 1 (omega arith) (omega arith))

pub number_most : (f : Field) → f.value ≤ cap → number_of f ≤ untrue
unfolding number_of
number_most f h = pick_le (eqb f.length 0) untrue (f.value + 1) untrue (omega arith) (omega arith)

-- one more than the number that a word states; what the lines state of row r
unfoldable pub stated_by : List ℕ → ℕ
stated_by w = pick (empty w) untrue (min cap (value w) + 1)

pub stated_some : (w : List ℕ) → 1 ≤ stated_by w
unfolding stated_by
stated_some w = split (empty w) (λ t. rw t (omega arith)) (λ t. rw t (omega arith))

-- what is kept of the field tells it
pub number_is_lem : (w : List ℕ) → number_of (field_after (kind_number N-) w) ≡ stated_by w
unfolding number_of stated_by with_byte kind_number
number_is_lem [] = unfold field_after empty in refl
number_is_lem (b ∷ w) =
    unfold empty in
    rw (length_is (kind_number N-) (b ∷ w), ne_eqb (suc (length w)) 0 (λ e. omega arith), digits_value (kind_number N-) (λ f b. refl) (b ∷ w))

abbrev pub is_about : ℕ → List ℕ → Bool
is_about r line = eqb (row_of line) row9900 && eqb (row_of_word (field 2 line)) r

unfoldable pub stated_of_row : ℕ → List (List ℕ) → ℕ
stated_of_row r [] = 0
stated_of_row r (line ∷ before) =
    let rest = stated_of_row r before in
    pick (is_about r line) (joined_of rest (stated_by (field 3 line))) rest

abbrev pub stated_of_rows : List (List ℕ) → List ℕ
stated_of_rows lines = tabulate (suc row_count) (λ r. stated_of_row r lines)

-- one line more: a 9900 line changes what is stated of the row of its code alone, another line nothing
module _ (line : List ℕ) (before : List (List ℕ)) where
  pub stated_other : eqb (row_of line) row9900 ≡ false → stated_of_rows (line ∷ before) ≡ stated_of_rows before
  unfolding stated_of_row
  stated_other e = rw e

  pub stated_line : eqb (row_of line) row9900 ≡ true → (r : ℕ) → r ≡ row_of_word (field 2 line)
      → set (stated_of_rows before) r (joined_of (get_or (stated_of_rows before) r 0) (stated_by (field 3 line)))
      ≡ stated_of_rows (line ∷ before)
  stated_line e r is =
      let le = word_row_le (field 2 line) in
      tabulate_set (suc row_count) (λ k. stated_of_row k before) (λ k. stated_of_row k (line ∷ before)) r _ (omega arith)
      (unfold stated_of_row in
      rw (e, eq-eqb (row_of_word (field 2 line)) r (sym is), tabulate_at (suc row_count) (λ k. stated_of_row k before) r 0 (omega arith)))
      (λ k other. unfold stated_of_row in rw (e, ne_eqb (row_of_word (field 2 line)) k (λ q. other (is ∙ q))))

-- nothing is stated, or n
abbrev fits : ℕ → ℕ → Bool
fits n stated = eqb stated 0 || eqb stated (n + 1)

-- what a second statement makes of the first
joined_same : (q : ℕ) → joined_of q q ≡ q
unfolding joined_of
joined_same q = split (eqb q 0) (λ t. rw t) (λ t. rw (t, eq-eqb q q refl))

joined_other : (q new : ℕ) → (q ≡ 0 → ⊥) → (q ≡ new → ⊥) → joined_of q new ≡ untrue
unfolding joined_of
joined_other q new a b = rw (ne_eqb q 0 a, ne_eqb q new b)

and_same : (a b : Bool) → a ≡ b → a ≡ (b && a)
and_same true b e = rw (← e)
and_same false b e = rw (← e)

module _ (n : ℕ) (small : n < cap) where
  never : fits n untrue ≡ false
  never = ne_eqb untrue (n + 1) (λ e. omega arith)

  -- one more statement, of the number v, fits exactly if v is n and what was stated before fits
  joined_number : (v q : ℕ) → fits n (joined_of q (min cap v + 1)) ≡ (eqb v n && fits n q)
  joined_number v q = go (ℕ_discrete q 0) (ℕ_discrete q (min cap v + 1))
    where
      told : fits n (min cap v + 1) ≡ eqb v n
      told =
          rw (ne_eqb (min cap v + 1) 0 (λ e. omega arith))
          (same_test (min cap v + 1) (n + 1) (min cap v) n (λ e. omega arith) (λ e. omega arith) ∙ capped_is v n small)

      go : Dec (q ≡ 0) → Dec (q ≡ min cap v + 1) → fits n (joined_of q (min cap v + 1)) ≡ (eqb v n && fits n q)
      go (yes z) d = unfold joined_of in rw z (told ∙ sym (and-true (eqb v n)))
      go (no z) (yes e) =
          ap (λ k. fits n (joined_of q k)) (sym e) ∙ ap (fits n) (joined_same q)
          ∙ and_same (fits n q) (eqb v n) (ap (fits n) e ∙ told)
      go (no z) (no d) =
          ap (fits n) (joined_other q (min cap v + 1) z d) ∙ never
          ∙ split (eqb v n)
          (λ t. let e = eqb-true v n t in rw (t, ne_eqb q 0 z, ne_eqb q (n + 1) (λ k. d (omega arith))))
          (λ t. rw t)

  -- the same of a word: an empty one is not true
  joined_fits : (w : List ℕ) (q : ℕ) → fits n (joined_of q (stated_by w)) ≡ (states n w && fits n q)
  unfolding stated_by states empty
  joined_fits [] q = go (ℕ_discrete q 0) (ℕ_discrete q untrue)
    where
      go : Dec (q ≡ 0) → Dec (q ≡ untrue) → fits n (joined_of q untrue) ≡ false
      go (yes z) d = unfold joined_of in rw z never
      go (no z) (yes e) = rw e (ap (fits n) (joined_same untrue) ∙ never)
      go (no z) (no d) = ap (fits n) (joined_other q untrue z d) ∙ never
  joined_fits (b ∷ w) q = joined_number (value (b ∷ w)) q

and_swap : (a b c : Bool) → (a && (b && c)) ≡ (b && (a && c))
and_swap true b c = refl
and_swap false b c = sym (and-false b)

-- A test that one number x makes narrower, where g holds: all pass exactly if x passes what is asked of it, and all pass else.
module _ (g : Bool) (x : ℕ) (s u : ℕ → Bool) where
  abbrev narrower : ℕ → Bool
  narrower r = (not (g && eqb x r) || s r) && u r

  elsewhere : (r : ℕ) → (x ≡ r → ⊥) → narrower r ≡ u r
  elsewhere r d = rw (ne_eqb x r d, and-false g)

  narrow_past : (k : ℕ) → k ≤ x → all_below k narrower ≡ all_below k u
  narrow_past k h = all_same k narrower u (λ r l. elsewhere r (λ e. omega arith))

  narrow_at : (k : ℕ) → x < k → all_below k narrower ≡ ((not g || s x) && all_below k u)
  unfolding all_below
  narrow_at zero h = absurd (omega arith)
  narrow_at (suc k) h = go (ℕ_discrete x k) (narrow_at k)
    where
      go : Dec (x ≡ k) → (x < k → all_below k narrower ≡ ((not g || s x) && all_below k u))
          → (narrower k && all_below k narrower) ≡ ((not g || s x) && (u k && all_below k u))
      go (yes e) before =
          rw (narrow_past k (omega arith), eq-eqb x k e, and-true g, e) (and_assoc (not g || s k) (u k) (all_below k u))
      go (no d) before =
          rw (elsewhere k d, before (omega arith)) (and_swap (u k) (not g || s x) (all_below k u))

-- Rule 23, by the rows: n tells how often the code of each row occurs.
module _ (rows : List ℕ) (few : (r : ℕ) → occurs r rows < cap) where
  by_line : (r : ℕ) (line : List ℕ) (before : List (List ℕ))
      → fits (occurs r rows) (stated_of_row r (line ∷ before))
      ≡ ((not (is_about r line) || states (occurs r rows) (field 3 line)) && fits (occurs r rows) (stated_of_row r before))
  unfolding stated_of_row
  by_line r line before =
      split (is_about r line)
      (λ t. rw t (joined_fits (occurs r rows) (few r) (field 3 line) (stated_of_row r before)))
      (λ t. rw t)

  all_fit : (lines : List (List ℕ)) → all_below (suc row_count) (λ r. fits (occurs r rows) (stated_of_row r lines)) ≡ all_true rows lines
  unfolding all_true is_true
  all_fit [] = all_below_lem _ (suc row_count) (λ r l. unfold stated_of_row in refl)
  all_fit (line ∷ before) =
      all_same (suc row_count) _ _ (λ r l. by_line r line before)
      ∙ narrow_at (eqb (row_of line) row9900) (row_of_word (field 2 line)) (λ r. states (occurs r rows) (field 3 line))
      (λ r. fits (occurs r rows) (stated_of_row r before)) (suc row_count) (suc-le-suc (word_row_le (field 2 line)))
      ∙ ap (λ t. (not (eqb (row_of line) row9900) || states (occurs (row_of_word (field 2 line)) rows) (field 3 line)) && t)
      (all_fit before)

-- the counts of the lines ended, with 9999 to come
occurs_is : (rows : List ℕ) (r : ℕ) → r < suc row_count → occurs_of (counts_of_rows rows) r ≡ occurs r (row9999 ∷ rows)
unfolding occurs_of entry_of occurs counts_of_rows lines_of_row
occurs_is rows r h = go (ℕ_discrete r none) (ℕ_discrete r row9999)
  where
    go : Dec (r ≡ none) → Dec (r ≡ row9999)
        → pick (ltb r row_count) (get_or (tabulate row_count (λ k. lines_of_row k rows)) r 0) 0 + pick (eqb r row9999) 1 0
        ≡ pick (eqb r none) 0 (pick (eqb row9999 r) (suc (lines_of_row r rows)) (lines_of_row r rows))
    go (yes e) d = rw e
    go (no n) (yes e) =
        rw (ne_eqb r none n, lt-ltb r row_count (omega arith), tabulate_at row_count (λ k. lines_of_row k rows) r 0 (omega arith))
        (rw (eq-eqb r row9999 e, eq-eqb row9999 r (sym e), add-one))
    go (no n) (no d) =
        rw (ne_eqb r none n, lt-ltb r row_count (omega arith), tabulate_at row_count (λ k. lines_of_row k rows) r 0 (omega arith))
        (rw (ne_eqb r row9999 d, ne_eqb row9999 r (λ e. d (sym e))) (omega arith))

pub all_hold_is : (lines : List (List ℕ)) → ((r : ℕ) → occurs r (row9999 ∷ map row_of lines) < cap)
    → all_hold_of (counts_of_rows (map row_of lines)) (stated_of_rows lines) ≡ all_true (row9999 ∷ map row_of lines) lines
unfolding all_hold_of holds_of
all_hold_is lines few =
    all_same (suc row_count) _ _
    (λ r l. rw (
      tabulate_at (suc row_count) (λ k. stated_of_row k lines) r 0 l,
      occurs_is (map row_of lines) r l,
    ))
    ∙ all_fit (row9999 ∷ map row_of lines) few lines
