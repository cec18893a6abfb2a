-- A byte: the checker's step, at the state of the bytes received, does what the rules say.
use mathlib.Core.Path.{◌≡◌, ◌∙◌, refl, sym, ap}
use mathlib.Core.Bool.{true, false, ◌&&◌, ◌||◌}
use mathlib.Core.List.{List, [], ◌∷◌}
use Prim.Native.Nat.{ℕ, suc, ◌<◌, ◌≤◌}
use native.Mathlib.Omega.{arith}
use lib.Dec.{eqb, leb, ltb}
use lib.ListN.{length}
use borrow.Author.Tests.{eq-eqb, ne_eqb, lt-ltb, le-ltb, eqb-true, ltb-false}
use Rattle.layout.specs.Pick.{pick}
use Rattle.layout.specs.Rows.{none, row_count, fields, is_closing}
use Rattle.rules.specs.Bytes.{bar, CR, LF, cut, lines, rows, row_at_hand, row_of_word, bars, word, empty, is_end_byte, line_at_hand}
use Rattle.rules.specs.Order.{can_stand, has_room, is_data}
use Rattle.rules.specs.Rules.{Fault, clear, breaks, rules, first_broken, fault_by, fault}
use Rattle.rules.specs.Rules.{full, complete, in_field, row_to_be, opened_by, byte_limit}
use Rattle.rules.proofs.TestLaws.{split, both}
use Rattle.layout.proofs.RoleLaws.{none_kind}
use Rattle.layout.proofs.RowLaws.{fields_two}
use Rattle.rules.proofs.AllRows.{stood_rows}
use Rattle.rules.proofs.ByteLaws.{lines_on, bars_lf, row_early}
use Rattle.rules.proofs.FaultLaws.{Place, starts, codes, fills, ends, place, past_fields_lem, in_fields}
use Rattle.rules.proofs.FaultLaws.{code_fault, field_fault, byte_fault, end_fault, fault_start, fault_code}
use Rattle.rules.proofs.FaultLaws.{fault_field, fault_past, code_in, complete_last}
use Rattle.rules.proofs.OccurrenceLaws.{stamps, occurrences}
use Rattle.rules.proofs.CleanLaws.{Clean, clean_clear, clear_incomplete}
use Rattle.rules.proofs.SoundLaws.{Sound, sound, word_row_known}
use Rattle.field.proofs.LengthLaws.{length_is, code_is}
use Rattle.line.specs.Machine.{grown_of, word_row, found_of, code_bar_of, field_bar_of, bar_of}
use Rattle.line.specs.Machine.{Asked, control_of, in_field_of, past_of, start_of, step_of}
use Rattle.line.specs.declared.hot.Hot.{Hot}
use Rattle.line.specs.Machine.{Step, Next, Broken}
use Rattle.line.proofs.HotOf.{hot_of, hot_grown, hot_first, hot_coded, hot_moved, hot_ended}
use Rattle.line.proofs.OrderSim.{stands_is, misplaced_is, room_is}
use Rattle.line.proofs.FieldSim.{found_at, Answers, found_is, opening_told, field_fault_is}

-- the step that the rules ask for
abbrev step_for : Fault → Hot → Step
step_for clear h = Next h
step_for (breaks n f p) h = Broken n f

abbrev Does : List ℕ → ℕ → Step → Type 0
Does seen b s = s ≡ step_for (first_broken rules seen b) (hot_of (b ∷ seen))

-- what is kept of the field at hand tells its length
empty_is : (seen : List ℕ) → eqb (hot_of seen).field.length 0 ≡ empty (word seen)
empty_is seen = ap (λ n. eqb n 0) (length_is (hot_of seen).kind (word seen)) ∙ go (word seen)
  where
    go : (w : List ℕ) → eqb (length w) 0 ≡ empty w
    go [] = unfold empty in refl
    go (b ∷ w) = unfold empty in ne_eqb (suc (length w)) 0 (λ z. omega arith)

-- At the start of a line.
start_does : (seen : List ℕ) (b : ℕ) → bars seen ≡ 0 → complete seen ≡ false → Does seen b (start_of (hot_of seen) b)
unfolding start_of
start_does seen b e f =
    rw (sym (complete_last seen) ∙ f, fault_start seen b e)
    (split (eqb b bar) (λ t. rw (t, eqb-true b bar t, hot_first seen e)) (λ t. rw t))

-- In a field, a byte that is no bar.
byte_does : (seen : List ℕ) (b : ℕ) → eqb b bar ≡ false
    → pick (ltb b 32) (control_of (hot_of seen) b) (Next (grown_of (hot_of seen) b)) ≡ step_for (byte_fault seen b) (hot_of (b ∷ seen))
unfolding control_of
byte_does seen b inner =
    rw (empty_is seen)
    (split (ltb b 32)
    (λ t. rw t (split (empty (word seen) && is_end_byte b) (λ m. rw m) (λ m. rw m)))
    (λ t. rw (t, hot_grown seen b (ne_eqb b LF (λ z. let l = ltb-false b 32 t in omega arith)) inner)))

-- The bar after field 1.
module _ (seen : List ℕ) (e : bars seen ≡ 1) where
  word_row_is : word_row (hot_of seen) ≡ row_to_be seen
  unfolding word_row row_to_be row_of_word
  word_row_is = rw (row_early seen (omega arith), e, none_kind, length_is, code_is)

  known_row : eqb (row_to_be seen) none ≡ false → row_to_be seen < row_count
  unfolding row_to_be
  known_row t = word_row_known (word seen) t

  code_does : Sound seen → code_bar_of (hot_of seen) (stamps (rows seen)) (occurrences (rows seen)) (row_to_be seen)
      ≡ step_for (code_fault seen) (hot_of (bar ∷ seen))
  unfolding code_bar_of
  code_does s =
      let r = row_to_be seen in
      split (eqb r none) (λ t. rw t)
      (λ t. let row = known_row t in
      let room = room_is (rows seen) r row (stood_rows (rows seen) s.stood) in
      rw (t, stands_is (rows seen) s.stood r row, misplaced_is seen (omega arith) s r, room)
      (split (can_stand r (rows seen))
      (λ c. rw c
      (split (is_data r && opened_by "1" (lines seen) || is_closing r && opened_by "0" (lines seen)) (λ m. rw m)
      (λ m. rw m (split (has_room r (rows seen)) (λ n. rw (n, hot_coded seen e)) (λ n. rw n)))))
      (λ c. rw c)))

-- The bar after a later field.
field_does : (seen : List ℕ) (a : Asked) → Answers seen a → 2 ≤ bars seen → bars seen ≤ fields (row_at_hand seen) → Sound seen
    → field_bar_of (hot_of seen) (found_of (hot_of seen) a) ≡ step_for (field_fault seen) (hot_of (bar ∷ seen))
unfolding field_bar_of
field_does seen a answers late within s =
    rw (found_is seen late s within a answers, field_fault_is seen)
    (split (eqb (found_at seen) 0)
    (λ t. rw (t, hot_moved seen late (s.known late).0 within (opening_told seen (eqb-true (found_at seen) 0 t))))
    (λ t. rw t))

-- Past the last field.
end_does : (seen : List ℕ) (b : ℕ) → row_at_hand seen < row_count → 3 ≤ bars seen → fields (row_at_hand seen) < bars seen
    → past_of (hot_of seen) b ≡ step_for (end_fault seen b) (hot_of (b ∷ seen))
unfolding past_of is_end_byte
end_does seen b known h past =
    rw (empty_is seen)
    (split (empty (word seen))
    (λ t. rw t
    (split (eqb b CR)
    (λ c. rw (c, eqb-true b CR c, hot_grown seen CR refl refl))
    (λ c. rw c (split (eqb b LF) (λ d. rw d) (λ d. rw d)))))
    (λ t. rw t (split (eqb b LF) (λ c. rw (c, eqb-true b LF c, hot_ended seen known h past)) (λ c. rw c))))

-- A byte of a field, whichever it is.
module _ (seen : List ℕ) (b : ℕ) (s : Sound seen) (a : Asked) (answers : Answers seen a) where
  abbrev in_at : Step
  in_at = in_field_of (hot_of seen) (stamps (rows seen)) (occurrences (rows seen)) a b

  code_step : bars seen ≡ 1 → Does seen b in_at
  unfolding in_field_of bar_of
  code_step e =
      rw (fault_code seen b e)
      (split (eqb b bar)
      (λ t. rw (t, eqb-true b bar t, eq-eqb (bars seen) 1 e, word_row_is seen e) (code_does seen e s))
      (λ t. rw t (byte_does seen b t)))

  field_step : 2 ≤ bars seen → in_field seen ≡ true → Does seen b in_at
  unfolding in_field_of bar_of
  field_step h i =
      rw (fault_field seen b h i)
      (split (eqb b bar)
      (λ t. rw (t, eqb-true b bar t, ne_eqb (bars seen) 1 (λ z. omega arith)) (field_does seen a answers h (in_fields seen i) s))
      (λ t. rw t (byte_does seen b t)))

-- After 9999's LF no byte passes, so that the file has ended only at the start of a line.
finished_on : (seen : List ℕ) (b : ℕ) → eqb b LF ≡ false → complete (b ∷ seen) ≡ complete seen
unfolding complete
finished_on seen b t = rw (lines_on seen b t)

finished_start : (seen : List ℕ) → Clean seen → complete seen ≡ true → bars seen ≡ 0
finished_start [] c f = unfold bars line_at_hand cut in refl
finished_start (b ∷ seen) c f =
    split (eqb b LF) (λ t. rw (eqb-true b LF t) (bars_lf seen))
    (λ t. both f (finished_on seen b t ∙ clear_incomplete seen b (clean_clear seen b c)))

-- The step, by where the byte stands.
module _ (seen : List ℕ) (b : ℕ) (c : Clean seen) (a : Asked) (answers : Answers seen a) where
  s : Sound seen
  s = sound seen c

  abbrev step_at : Step
  step_at =
      pick (eqb (bars seen) 0) (start_of (hot_of seen) b)
      (pick (ltb (fields (row_at_hand seen)) (bars seen)) (past_of (hot_of seen) b) (in_at seen b s a answers))

  over : complete seen ≡ true → step_at ≡ Broken 15 0
  unfolding start_of
  over f = rw (eq-eqb (bars seen) 0 (finished_start seen c f), sym (complete_last seen) ∙ f)

  in_step : 1 ≤ bars seen → in_field seen ≡ true → step_at ≡ in_at seen b s a answers
  in_step h i = rw (ne_eqb (bars seen) 0 (λ z. omega arith), le-ltb (fields (row_at_hand seen)) (bars seen) (in_fields seen i))

  goes_on_lem : complete seen ≡ false → Does seen b step_at
  goes_on_lem f = go (place seen)
    where
      go : Place seen → Does seen b step_at
      go (starts z) = rw (eq-eqb (bars seen) 0 z) (start_does seen b z f)
      go (codes e) = in_step (omega arith) (code_in seen e) ∙ code_step seen b s a answers e
      go (fills h i) = in_step (omega arith) i ∙ field_step seen b s a answers h i
      go (ends h p) =
          let l = past_fields_lem seen p in
          rw (ne_eqb (bars seen) 0 (λ z. omega arith), lt-ltb (fields (row_at_hand seen)) (bars seen) l, fault_past seen b p)
          (end_does seen b (s.known h).0 (omega (arith, fields_two (row_at_hand seen) (s.known h).0)) l)

  pub step_is : step_of (hot_of seen) (stamps (rows seen)) (occurrences (rows seen)) a b
      ≡ step_for (fault seen b) (hot_of (b ∷ seen))
  unfolding step_of fault fault_by full
  step_is =
      split (leb byte_limit (length seen)) (λ t. rw t)
      (λ t. rw t (split (complete seen) (λ f. rw f (over f)) (λ f. rw f (goes_on_lem f))))
