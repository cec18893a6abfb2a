-- The arrays after a byte that breaks no rule: what is kept for each row and each block is that of the lines ended.
use mathlib.Core.Path.{◌≡◌, ◌∙◌, refl, sym, ap}
use mathlib.Core.Bool.{true}
use mathlib.Core.List.{List, ◌∷◌}
use Prim.Native.Nat.{ℕ, suc, ◌+◌, ◌<◌}
use native.Mathlib.Nat.{zero-add, add-mul-mod_self_left, mod-eq_of_lt, add-mul-div_left, div-eq_of_lt}
use native.Mathlib.Numerals.{add-one}
use native.Mathlib.Omega.{arith}
use lib.Dec.{eqb}
use lib.ListN.{set}
use borrow.Author.Tests.{lt-ltb, eqb-true}
use Rattle.layout.specs.Pick.{pick}
use Rattle.layout.specs.Rows.{row_count, none, row9900, row9999, block, blocks}
use Rattle.layout.proofs.StartLaws.{block_below}
use Rattle.rules.specs.Bytes.{LF, lines, line_at_hand, field, row_of_word, rows, row_at_hand}
use Rattle.rules.specs.Counts.{lines_of_row, counts_of_rows, totals_of_rows}
use Rattle.rules.specs.Statements.{occurs}
use Rattle.rules.specs.Rules.{clear, fault}
use Rattle.rules.proofs.TestLaws.{split, pick_le}
use Rattle.rules.proofs.AllRows.{stood_rows}
use Rattle.rules.proofs.ByteLaws.{lines_on, rows_on, rows_lf, lines_lf, rows_length, bars_lines}
use Rattle.rules.proofs.FaultLaws.{past_late, past_fields_lem}
use Rattle.rules.proofs.CountLaws.{lines_most, counts_line, totals_at, totals_line}
use Rattle.rules.proofs.OccurrenceLaws.{stamps, occurrences, stamps_line, occurrences_line}
use Rattle.rules.proofs.CleanLaws.{Clean, clear_rules}
use Rattle.rules.proofs.SoundLaws.{sound, lf_past}
use Rattle.layout.proofs.PeriodLaws.{has_period}
use Rattle.line.specs.Machine.{entry_of, number_unit, all_hold_of, asked_of}
use Rattle.field.specs.Streaming.{cap}
use Rattle.line.specs.Tally.{set_of, counts_with, stamps_with, occurrences_with, raised_of, totals_with, stated_of, stated_with}
use Rattle.line.specs.Tally.{paired_of, pairs_with}
use Rattle.line.proofs.HotOf.{hot_of, says, says_stated, says_pair}
use Rattle.line.proofs.PairLaws.{pair_of, pairs_of, entry_count}
use Rattle.line.proofs.FieldSim.{holds, Answers}
use Rattle.line.proofs.PairSim.{repeated_is, crowded_is}
use Rattle.line.proofs.StatementLaws.{word_row_le, word_row_small, stated_by, stated_of_rows, stated_other, stated_line, all_hold_is}
use Rattle.line.proofs.OrderSim.{used_is}

module _ (seen : List ℕ) (b : ℕ) (c : Clean seen) (e : fault seen b ≡ clear) where
  -- an LF ends a line whose row is known
  ended_row : b ≡ LF → row_at_hand seen < row_count
  ended_row p = ((sound seen c).known (past_late seen (lf_past seen (rw p at (clear_rules seen b e))))).0

  -- an array that a line changes, and other bytes do not change
  kept_next : (kept : List ℕ → List ℕ) (changed : List ℕ)
      → (b ≡ LF → row_at_hand seen < row_count → changed ≡ kept (row_at_hand seen ∷ rows seen))
      → pick (eqb b LF) changed (kept (rows seen)) ≡ kept (rows (b ∷ seen))
  kept_next kept changed line =
      split (eqb b LF)
      (λ t. let p = eqb-true b LF t in
      rw t (line p (ended_row p) ∙ ap kept (sym (rows_lf seen) ∙ ap (λ x. rows (x ∷ seen)) (sym p))))
      (λ t. rw t (ap kept (sym (rows_on seen b t))))

  -- one that it changes at its row alone
  array_next : (kept : List ℕ → List ℕ) (v : ℕ)
      → (b ≡ LF → row_at_hand seen < row_count → kept (row_at_hand seen ∷ rows seen) ≡ set (kept (rows seen)) (row_at_hand seen) v)
      → pick (eqb b LF) (set_of (kept (rows seen)) (row_at_hand seen) v) (kept (rows seen)) ≡ kept (rows (b ∷ seen))
  unfolding set_of
  array_next kept v line = kept_next kept _ (λ p row. rw (lt-ltb (row_at_hand seen) row_count row) (sym (line p row)))

  pub counts_next : counts_with (hot_of seen) b (counts_of_rows (rows seen)) ≡ counts_of_rows (rows (b ∷ seen))
  unfolding counts_with
  counts_next =
      array_next counts_of_rows _
      (λ p row. rw (entry_count (rows seen) (row_at_hand seen) row, add-one) (counts_line (rows seen) (row_at_hand seen) row))

  pub stamps_next : stamps_with (hot_of seen) (hot_of (b ∷ seen)).lines b (stamps (rows seen)) ≡ stamps (rows (b ∷ seen))
  unfolding stamps_with
  stamps_next =
      array_next stamps _ (λ p row. rw (p, lines_lf seen, ← rows_length seen) (stamps_line (rows seen) (row_at_hand seen) row))

  pub occurrences_next : occurrences_with (hot_of seen) b (stamps (rows seen)) (occurrences (rows seen))
      ≡ occurrences (rows (b ∷ seen))
  unfolding occurrences_with
  occurrences_next =
      let all = stood_rows (rows seen) (sound seen c).stood in
      array_next occurrences _
      (λ p row. rw (used_is (rows seen) (row_at_hand seen) row all, add-one) (occurrences_line (rows seen) (row_at_hand seen) row))

  -- and the totals, at its block
  pub totals_next : totals_with (hot_of seen) b (totals_of_rows (rows seen)) ≡ totals_of_rows (rows (b ∷ seen))
  unfolding totals_with raised_of
  totals_next =
      kept_next totals_of_rows _
      (λ p row. let l = block_below (row_at_hand seen) row in
      rw (lt-ltb (block (row_at_hand seen)) blocks l, totals_at (rows seen) (block (row_at_hand seen)) l, add-one)
      (sym (totals_line (rows seen) (row_at_hand seen) l)))

  -- and what is stated, at the row that a 9900 line speaks of
  stated_lf : b ≡ LF → eqb (row_at_hand seen) row9900 ≡ true
      → stated_of (stated_of_rows (lines seen)) (says seen) ≡ stated_of_rows (lines (b ∷ seen))
  unfolding stated_of row_at_hand
  stated_lf p s =
      let past = past_fields_lem seen (lf_past seen (rw p at (clear_rules seen b e))) in
      let line = line_at_hand seen in
      let said = says_stated seen past (eqb-true (row_at_hand seen) row9900 s) in
      let small = word_row_small (field 2 line) in
      let row = add-mul-mod_self_left (row_of_word (field 2 line)) number_unit (stated_by (field 3 line)) ∙ mod-eq_of_lt small in
      let number =
      add-mul-div_left (row_of_word (field 2 line)) (stated_by (field 3 line)) {y = number_unit} (omega arith)
      ∙ ap (λ k. k + stated_by (field 3 line)) (div-eq_of_lt small) ∙ zero-add (stated_by (field 3 line))
      in
      let known = lt-ltb (row_of_word (field 2 line)) (suc row_count) (omega (arith, word_row_le (field 2 line))) in
      rw (p, lines_lf seen, said, row, number, known)
      (stated_line line (lines seen) s (row_of_word (field 2 line)) refl)

  pub stated_next : stated_with (hot_of seen) b (stated_of_rows (lines seen)) ≡ stated_of_rows (lines (b ∷ seen))
  unfolding stated_with
  stated_next =
      split (eqb b LF)
      (λ t. split (eqb (row_at_hand seen) row9900)
      (λ s. rw (t, s) (stated_lf (eqb-true b LF t) s))
      (λ s. rw (t, s, eqb-true b LF t, lines_lf seen) (sym (stated_other (line_at_hand seen) (lines seen) (unfold row_at_hand in s)))))
      (λ t. rw (t, lines_on seen b t))

  -- and the pairs, at the next place of the line's row
  pairs_lf : b ≡ LF
      → paired_of (hot_of seen) (entry_of (counts_of_rows (rows seen)) (row_at_hand seen)) (pairs_of (lines seen)) ≡ pairs_of (line_at_hand seen ∷ lines seen)
  unfolding paired_of pairs_of pair_of rows row_at_hand
  pairs_lf p =
      let past = lf_past seen (rw p at (clear_rules seen b e)) in
      let late = past_late seen past in
      let known = ended_row p in
      rw (entry_count (rows seen) (row_at_hand seen) known)
      (split (has_period (row_at_hand seen))
      (λ t. rw (says_pair seen late (past_fields_lem seen past) known t))
      (λ t. rw t))

  pub pairs_next : pairs_with (hot_of seen) b (counts_of_rows (rows seen)) (pairs_of (lines seen)) ≡ pairs_of (lines (b ∷ seen))
  unfolding pairs_with
  pairs_next =
      split (eqb b LF)
      (λ t. let p = eqb-true b LF t in rw (t, p, lines_lf seen) (pairs_lf p))
      (λ t. rw (t, lines_on seen b t))

-- rules 20, 21 and 23, by what is kept
module _ (seen : List ℕ) (c : Clean seen) where
  few : (r : ℕ) → occurs r (row9999 ∷ rows seen) < cap
  unfolding occurs
  few r =
      let lines = lines_most r (row9999 ∷ rows seen) in
      let most = pick_le (eqb r none) 0 (lines_of_row r (row9999 ∷ rows seen)) _ (omega arith) lines in
      omega (arith, most, rows_length seen, bars_lines seen, (sound seen c).short)

  holds_is : all_hold_of (counts_of_rows (rows seen)) (stated_of_rows (lines seen)) ≡ holds seen
  unfolding rows
  holds_is = all_hold_is (lines seen) few

  pub answers : Answers seen (asked_of (hot_of seen) (counts_of_rows (rows seen)) (stated_of_rows (lines seen)) (pairs_of (lines seen)))
  answers =
      let s = sound seen c in
      record {
        of_holds = holds_is;
        of_pair = λ late within none at. (repeated_is seen s late within none at, crowded_is seen s late within none at);
      }
