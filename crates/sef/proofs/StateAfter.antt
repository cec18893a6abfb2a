-- The state after the bytes received, as a function of them, and what each call makes of it.
use mathlib.Core.Path.{◌≡◌, ◌∙◌, refl, sym, ap}
use mathlib.Core.Bool.{true, false}
use mathlib.Core.List.{List, [], ◌∷◌, reverse_aux}
use mathlib.Core.Logic.{⊎_elim}
use Prim.Native.Nat.{ℕ}
use native.Mathlib.Omega.{arith}
use native.Mathlib.Numerals.{add-one}
use lib.Dec.{eqb}
use lib.ListN.{length}
use borrow.Author.Tests.{ne_eqb}
use Rattle.layout.specs.Rows.{row9999}
use Rattle.rules.specs.Bytes.{lines, rows}
use Rattle.rules.specs.Order.{last}
use Rattle.rules.specs.Counts.{counts_of_rows, totals_of_rows}
use Rattle.rules.specs.Rules.{Fault, clear, breaks, fault}
use Rattle.rules.specs.Verdict.{Verdict, still_open, refused, accepted, verdict, standing, counts, totals, finish_verdict}
use Rattle.rules.proofs.TestLaws.{split}
use Rattle.rules.proofs.FaultLaws.{complete_last}
use Rattle.rules.proofs.OccurrenceLaws.{stamps, occurrences}
use Rattle.rules.proofs.CleanLaws.{Clean, Refused, clean_next, verdict_broken, verdict_stays, standing_refused, standing_clean}
use Rattle.rules.proofs.CleanLaws.{clean_or_refused, finish_clean, finish_refused}
use Rattle.line.specs.Machine.{position_of}
use Rattle.state.specs.Answers.{numbers_of, said, finally_said}
use Rattle.line.specs.Tally.{tally_of}
use Rattle.state.specs.Piece.{open_of, stopped_of, run_of, kept_of}
use Rattle.state.specs.Calls.{check_of, final_answer_of, finish_of}
use Rattle.state.specs.Ranges.{ranged_of}
use Rattle.line.specs.declared.tally.Tally.{Tally}
use Rattle.state.specs.declared.answers.Checked.{Checked}
use Rattle.line.proofs.HotOf.{hot_of}
use Rattle.line.proofs.Sim.{step_is}
use Rattle.line.proofs.StatementLaws.{stated_of_rows}
use Rattle.line.proofs.PairLaws.{pairs_of}
use Rattle.line.proofs.PositionSim.{position_told}
use Rattle.sef.proofs.ArrayLaws.{counts_next, stamps_next, occurrences_next, totals_next, stated_next, pairs_next}
use Rattle.sef.proofs.ArrayLaws.{answers}
use Rattle.sef.proofs.NumberLaws.{fault_number}

-- while no byte has broken a rule, and where one has broken rule n at the field f
abbrev tally_at : List ℕ → Tally
tally_at seen =
    tally_of (counts_of_rows (rows seen)) (stamps (rows seen)) (occurrences (rows seen)) (totals_of_rows (rows seen))
    (stated_of_rows (lines seen)) (pairs_of (lines seen))

abbrev pub open_at : List ℕ → Checked
open_at seen = open_of (hot_of seen) (tally_at seen)

abbrev stopped_at : List ℕ → ℕ → ℕ → Checked
stopped_at seen n f = stopped_of (hot_of seen) (tally_at seen) n f

abbrev run_at : List ℕ → List ℕ → Checked
run_at seen piece = run_of (hot_of seen) (tally_at seen) piece

-- what check gives back after the bytes received: it keeps those that stand, and the refusal
unfoldable pub checked_by : Verdict → List ℕ → Checked
checked_by (still_open l n) stood = open_at stood
checked_by (refused n line f p l k) stood = stopped_at stood n f
checked_by (accepted l n) stood = open_at stood

unfoldable pub checked_after : List ℕ → Checked
checked_after seen = checked_by (verdict seen) (standing seen)

module _ (seen : List ℕ) where
  pub after_clean : Clean seen → checked_after seen ≡ open_at seen
  unfolding checked_after checked_by
  after_clean c = rw (c, standing_clean seen c)

  after_refused : (r : Refused seen) → checked_after seen ≡ stopped_at r.before r.number r.named
  unfolding checked_after checked_by
  after_refused r = rw (r.says, r.left)

-- A piece after a clean history, byte by byte.
module _ (seen : List ℕ) (b : ℕ) (c : Clean seen) where
  run_clear : (rest : List ℕ) → fault seen b ≡ clear → run_at seen (b ∷ rest) ≡ run_at (b ∷ seen) rest
  unfolding run_of
  run_clear rest e =
      rw (
        step_is seen b c _ (answers seen c),
        e,
        counts_next seen b c e,
        stamps_next seen b c e,
        occurrences_next seen b c e,
        totals_next seen b c e,
        stated_next seen b c e,
        pairs_next seen b c e,
      )

  run_broken : (rest : List ℕ) (n f p : ℕ) → fault seen b ≡ breaks n f p → run_at seen (b ∷ rest) ≡ stopped_at seen n f
  unfolding run_of
  run_broken rest n f p e = rw (step_is seen b c _ (answers seen c), e)

  after_broken : (n f p : ℕ) → fault seen b ≡ breaks n f p → checked_after (b ∷ seen) ≡ stopped_at seen n f
  unfolding checked_after checked_by
  after_broken n f p e =
      let v = verdict_broken seen b c n f p e in
      rw (v, standing_refused seen b n _ f p _ _ v, standing_clean seen c)

-- what was refused stays refused
module _ (n line f p l k : ℕ) where
  after_one : (seen : List ℕ) (b : ℕ) → verdict seen ≡ refused n line f p l k → checked_after (b ∷ seen) ≡ checked_after seen
  unfolding checked_after
  after_one seen b e =
      let v = verdict_stays seen b n line f p l k e in
      rw (v, e, standing_refused seen b n line f p l k v)

  after_more : (piece seen : List ℕ) → verdict seen ≡ refused n line f p l k
      → checked_after (reverse_aux piece seen) ≡ checked_after seen
  after_more [] seen e = refl
  after_more (b ∷ piece) seen e = after_more piece (b ∷ seen) (verdict_stays seen b n line f p l k e) ∙ after_one seen b e

run_after : (piece seen : List ℕ) → Clean seen → run_at seen piece ≡ checked_after (reverse_aux piece seen)
run_after [] seen c = unfold run_of in sym (after_clean seen c)
run_after (b ∷ piece) seen c = go (fault seen b) refl (λ e. run_after piece (b ∷ seen) (clean_next seen b c e))
  where
    go : (t : Fault) → fault seen b ≡ t
        → (fault seen b ≡ clear → run_at (b ∷ seen) piece ≡ checked_after (reverse_aux piece (b ∷ seen)))
        → run_at seen (b ∷ piece) ≡ checked_after (reverse_aux piece (b ∷ seen))
    go clear e ih = run_clear seen b c piece e ∙ ih e
    go (breaks n f p) e ih =
        run_broken seen b c piece n f p e
        ∙ sym (after_more n _ f p _ _ piece (b ∷ seen) (verdict_broken seen b c n f p e) ∙ after_broken seen b c n f p e)

-- the position that is kept is the one that the rules give
refused_position : (seen : List ℕ) (r : Refused seen) → position_of (hot_of r.before) r.number ≡ r.position
refused_position seen r = position_told r.before r.byte r.number r.named r.position r.broken

-- The calls, at the state of the bytes received, which is in range.
refused_broken : (seen : List ℕ) (r : Refused seen) → r.number ≡ 0 → ⊥
refused_broken seen r z = omega (arith, fault_number r.before r.byte r.number r.named r.position r.broken)

module _ (seen : List ℕ) (ranged : ranged_of (checked_after seen).state ≡ true) where
  clean_ranged : Clean seen → ranged_of (open_at seen).state ≡ true
  clean_ranged c = rw (after_clean seen c) at ranged

  refused_ranged : (r : Refused seen) → ranged_of (stopped_at r.before r.number r.named).state ≡ true
  refused_ranged r = rw (after_refused seen r) at ranged

  -- a piece: what check gives back is the state after the bytes joined
  open_joins : (piece : List ℕ) → Clean seen → check_of (open_at seen).state piece ≡ run_at seen piece
  unfolding check_of
  open_joins piece c = let e = clean_ranged c in unfold open_of in rw e

  stopped_joins : (piece : List ℕ) (r : Refused seen)
      → check_of (stopped_at r.before r.number r.named).state piece ≡ stopped_at r.before r.number r.named
  unfolding check_of
  stopped_joins piece r =
      rw (refused_ranged r) (unfold stopped_of kept_of in rw (ne_eqb r.number 0 (refused_broken seen r)))

  pub check_after : (piece : List ℕ) → check_of (checked_after seen).state piece ≡ checked_after (reverse_aux piece seen)
  check_after piece =
      ⊎_elim (λ c. rw (after_clean seen c) (open_joins piece c ∙ run_after piece seen c))
      (λ r. ap (λ t. check_of t.state piece) (after_refused seen r) ∙ stopped_joins piece r
      ∙ sym (after_more r.number _ r.named r.position _ _ piece seen r.says ∙ after_refused seen r))
      (clean_or_refused seen)

  -- finish
  finish_open : Clean seen → finally_said (finish_of (open_at seen).state).answer ≡ finish_verdict seen
  unfolding finish_of
  finish_open c =
      rw (clean_ranged c)
      (unfold open_of final_answer_of in
      rw (finish_clean seen c, complete_last seen)
      (split (eqb (last (rows seen)) row9999) (λ t. unfold finally_said in rw t) (λ t. unfold finally_said in rw (t, add-one))))

  finish_stopped : (r : Refused seen)
      → finally_said (finish_of (stopped_at r.before r.number r.named).state).answer ≡ finish_verdict seen
  unfolding finish_of
  finish_stopped r =
      rw (refused_ranged r)
      (unfold stopped_of final_answer_of kept_of finally_said in
      rw (
        ne_eqb r.number 0 (refused_broken seen r),
        refused_position seen r,
        finish_refused seen _ _ _ _ _ _ r.says,
        add-one (length (lines r.before)),
        add-one (length r.before),
      ))

  pub finish_after_lem : finally_said (finish_of (checked_after seen).state).answer ≡ finish_verdict seen
  finish_after_lem =
      ⊎_elim
      (λ c. rw (after_clean seen c) (finish_open c))
      (λ r. rw (after_refused seen r) (finish_stopped r))
      (clean_or_refused seen)

-- what it says: the answer is the verdict of the bytes received, the counts are those of the lines that stand
module _ (seen : List ℕ) where
  said_stopped : (r : Refused seen) → said (stopped_at r.before r.number r.named).answer ≡ verdict seen
  unfolding stopped_of said
  said_stopped r = rw (r.says, refused_position seen r, add-one (length (lines r.before)), add-one (length r.before))

  said_open : Clean seen → said (open_at seen).answer ≡ verdict seen
  unfolding open_of said
  said_open c = sym c

  pub said_after : said (checked_after seen).answer ≡ verdict seen
  said_after =
      ⊎_elim
      (λ c. rw (after_clean seen c) (said_open c))
      (λ r. rw (after_refused seen r) (said_stopped r))
      (clean_or_refused seen)

  -- lines ended and bytes judged
  abbrev Ended : Checked → Type 0
  Ended c = (c.state.hot.lines ≡ (numbers_of (verdict seen)).lines) × (c.state.hot.bytes ≡ (numbers_of (verdict seen)).bytes)

  ended_open : Clean seen → Ended (open_at seen)
  unfolding open_of numbers_of
  ended_open c = rw c (refl, refl)

  ended_stopped : (r : Refused seen) → Ended (stopped_at r.before r.number r.named)
  unfolding stopped_of numbers_of
  ended_stopped r = rw r.says (refl, add-one (length r.before))

  pub ended_after : Ended (checked_after seen)
  ended_after =
      ⊎_elim
      (λ c. rw (after_clean seen c) (ended_open c))
      (λ r. rw (after_refused seen r) (ended_stopped r))
      (clean_or_refused seen)

  pub counts_after : (checked_after seen).state.tally.counts ≡ counts seen
  unfolding checked_after counts
  counts_after = go (verdict seen)
    where
      go : (v : Verdict) → (checked_by v (standing seen)).state.tally.counts ≡ counts_of_rows (rows (standing seen))
      go (still_open l n) = unfold checked_by open_of in refl
      go (refused n line f p l k) = unfold checked_by stopped_of in refl
      go (accepted l n) = unfold checked_by open_of in refl

  pub totals_after_lem : (checked_after seen).state.tally.totals ≡ totals seen
  unfolding checked_after totals
  totals_after_lem = go (verdict seen)
    where
      go : (v : Verdict) → (checked_by v (standing seen)).state.tally.totals ≡ totals_of_rows (rows (standing seen))
      go (still_open l n) = unfold checked_by open_of in refl
      go (refused n line f p l k) = unfold checked_by stopped_of in refl
      go (accepted l n) = unfold checked_by open_of in refl

  pub open_after : (checked_after seen).state.finished ≡ false
  unfolding checked_after
  open_after = go (verdict seen)
    where
      go : (v : Verdict) → (checked_by v (standing seen)).state.finished ≡ false
      go (still_open l n) = unfold checked_by open_of in refl
      go (refused n line f p l k) = unfold checked_by stopped_of in refl
      go (accepted l n) = unfold checked_by open_of in refl
