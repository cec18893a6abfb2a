-- Views of the calls, at every state: a view has a constructor for each answer that the call can give, with what is known of the
-- state there, and a law that the call is one of them. The demands (Demands.antt) are proved by the cases of a view.
use mathlib.Core.Path.{◌≡◌, refl, sym, subst}
use mathlib.Core.Bool.{Bool, true, false}
use mathlib.Core.List.{List, ◌++◌}
use Prim.Native.Nat.{ℕ, ◌+◌}
use lib.Dec.{eqb, ltb}
use lib.ListN.{length, drop}
use borrow.Author.Tests.{eqb-false}
use Rattle.layout.specs.Pick.{pick}
use Rattle.layout.specs.Rows.{row_count, row9999}
use Rattle.state.specs.Answers.{numbers}
use Rattle.state.specs.Piece.{kept_of}
use Rattle.state.specs.Calls.{unchanged, check_of, final_answer_of, finally_unchanged, finish_of, report_of, reported_of}
use Rattle.state.specs.Ranges.{ranged_of}
use Rattle.rules.specs.Bytes.{AllBytes}
use Rattle.sef.specs.Promises.{Reports}
use Rattle.state.specs.declared.State.{State}
use Rattle.state.specs.declared.answers.Checked.{Checked}
use Rattle.state.specs.declared.answers.Finished.{Finished}
use Rattle.state.specs.declared.answers.Answer.TheVariants as Piece
use Rattle.state.specs.declared.answers.FinalAnswer.{FinalAnswer}
use Rattle.state.specs.declared.answers.FinalAnswer.TheVariants as Final
use Rattle.state.specs.declared.answers.ReportAnswer.{ReportAnswer}
use Rattle.state.specs.declared.answers.ReportAnswer.TheVariants as Report
use Rattle.sef.proofs.InRangeLaws.{Pieces, check_pieces, Finishing, finish_finishing}
use Rattle.state.proofs.CallCases.{check_damaged, finish_damaged}

-- A piece at any state: 19, or what it comes to at a state in range.
pub data AnyPiece (s : State) (piece : List ℕ) : Checked → Type 0 where
  damaged : ranged_of s ≡ false → AnyPiece s piece (unchanged Piece.Damaged s)
  ranged : ranged_of s ≡ true → {c : Checked} → Pieces s piece c → AnyPiece s piece c

pub any_piece : (s : State) (piece : List ℕ) → AllBytes piece → AnyPiece s piece (check_of s piece)
any_piece s piece all = go (ranged_of s) refl
  where
    go : (t : Bool) → ranged_of s ≡ t → AnyPiece s piece (check_of s piece)
    go true e = ranged e (check_pieces s e piece all)
    go false e = subst (AnyPiece s piece) (sym (check_damaged s piece e)) (damaged e)

-- A finish at any state: 19, or what it comes to at a state in range.
pub data AnyFinish (s : State) : Finished → Type 0 where
  damaged : ranged_of s ≡ false → AnyFinish s (finally_unchanged Final.Damaged s)
  ranged : ranged_of s ≡ true → {c : Finished} → Finishing s c → AnyFinish s c

pub any_finish : (s : State) → AnyFinish s (finish_of s)
any_finish s = go (ranged_of s) refl
  where
    go : (t : Bool) → ranged_of s ≡ t → AnyFinish s (finish_of s)
    go true e = ranged e (finish_finishing s e)
    go false e = subst (AnyFinish s) (sym (finish_damaged s e)) (damaged e)

-- A report at any state: 19, 18, or the counts.
pub data AnyReport (s : State) (before : List ℕ) : ReportAnswer → List ℕ → Type 0 where
  damaged : ranged_of s ≡ false → AnyReport s before Report.Damaged before
  no_room : ranged_of s ≡ true → AnyReport s before Report.NoRoom before
  writes : ranged_of s ≡ true
      → AnyReport s before (Report.Written s.hot.lines s.hot.bytes) (s.tally.counts ++ drop row_count before)

any_report : (s : State) (before : List ℕ) → AnyReport s before (report_of s before) (reported_of s before)
unfolding report_of reported_of
any_report s before = go (ranged_of s) refl (ltb (length before) row_count)
  where
    go : (t : Bool) → ranged_of s ≡ t → (l : Bool)
        → AnyReport s before (pick t (pick l Report.NoRoom (Report.Written s.hot.lines s.hot.bytes)) Report.Damaged)
        (pick t (pick l before (s.tally.counts ++ drop row_count before)) before)
    go true e true = no_room e
    go true e false = writes e
    go false e l = damaged e

pub report_any : (s : State) (before : List ℕ) (r : ReportAnswer) (after : List ℕ) → Reports s before r after
    → AnyReport s before r after
report_any s before r after c = rw (c.exact, c.buffer) (any_report s before)

-- The final answer, by its tests.
pub data Finals (s : State) : FinalAnswer → Type 0 where
  accepts : Finals s (Final.Accepted s.hot.lines s.hot.bytes)
  short : Finals s (Final.Refused (numbers 14 (s.hot.lines + 1) 0 0 s.hot.lines s.hot.bytes))
  keeps : (s.rule ≡ 0 → ⊥) → Finals s (Final.Refused (kept_of s))

pub finals : (s : State) → Finals s (final_answer_of s)
unfolding final_answer_of
finals s = go (eqb s.rule 0) refl (eqb s.hot.last row9999)
  where
    go : (z : Bool) → eqb s.rule 0 ≡ z → (t : Bool)
        → Finals s (pick z (pick t (Final.Accepted s.hot.lines s.hot.bytes)
        (Final.Refused (numbers 14 (s.hot.lines + 1) 0 0 s.hot.lines s.hot.bytes))) (Final.Refused (kept_of s)))
    go true e true = accepts
    go true e false = short
    go false e t = keeps (eqb-false s.rule 0 e)
