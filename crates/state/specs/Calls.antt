-- What each call gives back, at every state: the exact answer, the next state, and what a lent buffer then holds.
use Rattle.std.specs.Prelude.{true, List, ◌++◌, ℕ, ◌+◌, eqb, ltb, length, drop}
use Rattle.layout.specs.Pick.{pick}
use Rattle.layout.specs.Rows.{row_count, row9999}
use Rattle.state.specs.Answers.{numbers}
use Rattle.state.specs.Piece.{state_of, kept_of, run_of}
use Rattle.state.specs.Ranges.{ranged_of}
use Rattle.state.specs.declared.State.{State}
use Rattle.state.specs.declared.answers.Checked.{Checked}
use Rattle.state.specs.declared.answers.Finished.{Finished}
use Rattle.state.specs.declared.answers.Answer.{Answer}
use Rattle.state.specs.declared.answers.Answer.TheVariants as Piece
use Rattle.state.specs.declared.answers.FinalAnswer.{FinalAnswer}
use Rattle.state.specs.declared.answers.FinalAnswer.TheVariants as Final
use Rattle.state.specs.declared.answers.ReportAnswer.{ReportAnswer}
use Rattle.state.specs.declared.answers.ReportAnswer.TheVariants as Report

abbrev pub unchanged : Answer → State → Checked
unchanged a s = record { answer = a; state = s }

-- 19 is looked at first, then 17
unfoldable pub check_of : State → List ℕ → Checked
check_of s piece =
    pick (ranged_of s)
    (pick s.finished (unchanged Piece.Late s)
    (pick (eqb s.rule 0) (run_of s.hot s.tally piece) (unchanged (Piece.Refused (kept_of s)) s)))
    (unchanged Piece.Damaged s)

-- 14: "finish asked before 9999's LF has come"
unfoldable pub final_answer_of : State → FinalAnswer
final_answer_of s =
    pick (eqb s.rule 0)
    (pick (eqb s.hot.last row9999) (Final.Accepted s.hot.lines s.hot.bytes)
    (Final.Refused (numbers 14 (s.hot.lines + 1) 0 0 s.hot.lines s.hot.bytes)))
    (Final.Refused (kept_of s))

abbrev pub closed_of : State → State
closed_of s = state_of s.hot s.rule s.field s.position true s.tally

abbrev pub finally_unchanged : FinalAnswer → State → Finished
finally_unchanged a s = record { answer = a; state = s }

unfoldable pub finish_of : State → Finished
finish_of s =
    pick (ranged_of s)
    (pick s.finished (finally_unchanged Final.Late s) (record { answer = final_answer_of s; state = closed_of s }))
    (finally_unchanged Final.Damaged s)

-- 19 is looked at first, then 18; a refused report writes nothing
unfoldable pub report_of : State → List ℕ → ReportAnswer
report_of s before =
    pick (ranged_of s)
    (pick (ltb (length before) row_count) Report.NoRoom (Report.Written s.hot.lines s.hot.bytes))
    Report.Damaged

unfoldable pub reported_of : State → List ℕ → List ℕ
reported_of s before =
    pick (ranged_of s) (pick (ltb (length before) row_count) before (s.tally.counts ++ drop row_count before)) before
