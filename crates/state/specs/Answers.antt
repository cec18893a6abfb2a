-- Document 01's number and values for each answer of a call.
use Rattle.std.specs.Prelude.{ℕ}
use Rattle.rules.specs.Verdict.{Verdict, still_open, refused, accepted}
use Rattle.state.specs.declared.answers.Numbers.{Numbers}
use Rattle.state.specs.declared.answers.Answer.{Answer}
use Rattle.state.specs.declared.answers.Answer.TheVariants as Piece
use Rattle.state.specs.declared.answers.FinalAnswer.{FinalAnswer}
use Rattle.state.specs.declared.answers.FinalAnswer.TheVariants as Final
use Rattle.state.specs.declared.answers.ReportAnswer.{ReportAnswer}
use Rattle.state.specs.declared.answers.ReportAnswer.TheVariants as Report
use Rattle.state.specs.declared.answers.CallRefusal.{CallRefusal}
use Rattle.state.specs.declared.answers.CallRefusal.TheVariants as Call

-- "`refusal` is the number, 0 if none; `line` and `field` are the place, 0 if accepted; `lines` is lines ended; `bytes` is bytes
-- judged"; 02, request e: "Every answer then carries a position, 0 for all but 2 and 10"
abbrev pub numbers : ℕ → ℕ → ℕ → ℕ → ℕ → ℕ → Numbers
numbers refusal line field position lines bytes =
    record { refusal = refusal; line = line; field = field; position = position; lines = lines; bytes = bytes }

unfoldable pub numbers_of : Verdict → Numbers
numbers_of (still_open l n) = numbers 0 0 0 0 l n
numbers_of (refused number line field position l n) = numbers number line field position l n
numbers_of (accepted l n) = numbers 0 0 0 0 l n

abbrev refused_by : Numbers → Verdict
refused_by n = refused n.refusal n.line n.field n.position n.lines n.bytes

-- "These three give line 0, lines ended 0 and bytes judged 0"
abbrev late : Verdict
late = refused 17 0 0 0 0 0

abbrev damaged : Verdict
damaged = refused 19 0 0 0 0 0

-- the answer to a piece
unfoldable pub said : Answer → Verdict
said (Piece.Open l n) = still_open l n
said (Piece.Refused n) = refused_by n
said Piece.Late = late
said Piece.Damaged = damaged

-- the answer to a finish
unfoldable pub finally_said : FinalAnswer → Verdict
finally_said (Final.Accepted l n) = accepted l n
finally_said (Final.Refused n) = refused_by n
finally_said Final.Late = late
finally_said Final.Damaged = damaged

-- the answer to a report: "The other answers, 17 to 19 apart, give these two as well", lines ended and bytes judged
unfoldable pub report_said : ReportAnswer → Numbers
report_said (Report.Written l n) = numbers 0 0 0 0 l n
report_said Report.NoRoom = numbers 18 0 0 0 0 0
report_said Report.Damaged = numbers 19 0 0 0 0 0

-- the numbers of a call that is refused, and no line of the file
abbrev pub call_number : CallRefusal → ℕ
call_number Call.Late = 17
call_number Call.NoRoom = 18
call_number Call.Damaged = 19
