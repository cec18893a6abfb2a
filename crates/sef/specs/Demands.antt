-- The tender's demands, and what document 01 says of the calls: a statement for each sentence, in its order.
-- Each is proved in proofs/Demands.antt under its own name, in small letters.
-- `Checks s piece r` says that r is what a piece gives back at the state s, `Finishes s r` the same of a finish, and
-- `Reports s before r after` that r is a report's answer, and `after` what its lent buffer then holds (Promises.antt).
use Rattle.std.specs.Prelude.{◌≡◌, true, false, List, [], ◌∷◌, ◌++◌, reverse, ◌⊎◌, ℕ, ◌+◌, ◌≤◌, ◌<◌, length, take, drop}
use Rattle.layout.specs.Rows.{row_count, block, is_closing, row0000, row0001, row9900, row9999}
use Rattle.layout.specs.Periods.{later_date}
use Rattle.rules.specs.Bytes.{row_of, rows}
use Rattle.rules.specs.Counts.{lines_of_row}
use Rattle.rules.specs.Periods.{most_pairs, PairsOnce}
use Rattle.rules.specs.Statements.{is_true}
use Rattle.rules.specs.Verdict.{Verdict, still_open, refused, accepted, verdict_of, final_of, counts_of}
use Rattle.rules.specs.Follows.{NoneBroken, Follows, FirstBroken, CutShort}
use Rattle.rules.specs.Groups.{are_neighbours, exchanged}
use Rattle.rules.specs.Totals.{closings_state, stated_by, lines_of, last_line, rows_of, block_count, IsAmong, IsThere}
use Rattle.line.specs.Machine.{most_bars}
use Rattle.state.specs.Answers.{numbers, numbers_of, said, finally_said, report_said}
use Rattle.state.specs.Piece.{fresh}
use Rattle.state.specs.Calls.{check_of}
use Rattle.rules.specs.Numbers.{is_rule}
use Rattle.state.specs.Ranges.{position_ranged, ranged_of}
use Rattle.rules.specs.Bytes.{AllBytes}
use Rattle.sef.specs.Promises.{Reached, Given, Checks, Finishes, Reports}
use Rattle.state.specs.declared.State.{State}
use Rattle.state.specs.declared.answers.Numbers.{Numbers}
use Rattle.state.specs.declared.answers.Checked.{Checked}
use Rattle.state.specs.declared.answers.Finished.{Finished}
use Rattle.state.specs.declared.answers.ReportAnswer.{ReportAnswer}
use Rattle.state.specs.declared.answers.Answer.TheVariants as Piece
use Rattle.state.specs.declared.answers.FinalAnswer.TheVariants as Final
use Rattle.state.specs.declared.answers.ReportAnswer.TheVariants as Report

-- The tender.

-- 1. "Every file gets an answer, also an empty or damaged one."
-- Each list of bytes can be handed over, and a finish then says accepted, or refused by a rule: 1 to 16, 20, 21, 23 or 24.
pub data Answered : Verdict → Type 0 where
  is_accepted : {l n : ℕ} → Answered (accepted l n)
  is_refused : {number line field position l n : ℕ} → is_rule number ≡ true → Answered (refused number line field position l n)

abbrev pub EveryFileAnswered : Type 0
EveryFileAnswered =
    ((file : List ℕ) → AllBytes file → Reached file (check_of fresh file).state)
    × ((file : List ℕ) (s : State) (r : Finished) → Reached file s → Finishes s r
    → Answered (finally_said r.answer))

-- "A refusal has one number of a fixed table, with line and field."
-- At every state each call's answer is in the table: nothing refused; a rule, 1 to 16, 20, 21, 23 or 24, with the line, lines ended
-- plus 1, a field and a position (which one, EveryAnswerPositioned says in words); or 17 to 19 alone.
pub data InTable : Verdict → Type 0 where
  is_open : (lines bytes : ℕ) → InTable (still_open lines bytes)
  accepts : (lines bytes : ℕ) → InTable (accepted lines bytes)
  by_rule : (number field position lines bytes : ℕ) → is_rule number ≡ true → field ≤ most_bars
      → position_ranged number position bytes ≡ true → InTable (refused number (lines + 1) field position lines bytes)
  of_call : (number : ℕ) → 17 ≤ number → number ≤ 19 → InTable (refused number 0 0 0 0 0)

pub data ReportInTable : ReportAnswer → Type 0 where
  writes : (lines bytes : ℕ) → ReportInTable (Report.Written lines bytes)
  refuses : (r : ReportAnswer) (number : ℕ) → 18 ≤ number → number ≤ 19 → report_said r ≡ numbers number 0 0 0 0 0
      → ReportInTable r

abbrev pub OneNumber : Type 0
OneNumber =
    ((s : State) (piece : List ℕ) (r : Checked) → AllBytes piece → Checks s piece r → InTable (said r.answer))
    × ((s : State) (r : Finished) → Finishes s r → InTable (finally_said r.answer))
    × ((s : State) (before : List ℕ) (r : ReportAnswer) (after : List ℕ) → Reports s before r after → ReportInTable r)

-- "A refused report writes nothing."
abbrev pub RefusedReportWritesNothing : Type 0
RefusedReportWritesNothing =
    (s : State) (before : List ℕ) (r : ReportAnswer) (after : List ℕ) → Reports s before r after
    → ((report_said r).refusal ≡ 0 → ⊥) → after ≡ before

-- 2. "A file is accepted exactly if it follows the layout;"
abbrev pub AcceptedExactly : Type 0
AcceptedExactly =
    (file : List ℕ) (s : State) (r : Finished) → Reached file s → Finishes s r
    → (Follows file → finally_said r.answer ≡ accepted (length (lines_of file)) (length file))
    × ((l n : ℕ) → finally_said r.answer ≡ accepted l n → Follows file)

-- "else the answer names the first place where a rule is broken." Rule 14 is broken by the end of the file.
abbrev pub FirstPlace : List ℕ → ℕ → ℕ → ℕ → ℕ → ℕ → ℕ → Type 0
FirstPlace file number line field position lines bytes =
    FirstBroken file number line field position lines bytes ⊎ CutShort file number line field position lines bytes

abbrev pub FirstPlaceNamed : Type 0
FirstPlaceNamed =
    (file : List ℕ) (s : State) (r : Finished) → Reached file s → Finishes s r → (number line field position lines bytes : ℕ)
    → (finally_said r.answer ≡ refused number line field position lines bytes
    → FirstPlace file number line field position lines bytes)
    × (FirstPlace file number line field position lines bytes
    → finally_said r.answer ≡ refused number line field position lines bytes)

-- 3. "A file may come in pieces cut at any bytes; the answer after each piece, the counts per code and the final answer
-- are those that the rules give for the joined bytes so far."
abbrev pub PiecesJoined : Type 0
PiecesJoined =
    (file : List ℕ) (s : State) → Reached file s
    → ((piece : List ℕ) (r : Checked) → Checks s piece r
    → (said r.answer ≡ verdict_of (file ++ piece)) × Reached (file ++ piece) r.state)
    × ((before : List ℕ) (r : ReportAnswer) (after : List ℕ) → Reports s before r after → (report_said r).refusal ≡ 0
    → after ≡ counts_of file ++ drop row_count before)
    × ((r : Finished) → Finishes s r → finally_said r.answer ≡ final_of file)

-- so it does not matter in what pieces it came
abbrev pub CutsDoNotMatter : Type 0
CutsDoNotMatter = (file : List ℕ) (s t : State) → Reached file s → Reached file t → s ≡ t

-- P holds of each file that is accepted, of its lines ended, and of the state that its finish gave back
abbrev pub OfAccepted : (List ℕ → ℕ → State → Type 0) → Type 0
OfAccepted P =
    (file : List ℕ) (s : State) (r : Finished) → Reached file s → Finishes s r
    → (l n : ℕ) → finally_said r.answer ≡ accepted l n → P file l r.state

-- "In an accepted file the block counts add up to its stated total."
-- The numbers that its closing lines state add up to the number that its last line, 9999, states, and that is its number of
-- lines. Each block that has a line has its closing, and what that states is the sum of the block's counts in the report.
pub record AddsUp (file : List ℕ) (lines : ℕ) (s : State) : Type 0 where
  pub last_is9999 : row_of (last_line (lines_of file)) ≡ row9999
  pub adds_up : closings_state (lines_of file) ≡ stated_by (last_line (lines_of file))
  pub total : stated_by (last_line (lines_of file)) ≡ lines
  pub each_block : (line : List ℕ) → IsAmong line (lines_of file) → IsThere (block (row_of line)) (lines_of file)
  pub each_closing : (line : List ℕ) → IsAmong line (lines_of file) → is_closing (row_of line) ≡ true
      → (before : List ℕ) (q : ReportAnswer) (after : List ℕ) → Reports s before q after → (report_said q).refusal ≡ 0
      → stated_by line ≡ block_count (block (row_of line)) (take row_count after)

abbrev pub BlockCountsAddUp : Type 0
BlockCountsAddUp = OfAccepted AddsUp

-- 02, request f: "Where a block 9 line states how often a code occurs, that must be true of the whole file".
-- Each 9900 line of an accepted file states what is true of the rows of all its lines, 9999 included.
abbrev pub StatementsTrue : Type 0
StatementsTrue =
    OfAccepted (λ file l s. (line : List ℕ) → IsAmong line (lines_of file) → row_of line ≡ row9900
    → is_true (rows (reverse file)) line ≡ true)

-- 02, request b: "two lines with the same pair of dates .. must be refused", and "a 65th different pair".
-- In an accepted file no line of a row that has a period has a pair that a line before has, and such a row has at most 64 lines.
abbrev pub OncePerPeriod : Type 0
OncePerPeriod =
    OfAccepted (λ file l s. PairsOnce (lines_of file)
    × ((r : ℕ) → 1 ≤ later_date r → lines_of_row r (rows (reverse file)) ≤ most_pairs))

-- 02, request m: "if a file is accepted and two neighbouring lines of level 2 or deeper with one parent change places, each with all
-- its dependants, the new file is accepted with the same counts for every code".
-- In whatever pieces either file came: both are accepted or neither is, the answer has the same lines and bytes, a report writes the same,
-- and the totals are the same.
abbrev pub GroupsMayBeExchanged : Type 0
GroupsMayBeExchanged =
    (before first second after : List ℕ) → are_neighbours before first second after ≡ true
    → (s : State) (r : Finished) → Reached (before ++ first ++ second ++ after) s → Finishes s r
    → (t : State) (q : Finished) → Reached (exchanged before first second after) t → Finishes t q → (l n : ℕ)
    → (finally_said r.answer ≡ accepted l n
    → (finally_said q.answer ≡ accepted l n)
    × ((buffer : List ℕ) (a b : ReportAnswer) (x y : List ℕ) → Reports r.state buffer a x → Reports q.state buffer b y → y ≡ x)
    × (q.state.tally.totals ≡ r.state.tally.totals))
    × (finally_said q.answer ≡ accepted l n → finally_said r.answer ≡ accepted l n)

-- Document 01, "The order of lines", of an accepted file.

-- "The first line is 0000, the second 0001."
abbrev pub FirstLines : Type 0
FirstLines = OfAccepted (λ file l s. (rest : List ℕ) × (rows_of file ≡ row0000 ∷ row0001 ∷ rest))

-- "0 and 9 must be there"
abbrev pub FirstAndLastBlock : Type 0
FirstAndLastBlock = OfAccepted (λ file l s. IsThere (block row0000) (lines_of file) × IsThere (block row9999) (lines_of file))

-- Document 01, "What a refusal says", of the calls.

-- "19 is looked at first, then 17 or 18."
abbrev pub DamagedFirst : Type 0
DamagedFirst =
    (s : State) → ranged_of s ≡ false
    → ((piece : List ℕ) (r : Checked) → Checks s piece r → r.answer ≡ Piece.Damaged)
    × ((r : Finished) → Finishes s r → r.answer ≡ Final.Damaged)
    × ((before : List ℕ) (r : ReportAnswer) (after : List ℕ) → Reports s before r after → r ≡ Report.Damaged)

abbrev pub ThenLateOrNoRoom : Type 0
ThenLateOrNoRoom =
    (s : State) → ranged_of s ≡ true
    → (s.finished ≡ true → (piece : List ℕ) (r : Checked) → Checks s piece r → r.answer ≡ Piece.Late)
    × (s.finished ≡ true → (r : Finished) → Finishes s r → r.answer ≡ Final.Late)
    × ((before : List ℕ) (r : ReportAnswer) (after : List ℕ) → length before < row_count → Reports s before r after
    → r ≡ Report.NoRoom)

-- "Every state given back by calls from a fresh start lies within the ranges, so 19 is never given for one."
-- More: each call at a state in range gives a state in range, and never 19.
abbrev pub RangesClosed : Type 0
RangesClosed =
    (s : State) → ranged_of s ≡ true
    → ((piece : List ℕ) (r : Checked) → AllBytes piece → Checks s piece r
    → (ranged_of r.state ≡ true) × (r.answer ≡ Piece.Damaged → ⊥))
    × ((r : Finished) → Finishes s r → (ranged_of r.state ≡ true) × (r.answer ≡ Final.Damaged → ⊥))
    × ((before : List ℕ) (r : ReportAnswer) (after : List ℕ) → Reports s before r after → r ≡ Report.Damaged → ⊥)

abbrev pub GivenInRange : Type 0
GivenInRange = (file : List ℕ) (s : State) → Given file s → ranged_of s ≡ true

-- "These three give line 0, lines ended 0 and bytes judged 0, and change nothing, neither the state nor a lent buffer."
abbrev pub ThreeChangeNothing : Type 0
ThreeChangeNothing =
    ((s : State) (piece : List ℕ) (r : Checked) → AllBytes piece → Checks s piece r
    → (n : ℕ) → (numbers_of (said r.answer)).refusal ≡ n → 17 ≤ n → n ≤ 19
    → (numbers_of (said r.answer) ≡ numbers n 0 0 0 0 0) × (r.state ≡ s))
    × ((s : State) (r : Finished) → Finishes s r
    → (n : ℕ) → (numbers_of (finally_said r.answer)).refusal ≡ n → 17 ≤ n → n ≤ 19
    → (numbers_of (finally_said r.answer) ≡ numbers n 0 0 0 0 0) × (r.state ≡ s))
    × ((s : State) (before : List ℕ) (r : ReportAnswer) (after : List ℕ) → Reports s before r after
    → (n : ℕ) → (report_said r).refusal ≡ n → 17 ≤ n → n ≤ 19
    → (report_said r ≡ numbers n 0 0 0 0 0) × (after ≡ before))

-- "A refusal from 1 to 16 is the answer to every later piece until finish has been asked, and to that finish;" 02: "later
-- numbers given at a bar name its field and hold as 1 to 16 do".
-- At every state: a piece after a refusal gives back the same answer and the same state, and so does the one after it.
abbrev pub Stays : Checked → Numbers → Type 0
Stays r n =
    ((next : List ℕ) (q : Checked) → Checks r.state next q → q ≡ r)
    × ((q : Finished) → Finishes r.state q → q.answer ≡ Final.Refused n)

abbrev pub RefusalStays : Type 0
RefusalStays =
    (s : State) (piece : List ℕ) (r : Checked) → AllBytes piece → Checks s piece r
    → (n : Numbers) → r.answer ≡ Piece.Refused n → Stays r n

-- "from then on a piece or a finish gives 17, also where the finish gave 14."
abbrev pub ThenLate : Type 0
ThenLate =
    (s : State) (r : Finished) → ranged_of s ≡ true → Finishes s r
    → ((piece : List ℕ) (q : Checked) → Checks r.state piece q
    → (q.answer ≡ Piece.Late) × (q.state ≡ r.state))
    × ((q : Finished) → Finishes r.state q → (q.answer ≡ Final.Late) × (q.state ≡ r.state))

-- "While nothing is refused, each piece answers "open" with lines ended and bytes judged."
abbrev pub OpenWhileUnrefused : Type 0
OpenWhileUnrefused =
    (file : List ℕ) (s : State) (piece : List ℕ) (r : Checked) → Reached file s → Checks s piece r
    → NoneBroken (reverse (file ++ piece))
    → said r.answer ≡ still_open (length (lines_of (file ++ piece))) (length (file ++ piece))

-- "The other answers, 17 to 19 apart, give these two as well." A refusal has them in the verdict (PiecesJoined), a report here.
abbrev pub ReportGivesThem : Type 0
ReportGivesThem =
    (file : List ℕ) (s : State) (before : List ℕ) (r : ReportAnswer) (after : List ℕ)
    → Given file s → Reports s before r after → (report_said r).refusal ≡ 0
    → report_said r ≡ numbers 0 0 0 0 (numbers_of (verdict_of file)).lines (numbers_of (verdict_of file)).bytes

-- 02, request e: "Every answer then carries a position, 0 for all but 2 and 10". At every state; for those two it is at least 1
-- and at most the bytes judged. (Which byte it is, the verdict says: PiecesJoined, FirstPlaceNamed.)
pub record Positioned (n : Numbers) : Type 0 where
  pub of_two_and_ten : (n.refusal ≡ 2) ⊎ (n.refusal ≡ 10) → (1 ≤ n.position) × (n.position ≤ n.bytes)
  pub of_others : (n.refusal ≡ 2 → ⊥) → (n.refusal ≡ 10 → ⊥) → n.position ≡ 0

abbrev pub EveryAnswerPositioned : Type 0
EveryAnswerPositioned =
    ((s : State) (piece : List ℕ) (r : Checked) → AllBytes piece → Checks s piece r → Positioned (numbers_of (said r.answer)))
    × ((s : State) (r : Finished) → Finishes s r → Positioned (numbers_of (finally_said r.answer)))
    × ((s : State) (before : List ℕ) (r : ReportAnswer) (after : List ℕ) → Reports s before r after → Positioned (report_said r))

-- "An empty piece alters nothing." At every state.
abbrev pub EmptyPiece : Type 0
EmptyPiece = (s : State) (r : Checked) → Checks s [] r → r.state ≡ s

-- "The report may be asked at any time, also after refusal or finish: it writes .. counts in row order, of lines ended so
-- far, and no further element."
abbrev pub ReportAtAnyTime : Type 0
ReportAtAnyTime =
    (file : List ℕ) (s : State) (before : List ℕ) (r : ReportAnswer) (after : List ℕ)
    → Given file s → row_count ≤ length before → Reports s before r after
    → ((report_said r).refusal ≡ 0) × (length (counts_of file) ≡ row_count) × (after ≡ counts_of file ++ drop row_count before)

-- Document 01, "What the statements must settle": "For each it is proved that only one result meets it".
abbrev pub OneResult : Type 0
OneResult =
    ((r q : State) → r ≡ fresh → q ≡ fresh → r ≡ q)
    × ((s : State) (piece : List ℕ) (r q : Checked) → Checks s piece r → Checks s piece q → r ≡ q)
    × ((s : State) (r q : Finished) → Finishes s r → Finishes s q → r ≡ q)
    × ((s : State) (before : List ℕ) (r q : ReportAnswer) (a b : List ℕ)
    → Reports s before r a → Reports s before q b → (r ≡ q) × (a ≡ b))
