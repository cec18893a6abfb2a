-- What the public calls promise: exactly what comes back, at every state; that a state in range gives a state in range; and after
-- calls from a fresh start, what the rules say of the bytes joined so far. At the end, what the blocks' totals in the state are.
use Rattle.std.specs.Prelude.{true, false, ◌≡◌, List, [], ◌++◌, reverse, ◌⊎◌, ℕ, ◌<◌, get_or, drop}
use Rattle.layout.specs.Rows.{row_count, blocks}
use Rattle.rules.specs.Bytes.{rows}
use Rattle.rules.specs.Counts.{lines_of_block}
use Rattle.rules.specs.Totals.{sum, block_count}
use Rattle.rules.specs.Verdict.{standing, verdict_of, final_of, counts_of, totals_of}
use Rattle.state.specs.Answers.{numbers, numbers_of, said, finally_said, report_said}
use Rattle.rules.specs.Bytes.{AllBytes}
use Rattle.state.specs.Piece.{fresh}
use Rattle.state.specs.Calls.{check_of, finish_of, report_of, reported_of}
use Rattle.state.specs.Ranges.{ranged_of}
use Rattle.state.specs.declared.State.{State}
use Rattle.state.specs.declared.answers.Checked.{Checked}
use Rattle.state.specs.declared.answers.Finished.{Finished}
use Rattle.state.specs.declared.answers.ReportAnswer.{ReportAnswer}

-- the state after pieces whose bytes, joined, are the file so far: before finish, and after it
pub data Reached : List ℕ → State → Type 0 where
  start : Reached [] fresh
  more : {file : List ℕ} {s : State} → Reached file s → (piece : List ℕ) → AllBytes piece
      → Reached (file ++ piece) (check_of s piece).state

pub data Closed : List ℕ → State → Type 0 where
  done : {file : List ℕ} {s : State} → Reached file s → Closed file (finish_of s).state

-- A piece. Demand 3: the answer and the counts are those that the rules give for the joined bytes so far; and so are the totals (02,
-- request g).
pub record Checks (s : State) (piece : List ℕ) (r : Checked) : Type 0 where
  pub exact : r ≡ check_of s piece
  pub in_range : ranged_of s ≡ true → ranged_of r.state ≡ true
  pub joined : (file : List ℕ) → Reached file s → said r.answer ≡ verdict_of (file ++ piece)
  pub counted : (file : List ℕ) → Reached file s → r.state.tally.counts ≡ counts_of (file ++ piece)
  pub totalled : (file : List ℕ) → Reached file s → r.state.tally.totals ≡ totals_of (file ++ piece)
  pub reached : (file : List ℕ) → Reached file s → Reached (file ++ piece) r.state

-- Finish. Demands 1 and 2: the final answer is the one that the rules give for the whole file.
pub record Finishes (s : State) (r : Finished) : Type 0 where
  pub exact : r ≡ finish_of s
  pub in_range : ranged_of s ≡ true → ranged_of r.state ≡ true
  pub joined : (file : List ℕ) → Reached file s → finally_said r.answer ≡ final_of file
  pub totalled : (file : List ℕ) → Reached file s → r.state.tally.totals ≡ totals_of file
  pub closed : (file : List ℕ) → Reached file s → Closed file r.state

-- A state given back by calls from a fresh start, whose pieces joined are the file: "The report may be asked at any time, also
-- after refusal or finish".
abbrev pub Given : List ℕ → State → Type 0
Given file s = Reached file s ⊎ Closed file s

-- Report. The counts of the lines ended so far, in row order, and no further element; a refusal writes nothing.
pub record Reports (s : State) (before : List ℕ) (r : ReportAnswer) (after : List ℕ) : Type 0 where
  pub exact : r ≡ report_of s before
  pub buffer : after ≡ reported_of s before
  pub counted : (file : List ℕ) → Given file s → (report_said r).refusal ≡ 0 → after ≡ counts_of file ++ drop row_count before
  pub given : (file : List ℕ) → Given file s → (report_said r).refusal ≡ 0
      → report_said r ≡ numbers 0 0 0 0 (numbers_of (verdict_of file)).lines (numbers_of (verdict_of file)).bytes

-- 02, request g, of the totals; each is proved in proofs/Promises.antt under its own name, in small letters.

-- "In every state that 19 doesn't refuse, their sum is the number of lines ended so far (17 and 18 still answer 0)." Each is the sum
-- of its rows' counts; and the lines that a piece, a finish or a report answers are the sum of the totals that it leaves.
pub record Totalled (s : State) : Type 0 where
  pub add_up : sum s.tally.totals ≡ s.hot.lines
  pub of_rows : (x : ℕ) → x < blocks → get_or s.tally.totals x 0 ≡ block_count x s.tally.counts
  pub piece : s.finished ≡ false → (piece : List ℕ) (r : Checked) → AllBytes piece → Checks s piece r
      → (numbers_of (said r.answer)).lines ≡ sum r.state.tally.totals
  pub finish : s.finished ≡ false → (r : Finished) → Finishes s r
      → (numbers_of (finally_said r.answer)).lines ≡ sum r.state.tally.totals
  pub report : (before : List ℕ) (r : ReportAnswer) (after : List ℕ) → Reports s before r after → (report_said r).refusal ≡ 0
      → (report_said r).lines ≡ sum s.tally.totals

abbrev pub TotalsAddUp : Type 0
TotalsAddUp = (s : State) → ranged_of s ≡ true → Totalled s

-- "Keep the totals in the state, true after every operation, refused ones included": for states from a fresh start each total is the
-- number of that block's lines among the joined bytes, as far as these break no rule.
abbrev pub TotalsTrue : Type 0
TotalsTrue =
    (file : List ℕ) (s : State) → Given file s
    → (s.tally.totals ≡ totals_of file)
    × ((x : ℕ) → x < blocks → get_or s.tally.totals x 0 ≡ lines_of_block x (rows (standing (reverse file))))
