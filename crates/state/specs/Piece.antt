-- The fresh state; and a piece, byte by byte: what its bytes come to, at every state.
use Rattle.std.specs.Prelude.{Bool, false, List, [], ◌∷◌, ℕ, ◌+◌}
use Rattle.layout.specs.Rows.{none}
use Rattle.field.specs.Streaming.{empty_field}
use Rattle.line.specs.Machine.{code_kind, code_only, judged_with, position_of}
use Rattle.line.specs.Tally.{fresh_tally, tally_with, on_step, step_with}
use Rattle.line.specs.declared.hot.Hot.{Hot}
use Rattle.line.specs.declared.tally.Tally.{Tally}
use Rattle.state.specs.Answers.{numbers}
use Rattle.state.specs.declared.State.{State}
use Rattle.state.specs.declared.answers.Numbers.{Numbers}
use Rattle.state.specs.declared.answers.Checked.{Checked}
use Rattle.state.specs.declared.answers.Finished.{Finished}
use Rattle.state.specs.declared.answers.Answer.{Answer}
use Rattle.state.specs.declared.answers.FinalAnswer.{FinalAnswer}
use Rattle.state.specs.declared.answers.Answer.TheVariants as Piece

abbrev pub state_of : Hot → ℕ → ℕ → ℕ → Bool → Tally → State
state_of h rule field position finished t =
    record { hot = h; rule = rule; field = field; position = position; finished = finished; tally = t }

-- The fresh state.
unfoldable pub fresh : State
fresh =
    state_of
    (record {
      lines = 0;
      bytes = 0;
      last = none;
      since = 0;
      says = 0;
      bars = 0;
      row = none;
      fields = code_only;
      kind = code_kind;
      field = empty_field;
    })
    0
    0
    0
    false
    fresh_tally

-- A piece, byte by byte: the answer and the state that it leaves.
abbrev pub checked : Answer → State → Checked
checked a s = record { answer = a; state = s }

-- a finish: the same
abbrev pub finished : FinalAnswer → State → Finished
finished a s = record { answer = a; state = s }

-- the refusal that a state keeps
unfoldable pub kept_of : State → Numbers
kept_of s = numbers s.rule (s.hot.lines + 1) s.field s.position s.hot.lines s.hot.bytes

unfoldable pub open_of : Hot → Tally → Checked
open_of h t = record { answer = Piece.Open h.lines h.bytes; state = state_of h 0 0 0 false t }

-- the refusing byte is judged, and changes nothing else
abbrev pub judged_one : Hot → Hot
judged_one h = judged_with h h.field

unfoldable pub stopped_of : Hot → Tally → ℕ → ℕ → Checked
stopped_of h t rule field =
    let position = position_of h rule in
    record {
      answer = Piece.Refused (numbers rule (h.lines + 1) field position h.lines (h.bytes + 1));
      state = state_of (judged_one h) rule field position false t;
    }

unfoldable pub run_of : Hot → Tally → List ℕ → Checked
run_of h t [] = open_of h t
run_of h t (b ∷ rest) =
    on_step (step_with h t b) (λ n. run_of n (tally_with h n.lines b t) rest) (stopped_of h t)
