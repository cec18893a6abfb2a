-- Pieces: the state after calls from a fresh start is in range, and is that of the joined bytes. So each answer is the rules'
-- answer.
use mathlib.Core.Path.{◌≡◌, ◌∙◌, refl, sym, ap}
use mathlib.Core.Bool.{true, false, true≢false}
use mathlib.Core.List.{List, [], ◌++◌, reverse, reverse_aux-append}
use mathlib.Core.Logic.{⊎_elim}
use Prim.Native.Nat.{ℕ}
use Rattle.rules.specs.Verdict.{verdict_of, final_of, counts_of, totals_of}
use Rattle.state.specs.Answers.{numbers_of, said, finally_said}
use Rattle.state.specs.Calls.{check_of, closed_of, finish_of}
use Rattle.state.specs.Ranges.{ranged_of}
use Rattle.sef.specs.Promises.{Reached, start, more, Closed, done, Given}
use Rattle.state.specs.declared.State.{State}
use Rattle.state.specs.declared.answers.Finished.{Finished}
use Rattle.sef.proofs.InRangeLaws.{fresh_ranged, check_ranged, finish_ranged, Finishing, late, closes, finish_finishing}
use Rattle.sef.proofs.StateAfter.{checked_after, check_after, finish_after_lem, said_after, ended_after, counts_after}
use Rattle.sef.proofs.StateAfter.{totals_after_lem, open_after}
use Rattle.sef.proofs.FreshState.{fresh_is}

pub reached_ranged : (file : List ℕ) (s : State) → Reached file s → ranged_of s ≡ true
reached_ranged file s start = fresh_ranged
reached_ranged file s (more {file = before} {s = t} r piece all) = check_ranged t (reached_ranged before t r) piece all

abbrev state_of_file : List ℕ → State
state_of_file file = (checked_after (reverse file)).state

-- a piece after a file is the file joined with it
joins : (file piece : List ℕ) → ranged_of (state_of_file file) ≡ true
    → check_of (state_of_file file) piece ≡ checked_after (reverse (file ++ piece))
joins file piece e = check_after (reverse file) e piece ∙ ap checked_after (sym (reverse_aux-append file piece []))

-- so each state that is reached is that of the joined bytes
pub reached_state : (file : List ℕ) (s : State) → Reached file s → s ≡ state_of_file file
reached_state file s start = fresh_is
reached_state file s (more {file = before} {s = t} r piece all) =
    let e = reached_state before t r in
    ap (λ u. (check_of u piece).state) e ∙ ap (λ c. c.state) (joins before piece (ap ranged_of (sym e) ∙ reached_ranged before t r))

-- States before finish.
module _ (file : List ℕ) (s : State) (r : Reached file s) where
  same_state : s ≡ state_of_file file
  same_state = reached_state file s r

  file_ranged : ranged_of (state_of_file file) ≡ true
  file_ranged = ap ranged_of (sym same_state) ∙ reached_ranged file s r

  pub reached_open : s.finished ≡ false
  reached_open = ap (λ t. t.finished) same_state ∙ open_after (reverse file)

  reached_counts : s.tally.counts ≡ counts_of file
  unfolding counts_of
  reached_counts = ap (λ t. t.tally.counts) same_state ∙ counts_after (reverse file)

  reached_totals : s.tally.totals ≡ totals_of file
  unfolding totals_of
  reached_totals = ap (λ t. t.tally.totals) same_state ∙ totals_after_lem (reverse file)

  reached_ended : (s.hot.lines ≡ (numbers_of (verdict_of file)).lines) × (s.hot.bytes ≡ (numbers_of (verdict_of file)).bytes)
  unfolding verdict_of
  reached_ended =
      let e = ended_after (reverse file) in
      (ap (λ t. t.hot.lines) same_state ∙ e.0, ap (λ t. t.hot.bytes) same_state ∙ e.1)

  check_is : (piece : List ℕ) → check_of s piece ≡ checked_after (reverse (file ++ piece))
  check_is piece = ap (λ t. check_of t piece) same_state ∙ joins file piece file_ranged

  pub check_joined : (piece : List ℕ) → said (check_of s piece).answer ≡ verdict_of (file ++ piece)
  unfolding verdict_of
  check_joined piece = ap (λ c. said c.answer) (check_is piece) ∙ said_after (reverse (file ++ piece))

  pub check_counted : (piece : List ℕ) → (check_of s piece).state.tally.counts ≡ counts_of (file ++ piece)
  unfolding counts_of
  check_counted piece = ap (λ c. c.state.tally.counts) (check_is piece) ∙ counts_after (reverse (file ++ piece))

  pub check_totalled : (piece : List ℕ) → (check_of s piece).state.tally.totals ≡ totals_of (file ++ piece)
  unfolding totals_of
  check_totalled piece = ap (λ c. c.state.tally.totals) (check_is piece) ∙ totals_after_lem (reverse (file ++ piece))

  pub finish_joined : finally_said (finish_of s).answer ≡ final_of file
  unfolding final_of
  finish_joined = ap (λ t. finally_said (finish_of t).answer) same_state ∙ finish_after_lem (reverse file) file_ranged

-- States after finish: nothing but the mark has changed.
closes_state : (file : List ℕ) (s : State) → Reached file s → (finish_of s).state ≡ closed_of s
closes_state file s r = go (finish_of s) (finish_finishing s (reached_ranged file s r))
  where
    go : (c : Finished) → Finishing s c → c.state ≡ closed_of s
    go c (late d) = absurd (never d)
      where
        never : s.finished ≡ true → ⊥
        never e = true≢false (sym e ∙ reached_open file s r)
    go c (closes d) = refl

closed_ranged : (file : List ℕ) (s : State) → Closed file s → ranged_of s ≡ true
closed_ranged file s (done {s = t} r) = finish_ranged t (reached_ranged file t r)

closed_counts : (file : List ℕ) (s : State) → Closed file s → s.tally.counts ≡ counts_of file
closed_counts file s (done {s = t} r) = ap (λ u. u.tally.counts) (closes_state file t r) ∙ reached_counts file t r

closed_totals : (file : List ℕ) (s : State) → Closed file s → s.tally.totals ≡ totals_of file
closed_totals file s (done {s = t} r) = ap (λ u. u.tally.totals) (closes_state file t r) ∙ reached_totals file t r

closed_ended : (file : List ℕ) (s : State) → Closed file s
    → (s.hot.lines ≡ (numbers_of (verdict_of file)).lines) × (s.hot.bytes ≡ (numbers_of (verdict_of file)).bytes)
closed_ended file s (done {s = t} r) =
    let e = closes_state file t r in
    let n = reached_ended file t r in
    (ap (λ u. u.hot.lines) e ∙ n.0, ap (λ u. u.hot.bytes) e ∙ n.1)

-- States before finish or after it.
module _ (file : List ℕ) (s : State) (given : Given file s) where
  pub given_ranged : ranged_of s ≡ true
  given_ranged = ⊎_elim (reached_ranged file s) (closed_ranged file s) given

  pub given_counts : s.tally.counts ≡ counts_of file
  given_counts = ⊎_elim (reached_counts file s) (closed_counts file s) given

  pub given_totals : s.tally.totals ≡ totals_of file
  given_totals = ⊎_elim (reached_totals file s) (closed_totals file s) given

  pub given_ended : (s.hot.lines ≡ (numbers_of (verdict_of file)).lines) × (s.hot.bytes ≡ (numbers_of (verdict_of file)).bytes)
  given_ended = ⊎_elim (reached_ended file s) (closed_ended file s) given
