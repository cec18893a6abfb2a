-- What the promises' file says of the totals (specs/Promises.antt), each under the statement's name.
use mathlib.Core.Path.{◌≡◌, ◌∙◌, sym, ap}
use mathlib.Core.Bool.{true, false}
use mathlib.Core.List.{List, reverse}
use Prim.Native.Nat.{ℕ}
use native.Mathlib.Omega.{arith}
use lib.ListN.{get_or}
use Rattle.rules.specs.Bytes.{rows}
use Rattle.rules.specs.Totals.{sum}
use Rattle.rules.specs.Verdict.{standing, totals, totals_of}
use Rattle.rules.proofs.TestLaws.{both}
use Rattle.rules.proofs.CountLaws.{totals_at}
use Rattle.state.specs.Answers.{numbers_of, said, finally_said, report_said}
use Rattle.state.specs.Piece.{open_of, stopped_of, kept_of}
use Rattle.state.specs.Calls.{check_of, final_answer_of, finish_of}
use Rattle.state.specs.Ranges.{ranged_of}
use Rattle.sef.specs.Promises as P
use Rattle.state.specs.declared.State.{State}
use Rattle.state.specs.declared.answers.Checked.{Checked}
use Rattle.state.specs.declared.answers.Finished.{Finished}
use Rattle.state.specs.declared.answers.FinalAnswer.{FinalAnswer}
use Rattle.state.specs.declared.answers.ReportAnswer.{ReportAnswer}
use Rattle.state.proofs.RangeLaws.{state_tally}
use Rattle.state.proofs.RunLaws.{Comes, opens, stops_by}
use Rattle.sef.proofs.InRangeLaws.{Pieces, late, kept, run, check_pieces, Finishing, closes, finish_finishing}
use Rattle.sef.proofs.CallViews.{AnyReport, damaged, no_room, writes, report_any, Finals, accepts, short, keeps, finals}
use Rattle.sef.proofs.Joined.{given_totals}

-- the lines that an answer gives are the sum of the totals that the call leaves
abbrev Lines : Checked → Type 0
Lines c = (numbers_of (said c.answer)).lines ≡ sum c.state.tally.totals

comes_lines : (c : Checked) → Comes c → Lines c
unfolding open_of stopped_of said numbers_of
comes_lines c (opens h t d) = sym d.tally.add_up
comes_lines c (stops_by h t rule field d is named) = sym d.tally.add_up

module _ (s : State) (ranged : ranged_of s ≡ true) where
  add_up_lem : sum s.tally.totals ≡ s.hot.lines
  add_up_lem = (state_tally s ranged).add_up

  piece_lines : s.finished ≡ false → (piece : List ℕ) (c : Checked) → Pieces s piece c → Lines c
  unfolding kept_of said numbers_of
  piece_lines o piece c (late d) = both d o
  piece_lines o piece c (kept d z) = sym add_up_lem
  piece_lines o piece c (run d z comes) = comes_lines c comes

  final_lines : (a : FinalAnswer) → Finals s a → (numbers_of (finally_said a)).lines ≡ sum s.tally.totals
  unfolding kept_of finally_said numbers_of
  final_lines a accepts = sym add_up_lem
  final_lines a short = sym add_up_lem
  final_lines a (keeps z) = sym add_up_lem

  finish_lines : s.finished ≡ false → (c : Finished) → Finishing s c
      → (numbers_of (finally_said c.answer)).lines ≡ sum c.state.tally.totals
  finish_lines o c (late d) = both d o
  finish_lines o c (closes d) = final_lines (final_answer_of s) (finals s)

  report_lines : (before : List ℕ) (r : ReportAnswer) (after : List ℕ) → AnyReport s before r after → (report_said r).refusal ≡ 0
      → (report_said r).lines ≡ sum s.tally.totals
  unfolding report_said
  report_lines before r after (damaged e) z = both ranged e
  report_lines before r after (no_room e) z = absurd (omega arith)
  report_lines before r after (writes e) z = sym add_up_lem

pub totals_add_up : P.TotalsAddUp
totals_add_up s e =
    record {
      add_up = add_up_lem s e;
      of_rows = λ x h. sym ((state_tally s e).totals x h);
      piece = λ o piece r all c. rw c.exact (piece_lines s e o piece (check_of s piece) (check_pieces s e piece all));
      finish = λ o r c. rw c.exact (finish_lines s e o (finish_of s) (finish_finishing s e));
      report = λ before r after c z. report_lines s e before r after (report_any s before r after c) z;
    }

pub totals_true : P.TotalsTrue
unfolding totals_of totals
totals_true file s given =
    let e = given_totals file s given in
    (e, (λ x h. ap (λ ts. get_or ts x 0) e ∙ totals_at (rows (standing (reverse file))) x h))
