-- What each public call promises, by the cases of its code.
use mathlib.Core.Path.{◌≡◌, ◌∙◌, refl, ap}
use mathlib.Core.Bool.{true, false}
use mathlib.Core.List.{List, ◌++◌}
use mathlib.Core.Logic.{inr}
use Prim.Native.Nat.{ℕ, ◌<◌, ◌≤◌}
use native.Mathlib.Omega.{arith}
use lib.Dec.{ltb}
use lib.ListN.{length, drop}
use borrow.Author.Tests.{lt-ltb, le-ltb, ltb-true, ltb-false}
use Rattle.layout.specs.Rows.{row_count}
use Rattle.rules.specs.Verdict.{counts_of}
use Rattle.rules.proofs.TestLaws.{both, split}
use Rattle.state.specs.Answers.{numbers, finally_said, report_said}
use Rattle.state.specs.Calls.{check_of, finish_of}
use Rattle.state.specs.Calls.{report_of, reported_of}
use Rattle.state.specs.Ranges.{ranged_of}
use Rattle.rules.specs.Bytes.{AllBytes}
use Rattle.sef.specs.Promises.{more, done, Checks, Finishes, Reports}
use Rattle.state.specs.declared.State.{State}
use Rattle.state.specs.declared.answers.Checked.{Checked}
use Rattle.state.specs.declared.answers.Finished.{Finished}
use Rattle.state.specs.declared.answers.ReportAnswer.{ReportAnswer}
use Rattle.state.specs.declared.answers.ReportAnswer.TheVariants as Report
use Rattle.sef.proofs.InRangeLaws.{check_ranged, finish_ranged}
use Rattle.sef.proofs.Joined.{given_ranged, given_counts, given_totals, given_ended, check_joined, check_counted}
use Rattle.sef.proofs.Joined.{check_totalled, finish_joined}

-- A piece.
module _ (s : State) (piece : List ℕ) (all : AllBytes piece) where
  pub checks : (r : Checked) → r ≡ check_of s piece → Checks s piece r
  checks r e =
      record {
        exact = e;
        in_range = λ h. rw e (check_ranged s h piece all);
        joined = λ file h. rw e (check_joined file s h piece);
        counted = λ file h. rw e (check_counted file s h piece);
        totalled = λ file h. rw e (check_totalled file s h piece);
        reached = λ file h. rw e (more h piece all);
      }

-- Finish.
module _ (s : State) where
  pub finishes : (r : Finished) → r ≡ finish_of s → Finishes s r
  finishes r e =
      record {
        exact = e;
        in_range = λ h. rw e (finish_ranged s h);
        joined = λ file h. ap (λ c. finally_said c.answer) e ∙ finish_joined file s h;
        totalled = λ file h. rw e (given_totals file (finish_of s).state (inr (done h)));
        closed = λ file h. rw e (done h);
      }

-- Report.
no_room_said : (report_said Report.NoRoom).refusal ≡ 0 → ⊥
unfolding report_said
no_room_said e = omega arith

module _ (s : State) (before : List ℕ) where
  reports_damaged : ranged_of s ≡ false → Reports s before Report.Damaged before
  reports_damaged e =
      record {
        exact = unfold report_of in rw e;
        buffer = unfold reported_of in rw e;
        counted = λ file g w. both (given_ranged file s g) e;
        given = λ file g w. both (given_ranged file s g) e;
      }

  reports_no_room : ranged_of s ≡ true → length before < row_count → Reports s before Report.NoRoom before
  reports_no_room e l =
      record {
        exact = unfold report_of in rw (e, lt-ltb (length before) row_count l);
        buffer = unfold reported_of in rw (e, lt-ltb (length before) row_count l);
        counted = λ file g w. absurd (no_room_said w);
        given = λ file g w. absurd (no_room_said w);
      }

  reports_written : (after : List ℕ) → ranged_of s ≡ true → row_count ≤ length before
      → after ≡ s.tally.counts ++ drop row_count before → Reports s before (Report.Written s.hot.lines s.hot.bytes) after
  reports_written after e l p =
      record {
        exact = unfold report_of in rw (e, le-ltb (length before) row_count l);
        buffer = unfold reported_of in rw (e, le-ltb (length before) row_count l) p;
        counted = λ file g w. of_file file (given_counts file s g);
        given = λ file g w. unfold report_said in (let n = given_ended file s g in λ i. numbers 0 0 0 0 (n.0 i) (n.1 i));
      }
    where
      of_file : (file : List ℕ) → s.tally.counts ≡ counts_of file → after ≡ counts_of file ++ drop row_count before
      of_file file q = rw (← q) p

  pub reports : (r : ReportAnswer) (after : List ℕ) → r ≡ report_of s before → after ≡ reported_of s before
      → Reports s before r after
  unfolding report_of reported_of
  reports r after p q =
      split (ranged_of s)
      (λ e. split (ltb (length before) row_count)
      (λ l. rw (p, q, e, l) (reports_no_room e (ltb-true (length before) row_count l)))
      (λ l. rw (p, q, e, l) (reports_written _ e (ltb-false (length before) row_count l) refl)))
      (λ e. rw (p, q, e) (reports_damaged e))
