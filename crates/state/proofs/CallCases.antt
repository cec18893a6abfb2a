-- Each call by the tests that it makes, in their order.
use mathlib.Core.Path.{◌≡◌, ◌∙◌}
use mathlib.Core.Bool.{Bool, true, false}
use mathlib.Core.List.{List}
use Prim.Native.Nat.{ℕ}
use lib.Dec.{eqb}
use borrow.Author.Tests.{eq-eqb, ne_eqb}
use Rattle.layout.specs.Pick.{pick}
use Rattle.state.specs.Piece.{run_of, kept_of}
use Rattle.state.specs.Calls.{unchanged, check_of, final_answer_of, closed_of, finally_unchanged, finish_of}
use Rattle.state.specs.Ranges.{ranged_of}
use Rattle.state.specs.declared.State.{State}
use Rattle.state.specs.declared.answers.Answer.TheVariants as Piece
use Rattle.state.specs.declared.answers.FinalAnswer.TheVariants as Final

-- (Laws on tests: a rewrite by a field's value would rewrite within the state itself.)
at_first : {A : Type 0} (a : Bool) (x y : A) → a ≡ false → pick a x y ≡ y
at_first a x y p = rw p

at_second : {A : Type 0} (a d : Bool) (x y z : A) → a ≡ true → d ≡ true → pick a (pick d x y) z ≡ x
at_second a d x y z p q = rw (p, q)

at_third : {A : Type 0} (a d : Bool) (x y z : A) → a ≡ true → d ≡ false → pick a (pick d x y) z ≡ y
at_third a d x y z p q = rw (p, q)

chosen : {A : Type 0} (t u : Bool) (x y : A) → t ≡ u → pick t x y ≡ pick u x y
chosen t u x y e = rw e

module _ (s : State) where
  module _ (piece : List ℕ) where
    pub check_damaged : ranged_of s ≡ false → check_of s piece ≡ unchanged Piece.Damaged s
    unfolding check_of
    check_damaged e = at_first (ranged_of s) _ (unchanged Piece.Damaged s) e

    module _ (ranged : ranged_of s ≡ true) where
      pub check_late : s.finished ≡ true → check_of s piece ≡ unchanged Piece.Late s
      unfolding check_of
      check_late d = at_second (ranged_of s) s.finished (unchanged Piece.Late s) _ (unchanged Piece.Damaged s) ranged d

      module _ (unfinished : s.finished ≡ false) where
        by_rule_lem : (t : Bool) → eqb s.rule 0 ≡ t
            → check_of s piece ≡ pick t (run_of s.hot s.tally piece) (unchanged (Piece.Refused (kept_of s)) s)
        unfolding check_of
        by_rule_lem t e =
            at_third (ranged_of s) s.finished (unchanged Piece.Late s) _ (unchanged Piece.Damaged s) ranged unfinished
            ∙ chosen (eqb s.rule 0) t (run_of s.hot s.tally piece) (unchanged (Piece.Refused (kept_of s)) s) e

        pub check_kept : (s.rule ≡ 0 → ⊥) → check_of s piece ≡ unchanged (Piece.Refused (kept_of s)) s
        check_kept z = by_rule_lem false (ne_eqb s.rule 0 z)

        pub check_run : s.rule ≡ 0 → check_of s piece ≡ run_of s.hot s.tally piece
        check_run z = by_rule_lem true (eq-eqb s.rule 0 z)

  pub finish_damaged : ranged_of s ≡ false → finish_of s ≡ finally_unchanged Final.Damaged s
  unfolding finish_of
  finish_damaged e = at_first (ranged_of s) _ (finally_unchanged Final.Damaged s) e

  module _ (ranged : ranged_of s ≡ true) where
    pub finish_late : s.finished ≡ true → finish_of s ≡ finally_unchanged Final.Late s
    unfolding finish_of
    finish_late d =
        at_second (ranged_of s) s.finished (finally_unchanged Final.Late s) _ (finally_unchanged Final.Damaged s) ranged d

    pub finish_now : s.finished ≡ false → finish_of s ≡ record { answer = final_answer_of s; state = closed_of s }
    unfolding finish_of
    finish_now d =
        at_third (ranged_of s) s.finished (finally_unchanged Final.Late s)
        (record { answer = final_answer_of s; state = closed_of s }) (finally_unchanged Final.Damaged s) ranged d

pub ruleset checks = (check_damaged, check_late, check_kept, check_run)

pub ruleset finishes = (finish_damaged, finish_late, finish_now)
