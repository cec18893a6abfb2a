-- Each call at a state in range gives a state in range; and what a piece and a finish come to at such a state.
use mathlib.Core.Path.{◌≡◌, refl}
use mathlib.Core.Bool.{Bool, true, false}
use mathlib.Core.List.{List}
use Prim.Native.Nat.{ℕ, ◌+◌, ◌≤◌}
use native.Mathlib.Omega.{arith}
use lib.Dec.{eqb}
use borrow.Author.Tests.{eqb-true, eqb-false}
use Rattle.layout.specs.Pick.{pick}
use Rattle.layout.specs.Lists.{all_below}
use Rattle.layout.specs.Text.{bytes, code_number, text_number}
use Rattle.layout.specs.Rows.{row_table, listed, code, block, place_of, block_letters}
use Rattle.rules.specs.Totals.{sum, sum_of_block}
use Rattle.line.specs.Machine.{most_bars, position_of}
use Rattle.state.specs.Piece.{state_of, open_of, stopped_of, judged_one, run_of, kept_of}
use Rattle.state.specs.Piece.{fresh}
use Rattle.state.specs.Calls.{unchanged, check_of, final_answer_of}
use Rattle.state.specs.Calls.{closed_of, finally_unchanged, finish_of}
use Rattle.state.specs.Ranges.{line_ranged, hot_ranged, refusal_ranged, tally_ranged, ranged_of}
use Rattle.rules.specs.Numbers.{is_rule}
use Rattle.line.specs.Tally.{Held}
use Rattle.line.specs.Tally.{TallyFit}
use Rattle.rules.specs.Bytes.{AllBytes}
use Rattle.line.specs.declared.hot.Hot.{Hot}
use Rattle.state.specs.declared.State.{State}
use Rattle.line.specs.declared.tally.Tally.{Tally}
use Rattle.state.specs.declared.answers.Checked.{Checked}
use Rattle.state.specs.declared.answers.Finished.{Finished}
use Rattle.state.specs.declared.answers.Answer.TheVariants as Piece
use Rattle.state.specs.declared.answers.FinalAnswer.TheVariants as Final
use Rattle.state.proofs.RangeLaws.{open_ranged, broken_ranged, held_of, ranged_by}
use Rattle.line.proofs.HotRanges.{judged_fit}
use Rattle.state.proofs.RangeLaws.{position_ranged_lem}
use Rattle.state.proofs.RunLaws.{Comes, opens, stops_by, run_comes}

pub fresh_ranged : ranged_of fresh ≡ true
unfolding ranged_of hot_ranged line_ranged refusal_ranged tally_ranged all_below sum sum_of_block block place_of block_letters code listed
    row_table bytes code_number text_number fresh
fresh_ranged = refl

-- What a piece comes to.
opened_ranged : (h : Hot) (t : Tally) → Held h t → ranged_of (open_of h t).state ≡ true
unfolding open_of
opened_ranged h t d = ranged_by (state_of h 0 0 0 false t) d.fit d.tally (open_ranged h.bytes d.within_limit)

-- the refusing byte is judged too
judged_tally : (h : Hot) (t : Tally) → Held h t → TallyFit t h.lines (h.bytes + 1)
judged_tally h t d =
    let f = d.tally in
    record {
      each_row = f.each_row;
      each_block = f.each_block;
      stamps = λ k l. omega (arith, f.stamps k l);
      occurrences = λ k l. omega (arith, f.occurrences k l);
      stated = f.stated;
      totals = f.totals;
      add_up = f.add_up;
    }

pub stopped_ranged : (h : Hot) (t : Tally) (rule field : ℕ) → Held h t → is_rule rule ≡ true → field ≤ most_bars
    → ranged_of (stopped_of h t rule field).state ≡ true
unfolding stopped_of
stopped_ranged h t rule field d is named =
    ranged_by (state_of (judged_one h) rule field (position_of h rule) false t)
    (judged_fit h d.fit d.within_limit h.field (omega (arith, d.fit.length)) d.fit.wrong d.fit.value)
    (judged_tally h t d)
    (broken_ranged rule field (position_of h rule) (h.bytes + 1)
    (record { rule_is = is; field_in = named; position_in = position_ranged_lem h d.fit rule }))

comes_ranged : (c : Checked) → Comes c → ranged_of c.state ≡ true
comes_ranged c (opens h t d) = opened_ranged h t d
comes_ranged c (stops_by h t rule field d is named) = stopped_ranged h t rule field d is named

-- A piece at a state in range: 17, what was refused, or what the bytes come to.
pub data Pieces (s : State) (piece : List ℕ) : Checked → Type 0 where
  late : s.finished ≡ true → Pieces s piece (unchanged Piece.Late s)
  kept : s.finished ≡ false → (s.rule ≡ 0 → ⊥) → Pieces s piece (unchanged (Piece.Refused (kept_of s)) s)
  run : s.finished ≡ false → s.rule ≡ 0 → Comes (run_of s.hot s.tally piece)
      → Pieces s piece (run_of s.hot s.tally piece)

module _ (s : State) (ranged : ranged_of s ≡ true) where
  pub check_pieces : (piece : List ℕ) → AllBytes piece → Pieces s piece (check_of s piece)
  unfolding check_of
  check_pieces piece all = rw ranged (go s.finished refl (eqb s.rule 0) refl)
    where
      go : (f : Bool) → s.finished ≡ f → (z : Bool) → eqb s.rule 0 ≡ z
          → Pieces s piece (pick f (unchanged Piece.Late s)
          (pick z (run_of s.hot s.tally piece) (unchanged (Piece.Refused (kept_of s)) s)))
      go true d z e = late d
      go false d true e =
          let q = eqb-true s.rule 0 e in
          run d q (run_comes piece all s.hot s.tally (held_of s ranged q))
      go false d false e = kept d (eqb-false s.rule 0 e)

  pieces_ranged : (piece : List ℕ) (c : Checked) → Pieces s piece c → ranged_of c.state ≡ true
  pieces_ranged piece c (late d) = ranged
  pieces_ranged piece c (kept d z) = ranged
  pieces_ranged piece c (run d z comes) = comes_ranged c comes

  pub check_ranged : (piece : List ℕ) → AllBytes piece → ranged_of (check_of s piece).state ≡ true
  check_ranged piece all = pieces_ranged piece (check_of s piece) (check_pieces piece all)

-- A finish at a state in range: 17, or the final answer, and finish has been asked.
pub data Finishing (s : State) : Finished → Type 0 where
  late : s.finished ≡ true → Finishing s (finally_unchanged Final.Late s)
  closes : s.finished ≡ false → Finishing s (record { answer = final_answer_of s; state = closed_of s })

module _ (s : State) (ranged : ranged_of s ≡ true) where
  pub finish_finishing : Finishing s (finish_of s)
  unfolding finish_of
  finish_finishing = rw ranged (go s.finished refl)
    where
      go : (f : Bool) → s.finished ≡ f
          → Finishing s (pick f (finally_unchanged Final.Late s) (record { answer = final_answer_of s; state = closed_of s }))
      go true d = late d
      go false d = closes d

  closed_ranged : ranged_of (closed_of s) ≡ true
  unfolding ranged_of
  closed_ranged = ranged

  finishing_ranged : (c : Finished) → Finishing s c → ranged_of c.state ≡ true
  finishing_ranged c (late d) = ranged
  finishing_ranged c (closes d) = closed_ranged

  pub finish_ranged : ranged_of (finish_of s).state ≡ true
  finish_ranged = finishing_ranged (finish_of s) finish_finishing
