-- The tender's demands and what document 01 says of the calls (specs/Demands.antt), proved of what the calls promise.
use mathlib.Core.Path.{◌≡◌, ◌∙◌, refl, sym, ap, subst}
use mathlib.Core.Bool.{Bool, true, false, ◌&&◌}
use mathlib.Core.List.{List, [], ◌++◌, reverse}
use mathlib.Core.Logic.{inl, inr, ⊎_elim}
use Prim.Native.Nat.{ℕ, ◌+◌, ◌≤◌, ◌<◌}
use native.Mathlib.Omega.{arith}
use native.Mathlib.Decide.{dec_lt}
use lib.Dec.{eqb, leb}
use lib.ListN.{length, take, drop}
use lib.Seq.{take_at}
use borrow.Author.Tests.{ne_eqb, eqb-true, eqb-false, leb-true, le-ltb, lt-ltb}
use Rattle.layout.specs.Rows.{row_count, block}
use Rattle.rules.specs.Bytes.{row_of, rows}
use Rattle.rules.specs.Totals.{block_count}
use Rattle.rules.specs.Groups.{exchanged}
use Rattle.rules.specs.Verdict.{Verdict, refused, counts_of, counts, standing}
use Rattle.std.proofs.lemmas.Bool.{and_parts}
use Rattle.rules.proofs.TestLaws.{both}
use Rattle.rules.proofs.CountLaws.{counts_length}
use Rattle.rules.proofs.FollowsLaws.{none_broken_open, follows_accepted, accepted_follows, first_refused, short_refused}
use Rattle.rules.proofs.FollowsLaws.{refused_names}
use Rattle.rules.proofs.Exchange.{groups_exchange, exchanged_back}
use Rattle.rules.proofs.TotalLaws.{accepted_last, accepted_sum, accepted_total, accepted_closing, accepted_first}
use Rattle.rules.proofs.TotalLaws.{accepted_there, accepted_has_0_and_9, accepted_statement, accepted_once, accepted_pairs}
use Rattle.line.specs.Machine.{position_of}
use Rattle.state.specs.Answers.{numbers, numbers_of, said, finally_said, report_said}
use Rattle.state.specs.Piece.{open_of, stopped_of, run_of, kept_of}
use Rattle.state.specs.Calls.{unchanged, check_of, final_answer_of, finish_of, report_of}
use Rattle.state.specs.Ranges.{position_ranged, ranged_of}
use Rattle.sef.specs.Promises.{Reached, start, more, Given, Finishes, Reports}
use Rattle.sef.specs.Demands as D
use Rattle.sef.specs.Demands.{Answered, is_accepted, is_refused, InTable, is_open, by_rule, of_call, ReportInTable, refuses}
use Rattle.sef.specs.Demands.{Positioned, Stays}
use Rattle.state.specs.declared.State.{State}
use Rattle.state.specs.declared.answers.Numbers.{Numbers}
use Rattle.state.specs.declared.answers.Checked.{Checked}
use Rattle.state.specs.declared.answers.Finished.{Finished}
use Rattle.state.specs.declared.answers.Answer.TheVariants as Piece
use Rattle.state.specs.declared.answers.FinalAnswer.{FinalAnswer}
use Rattle.state.specs.declared.answers.FinalAnswer.TheVariants as Final
use Rattle.state.specs.declared.answers.ReportAnswer.{ReportAnswer}
use Rattle.state.specs.declared.answers.ReportAnswer.TheVariants as Report
use Rattle.state.proofs.RangeLaws.{kept_refusal, no_field_lem, no_position_lem, rule_some}
use Rattle.rules.proofs.OfRule.{OfRule, of_rule, not_of_call}
use Rattle.state.proofs.RangeLaws.{position_ranged_lem}
use Rattle.state.proofs.RunLaws.{Comes, opens, stops_by}
use Rattle.sef.proofs.InRangeLaws.{stopped_ranged, Pieces, late, kept, run, check_pieces, Finishing, closes}
use Rattle.sef.proofs.InRangeLaws.{finish_finishing}
use Rattle.sef.proofs.Joined.{reached_state, reached_ranged, reached_open, given_ranged}
use Rattle.state.proofs.CallCases.{check_damaged, check_late, check_kept, check_run, finish_damaged, finish_late, finish_now}
use Rattle.sef.proofs.CallViews.{AnyPiece, any_piece, AnyFinish, any_finish, AnyReport, report_any, Finals, finals}
use Rattle.sef.proofs.CallViews.{damaged, ranged, no_room, writes, accepts, short, keeps}

-- The answers, in the table.
module _ (s : State) where
  kept_number : ranged_of s ≡ true → (s.rule ≡ 0 → ⊥)
      → InTable (refused s.rule (s.hot.lines + 1) s.field s.position s.hot.lines s.hot.bytes)
  kept_number e z =
      let k = kept_refusal s e z in
      by_rule s.rule s.field s.position s.hot.lines s.hot.bytes k.rule_is k.field_in k.position_in

  comes_in_table : (c : Checked) → Comes c → InTable (said c.answer)
  unfolding open_of stopped_of said
  comes_in_table c (opens h t d) = is_open h.lines h.bytes
  comes_in_table c (stops_by h t rule field d is named) =
      by_rule rule field (position_of h rule) h.lines (h.bytes + 1) is named (position_ranged_lem h d.fit rule)

  pieces_in_table : ranged_of s ≡ true → (piece : List ℕ) (c : Checked) → Pieces s piece c → InTable (said c.answer)
  unfolding said kept_of
  pieces_in_table e piece c (late d) = of_call 17 (omega arith) (omega arith)
  pieces_in_table e piece c (kept d z) = kept_number e z
  pieces_in_table e piece c (run d z comes) = comes_in_table c comes

  piece_in_table : (piece : List ℕ) (c : Checked) → AnyPiece s piece c → InTable (said c.answer)
  unfolding said
  piece_in_table piece c (damaged e) = of_call 19 (omega arith) (omega arith)
  piece_in_table piece c (ranged e p) = pieces_in_table e piece c p

  finals_in_table : ranged_of s ≡ true → (a : FinalAnswer) → Finals s a → InTable (finally_said a)
  unfolding finally_said kept_of
  finals_in_table e a accepts = D.accepts s.hot.lines s.hot.bytes
  finals_in_table e a short = by_rule 14 0 0 s.hot.lines s.hot.bytes refl (omega arith) (unfold position_ranged in refl)
  finals_in_table e a (keeps z) = kept_number e z

  finishing_in_table : ranged_of s ≡ true → (c : Finished) → Finishing s c → InTable (finally_said c.answer)
  unfolding finally_said
  finishing_in_table e c (late d) = of_call 17 (omega arith) (omega arith)
  finishing_in_table e c (closes d) = finals_in_table e (final_answer_of s) (finals s)

  finish_in_table : (c : Finished) → AnyFinish s c → InTable (finally_said c.answer)
  unfolding finally_said
  finish_in_table c (damaged e) = of_call 19 (omega arith) (omega arith)
  finish_in_table c (ranged e p) = finishing_in_table e c p

  report_in_table : (before : List ℕ) (r : ReportAnswer) (after : List ℕ) → AnyReport s before r after → ReportInTable r
  unfolding report_said
  report_in_table before r after (damaged e) = refuses Report.Damaged 19 (omega arith) (omega arith) refl
  report_in_table before r after (no_room e) = refuses Report.NoRoom 18 (omega arith) (omega arith) refl
  report_in_table before r after (writes e) = D.writes s.hot.lines s.hot.bytes

-- The tender.

finals_answered : (s : State) → ranged_of s ≡ true → (a : FinalAnswer) → Finals s a → Answered (finally_said a)
unfolding finally_said kept_of
finals_answered s e a accepts = is_accepted
finals_answered s e a short = is_refused {number = 14} refl
finals_answered s e a (keeps z) = is_refused {number = s.rule} (kept_refusal s e z).rule_is

finish_answered : (file : List ℕ) (s : State) (r : Finished) → Reached file s → Finishes s r → Answered (finally_said r.answer)
finish_answered file s r h c =
    let e = reached_ranged file s h in
    rw (c.exact ∙ finish_now s e (reached_open file s h)) (finals_answered s e (final_answer_of s) (finals s))

pub every_file_answered : D.EveryFileAnswered
every_file_answered = ((λ file all. more start file all), finish_answered)

pub one_number : D.OneNumber
one_number = (
  (λ s piece r all c. rw c.exact (piece_in_table s piece (check_of s piece) (any_piece s piece all))),
  (λ s r c. rw c.exact (finish_in_table s (finish_of s) (any_finish s))),
  (λ s before r after c. report_in_table s before r after (report_any s before r after c)),
)

pub refused_report_writes_nothing : D.RefusedReportWritesNothing
unfolding report_said
refused_report_writes_nothing s before r after c z = go r after (report_any s before r after c) z
  where
    go : (r : ReportAnswer) (after : List ℕ) → AnyReport s before r after → ((report_said r).refusal ≡ 0 → ⊥) → after ≡ before
    go r after (damaged e) z = refl
    go r after (no_room e) z = refl
    go r after (writes e) z = absurd (z refl)

pub accepted_exactly : D.AcceptedExactly
accepted_exactly file s r h c =
    ((λ f. c.joined file h ∙ follows_accepted file f), (λ l n e. (accepted_follows file l n (sym (c.joined file h) ∙ e)).0))

pub first_place_named : D.FirstPlaceNamed
first_place_named file s r h c number line field position lines bytes = (
  (λ e. refused_names file number line field position lines bytes (sym (c.joined file h) ∙ e)),
  (λ p. c.joined file h
      ∙ ⊎_elim (first_refused file number line field position lines bytes)
      (short_refused file number line field position lines bytes) p),
)

pub pieces_joined : D.PiecesJoined
pieces_joined file s h = (
  (λ piece r c. (c.joined file h, c.reached file h)),
  (λ before r after c z. c.counted file (inl h) z),
  (λ r c. c.joined file h),
)

pub cuts_do_not_matter : D.CutsDoNotMatter
cuts_do_not_matter file s t h g = reached_state file s h ∙ sym (reached_state file t g)

counts_all : (file : List ℕ) → length (counts_of file) ≡ row_count
unfolding counts_of counts
counts_all file = counts_length (rows (standing (reverse file)))

pub block_counts_add_up : D.BlockCountsAddUp
block_counts_add_up file s r h c l n e =
    let a = sym (c.joined file h) ∙ e in
    record {
      last_is9999 = accepted_last file l n a;
      adds_up = accepted_sum file l n a;
      total = accepted_total file l n a;
      each_block = accepted_there file l n a;
      each_closing = λ line m k before q after p z.
          accepted_closing file l n a line m k
          ∙ ap (block_count (block (row_of line)))
          (sym (ap (take row_count) (p.counted file (inr (c.closed file h)) z)
          ∙ take_at (counts_of file) (drop row_count before) row_count (counts_all file)));
    }

pub statements_true : D.StatementsTrue
statements_true file s r h c l n e = accepted_statement file l n (sym (c.joined file h) ∙ e)

pub once_per_period : D.OncePerPeriod
once_per_period file s r h c l n e =
    let answer = sym (c.joined file h) ∙ e in
    (accepted_once file l n answer, accepted_pairs file l n answer)

-- "The order of lines", of an accepted file.
pub first_lines : D.FirstLines
first_lines file s r h c l n e = accepted_first file l n (sym (c.joined file h) ∙ e)

pub first_and_last_block : D.FirstAndLastBlock
first_and_last_block file s r h c l n e = accepted_has_0_and_9 file l n (sym (c.joined file h) ∙ e)

-- "What a refusal says", of the calls.
pub damaged_first : D.DamagedFirst
damaged_first s e = (
  (λ piece r c. ap (λ x. x.answer) (c.exact ∙ check_damaged s piece e)),
  (λ r c. ap (λ x. x.answer) (c.exact ∙ finish_damaged s e)),
  (λ before r after c. c.exact ∙ unfold report_of in rw e),
)

pub then_late_or_no_room : D.ThenLateOrNoRoom
then_late_or_no_room s e = (
  (λ d piece r c. ap (λ x. x.answer) (c.exact ∙ check_late s piece e d)),
  (λ d r c. ap (λ x. x.answer) (c.exact ∙ finish_late s e d)),
  (λ before r after l c. c.exact ∙ unfold report_of in rw (e, lt-ltb (length before) row_count l)),
)

comes_sane : (c : Checked) → Comes c → c.answer ≡ Piece.Damaged → ⊥
unfolding open_of stopped_of
comes_sane c (opens h t d) q = let z : ◌≡◌ {A = ℕ} 0 1 = cc in omega arith
comes_sane c (stops_by h t rule field d is named) q = let z : ◌≡◌ {A = ℕ} 0 1 = cc in omega arith

piece_sane : (s : State) (piece : List ℕ) (c : Checked) → Pieces s piece c → c.answer ≡ Piece.Damaged → ⊥
piece_sane s piece c (late d) q = let z : ◌≡◌ {A = ℕ} 0 1 = cc in omega arith
piece_sane s piece c (kept d z) q = let z : ◌≡◌ {A = ℕ} 0 1 = cc in omega arith
piece_sane s piece c (run d z comes) q = comes_sane c comes q

finals_sane : (s : State) (a : FinalAnswer) → Finals s a → a ≡ Final.Damaged → ⊥
finals_sane s a accepts q = let z : ◌≡◌ {A = ℕ} 0 1 = cc in omega arith
finals_sane s a short q = let z : ◌≡◌ {A = ℕ} 0 1 = cc in omega arith
finals_sane s a (keeps z) q = let z : ◌≡◌ {A = ℕ} 0 1 = cc in omega arith

finish_sane : (s : State) (c : Finished) → Finishing s c → c.answer ≡ Final.Damaged → ⊥
finish_sane s c (late d) q = let z : ◌≡◌ {A = ℕ} 0 1 = cc in omega arith
finish_sane s c (closes d) q = finals_sane s (final_answer_of s) (finals s) q

report_sane : (s : State) → ranged_of s ≡ true → (before : List ℕ) (r : ReportAnswer) (after : List ℕ) → AnyReport s before r after
    → r ≡ Report.Damaged → ⊥
report_sane s e before r after (damaged d) q = both e d
report_sane s e before r after (no_room d) q = let z : ◌≡◌ {A = ℕ} 0 1 = cc in omega arith
report_sane s e before r after (writes d) q = let z : ◌≡◌ {A = ℕ} 0 1 = cc in omega arith

pub ranges_closed : D.RangesClosed
ranges_closed s e = (
  (λ piece r all c.
      let gives = ap (λ x. x.answer) c.exact in
      (c.in_range e, (λ q. piece_sane s piece (check_of s piece) (check_pieces s e piece all) (sym gives ∙ q)))),
  (λ r c. (c.in_range e, (λ q. finish_sane s (finish_of s) (finish_finishing s e) (sym (ap (λ x. x.answer) c.exact) ∙ q)))),
  (λ before r after c q. report_sane s e before r after (report_any s before r after c) q),
)

pub given_in_range : D.GivenInRange
given_in_range = given_ranged

-- 17 to 19 are no rule's numbers
module _ (s : State) where
  comes_of_rule : (c : Checked) → Comes c → OfRule (numbers_of (said c.answer)).refusal
  unfolding open_of stopped_of numbers_of said
  comes_of_rule c (opens h t d) = refl
  comes_of_rule c (stops_by h t rule field d is named) = of_rule rule is

  kept_of_rule : ranged_of s ≡ true → (s.rule ≡ 0 → ⊥) → OfRule s.rule
  kept_of_rule e z = of_rule s.rule (kept_refusal s e z).rule_is

  abbrev Nothing : Numbers → State → ℕ → Type 0
  Nothing k t n = (k ≡ numbers n 0 0 0 0 0) × (t ≡ s)

  pieces_nothing : ranged_of s ≡ true → (piece : List ℕ) (c : Checked) → Pieces s piece c → (n : ℕ)
      → (numbers_of (said c.answer)).refusal ≡ n → 17 ≤ n → n ≤ 19 → Nothing (numbers_of (said c.answer)) c.state n
  unfolding numbers_of said kept_of
  pieces_nothing e piece c (late d) n q l m = (rw q, refl)
  pieces_nothing e piece c (kept d z) n q l m = not_of_call n (rw (← q) (kept_of_rule e z)) l m
  pieces_nothing e piece c (run d z comes) n q l m = not_of_call n (rw (← q) (comes_of_rule c comes)) l m

  piece_nothing : (piece : List ℕ) (c : Checked) → AnyPiece s piece c → (n : ℕ)
      → (numbers_of (said c.answer)).refusal ≡ n → 17 ≤ n → n ≤ 19 → Nothing (numbers_of (said c.answer)) c.state n
  unfolding numbers_of said
  piece_nothing piece c (damaged e) n q l m = (rw q, refl)
  piece_nothing piece c (ranged e p) n q l m = pieces_nothing e piece c p n q l m

  finals_of_rule : ranged_of s ≡ true → (a : FinalAnswer) → Finals s a → OfRule (numbers_of (finally_said a)).refusal
  unfolding numbers_of finally_said kept_of
  finals_of_rule e a accepts = refl
  finals_of_rule e a short = refl
  finals_of_rule e a (keeps z) = kept_of_rule e z

  finishing_nothing : ranged_of s ≡ true → (c : Finished) → Finishing s c → (n : ℕ)
      → (numbers_of (finally_said c.answer)).refusal ≡ n → 17 ≤ n → n ≤ 19
      → Nothing (numbers_of (finally_said c.answer)) c.state n
  unfolding numbers_of finally_said
  finishing_nothing e c (late d) n q l m = (rw q, refl)
  finishing_nothing e c (closes d) n q l m = not_of_call n (rw (← q) (finals_of_rule e (final_answer_of s) (finals s))) l m

  finish_nothing : (c : Finished) → AnyFinish s c → (n : ℕ)
      → (numbers_of (finally_said c.answer)).refusal ≡ n → 17 ≤ n → n ≤ 19
      → Nothing (numbers_of (finally_said c.answer)) c.state n
  unfolding numbers_of finally_said
  finish_nothing c (damaged e) n q l m = (rw q, refl)
  finish_nothing c (ranged e p) n q l m = finishing_nothing e c p n q l m

  report_nothing : (before : List ℕ) (r : ReportAnswer) (after : List ℕ) → AnyReport s before r after → (n : ℕ)
      → (report_said r).refusal ≡ n → 17 ≤ n → n ≤ 19 → (report_said r ≡ numbers n 0 0 0 0 0) × (after ≡ before)
  unfolding report_said
  report_nothing before r after (damaged e) n q l m = (rw q, refl)
  report_nothing before r after (no_room e) n q l m = (rw q, refl)
  report_nothing before r after (writes e) n q l m = absurd (omega arith)

pub three_change_nothing : D.ThreeChangeNothing
three_change_nothing = (
  (λ s piece r all c n q l m.
      subst (λ x. Nothing s (numbers_of (said x.answer)) x.state n) (sym c.exact)
      (piece_nothing s piece (check_of s piece) (any_piece s piece all) n
      (ap (λ x. (numbers_of (said x.answer)).refusal) (sym c.exact) ∙ q) l m)),
  (λ s r c n q l m.
      subst (λ x. Nothing s (numbers_of (finally_said x.answer)) x.state n) (sym c.exact)
      (finish_nothing s (finish_of s) (any_finish s) n
      (ap (λ x. (numbers_of (finally_said x.answer)).refusal) (sym c.exact) ∙ q) l m)),
  (λ s before r after c n q l m. report_nothing s before r after (report_any s before r after c) n q l m),
)

-- a state in range that keeps a refusal gives it to every piece, and to a finish
module _ (s : State) (e : ranged_of s ≡ true) (d : s.finished ≡ false) (z : s.rule ≡ 0 → ⊥) where
  final_kept : final_answer_of s ≡ Final.Refused (kept_of s)
  unfolding final_answer_of
  final_kept = rw (ne_eqb s.rule 0 z)

  stays : (n : Numbers) → Piece.Refused (kept_of s) ≡ Piece.Refused n → Stays (unchanged (Piece.Refused (kept_of s)) s) n
  stays n q =
      let same : kept_of s ≡ n = cc in (
        (λ next c p. p.exact ∙ check_kept s next e d z),
        (λ c p. ap (λ x. x.answer) (p.exact ∙ finish_now s e d) ∙ final_kept ∙ ap Final.Refused same),
      )

comes_stays : (c : Checked) → Comes c → (n : Numbers) → c.answer ≡ Piece.Refused n → Stays c n
unfolding open_of stopped_of kept_of
comes_stays c (opens h t d) n q = absurd (let z : ◌≡◌ {A = ℕ} 0 1 = cc in omega arith)
comes_stays c (stops_by h t rule field d is named) n q =
    stays (stopped_of h t rule field).state (stopped_ranged h t rule field d is named) refl (rule_some rule is) n q

module _ (s : State) (piece : List ℕ) where
  pieces_stay : ranged_of s ≡ true → (c : Checked) → Pieces s piece c → (n : Numbers) → c.answer ≡ Piece.Refused n → Stays c n
  pieces_stay e c (late d) n q = absurd (let z : ◌≡◌ {A = ℕ} 0 1 = cc in omega arith)
  pieces_stay e c (kept d z) n q = stays s e d z n q
  pieces_stay e c (run d z comes) n q = comes_stays c comes n q

  piece_stays : (c : Checked) → AnyPiece s piece c → (n : Numbers) → c.answer ≡ Piece.Refused n → Stays c n
  piece_stays c (damaged e) n q = absurd (let z : ◌≡◌ {A = ℕ} 0 1 = cc in omega arith)
  piece_stays c (ranged e p) n q = pieces_stay e c p n q

pub refusal_stays : D.RefusalStays
refusal_stays s piece r all c n q =
    subst (λ x. Stays x n) (sym c.exact)
    (piece_stays s piece (check_of s piece) (any_piece s piece all) n (ap (λ x. x.answer) (sym c.exact) ∙ q))

-- after a finish the state is marked
finishing_marks : (s : State) (c : Finished) → Finishing s c → c.state.finished ≡ true
finishing_marks s c (late d) = d
finishing_marks s c (closes d) = refl

pub then_late : D.ThenLate
then_late s r e c =
    let in_range = c.in_range e in
    let marked = ap (λ x. x.state.finished) c.exact ∙ finishing_marks s (finish_of s) (finish_finishing s e) in (
      (λ piece q k.
          let p = k.exact ∙ check_late r.state piece in_range marked in (ap (λ x. x.answer) p, ap (λ x. x.state) p)),
      (λ q k. let p = k.exact ∙ finish_late r.state in_range marked in (ap (λ x. x.answer) p, ap (λ x. x.state) p)),
    )

pub open_while_unrefused : D.OpenWhileUnrefused
open_while_unrefused file s piece r h c n = c.joined file h ∙ none_broken_open (file ++ piece) n

pub report_gives_them : D.ReportGivesThem
report_gives_them file s before r after g c z = c.given file g z

-- a position is given by 2 and 10 alone
positioned : (n : Numbers) → position_ranged n.refusal n.position n.bytes ≡ true → Positioned n
unfolding position_ranged
positioned n e = record { of_two_and_ten = ⊎_elim (λ two. within (rw two at e)) (λ ten. within (rw ten at e)); of_others = others }
  where
    within : (leb 1 n.position && leb n.position n.bytes) ≡ true → (1 ≤ n.position) × (n.position ≤ n.bytes)
    within b = (
      leb-true _ _ (and_parts (leb 1 n.position) (leb n.position n.bytes) b).0,
      leb-true _ _ (and_parts (leb 1 n.position) (leb n.position n.bytes) b).1,
    )

    others : (n.refusal ≡ 2 → ⊥) → (n.refusal ≡ 10 → ⊥) → n.position ≡ 0
    others two ten = eqb-true n.position 0 (rw (ne_eqb n.refusal 2 two, ne_eqb n.refusal 10 ten) at e)

call_positioned : (number : ℕ) → 17 ≤ number → Positioned (numbers number 0 0 0 0 0)
unfolding position_ranged
call_positioned number l =
    positioned (numbers number 0 0 0 0 0) (rw (ne_eqb number 2 (λ e. omega arith), ne_eqb number 10 (λ e. omega arith)))

table_positioned : (v : Verdict) → InTable v → Positioned (numbers_of v)
unfolding numbers_of position_ranged
table_positioned v (is_open lines bytes) = positioned (numbers 0 0 0 0 lines bytes) refl
table_positioned v (D.accepts lines bytes) = positioned (numbers 0 0 0 0 lines bytes) refl
table_positioned v (by_rule number field position lines bytes is named p) =
    positioned (numbers number (lines + 1) field position lines bytes) p
table_positioned v (of_call number l m) = call_positioned number l

report_positioned : (r : ReportAnswer) → ReportInTable r → Positioned (report_said r)
unfolding report_said position_ranged
report_positioned r (D.writes lines bytes) = positioned (numbers 0 0 0 0 lines bytes) refl
report_positioned r (refuses q number l m e) = rw e (call_positioned number (omega arith))

pub every_answer_positioned : D.EveryAnswerPositioned
every_answer_positioned = (
  (λ s piece r all c. table_positioned (said r.answer) (one_number.0 s piece r all c)),
  (λ s r c. table_positioned (finally_said r.answer) (one_number.1 s r c)),
  (λ s before r after c. report_positioned r (one_number.2 s before r after c)),
)

-- a state in range with no refusal is the one that an empty piece leaves
opened_again : (s : State) → s.finished ≡ false → s.rule ≡ 0 → s.field ≡ 0 → s.position ≡ 0
    → (open_of s.hot s.tally).state ≡ s
unfolding open_of
opened_again s d z f p =
    λ i. record { hot = s.hot; rule = sym z i; field = sym f i; position = sym p i; finished = sym d i; tally = s.tally }

empty_left : (s : State) → (check_of s []).state ≡ s
unfolding run_of
empty_left s = go (ranged_of s) refl s.finished refl (eqb s.rule 0) refl
  where
    go : (t : Bool) → ranged_of s ≡ t → (f : Bool) → s.finished ≡ f → (z : Bool) → eqb s.rule 0 ≡ z → (check_of s []).state ≡ s
    go false e f d z q = ap (λ x. x.state) (check_damaged s [] e)
    go true e true d z q = ap (λ x. x.state) (check_late s [] e d)
    go true e false d false q = ap (λ x. x.state) (check_kept s [] e d (eqb-false s.rule 0 q))
    go true e false d true q =
        let none = eqb-true s.rule 0 q in
        ap (λ x. x.state) (check_run s [] e d none) ∙ opened_again s d none (no_field_lem s e none) (no_position_lem s e none)

pub empty_piece : D.EmptyPiece
empty_piece s r c = ap (λ x. x.state) c.exact ∙ empty_left s

pub report_at_any_time : D.ReportAtAnyTime
report_at_any_time file s before r after g l c =
    let e = given_ranged file s g in
    let p : r ≡ Report.Written s.hot.lines s.hot.bytes = c.exact ∙ unfold report_of in rw (e, le-ltb _ _ l) in
    let z : (report_said r).refusal ≡ 0 = ap (λ x. (report_said x).refusal) p ∙ unfold report_said in refl in
    (z, counts_all file, c.counted file g z)

-- 02, request m, of the calls.
-- A report into a buffer that is too small writes nothing.
unwritten : (file : List ℕ) (s : State) → Given file s → (buffer : List ℕ) (r : ReportAnswer) (after : List ℕ)
    → length buffer < row_count → Reports s buffer r after → after ≡ buffer
unwritten file s g buffer r after small p =
    let e = (then_late_or_no_room s (given_ranged file s g)).2 buffer r after small p in
    refused_report_writes_nothing s buffer r after p (λ z. unfold report_said in omega (arith, sym (ap (λ x. (report_said x).refusal) e) ∙ z))

-- files with the same counts, in a report
same_report : (file other : List ℕ) (s t : State) → Given file s → Given other t → counts_of other ≡ counts_of file
    → (buffer : List ℕ) (a b : ReportAnswer) (x y : List ℕ) → Reports s buffer a x → Reports t buffer b y → y ≡ x
same_report file other s t h g e buffer a b x y p q = go (dec_lt (length buffer) row_count)
  where
    go : Dec (length buffer < row_count) → y ≡ x
    go (yes small) = unwritten other t g buffer b y small q ∙ sym (unwritten file s h buffer a x small p)
    go (no small) =
        (report_at_any_time other t buffer b y g (omega arith) q).2 ∙ ap (λ c. c ++ drop row_count buffer) e
        ∙ sym (report_at_any_time file s buffer a x h (omega arith) p).2

pub groups_may_be_exchanged : D.GroupsMayBeExchanged
groups_may_be_exchanged before first second after near s r h c t q g d l n =
    let file = before ++ first ++ second ++ after in
    let other = exchanged before first second after in (
      (λ e.
          let same = groups_exchange before first second after near l n (sym (c.joined file h) ∙ e) in (
            d.joined other g ∙ same.0,
            same_report file other r.state q.state (inr (c.closed file h)) (inr (d.closed other g)) same.1,
            d.totalled other g ∙ same.2 ∙ sym (c.totalled file h),
          )),
      (λ e. c.joined file h ∙ exchanged_back before first second after near l n (sym (d.joined other g) ∙ e)),
    )

pub one_result : D.OneResult
one_result = (
  (λ r q x y. x ∙ sym y),
  (λ s piece r q x y. x.exact ∙ sym y.exact),
  (λ s r q x y. x.exact ∙ sym y.exact),
  (λ s before r q a b x y. (x.exact ∙ sym y.exact, x.buffer ∙ sym y.buffer)),
)
