-- A line's end: past a silent row's last field CR and LF are two steps that go on, to the next line's start. The line is counted.
use mathlib.Core.Path.{◌≡◌, ◌∙◌, refl}
use mathlib.Core.Bool.{true}
use mathlib.Core.List.{List, ◌∷◌}
use Prim.Native.Nat.{ℕ, suc, ◌+◌, ◌≤◌, ◌<◌}
use native.Mathlib.Omega.{arith}
use native.Mathlib.Numerals.{add-one}
use lib.ListN.{length, drop}
use lib.Seq.{drop-cons}
use borrow.Author.Tests.{ne_eqb, lt-ltb, lt-leb}
use Rattle.layout.specs.Rows.{row_count, block}
use Rattle.rules.specs.Bytes.{CR, LF}
use Rattle.rules.specs.Rules.{byte_limit}
use Rattle.field.proofs.LengthLaws.{one_longer}
use Rattle.line.specs.Machine.{Asked, entry_of, used_of, grown_of, ended_of, since_of, past_of, step_of}
use Rattle.line.specs.declared.hot.Hot.{Hot}
use Rattle.line.specs.Machine.{Next}
use Rattle.line.specs.declared.tally.Tally.{Tally}
use Rattle.run.specs.declared.place.Place.{Place}
use Rattle.line.specs.Tally.{set_of, counts_with, stamps_with, occurrences_with, raised_of, totals_with, stated_with, paired_of, pairs_with}
use Rattle.line.specs.Tally.{tally_of, tally_with}
use Rattle.layout.specs.Silent.{is_silent}
use Rattle.run.specs.Places.{Passes, line_start, field_start, PassesTo, EndsHere, next_line, counted_with}
use Rattle.run.specs.Places.Passes.{here, byte}
use Rattle.run.proofs.PassLaws.{passes_byte}
use Rattle.run.proofs.PlaceLaws.{silent_period, silent_9900, silent_closing, at_line, at_field}

-- past the last field, before the byte limit
module _ (h : Hot) (ss os : List ℕ) (a : Asked) (past : h.fields < h.bars) (room : h.bytes < byte_limit) where
  past_step : (b : ℕ) → step_of h ss os a b ≡ past_of h b
  unfolding step_of
  past_step b =
      rw (
        lt-leb byte_limit h.bytes room,
        ne_eqb h.bars 0 (λ e. omega arith),
        lt-ltb h.fields h.bars past,
      )

  cr_step : h.field.length ≡ 0 → step_of h ss os a CR ≡ Next (grown_of h CR)
  unfolding past_of
  cr_step e = past_step CR ∙ rw e

  lf_step : 0 < h.field.length → step_of h ss os a LF ≡ Next (ended_of h)
  unfolding past_of
  lf_step l = past_step LF ∙ rw (ne_eqb h.field.length 0 (λ e. omega arith))

silent_tally : (h : Hot) (n : ℕ) (t : Tally) → is_silent h.row ≡ true → tally_with h n LF t ≡ counted_with t h.row n
unfolding counts_with stamps_with occurrences_with totals_with stated_with pairs_with paired_of
silent_tally h n t e = rw (silent_period h.row e, silent_9900 h.row e)

module _ (s : List ℕ) (p : Place) (row : p.row < row_count) (silent : is_silent p.row ≡ true) where
  pub end_passes : EndsHere s p → p.at + 2 ≤ length s
      → (before : ℕ) → before + p.at + 2 ≤ byte_limit → (t : Tally)
      → PassesTo s before p t (next_line p) (counted_with t p.row (p.lines + 1))
  unfolding since_of
  end_passes ends within before room t =
      let past = ends.past in
      let h = field_start p (before + p.at) in
      let g = grown_of h CR in
      let e = line_start (next_line p) (before + (p.at + 2)) in
      let rest = drop (p.at + 2) s in
      let bytes : before + p.at + 1 + 1 ≡ before + (p.at + 2) = omega arith in
      let two : suc (p.at + 1) ≡ p.at + 2 = omega arith in
      let first : step_of h t.stamps t.occurrences _ CR ≡ Next g = cr_step h t.stamps t.occurrences _ (omega arith) (omega arith) refl in
      let ended : ended_of g ≡ e = rw (silent_closing p.row silent, bytes) in
      let second : step_of g t.stamps t.occurrences _ LF ≡ Next e =
      lf_step g t.stamps t.occurrences _ (omega arith) (omega arith) (omega (arith, one_longer h.kind h.field CR)) ∙ rw ended in
      let led : Passes h t (CR ∷ LF ∷ rest) e (counted_with t p.row (p.lines + 1)) rest =
      passes_byte h g t CR refl first
      (byte {h = g} {n = e} {h' = e} {t = t} {t' = counted_with t p.row (p.lines + 1)} {b = LF} {xs = rest} {ys = rest}
      second (rw (silent_tally g e.lines t silent) here)) in
      rw (
        at_field p (before + p.at) row,
        at_line (next_line p) (before + (p.at + 2)) refl,
        drop-cons s p.at 0 (omega arith),
        ends.cr,
        ← add-one p.at,
        drop-cons s (p.at + 1) 0 (omega arith),
        ends.lf,
        two,
      ) led
