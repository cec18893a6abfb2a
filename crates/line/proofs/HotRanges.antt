-- What each byte changes keeps its ranges: after one more byte of a field, after a bar, and after a line's end.
use Prim.Native.Nat.{ℕ, ◌+◌, ◌*◌, ◌%◌, ◌<◌, ◌≤◌}
use native.Mathlib.Nat.{mod-lt}
use native.Mathlib.Omega.{arith}
use lib.Dec.{eqb, ltb, lit≤}
use Rattle.layout.specs.Rows.{row_count, most_fields, is_closing}
use Rattle.layout.specs.Packed.{most_kind}
use Rattle.layout.specs.Periods.{period_count, period_of}
use Rattle.rules.specs.Rules.{byte_limit}
use Rattle.rules.proofs.TestLaws.{pick_le}
use Rattle.field.specs.Streaming.{FieldFit, cap}
use Rattle.field.specs.declared.bytes.Field.{Field}
use Rattle.field.proofs.LengthLaws.{one_longer, fit_after}
use Rattle.line.specs.Machine.{HotFit, judged_with, number_unit, most_says, grown_of, moved_of, ended_of, since_of, date_unit}
use Rattle.line.specs.Machine.{word_row, number_of, states_of, dates_of, dated_of, says_of}
use Rattle.line.specs.declared.hot.Hot.{Hot}
use Rattle.line.proofs.RowLaws.{word_row_le}
use Rattle.line.proofs.StatementLaws.{number_most}

-- one more byte is judged
pub judged_fit : (h : Hot) → HotFit h → h.bytes ≤ byte_limit
    → (g : Field) → g.length ≤ h.bytes + 1 → g.wrong ≤ g.length → g.value ≤ cap → HotFit (judged_with h g)
judged_fit h f limit g length wrong value =
    record {
      bytes = omega arith;
      lines = omega (arith, f.lines);
      last = f.last;
      since = omega (arith, f.since);
      says = f.says;
      bars = f.bars;
      row = f.row;
      coded = f.coded;
      some_field = f.some_field;
      fields = f.fields;
      kind = f.kind;
      length = length;
      wrong = wrong;
      value = value;
    }

module _ (h : Hot) (f : HotFit h) where
  module _ (small : h.bytes < byte_limit) where
    pub grown_fit : (b : ℕ) → b < 256 → HotFit (grown_of h b)
    grown_fit b byte =
        let fit : FieldFit h.field = record { length = omega (arith, f.length); wrong = f.wrong; value = f.value } in
        let next = fit_after {f = h.field} {b = b} fit byte (omega (arith, f.length)) h.kind f.kind in
        let long = one_longer h.kind h.field b in
        judged_fit h f (omega arith) _ (omega (arith, f.length)) next.wrong next.value

    pub moved_fit : h.bars ≤ most_fields → (r fields kind says : ℕ) → r ≤ row_count → (2 ≤ h.bars + 1 → r < row_count)
        → 1 ≤ fields → fields ≤ most_fields → kind ≤ most_kind → says ≤ most_says → HotFit (moved_of h r fields kind says)
    moved_fit room r fields kind says row coded some most small-kind said =
        record {
          bytes = omega arith;
          lines = omega (arith, f.lines);
          last = f.last;
          since = omega (arith, f.since);
          says = said;
          bars = omega arith;
          row = row;
          coded = coded;
          some_field = some;
          fields = most;
          kind = small-kind;
          length = omega arith;
          wrong = omega arith;
          value = omega arith;
        }

  since_le : since_of h ≤ h.bytes + 1
  unfolding since_of
  since_le = pick_le (is_closing h.row) 0 (h.since + 1) (h.bytes + 1) (omega arith) (omega (arith, f.since))

  pub ended_fit : h.bytes < byte_limit → HotFit (ended_of h)
  ended_fit small =
      record {
        bytes = omega arith;
        lines = omega (arith, f.lines);
        last = f.row;
        since = since_le;
        says = f.says;
        bars = omega arith;
        row = omega arith;
        coded = λ two. absurd (omega arith);
        some_field = omega arith;
        fields = omega arith;
        kind = omega arith;
        length = omega arith;
        wrong = omega arith;
        value = omega arith;
      }

  -- what a line says
  states_le : states_of h ≤ most_says
  unfolding states_of
  states_le =
      let row = mod-lt h.says {m = number_unit} (omega arith) in
      pick_le (eqb h.bars 2) (word_row h) (h.says % number_unit + number_unit * number_of h.field) most_says
      (omega (arith, word_row_le h)) (omega (arith, row, number_most h.field f.value))

  dated_le : dated_of h ≤ most_says
  unfolding dated_of dates_of
  dated_le =
      let first = mod-lt h.says {m = date_unit} (omega arith) in
      let both : h.says % date_unit * date_unit + h.field.value ≤ most_says = omega (arith, f.value) in
      pick_le (ltb (period_of h.row) period_count) _ h.says most_says both f.says

  pub says_le : says_of h ≤ most_says
  unfolding says_of
  says_le = let le = f.says in search (pick_le, lit≤, states_le, dated_le) depth 8
