-- What the checker does with one byte, at every state, after the functions of the step.
use Rattle.std.specs.Prelude.{Bool, not, ◌&&◌, ◌||◌, List, ℕ, suc, ◌+◌, ◌-◌, ◌*◌, ◌%◌, ◌≤◌, ◌<◌, min, eqb, leb, ltb, get_or}
use Rattle.std.specs.Prelude.{Result, Ok, Err}
use Rattle.layout.specs.Pick.{pick}
use Rattle.layout.specs.Lists.{all_below}
use Rattle.layout.specs.Rows.{row_count, none, any_number, level, limit, fields, most_fields, block}
use Rattle.layout.specs.Rows.{parent, is_opening, is_closing, row0000, row9900, row9990, row9999, row_of_code}
use Rattle.layout.specs.Kind.{date, opens}
use Rattle.layout.specs.Kinds.{kind}
use Rattle.layout.specs.Periods.{period_count, period_of, later_date}
use Rattle.layout.specs.Packed.{code_class, kind_number, most_kind}
use Rattle.rules.specs.Bytes.{bar, CR, LF, is_end_byte}
use Rattle.rules.specs.Order.{is_data}
use Rattle.rules.specs.Periods.{most_pairs}
use Rattle.layout.specs.Climb.{climb}
use Rattle.rules.specs.Numbers.{rule_number}
use Rattle.rules.specs.Rules.{byte_limit}
use Rattle.field.specs.Streaming.{cap, empty_field, wrong_at, with_byte, fault_of}
use Rattle.field.specs.declared.bytes.Field.{Field}
use Rattle.line.specs.declared.hot.Hot.{Hot}
use Rattle.line.specs.declared.step.Refusal.{Refusal}

-- what a byte comes to: the next state, or the broken rule with the field
pub data Step : Type 0 where
  Next : Hot → Step
  Broken : ℕ → ℕ → Step

-- the same, as the source says it: this is the state after the step
abbrev pub step_said : {A : Type 0} → Result A Refusal → Hot → Step
step_said (Ok x) h = Next h
step_said (Err e) h = Broken (rule_number e.rule) e.field

-- the most bars of a line: one before each field, and the last one
abbrev pub most_bars : ℕ
most_bars = most_fields + 1

-- before its code has come a line has field 1 alone, of this kind
abbrev pub code_kind : ℕ
code_kind = code_class

abbrev pub code_only : ℕ
code_only = 1

-- what an opening says: 1 for its field 2 being 0, 2 for 1
abbrev pub with_data : ℕ
with_data = 1

abbrev pub without_data : ℕ
without_data = 2

-- what a 9900 line says: the row of the code in its field 2, and once field 3 has ended, so many times one more than the number there,
-- in which no number, and one that the cap has cut, count as one that can't be true.
abbrev pub number_unit : ℕ
number_unit = 256

abbrev pub untrue : ℕ
untrue = cap + 1

abbrev pub most_says : ℕ
most_says = number_unit * (untrue + 1) - 1

-- what a line of a row that has a period says: the digits of its first date, and once the later one has ended, the sixteen digits of
-- both; an empty date counts as 0. Any other line says 0.
abbrev pub date_unit : ℕ
date_unit = 100000000

-- the entries of the rows are at most m
abbrev pub Below : ℕ → List ℕ → Type 0
Below m xs = (k : ℕ) → k < row_count → get_or xs k 0 ≤ m

-- what a step may be asked of: the ranges of the stored numbers (docs/STATE.md). The byte that breaks rule 16 is judged too, and
-- past field 1 a line's row is known.
pub record HotFit (h : Hot) : Type 0 where
  pub bytes : h.bytes ≤ byte_limit + 1
  pub lines : h.lines ≤ h.bytes
  pub last : h.last ≤ row_count
  pub since : h.since ≤ h.bytes
  pub says : h.says ≤ most_says
  pub bars : h.bars ≤ most_bars
  pub row : h.row ≤ row_count
  pub coded : 2 ≤ h.bars → h.row < row_count
  pub some_field : 1 ≤ h.fields
  pub fields : h.fields ≤ most_fields
  pub kind : h.kind ≤ most_kind
  pub length : h.field.length ≤ h.bytes
  pub wrong : h.field.wrong ≤ h.field.length
  pub value : h.field.value ≤ cap

-- one more byte is judged, and of the field at hand this is kept
abbrev pub judged_with : Hot → Field → Hot
judged_with h f =
    record {
      lines = h.lines;
      bytes = h.bytes + 1;
      last = h.last;
      since = h.since;
      says = h.says;
      bars = h.bars;
      row = h.row;
      fields = h.fields;
      kind = h.kind;
      field = f;
    }

-- one more byte of the field at hand
abbrev pub grown_of : Hot → ℕ → Hot
grown_of h b = judged_with h (with_byte h.kind h.field b)

-- one more bar: a field of this kind begins, in a line of this row
abbrev pub moved_of : Hot → ℕ → ℕ → ℕ → ℕ → Hot
moved_of h row fields kind says =
    record {
      lines = h.lines;
      bytes = h.bytes + 1;
      last = h.last;
      since = h.since;
      says = says;
      bars = h.bars + 1;
      row = row;
      fields = fields;
      kind = kind;
      field = empty_field;
    }

-- the lines since the last closing, once the line at hand has ended
unfoldable pub since_of : Hot → ℕ
since_of h = pick (is_closing h.row) 0 (h.since + 1)

-- the line at hand has ended
abbrev pub ended_of : Hot → Hot
ended_of h =
    record {
      lines = h.lines + 1;
      bytes = h.bytes + 1;
      last = h.row;
      since = since_of h;
      says = h.says;
      bars = 0;
      row = none;
      fields = code_only;
      kind = code_kind;
      field = empty_field;
    }

-- Where a line can stand, told from the row of the last line.
unfoldable pub starts_of : ℕ → ℕ → Bool
starts_of last r = pick (eqb (block r) 0) (eqb last row0000) (is_closing last && ltb (block last) (block r))

unfoldable pub ends_of : ℕ → ℕ → Bool
ends_of last r = eqb (block last) (block r) && not (is_closing last) && ltb 0 (level last)

unfoldable pub hangs_of : ℕ → ℕ → Bool
hangs_of last r = eqb (climb (level (parent r)) last) (parent r)

unfoldable pub stands_of : ℕ → ℕ → Bool
stands_of last r =
    pick (eqb r row0000) (eqb last none)
    (pick (is_opening r) (starts_of last r)
    (pick (is_closing r) (ends_of last r) (pick (eqb r row9999) (eqb last row9990) (hangs_of last r))))

-- an array's entry at a row; of no row 0
unfoldable pub entry_of : List ℕ → ℕ → ℕ
entry_of xs r = pick (ltb r row_count) (get_or xs r 0) 0

-- the lines of row r under its parent line: those counted, if the last line of r came after the last line of its parent row
unfoldable pub used_of : List ℕ → List ℕ → ℕ → ℕ
used_of stamps occurrences r = pick (ltb (entry_of stamps (parent r)) (entry_of stamps r)) (entry_of occurrences r) 0

unfoldable pub room_of : List ℕ → List ℕ → ℕ → Bool
room_of stamps occurrences r = eqb (limit r) any_number || ltb (used_of stamps occurrences r) (limit r)

unfoldable pub misplaced_of : ℕ → ℕ → Bool
misplaced_of says r = is_data r && eqb says without_data || is_closing r && eqb says with_data

-- The bar after field 1.
unfoldable pub word_row : Hot → ℕ
word_row h = pick (eqb h.field.length 4) (row_of_code h.field.value) none

unfoldable pub code_bar_of : Hot → List ℕ → List ℕ → ℕ → Step
code_bar_of h stamps occurrences r =
    pick (eqb r none) (Broken 3 1)
    (pick (stands_of h.last r)
    (pick (misplaced_of h.says r) (Broken 5 1)
    (pick (room_of stamps occurrences r) (Next (moved_of h r (fields r) (kind_number (kind r 2)) 0)) (Broken 6 1)))
    (Broken 4 1))

-- The bar after a later field.
unfoldable pub due_of : Hot → ℕ
due_of h = pick (eqb h.row row9999) (h.lines + 1) (h.since + 1 + pick (eqb (block h.row) (block row9999)) 1 0)

-- the bar after a field of 9900
unfoldable pub number_of : Field → ℕ
number_of f = pick (eqb f.length 0) untrue (f.value + 1)

unfoldable pub states_of : Hot → ℕ
states_of h = pick (eqb h.bars 2) (word_row h) (h.says % number_unit + number_unit * number_of h.field)

-- the bar after a date of a row that has a period
unfoldable pub dates_of : Hot → ℕ
dates_of h = h.says % date_unit * date_unit + h.field.value

unfoldable pub dated_of : Hot → ℕ
dated_of h = pick (ltb (period_of h.row) period_count) (dates_of h) h.says

unfoldable pub says_of : Hot → ℕ
says_of h =
    pick (eqb h.kind (kind_number opens)) (pick (eqb h.field.value 0) with_data without_data)
    (pick (eqb h.kind (kind_number date)) (dated_of h) (pick (eqb h.row row9900) (states_of h) h.says))

-- What the 9900 lines state of each row, and of no row: 0 for nothing, else one more than the number. Two statements of one row stay
-- one, or can't both be true.
unfoldable pub joined_of : ℕ → ℕ → ℕ
joined_of stated new = pick (eqb stated 0) new (pick (eqb stated new) stated untrue)

-- it is true of the whole file, 9999 included
unfoldable pub occurs_of : List ℕ → ℕ → ℕ
occurs_of counts r = entry_of counts r + pick (eqb r row9999) 1 0

unfoldable pub holds_of : List ℕ → List ℕ → ℕ → Bool
holds_of counts stated r = eqb (get_or stated r 0) 0 || eqb (get_or stated r 0) (occurs_of counts r + 1)

unfoldable pub all_hold_of : List ℕ → List ℕ → Bool
all_hold_of counts stated = all_below (suc row_count) (holds_of counts stated)

-- The pairs of dates, in the order of the rows that have a period, and of their lines: of each row there is room for most_pairs, and as
-- many are kept as it has lines.
abbrev pub pair_start : ℕ → ℕ
pair_start r = most_pairs * period_of r

abbrev pub pair_count : ℕ
pair_count = most_pairs * period_count

unfoldable pub pairs_kept : List ℕ → ℕ → ℕ
pairs_kept counts r = min most_pairs (entry_of counts r)

-- n numbers from this place on, none of which is v
unfoldable pub none_is : List ℕ → ℕ → ℕ → ℕ → Bool
none_is pairs place n v = all_below n (λ i. not (eqb (get_or pairs (place + i) 0) v))

unfoldable pub repeated_of : Hot → List ℕ → List ℕ → Bool
repeated_of h counts pairs = not (none_is pairs (pair_start h.row) (pairs_kept counts h.row) (dates_of h))

unfoldable pub crowded_of : Hot → List ℕ → Bool
crowded_of h counts = leb most_pairs (entry_of counts h.row)

-- what a bar may ask of the lines before: whether all that is stated holds, whether the pair of dates is a repeated one, and whether
-- there is no room for one more
pub record Asked : Type 0 where
  pub holds : Bool
  pub repeated : Bool
  pub crowded : Bool

abbrev pub asked_of : Hot → List ℕ → List ℕ → List ℕ → Asked
asked_of h counts stated pairs =
    record { holds = all_hold_of counts stated; repeated = repeated_of h counts pairs; crowded = crowded_of h counts }

-- the rule that the lines before make the field break, or 0: at the bar after the later date, and after field 2 of 9999
unfoldable pub pair_rule_of : Hot → Bool → Bool → ℕ
pair_rule_of h repeated crowded = pick (eqb h.bars (later_date h.row)) (pick repeated 20 (pick crowded 21 0)) 0

unfoldable pub asked_rule_of : Hot → Asked → ℕ
asked_rule_of h a =
    pick (eqb h.kind (kind_number date)) (pair_rule_of h a.repeated a.crowded)
    (pick (eqb h.row row9999 && not a.holds) 23 0)

-- the rule that the field at hand breaks, or 0: by itself, or else by the lines before
unfoldable pub found_of : Hot → Asked → ℕ
found_of h a =
    let n = fault_of h.kind h.field (due_of h) in
    pick (eqb n 0) (asked_rule_of h a) n

unfoldable pub field_bar_of : Hot → ℕ → Step
field_bar_of h n =
    pick (eqb n 0) (Next (moved_of h h.row h.fields (kind_number (kind h.row (h.bars + 1))) (says_of h)))
    (Broken n h.bars)

unfoldable pub bar_of : Hot → List ℕ → List ℕ → Asked → Step
bar_of h stamps occurrences a =
    pick (eqb h.bars 1) (code_bar_of h stamps occurrences (word_row h)) (field_bar_of h (found_of h a))

-- A byte in a field, past the last field, and at a line's start.
unfoldable pub control_of : Hot → ℕ → Step
control_of h b = pick (eqb h.field.length 0 && is_end_byte b) (Broken 7 h.bars) (Broken 2 h.bars)

unfoldable pub in_field_of : Hot → List ℕ → List ℕ → Asked → ℕ → Step
in_field_of h stamps occurrences a b =
    pick (eqb b bar) (bar_of h stamps occurrences a) (pick (ltb b 32) (control_of h b) (Next (grown_of h b)))

unfoldable pub past_of : Hot → ℕ → Step
past_of h b =
    pick (eqb h.field.length 0)
    (pick (eqb b CR) (Next (grown_of h b)) (pick (eqb b LF) (Broken 9 0) (Broken 8 h.bars)))
    (pick (eqb b LF) (Next (ended_of h)) (Broken 9 0))

unfoldable pub start_of : Hot → ℕ → Step
start_of h b =
    pick (eqb h.last row9999) (Broken 15 0)
    (pick (eqb b bar) (Next (moved_of h h.row h.fields code_kind h.says)) (Broken 1 0))

-- (what is asked of the lines before is asked at a few bars only)
unfoldable pub step_of : Hot → List ℕ → List ℕ → Asked → ℕ → Step
step_of h stamps occurrences a b =
    pick (leb byte_limit h.bytes) (Broken 16 0)
    (pick (eqb h.bars 0) (start_of h b)
    (pick (ltb h.fields h.bars) (past_of h b) (in_field_of h stamps occurrences a b)))

-- The position in the field that the refusal by this rule gives, at the state before the refusing byte.
unfoldable pub position_of : Hot → ℕ → ℕ
position_of h rule = pick (eqb rule 2) (h.field.length + 1) (pick (eqb rule 10) (wrong_at h.field) 0)
