-- Rules of the rows whose lines say nothing, and of the places between fields or lines.
use Rattle.std.specs.Prelude.{is_some}
use mathlib.Core.Path.{◌≡◌, ◌∙◌, refl, ap}
use mathlib.Core.Bool.{true, false, not, ◌&&◌}
use mathlib.Core.List.{List}
use Prim.Native.Nat.{ℕ, zero, suc, ◌+◌, ◌-◌, ◌<◌, ◌≤◌}
use native.Mathlib.Omega.{arith}
use lib.Dec.{eqb, leb, ltb}
use Rattle.std.proofs.lemmas.Bool.{not-false}
use borrow.Author.Tests.{leb-true, lt-ltb, le-ltb, not-true, eq-eqb, eqb-true, ne_eqb}
use Rattle.layout.specs.Rows.{row_count, none, fields, level, block, blocks, is_opening, is_closing, row0000, row9900, row9999}
use Rattle.layout.specs.Kinds.{field_count, row_start}
use Rattle.layout.specs.Packed.{some_but}
use Rattle.layout.specs.Periods.{period_count, period_of, later_date}
use Rattle.layout.proofs.RoleLaws.{level_row, level_0000, level_9999}
use Rattle.layout.proofs.PeriodLaws.{no_later}
use Rattle.layout.proofs.BlockLaws.{opening_level, closing_level}
use Rattle.layout.proofs.StartLaws.{block_below}
use Rattle.layout.proofs.KindLaws.{fields_within}
use Rattle.std.proofs.lemmas.Bool.{and_parts}
use Rattle.rules.proofs.TestLaws.{split}
use Rattle.field.specs.Streaming.{empty_field}
use Rattle.field.specs.declared.bytes.Field.{Field}
use Rattle.line.specs.Machine.{code_kind, code_only}
use Rattle.line.specs.declared.hot.Hot.{Hot}
use Rattle.run.specs.declared.place.Place.{Place}
use Rattle.layout.specs.Silent.{is_silent, silent_block}
use Rattle.run.specs.Places.{line_start, field_start, hot_at, Placed, index_of, place_of}
use Rattle.run.specs.Places.{StartsLine, StartsField, Begins}

-- A silent row is a data row without a period, and none of the named rows.
module _ (r : ℕ) (silent : is_silent r ≡ true) where
  data_alone : (leb 2 (level r) && leb period_count (period_of r)) ≡ true
  unfolding is_silent
  data_alone = (and_parts (leb 2 (level r) && leb period_count (period_of r)) (not (eqb r row9900)) silent).0

  pub silent_data : 2 ≤ level r
  silent_data = leb-true 2 (level r) (and_parts (leb 2 (level r)) (leb period_count (period_of r)) data_alone).0

  pub silent_row : r < row_count
  silent_row = let l = silent_data in level_row r (omega arith)

  pub silent_period : ltb (period_of r) period_count ≡ false
  silent_period =
      le-ltb (period_of r) period_count
      (leb-true period_count (period_of r) (and_parts (leb 2 (level r)) (leb period_count (period_of r)) data_alone).1)

  pub silent_later : later_date r ≡ 0
  silent_later = no_later r silent_period

  pub silent_9900 : eqb r row9900 ≡ false
  unfolding is_silent
  silent_9900 =
      not-true (eqb r row9900) (and_parts (leb 2 (level r) && leb period_count (period_of r)) (not (eqb r row9900)) silent).1

  pub silent_9999 : eqb r row9999 ≡ false
  silent_9999 = ne_eqb r row9999 (λ e. omega (arith, ap level e, level_9999, silent_data))

  pub silent_0000 : eqb r row0000 ≡ false
  silent_0000 = ne_eqb r row0000 (λ e. omega (arith, ap level e, level_0000, silent_data))

  pub silent_opening : is_opening r ≡ false
  silent_opening = split (is_opening r) (λ t. absurd (omega (arith, opening_level r silent_row t, silent_data))) (λ t. t)

  -- its entry in the table of such rows is its block
  pub silent_block_lem : silent_block r ≡ block r
  unfolding silent_block
  silent_block_lem = rw silent

  pub silent_closing : is_closing r ≡ false
  silent_closing = split (is_closing r) (λ t. absurd (omega (arith, closing_level r silent_row t, silent_data))) (λ t. t)

pub silent_block_below : (r : ℕ) → is_silent r ≡ true → silent_block r < blocks
silent_block_below r e = omega (arith, silent_block_lem r e, block_below r (silent_row r e))

-- and of these rows alone there is one
pub silent_known : (r : ℕ) → is_some (some_but blocks (silent_block r)) ≡ is_silent r
unfolding silent_block
silent_known r =
    split (is_silent r)
    (λ e. rw (e, ne_eqb (block r) blocks (λ q. omega (arith, block_below r (silent_row r e)))))
    (λ e. rw e)

-- The state at a place.
module _ (p : Place) (bytes : ℕ) where
  pub at_line : p.row ≡ none → hot_at p bytes ≡ line_start p bytes
  unfolding hot_at
  at_line e = rw (eq-eqb p.row none e)

  pub at_field : p.row < row_count → hot_at p bytes ≡ field_start p bytes
  unfolding hot_at
  at_field l = rw (ne_eqb p.row none (λ e. omega arith))

  pub place_bytes : (hot_at p bytes).bytes ≡ bytes
  unfolding hot_at
  place_bytes = split (eqb p.row none) (λ t. rw t) (λ t. rw t)

-- Where the fields of a row start in the table of kinds.
pub start_next : (r : ℕ) → row_start (suc r) ≡ row_start r + fields r
unfolding row_start
start_next r = refl

-- no row's fields start past the table, and neither do those of no row
pub start_most : (r : ℕ) → r ≤ row_count → row_start r ≤ field_count
start_most zero l = let e = fields_within 0 (omega arith) in omega arith
start_most (suc r) l = omega (arith, start_next r, fields_within r l)

-- a place is within its row
pub bars_within : (p : Place) → Placed p → p.row < row_count → p.index - row_start p.row ≤ field_count
bars_within p placed l = omega (arith, placed.to l, fields_within p.row l)

-- Nothing has come of a field whose numbers are 0.
pub no_byte_lem : (f : Field) → f.length ≡ 0 → f.wrong ≡ 0 → f.value ≡ 0 → f ≡ empty_field
no_byte_lem f = same f.length f.wrong f.value
  where
    same : (l w v : ℕ) → l ≡ 0 → w ≡ 0 → v ≡ 0 → ◌≡◌ {A = Field} (record { length = l; wrong = w; value = v }) empty_field
    same l w v p q r = rw (p, q, r)

pub no_byte : (f : Field) → not (eqb f.length 0 && (eqb f.wrong 0 && eqb f.value 0)) ≡ false → f ≡ empty_field
no_byte f e =
    let all = and_parts (eqb f.length 0) (eqb f.wrong 0 && eqb f.value 0)
    (not-false (eqb f.length 0 && (eqb f.wrong 0 && eqb f.value 0)) e) in
    let rest = and_parts (eqb f.wrong 0) (eqb f.value 0) all.1 in
    no_byte_lem f (eqb-true f.length 0 all.0) (eqb-true f.wrong 0 rest.0) (eqb-true f.value 0 rest.1)

-- A state in which nothing has come of the field at hand is that of its place.
module _ (h : Hot) (fresh : h.field ≡ empty_field) where
  -- its line's part may be given in other words
  same_state : (bars row fields kind : ℕ) → h.bars ≡ bars → h.row ≡ row → h.fields ≡ fields → h.kind ≡ kind
      → ◌≡◌ {A = Hot}
      (record {
        lines = h.lines;
        bytes = h.bytes;
        last = h.last;
        since = h.since;
        says = h.says;
        bars = bars;
        row = row;
        fields = fields;
        kind = kind;
        field = empty_field;
      })
      h
  same_state bars row fields kind b r f k = rw (← b, ← r, ← f, ← k, ← fresh)

  pub line_begins : h.bars ≡ 0 → StartsLine h → Begins h
  line_begins first s =
      record {
        placed = λ i.
            record {
              row = omega arith;
              going = λ e. s.going;
              silent = λ l. absurd (omega arith);
              from = λ l. absurd (omega arith);
              to = λ l. absurd (omega arith);
            };
        same = λ i.
            at_line (place_of h i) h.bytes s.row ∙ same_state 0 none code_only code_kind first s.row s.fields s.kind;
      }

  -- its index counts the fields from the row's first on
  field_index : 1 ≤ h.bars → index_of h ≡ row_start h.row + (h.bars - 1)
  unfolding index_of
  field_index l = rw (ne_eqb h.bars 0 (λ e. omega arith))

  pub field_begins : StartsField h → Begins h
  field_begins s =
      let index = field_index (omega arith) in
      let bars : h.bars ≡ index_of h - row_start h.row + 1 = omega arith in
      record {
        placed = λ i.
            record {
              row = omega arith;
              going = λ e. absurd (omega arith);
              silent = λ l. s.silent;
              from = λ l. omega arith;
              to = λ l. omega arith;
            };
        same = λ i.
            at_field (place_of h i) h.bytes s.row
            ∙ same_state _ h.row _ _ bars refl s.fields (rw (← bars) s.kind);
      }
