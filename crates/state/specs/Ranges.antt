-- Every stored number within its range (docs/STATE.md): what refusal 19 asks.
use Rattle.std.specs.Prelude.{Bool, ◌&&◌, ◌||◌, List, ℕ, suc, ◌+◌, eqb, leb, ltb, length, get_or}
use Rattle.layout.specs.Pick.{pick}
use Rattle.layout.specs.Lists.{all_below}
use Rattle.layout.specs.Rows.{row_count, most_fields, blocks}
use Rattle.layout.specs.Packed.{most_kind}
use Rattle.rules.specs.Rules.{byte_limit}
use Rattle.rules.specs.Numbers.{is_rule}
use Rattle.rules.specs.Totals.{sum, block_count}
use Rattle.field.specs.Streaming.{cap}
use Rattle.line.specs.Machine.{most_bars, untrue, most_says}
use Rattle.line.specs.declared.hot.Hot.{Hot}
use Rattle.state.specs.declared.State.{State}
use Rattle.line.specs.declared.tally.Tally.{Tally}

-- the first n entries are at most m
abbrev pub within_to : ℕ → List ℕ → ℕ → Bool
within_to m xs n = all_below n (λ k. leb (get_or xs k 0) m)

-- 02, request g: "19 also covers a total that differs from its rows' sum". Those of the first n blocks are the sums.
abbrev pub totals_to : List ℕ → List ℕ → ℕ → Bool
totals_to counts totals n = all_below n (λ x. eqb (block_count x counts) (get_or totals x 0))

-- the line at hand: from its second bar on its row is known
unfoldable pub line_ranged : Hot → Bool
line_ranged h =
    leb h.bars most_bars && leb h.row row_count && (leb h.bars 1 || ltb h.row row_count) && leb 1 h.fields
    && leb h.fields most_fields && leb h.kind most_kind
    && leb h.field.length h.bytes && leb h.field.wrong h.field.length && leb h.field.value cap

-- the byte that breaks rule 16 is judged too
unfoldable pub hot_ranged : Hot → Bool
hot_ranged h =
    leb h.bytes (byte_limit + 1) && leb h.lines h.bytes && leb h.last row_count && leb h.since h.bytes
    && leb h.says most_says && line_ranged h

-- 02, request e: "a position, 0 for all but 2 and 10", of a byte that has been judged
unfoldable pub position_ranged : ℕ → ℕ → ℕ → Bool
position_ranged rule position bytes =
    pick (eqb rule 2 || eqb rule 10) (leb 1 position && leb position bytes) (eqb position 0)

-- while no rule is broken no field is named and no position given, and the bytes are within the limit
unfoldable pub refusal_ranged : ℕ → ℕ → ℕ → ℕ → Bool
refusal_ranged rule field position bytes =
    pick (eqb rule 0) (eqb field 0 && eqb position 0 && leb bytes byte_limit)
    (is_rule rule && leb field most_bars && position_ranged rule position bytes)

-- what is kept for each row and each block: a count for each row and a total for each block, as the arrays' types say; what is stated
-- of each row and of no row; "and totals whose sum differs from a stored number of lines ended". (So no count or total is above the
-- lines ended. A pair of dates is only compared: any number may stand for one.)
unfoldable pub tally_ranged : Tally → ℕ → ℕ → Bool
tally_ranged t lines bytes =
    eqb (length t.counts) row_count && eqb (length t.totals) blocks
    && within_to bytes t.stamps row_count && within_to bytes t.occurrences row_count
    && within_to untrue t.stated (suc row_count)
    && totals_to t.counts t.totals blocks && eqb (sum t.totals) lines

unfoldable pub ranged_of : State → Bool
ranged_of s =
    hot_ranged s.hot && refusal_ranged s.rule s.field s.position s.hot.bytes
    && tally_ranged s.tally s.hot.lines s.hot.bytes
