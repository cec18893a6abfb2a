-- What is kept of the lines ended, for each row and each block: after each step of the line at hand, at every state.
use Rattle.std.specs.Prelude.{◌≡◌, ◌&&◌, List, ℕ, suc, ◌+◌, ◌/◌, ◌%◌, ◌≤◌, ◌<◌, eqb, ltb, length, get_or, set, replicate}
use Rattle.layout.specs.Pick.{pick}
use Rattle.layout.specs.Rows.{row_count, row9900, block, blocks}
use Rattle.layout.specs.Periods.{period_count, period_of}
use Rattle.rules.specs.Bytes.{LF}
use Rattle.rules.specs.Periods.{most_pairs}
use Rattle.rules.specs.Rules.{byte_limit}
use Rattle.rules.specs.Totals.{sum, block_count}
use Rattle.line.specs.Machine.{Below, HotFit, number_unit, entry_of, used_of, joined_of, pair_start, pair_count, untrue, asked_of, step_of}
use Rattle.line.specs.declared.hot.Hot.{Hot}
use Rattle.line.specs.Machine.{Step, Next, Broken}
use Rattle.line.specs.declared.tally.Tally.{Tally}

-- What is kept for each row, after a byte that was accepted: LF ends the line at hand, the file's line n.
unfoldable pub set_of : List ℕ → ℕ → ℕ → List ℕ
set_of xs r v = pick (ltb r row_count) (set xs r v) xs

unfoldable pub counts_with : Hot → ℕ → List ℕ → List ℕ
counts_with h b counts = pick (eqb b LF) (set_of counts h.row (entry_of counts h.row + 1)) counts

unfoldable pub stamps_with : Hot → ℕ → ℕ → List ℕ → List ℕ
stamps_with h n b stamps = pick (eqb b LF) (set_of stamps h.row n) stamps

unfoldable pub occurrences_with : Hot → ℕ → List ℕ → List ℕ → List ℕ
occurrences_with h b stamps occurrences =
    pick (eqb b LF) (set_of occurrences h.row (used_of stamps occurrences h.row + 1)) occurrences

-- What is kept for each block: the total of the line's block is one more; of no block none is.
unfoldable pub raised_of : List ℕ → ℕ → List ℕ
raised_of totals x = pick (ltb x blocks) (set totals x (get_or totals x 0 + 1)) totals

unfoldable pub totals_with : Hot → ℕ → List ℕ → List ℕ
totals_with h b totals = pick (eqb b LF) (raised_of totals (block h.row)) totals

-- What the 9900 lines state of each row, and of no row: what this line says of one is joined to what was stated of it.
unfoldable pub stated_of : List ℕ → ℕ → List ℕ
stated_of stated says =
    let r = says % number_unit in
    pick (ltb r (suc row_count)) (set stated r (joined_of (get_or stated r 0) (says / number_unit))) stated

unfoldable pub stated_with : Hot → ℕ → List ℕ → List ℕ
stated_with h b stated = pick (eqb b LF && eqb h.row row9900) (stated_of stated h.says) stated

-- The pairs of dates: what a line of a row that has a period says is the next one of its row, while there is room.
unfoldable pub paired_of : Hot → ℕ → List ℕ → List ℕ
paired_of h ended pairs =
    pick (ltb (period_of h.row) period_count && ltb ended most_pairs) (set pairs (pair_start h.row + ended) h.says) pairs

unfoldable pub pairs_with : Hot → ℕ → List ℕ → List ℕ → List ℕ
pairs_with h b counts pairs = pick (eqb b LF) (paired_of h (entry_of counts h.row) pairs) pairs

abbrev pub tally_of : List ℕ → List ℕ → List ℕ → List ℕ → List ℕ → List ℕ → Tally
tally_of counts stamps occurrences totals stated pairs =
    record { counts = counts; stamps = stamps; occurrences = occurrences; totals = totals; stated = stated; pairs = pairs }

-- before the first line
abbrev pub fresh_tally : Tally
fresh_tally =
    tally_of (replicate row_count 0) (replicate row_count 0) (replicate row_count 0) (replicate blocks 0) (replicate (suc row_count) 0)
    (replicate pair_count 0)

-- one more line of any row can be counted: no number is above those of a file's bytes
abbrev pub Countable : Tally → Type 0
Countable t = Below (byte_limit + 1) t.counts × Below (byte_limit + 1) t.occurrences × Below (byte_limit + 1) t.totals

abbrev pub tally_with : Hot → ℕ → ℕ → Tally → Tally
tally_with h n b t =
    tally_of (counts_with h b t.counts) (stamps_with h n b t.stamps) (occurrences_with h b t.stamps t.occurrences)
    (totals_with h b t.totals) (stated_with h b t.stated) (pairs_with h b t.counts t.pairs)

-- one more line of row r, the file's line n
abbrev pub counted_tally : Tally → ℕ → ℕ → Tally
counted_tally t r n =
    tally_of (set_of t.counts r (entry_of t.counts r + 1)) (set_of t.stamps r n)
    (set_of t.occurrences r (used_of t.stamps t.occurrences r + 1)) t.totals t.stated t.pairs

-- one more line of block x
abbrev pub raised_tally : Tally → ℕ → Tally
raised_tally t x = tally_of t.counts t.stamps t.occurrences (raised_of t.totals x) t.stated t.pairs

-- what the line at hand says, once it ends: a pair of dates, or what a 9900 line states
abbrev pub paired_tally : Tally → Hot → Tally
paired_tally t h = tally_of t.counts t.stamps t.occurrences t.totals t.stated (paired_of h (entry_of t.counts h.row) t.pairs)

abbrev pub stated_tally : Tally → Hot → Tally
stated_tally t h = tally_of t.counts t.stamps t.occurrences t.totals (stated_with h LF t.stated) t.pairs

abbrev pub on_step : {A : Type 0} → Step → (Hot → A) → (ℕ → ℕ → A) → A
on_step (Next n) go stop = go n
on_step (Broken r f) go stop = stop r f

-- a step, at what is kept
abbrev pub step_with : Hot → Tally → ℕ → Step
step_with h t b = step_of h t.stamps t.occurrences (asked_of h t.counts t.stated t.pairs) b

-- what is kept after a step
abbrev pub kept_after : Step → Hot → ℕ → Tally → Tally
kept_after s h b t = on_step s (λ n. tally_with h n.lines b t) (λ rule field. t)

-- what the loop over a piece keeps
pub record TallyFit (t : Tally) (lines bytes : ℕ) : Type 0 where
  pub each_row : length t.counts ≡ row_count
  pub each_block : length t.totals ≡ blocks
  pub stamps : Below bytes t.stamps
  pub occurrences : Below bytes t.occurrences
  pub stated : (k : ℕ) → k < suc row_count → get_or t.stated k 0 ≤ untrue
  pub totals : (x : ℕ) → x < blocks → block_count x t.counts ≡ get_or t.totals x 0
  pub add_up : sum t.totals ≡ lines

pub record Held (h : Hot) (t : Tally) : Type 0 where
  pub fit : HotFit h
  pub within_limit : h.bytes ≤ byte_limit
  pub tally : TallyFit t h.lines h.bytes
