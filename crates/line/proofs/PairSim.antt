-- Rules 20 and 21 at the state of the bytes received: what the bar after the later date asks of the lines before.
use mathlib.Core.Path.{◌≡◌, ◌∙◌, refl, sym, ap}
use mathlib.Core.Bool.{true}
use mathlib.Core.List.{List}
use Prim.Native.Nat.{ℕ, ◌<◌, ◌≤◌, min}
use native.Mathlib.Omega.{arith}
use native.Mathlib.Decide.{ℕ_discrete}
use lib.Dec.{eqb}
use borrow.Author.Tests.{eq-eqb, ne_eqb, eqb-true}
use Rattle.layout.specs.Pick.{pick}
use Rattle.layout.specs.Rows.{row_count, fields}
use Rattle.layout.specs.Kind.{date}
use Rattle.layout.specs.Kinds.{kind}
use Rattle.layout.specs.Periods.{first_date, later_date}
use Rattle.layout.proofs.PeriodLaws.{has_period, first_after, dates_order, later_some}
use Rattle.rules.specs.Bytes.{bar, lines, line_at_hand, field, row_of, rows, row_at_hand, bars, word}
use Rattle.rules.specs.Counts.{lines_of_row, counts_of_rows, due}
use Rattle.rules.specs.Periods.{seen_before, crowded, most_pairs}
use Rattle.rules.specs.Rules.{is_pair_bar, with_bar}
use Rattle.rules.proofs.AllRows.{stood_rows}
use Rattle.rules.proofs.ByteLaws.{hand_on, field_bar, row_later}
use Rattle.rules.proofs.PeriodLaws.{pairs_most}
use Rattle.rules.proofs.SoundLaws.{Sound}
use Rattle.line.specs.Machine.{dates_of, pairs_kept, repeated_of, crowded_of}
use Rattle.line.proofs.DateLaws.{DateWord, dates_kinds, passed_date, ruled_date}
use Rattle.line.proofs.HotOf.{hot_of, dates_pair}
use Rattle.line.proofs.PairLaws.{pair_of, Dated, all_dated, pairs_of, pair_seen, entry_count}
use Rattle.line.proofs.FieldSim.{found}

module _ (seen : List ℕ) (s : Sound seen) (late : 2 ≤ bars seen) (within : bars seen ≤ fields (row_at_hand seen))
    (passed : found seen ≡ 0) (asked : is_pair_bar seen ≡ true) where
  abbrev r : ℕ
  r = row_at_hand seen

  known : r < row_count
  known = (s.known late).0

  is_later : bars seen ≡ later_date r
  unfolding is_pair_bar
  is_later = eqb-true (bars seen) (later_date r) asked

  period : has_period r ≡ true
  period = let e = is_later in later_some r (omega arith)

  -- the line with its bar
  row_is : row_of (with_bar seen) ≡ r
  row_is = ap row_of (sym (hand_on seen bar refl)) ∙ (unfold row_at_hand in row_later seen late)

  abbrev word_of : ℕ → List ℕ
  word_of n = pick (eqb (bars seen) n) (word seen) (field n (line_at_hand seen))

  field_is_lem : (n : ℕ) → field n (with_bar seen) ≡ word_of n
  field_is_lem n = ap (field n) (sym (hand_on seen bar refl)) ∙ field_bar seen n

  -- its dates have passed their bars
  later_word : DateWord (word seen)
  later_word =
      let k : kind r (bars seen) ≡ date = rw is_later (dates_kinds r known period).1 in
      ruled_date (due r (rows seen)) (word seen) (rw k at passed)

  first_word : DateWord (word_of (first_date r))
  first_word = go (ℕ_discrete (bars seen) (first_date r))
    where
      go : Dec (bars seen ≡ first_date r) → DateWord (word_of (first_date r))
      go (yes e) = rw (eq-eqb (bars seen) (first_date r) e) later_word
      go (no e) =
          let under : first_date r < bars seen = omega (arith, is_later, dates_order r) in
          rw (ne_eqb (bars seen) (first_date r) e)
          (passed_date r (rows seen) (first_date r) _ (dates_kinds r known period).0
          (s.passing (first_date r) (first_after r known period) under))

  dated : Dated (with_bar seen)
  dated p = (
    rw (row_is, field_is_lem (first_date r)) first_word,
    rw (row_is, field_is_lem (later_date r), eq-eqb (bars seen) (later_date r) is_later) later_word,
  )

  number_is_lem : dates_of (hot_of seen) ≡ pair_of (with_bar seen)
  unfolding pair_of
  number_is_lem =
      rw (row_is, field_is_lem (first_date r), field_is_lem (later_date r)) (dates_pair seen late known within period is_later)

  -- the lines before
  few : lines_of_row r (rows seen) ≤ most_pairs
  unfolding rows
  few = let e = is_later in pairs_most r (omega arith) (lines seen) s.once

  pub repeated_is : repeated_of (hot_of seen) (counts_of_rows (rows seen)) (pairs_of (lines seen)) ≡ seen_before (with_bar seen) (lines seen)
  unfolding repeated_of pairs_kept rows
  repeated_is =
      let all : min most_pairs (lines_of_row r (rows seen)) ≡ lines_of_row r (rows seen) = let l = few in omega arith in
      rw (entry_count (rows seen) r known, all, number_is_lem)
      (rw (← row_is) (pair_seen (with_bar seen) (rw row_is known) dated (rw row_is period) (lines seen) (stood_rows (rows seen) s.stood)
      (all_dated (lines seen) s.stood s.passed) (rw row_is few)))

  pub crowded_is : crowded_of (hot_of seen) (counts_of_rows (rows seen)) ≡ crowded (with_bar seen) (lines seen)
  unfolding crowded_of crowded rows
  crowded_is = rw (entry_count (rows seen) r known, row_is)
