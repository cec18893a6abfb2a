-- The state that the bytes received stand for, and what one more byte does to it.
use mathlib.Core.Path.{◌≡◌, ◌∙◌, refl, sym, ap}
use mathlib.Core.Bool.{Bool, true, false, ◌&&◌, ◌||◌, or-true, and-false}
use mathlib.Core.List.{List, [], ◌∷◌}
use mathlib.Core.Logic.{◌⊎◌, inl, inr}
use Prim.Native.Nat.{ℕ, suc, ◌+◌, ◌*◌, ◌%◌, ◌<◌, ◌≤◌, min}
use native.Mathlib.Omega.{arith}
use native.Mathlib.Nat.{mod-eq_of_lt, zero-add}
use native.Mathlib.Numerals.{add-one}
use native.Mathlib.Decide.{ℕ_discrete}
use lib.Dec.{eqb, leb, ltb}
use lib.ListN.{length}
use borrow.Author.Tests.{eq-eqb, ne_eqb, lt-ltb, le-ltb, le-leb, lt-leb, leb-true, leb-false, eqb-true}
use Rattle.layout.specs.Pick.{pick}
use Rattle.layout.specs.Rows.{row_count, row9900, fields, is_opening}
use Rattle.layout.specs.Kind.{date}
use Rattle.layout.specs.Kinds.{kind}
use Rattle.layout.specs.Periods.{first_date, later_date}
use Rattle.layout.specs.Packed.{kind_number}
use Rattle.rules.specs.Bytes.{bar, LF, lines, line_at_hand, field, row_of, row_of_word, rows, row_at_hand}
use Rattle.rules.specs.Bytes.{bars, word}
use Rattle.rules.specs.Order.{last}
use Rattle.rules.specs.Fields.{value, is_text}
use Rattle.rules.specs.Rules.{row_to_be}
use Rattle.rules.proofs.TestLaws.{split, both}
use Rattle.layout.proofs.RoleLaws.{fields_none, opening_9900, fields_9900, kinds_9900}
use Rattle.layout.proofs.RowLaws.{fields_most}
use Rattle.layout.proofs.KindLaws.{opens_kind}
use Rattle.layout.proofs.PeriodLaws.{has_period, first_after, later_inside, date_kind_lem, period_opening, period_9900, dates_order}
use Rattle.rules.proofs.ByteLaws.{lines_on, rows_on, bars_on, word_on, field_on, row_on, lines_bar, rows_bar, bars_bar, word_bar}
use Rattle.rules.proofs.ByteLaws.{field_bar, row_code, row_later, lines_lf, rows_lf, bars_lf, word_lf, row_lf, row_early}
use Rattle.rules.proofs.BlockLaws.{since}
use Rattle.field.specs.Streaming.{cap, field_after}
use Rattle.line.specs.Machine.{most_bars, with_data, without_data, number_unit, date_unit, grown_of, moved_of, ended_of, since_of}
use Rattle.line.specs.Machine.{word_row, number_of, states_of, dates_of, dated_of, says_of}
use Rattle.line.specs.declared.hot.Hot.{Hot}
use Rattle.line.proofs.KindLaws.{early_kind}
use Rattle.line.proofs.DateLaws.{kept_date}
use Rattle.line.proofs.StatementLaws.{stated_by, number_is_lem, word_row_small}
use Rattle.field.proofs.LengthLaws.{length_is, line_code_is}

-- a pair of dates as one number; H020 has one date
unfoldable pub pair_number : ℕ → List ℕ → List ℕ → ℕ
pair_number r first later =
    pick (eqb (first_date r) (later_date r)) (min cap (value later)) (min cap (value first) % date_unit * date_unit + min cap (value later))

-- the dates of a row that has a period, once n bars of its line have come
unfoldable pub dates_said : ℕ → ℕ → List ℕ → List ℕ → ℕ
dates_said n r first later =
    pick (leb n (first_date r)) 0 (pick (leb n (later_date r)) (min cap (value first)) (pair_number r first later))

-- what a line says once n bars of it have come, given its fields 2 and 3 and its dates: an opening, whether its block has data; a 9900
-- line, the row of its code, and then its number as well; a line of a row that has a period, its dates; any other line nothing
abbrev statement : ℕ → List ℕ → List ℕ → ℕ
statement n second third =
    pick (ltb n 4) (row_of_word second) (row_of_word second + number_unit * stated_by third)

unfoldable pub said_by : ℕ → ℕ → List ℕ → List ℕ → List ℕ → List ℕ → ℕ
said_by n r second third first later =
    pick (is_opening r) (pick (is_text "0" second) with_data without_data)
    (pick (eqb r row9900) (statement n second third) (pick (has_period r) (dates_said n r first later) 0))

abbrev said_in : ℕ → ℕ → List ℕ → ℕ
said_in n r line = said_by n r (field 2 line) (field 3 line) (field (first_date r) line) (field (later_date r) line)

unfoldable pub says_at : ℕ → List ℕ → ℕ
says_at n line = pick (ltb n 3) 0 (said_in n (row_of line) line)

-- a whole line has all its bars
abbrev pub line_says : List ℕ → ℕ
line_says line = says_at most_bars line

unfoldable pub last_says : List (List ℕ) → ℕ
last_says [] = 0
last_says (line ∷ before) = line_says line

-- what the state holds of it: of the last line ended, until the code of the line at hand has come; then of the line at hand,
-- once its field 2 has ended
unfoldable pub says : List ℕ → ℕ
says seen = pick (ltb (bars seen) 2) (last_says (lines seen)) (says_at (bars seen) (line_at_hand seen))

abbrev pub hot_of : List ℕ → Hot
hot_of seen =
    record {
      lines = length (lines seen);
      bytes = length seen;
      last = last (rows seen);
      since = since (rows seen);
      says = says seen;
      bars = bars seen;
      row = row_at_hand seen;
      fields = fields (row_at_hand seen);
      kind = kind_number (kind (row_at_hand seen) (bars seen));
      field = field_after (kind_number (kind (row_at_hand seen) (bars seen))) (word seen);
    }

-- no field of 9900 is a date
dates_9900 : (eqb (kind_number (kind row9900 2)) (kind_number date) ≡ false) × (eqb (kind_number (kind row9900 3)) (kind_number date) ≡ false)
unfolding kind_number
dates_9900 = (rw kinds_9900.0, rw kinds_9900.1)

-- the bars that have passed a field that is not at hand
one_less : (n m : ℕ) → (n ≡ m → ⊥) → leb n m ≡ leb (suc n) m
one_less n m other =
    split (leb n m)
    (λ t. let l = leb-true n m t in t ∙ sym (le-leb (suc n) m (omega arith)))
    (λ t. let l = leb-false n m t in t ∙ sym (lt-leb (suc n) m (omega arith)))

pub pick_same : {A : Type 0} (t : Bool) (x : A) → pick t x x ≡ x
pick_same true x = refl
pick_same false x = refl

module _ (seen : List ℕ) where
  -- where the state's `says` comes from
  pub says_early : bars seen ≤ 1 → says seen ≡ last_says (lines seen)
  unfolding says
  says_early h = rw (lt-ltb (bars seen) 2 (omega arith))

  says_two : bars seen ≡ 2 → says seen ≡ 0
  unfolding says says_at
  says_two e = rw e

  says_late : 3 ≤ bars seen → says seen ≡ said_in (bars seen) (row_at_hand seen) (line_at_hand seen)
  unfolding says says_at row_at_hand
  says_late h = rw (le-ltb (bars seen) 2 (omega arith), le-ltb (bars seen) 3 (omega arith))

-- what a line of a row that has a period has said
pub says_dates : (seen : List ℕ) → 2 ≤ bars seen → row_at_hand seen < row_count → has_period (row_at_hand seen) ≡ true
    → says seen ≡ dates_said (bars seen) (row_at_hand seen) (field (first_date (row_at_hand seen)) (line_at_hand seen))
    (field (later_date (row_at_hand seen)) (line_at_hand seen))
says_dates seen late known p = go (ℕ_discrete (bars seen) 2)
  where
    r : ℕ
    r = row_at_hand seen

    go : Dec (bars seen ≡ 2)
        → says seen ≡ dates_said (bars seen) r (field (first_date r) (line_at_hand seen)) (field (later_date r) (line_at_hand seen))
    go (yes e) = says_two seen e ∙ (unfold dates_said in rw (e, le-leb 2 (first_date r) (first_after r known p)))
    go (no e) = says_late seen (omega arith) ∙ (unfold said_by in rw (period_opening r known p, period_9900 r known p, p))

-- A byte of a field.
module _ (seen : List ℕ) (b : ℕ) (plain : eqb b LF ≡ false) (inner : eqb b bar ≡ false) where
  hand_says_on : (n : ℕ) → says_at n (line_at_hand (b ∷ seen)) ≡ says_at n (line_at_hand seen)
  unfolding says_at row_at_hand
  hand_says_on n =
      let r = row_at_hand seen in
      let same = field_on seen b plain inner in
      rw (row_on seen b plain inner, same 2, same 3, same (first_date r), same (later_date r))

  says_on : says (b ∷ seen) ≡ says seen
  unfolding says
  says_on = rw (bars_on seen b plain inner, lines_on seen b plain, hand_says_on)

  pub hot_grown : hot_of (b ∷ seen) ≡ grown_of (hot_of seen) b
  unfolding field_after
  hot_grown =
      rw (
        says_on,
        lines_on seen b plain,
        rows_on seen b plain,
        bars_on seen b plain inner,
        row_on seen b plain inner,
        word_on seen b plain inner,
        ← add-one (length seen),
      )

-- A bar.
module _ (seen : List ℕ) where
  -- at the start of a line
  pub hot_first : bars seen ≡ 0
      → hot_of (bar ∷ seen) ≡ moved_of (hot_of seen) (row_at_hand seen) (fields (row_at_hand seen)) 1 (says seen)
  unfolding field_after
  hot_first e =
      rw (says_first, lines_bar seen, rows_bar seen, bars_bar seen, word_bar seen, row_first, kind_first)
      (rw (← add-one (length seen), ← add-one (bars seen)))
    where
      says_first : says (bar ∷ seen) ≡ says seen
      says_first =
          says_early (bar ∷ seen) (omega (arith, bars_bar seen)) ∙ ap last_says (lines_bar seen)
          ∙ sym (says_early seen (omega arith))

      row_first : row_at_hand (bar ∷ seen) ≡ row_at_hand seen
      row_first = row_early (bar ∷ seen) (omega (arith, bars_bar seen)) ∙ sym (row_early seen (omega arith))

      kind_first : kind_number (kind (row_at_hand seen) (suc (bars seen))) ≡ 1
      kind_first =
          ap (λ r. kind_number (kind r (suc (bars seen)))) (row_early seen (omega arith))
          ∙ early_kind (suc (bars seen)) (omega arith)

  -- after field 1: the line has its row
  pub hot_coded : bars seen ≡ 1
      → hot_of (bar ∷ seen) ≡ moved_of (hot_of seen) (row_to_be seen) (fields (row_to_be seen)) (kind_number (kind (row_to_be seen) 2)) 0
  unfolding field_after
  hot_coded e =
      rw (says_two (bar ∷ seen) two, lines_bar seen, rows_bar seen, two, word_bar seen, row_code seen e)
      (rw (← add-one (length seen), e))
    where
      two : bars (bar ∷ seen) ≡ 2
      two = bars_bar seen ∙ ap suc e

  -- an opening's field 2 that its bar passes is 0 where its value is
  abbrev pub OpeningTold : Type 0
  OpeningTold = bars seen ≡ 2 → is_opening (row_at_hand seen) ≡ true → is_text "0" (word seen) ≡ eqb (hot_of seen).field.value 0

  -- after a later field: what the line says, with the field at hand
  abbrev field_with : ℕ → List ℕ
  field_with n = pick (eqb (bars seen) n) (word seen) (field n (line_at_hand seen))

  module _ (late : 2 ≤ bars seen) (known : row_at_hand seen < row_count) (within : bars seen ≤ fields (row_at_hand seen)) where
    abbrev r : ℕ
    r = row_at_hand seen

    abbrev said_next : ℕ
    said_next = said_by (suc (bars seen)) r (field_with 2) (field_with 3) (field_with (first_date r)) (field_with (later_date r))

    says_later : says (bar ∷ seen) ≡ said_next
    says_later =
        says_late (bar ∷ seen) (omega (arith, bars_bar seen))
        ∙ rw (
          bars_bar seen,
          row_later seen late,
          field_bar seen 2,
          field_bar seen 3,
          field_bar seen (first_date r),
          field_bar seen (later_date r),
        )

    abbrev kind_at_hand : ℕ
    kind_at_hand = kind_number (kind (row_at_hand seen) (bars seen))

    -- a row without a period says nothing by a date
    dateless : has_period r ≡ false → dated_of (hot_of seen) ≡ says seen
    unfolding dated_of
    dateless e = rw e

    -- of an opening
    opening_says : OpeningTold → is_opening (row_at_hand seen) ≡ true → said_next ≡ says_of (hot_of seen)
    unfolding said_by says_of
    opening_says told o = rw (o, opens_kind (row_at_hand seen) (bars seen) known, o) (go (ℕ_discrete (bars seen) 2))
      where
        go : Dec (bars seen ≡ 2)
            → pick (is_text "0" (field_with 2)) with_data without_data
            ≡ pick (eqb (bars seen) 2 && true) (pick (eqb (hot_of seen).field.value 0) with_data without_data)
            (pick (eqb kind_at_hand (kind_number date)) (dated_of (hot_of seen))
            (pick (eqb (row_at_hand seen) row9900) (states_of (hot_of seen)) (says seen)))
        go (yes e) = rw (eq-eqb (bars seen) 2 e, told e o)
        go (no e) =
            let row = ne_eqb r row9900 (λ q. both (rw q at o) opening_9900) in
            let none = split (has_period r) (λ t. both o (period_opening r known t)) (λ t. t) in
            rw (ne_eqb (bars seen) 2 e, row, dateless none, pick_same (eqb kind_at_hand (kind_number date)) (says seen))
            (rw (says_late seen (omega arith)) (unfold said_by in rw o))

    -- of a 9900 line
    statement_says : eqb (row_at_hand seen) row9900 ≡ true → said_next ≡ says_of (hot_of seen)
    unfolding said_by says_of
    statement_says s =
        rw (closed, opens_kind (row_at_hand seen) (bars seen) known, closed, and-false (eqb (bars seen) 2), no_date, s)
        (go (ℕ_discrete (bars seen) 2) (ℕ_discrete (bars seen) 3))
      where
        row : row_at_hand seen ≡ row9900
        row = eqb-true (row_at_hand seen) row9900 s

        closed : is_opening (row_at_hand seen) ≡ false
        closed = rw row opening_9900

        no_date : eqb kind_at_hand (kind_number date) ≡ false
        no_date = either (ℕ_discrete (bars seen) 2)
          where
            either : Dec (bars seen ≡ 2) → eqb kind_at_hand (kind_number date) ≡ false
            either (yes e) = rw (row, e, dates_9900.0)
            either (no e) =
                let three : bars seen ≡ 3 = omega (arith, within, ap fields row ∙ fields_9900) in
                rw (row, three, dates_9900.1)

        first : bars seen ≡ 2 → word_row (hot_of seen) ≡ row_of_word (word seen)
        first e = unfold word_row row_of_word in rw (row, e, kinds_9900.0, length_is, line_code_is)

        second : bars seen ≡ 3 → number_of (hot_of seen).field ≡ stated_by (word seen)
        second e = rw (row, e, kinds_9900.1) (number_is_lem (word seen))

        before : bars seen ≡ 3 → says seen ≡ row_of_word (field 2 (line_at_hand seen))
        before e = says_late seen (omega arith) ∙ (unfold said_by in rw (closed, s, e))

        go : Dec (bars seen ≡ 2) → Dec (bars seen ≡ 3)
            → statement (suc (bars seen)) (field_with 2) (field_with 3) ≡ states_of (hot_of seen)
        go (yes e) d = unfold states_of in rw (first e) (rw e)
        go (no n) (yes e) =
            unfold states_of in
            rw (before e, second e, mod-eq_of_lt (word_row_small (field 2 (line_at_hand seen)))) (rw e)
        go (no n) (no d) = absurd (omega (arith, within, ap fields row ∙ fields_9900))

    -- of a line of a row that has a period: its dates so far, and those with the field at hand
    module _ (p : has_period r ≡ true) where
      abbrev first : ℕ
      first = first_date r

      abbrev later : ℕ
      later = later_date r

      abbrev first_word : List ℕ
      first_word = field first (line_at_hand seen)

      before_dates : says seen ≡ dates_said (bars seen) r first_word (field later (line_at_hand seen))
      before_dates = says_dates seen late known p

      is_date_lem : (bars seen ≡ first) ⊎ (bars seen ≡ later) → kind_at_hand ≡ kind_number date
      is_date_lem d = eqb-true kind_at_hand (kind_number date) (date_kind_lem r known p (bars seen) within ∙ one d)
        where
          one : (bars seen ≡ first) ⊎ (bars seen ≡ later) → (eqb (bars seen) first || eqb (bars seen) later) ≡ true
          one (inl e) = rw (eq-eqb (bars seen) first e)
          one (inr e) = rw (eq-eqb (bars seen) later e) (or-true (eqb (bars seen) first))

      -- the date at hand joins those before it
      dates_are : (bars seen ≡ first) ⊎ (bars seen ≡ later) → (n : ℕ) → says seen ≡ n
          → dated_of (hot_of seen) ≡ n % date_unit * date_unit + min cap (value (word seen))
      unfolding dated_of dates_of
      dates_are d n e = rw (p, e, is_date_lem d, kept_date (word seen))

      dates_first : bars seen ≡ first → dated_of (hot_of seen) ≡ min cap (value (word seen))
      dates_first a =
          let none : says seen ≡ 0 = before_dates ∙ (unfold dates_said in rw (le-leb (bars seen) first (omega arith))) in
          dates_are (inl a) 0 none ∙ zero-add (min cap (value (word seen)))

      dates_later : first < bars seen → bars seen ≡ later
          → dated_of (hot_of seen) ≡ min cap (value first_word) % date_unit * date_unit + min cap (value (word seen))
      dates_later under b = dates_are (inr b) (min cap (value first_word)) (before_dates ∙ one)
        where
          one : dates_said (bars seen) r first_word (field later (line_at_hand seen)) ≡ min cap (value first_word)
          one = unfold dates_said in rw (lt-leb (bars seen) first under, le-leb (bars seen) later (omega arith))

      -- in the order of the fields
      date_next : Dec (bars seen ≡ first) → Dec (bars seen ≡ later)
          → dates_said (suc (bars seen)) r (field_with first) (field_with later)
          ≡ pick (eqb (bars seen) first || eqb (bars seen) later) (dated_of (hot_of seen)) (says seen)
      date_next (yes a) (yes b) =
          unfold dates_said pair_number in
          rw (
            dates_first a,
            lt-leb (suc (bars seen)) first (omega arith),
            lt-leb (suc (bars seen)) later (omega arith),
            eq-eqb first later (sym a ∙ b),
            eq-eqb (bars seen) first a,
            eq-eqb (bars seen) later b,
          )
      date_next (yes a) (no b) =
          unfold dates_said in
          rw (
            dates_first a,
            lt-leb (suc (bars seen)) first (omega arith),
            le-leb (suc (bars seen)) later (omega (arith, dates_order r)),
            eq-eqb (bars seen) first a,
          )
      date_next (no a) (yes b) =
          unfold dates_said pair_number in
          rw (
            dates_later (omega (arith, dates_order r)) b,
            lt-leb (suc (bars seen)) first (omega (arith, dates_order r)),
            lt-leb (suc (bars seen)) later (omega arith),
            ne_eqb first later (λ e. omega arith),
            ne_eqb (bars seen) first a,
            eq-eqb (bars seen) later b,
          )
      date_next (no a) (no b) =
          rw (ne_eqb (bars seen) first a, ne_eqb (bars seen) later b)
          (sym (before_dates ∙ (unfold dates_said in rw (one_less (bars seen) first a, one_less (bars seen) later b))))

      -- at the later date they are the pair
      pub dates_pair : bars seen ≡ later → dates_of (hot_of seen) ≡ pair_number r (field_with first) (field_with later)
      dates_pair b = sym dated ∙ sym (date_next (ℕ_discrete (bars seen) first) (yes b) ∙ asked) ∙ paired
        where
          dated : dated_of (hot_of seen) ≡ dates_of (hot_of seen)
          dated = unfold dated_of in rw p

          asked : pick (eqb (bars seen) first || eqb (bars seen) later) (dated_of (hot_of seen)) (says seen) ≡ dated_of (hot_of seen)
          asked = rw (eq-eqb (bars seen) later b, or-true (eqb (bars seen) first))

          paired : dates_said (suc (bars seen)) r (field_with first) (field_with later)
              ≡ pair_number r (field_with first) (field_with later)
          paired =
              unfold dates_said in
              rw (lt-leb (suc (bars seen)) first (omega (arith, dates_order r)), lt-leb (suc (bars seen)) later (omega arith))

      period_says : said_next ≡ says_of (hot_of seen)
      unfolding said_by says_of
      period_says =
          let closed = period_opening r known p in
          let other = period_9900 r known p in
          rw (
            closed,
            other,
            p,
            opens_kind r (bars seen) known,
            closed,
            and-false (eqb (bars seen) 2),
            date_kind_lem r known p (bars seen) within,
          )
          (date_next (ℕ_discrete (bars seen) first) (ℕ_discrete (bars seen) later))

    -- of any other line
    nothing_says : is_opening (row_at_hand seen) ≡ false → eqb (row_at_hand seen) row9900 ≡ false → has_period r ≡ false
        → said_next ≡ says_of (hot_of seen)
    unfolding said_by says_of
    nothing_says o s p =
        rw (
          o,
          s,
          p,
          opens_kind (row_at_hand seen) (bars seen) known,
          o,
          and-false (eqb (bars seen) 2),
          dateless p,
          pick_same (eqb kind_at_hand (kind_number date)) (says seen),
        )
        (go (ℕ_discrete (bars seen) 2))
      where
        go : Dec (bars seen ≡ 2) → 0 ≡ says seen
        go (yes e) = sym (says_two seen e)
        go (no e) = sym (says_late seen (omega arith) ∙ (unfold said_by in rw (o, s, p)))

    says_bar : OpeningTold → says (bar ∷ seen) ≡ says_of (hot_of seen)
    says_bar told =
        says_later
        ∙ split (is_opening (row_at_hand seen)) (λ o. opening_says told o)
        (λ o. split (eqb (row_at_hand seen) row9900) (λ s. statement_says s)
        (λ s. split (has_period r) (λ p. period_says p) (λ p. nothing_says o s p)))

    pub hot_moved : OpeningTold
        → hot_of (bar ∷ seen)
        ≡ moved_of (hot_of seen) (row_at_hand seen) (fields (row_at_hand seen)) (kind_number (kind (row_at_hand seen) (bars seen + 1)))
        (says_of (hot_of seen))
    unfolding field_after
    hot_moved told =
        rw (says_bar told, lines_bar seen, rows_bar seen, bars_bar seen, word_bar seen, row_later seen late)
        (rw (← add-one (length seen), ← add-one (bars seen)))

-- what a 9900 line says at its end
pub says_stated : (seen : List ℕ) → fields (row_at_hand seen) < bars seen → row_at_hand seen ≡ row9900
    → says seen ≡ row_of_word (field 2 (line_at_hand seen)) + number_unit * stated_by (field 3 (line_at_hand seen))
unfolding said_by
says_stated seen past row =
    let four : 4 ≤ bars seen = omega (arith, ap fields row ∙ fields_9900) in
    says_late seen (omega arith) ∙ rw (row, opening_9900, le-ltb (bars seen) 4 four)

-- what a line of a row that has a period says at its end
pub says_pair : (seen : List ℕ) → 2 ≤ bars seen → fields (row_at_hand seen) < bars seen → row_at_hand seen < row_count
    → has_period (row_at_hand seen) ≡ true
    → says seen ≡ pair_number (row_at_hand seen) (field (first_date (row_at_hand seen)) (line_at_hand seen))
    (field (later_date (row_at_hand seen)) (line_at_hand seen))
unfolding dates_said
says_pair seen late past known p =
    let r = row_at_hand seen in
    let inside = later_inside r known p in
    let order = dates_order r in
    says_dates seen late known p ∙ rw (lt-leb (bars seen) (first_date r) (omega arith), lt-leb (bars seen) (later_date r) (omega arith))

-- once all bars have come it has said its pair
pub pair_whole : (r : ℕ) → r < row_count → has_period r ≡ true → (first later : List ℕ)
    → dates_said most_bars r first later ≡ pair_number r first later
unfolding dates_said
pair_whole r known p first later =
    let inside = later_inside r known p in
    let order = dates_order r in
    let most = fields_most r (omega arith) in
    rw (lt-leb most_bars (first_date r) (omega arith), lt-leb most_bars (later_date r) (omega arith))

-- of a whole line it does not matter how many bars it has
said_whole : (r : ℕ) → r < row_count → (n : ℕ) → fields r < n → (second third first later : List ℕ)
    → said_by most_bars r second third first later ≡ said_by n r second third first later
unfolding said_by
said_whole r known n past second third first later =
    split (eqb r row9900)
    (λ s. let row : r ≡ row9900 = eqb-true r row9900 s in
    rw (s, le-ltb n 4 (omega (arith, past, ap fields row ∙ fields_9900))))
    (λ s. split (has_period r)
    (λ p. let inside = later_inside r known p in
    let order = dates_order r in
    let said = pair_whole r known p first later in
    unfold dates_said in
    rw (s, said, lt-leb n (first_date r) (omega arith), lt-leb n (later_date r) (omega arith)))
    (λ p. rw (s, p)))

-- LF, which ends a line of two fields or more.
module _ (seen : List ℕ) where
  whole : row_at_hand seen < row_count → fields (row_at_hand seen) < bars seen
      → line_says (line_at_hand seen) ≡ said_in (bars seen) (row_at_hand seen) (line_at_hand seen)
  unfolding says_at row_at_hand
  whole known past = said_whole (row_at_hand seen) known (bars seen) past _ _ _ _

  says_lf : row_at_hand seen < row_count → 3 ≤ bars seen → fields (row_at_hand seen) < bars seen → says (LF ∷ seen) ≡ says seen
  unfolding last_says
  says_lf known h past =
      says_early (LF ∷ seen) (omega (arith, bars_lf seen)) ∙ ap last_says (lines_lf seen) ∙ whole known past
      ∙ sym (says_late seen h)

  since_lf : since (rows (LF ∷ seen)) ≡ since_of (hot_of seen)
  unfolding since since_of
  since_lf = rw (rows_lf seen, add-one)

  last_lf : last (rows (LF ∷ seen)) ≡ row_at_hand seen
  unfolding last
  last_lf = rw (rows_lf seen)

  pub hot_ended : row_at_hand seen < row_count → 3 ≤ bars seen → fields (row_at_hand seen) < bars seen
      → hot_of (LF ∷ seen) ≡ ended_of (hot_of seen)
  unfolding field_after
  hot_ended known h past =
      rw (says_lf known h past, since_lf, last_lf, lines_lf seen, bars_lf seen, word_lf seen, row_lf seen, fields_none)
      (rw (early_kind 0 (omega arith), ← add-one (length seen), ← add-one (length (lines seen))))
