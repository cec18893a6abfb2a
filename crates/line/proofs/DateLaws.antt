-- Dates as words and as numbers: what a date's bar lets pass is empty or has eight digits, and goes by its value.
use mathlib.Core.Path.{◌≡◌, ◌∙◌, refl, sym}
use mathlib.Core.Bool.{Bool, true, false, not, ◌&&◌, ◌||◌, or-true}
use mathlib.Core.List.{List, [], ◌∷◌}
use Prim.Native.Nat.{ℕ, ◌+◌, ◌-◌, ◌*◌, ◌/◌, ◌%◌, ◌^◌, ◌<◌, ◌≤◌, min}
use native.Mathlib.Omega.{arith}
use native.Mathlib.Decide.{ℕ_discrete}
use native.Mathlib.Nat.{mod-le}
use lib.Dec.{eqb, leb}
use lib.ListN.{length}
use borrow.Author.Tests.{eq-eqb, ne_eqb, eqb-true, leb-true, not-true}
use Rattle.layout.specs.Pick.{pick}
use Rattle.layout.specs.Kind.{Kind, code_field, line_code, C, N, N-, decimals, date, cnpj, cpf, lfpd, brasil, opens, count, no_field}
use Rattle.layout.specs.Rows.{row_count}
use Rattle.layout.specs.Kinds.{kind}
use Rattle.layout.specs.Periods.{first_date, later_date}
use Rattle.layout.specs.Packed.{kind_number}
use Rattle.layout.proofs.PeriodLaws.{has_period, later_inside, date_kind_lem, dates_order}
use Rattle.rules.specs.Bytes.{empty}
use Rattle.rules.specs.Fields.{is_digit, all_digits, value, days_of, is_date, same_bytes, form_of}
use Rattle.std.proofs.lemmas.Bool.{and_parts}
use Rattle.rules.proofs.TestLaws.{same_test, then_holds}
use Rattle.rules.proofs.SoundLaws.{Passed}
use Rattle.field.specs.Streaming.{cap, with_byte, field_after}
use Rattle.field.specs.Ruled.{ruled}
use Rattle.field.proofs.DigitLaws.{digits_value, digit_below, value_below}
use Rattle.line.specs.Machine.{date_unit}

-- the kind of a date is known by its number
pub date_of : (k : Kind) → kind_number k ≡ kind_number date → k ≡ date
unfolding kind_number
date_of code_field e = absurd (omega arith)
date_of (C n) e = absurd (omega arith)
date_of line_code e = absurd (omega arith)
date_of (N n) e = absurd (omega arith)
date_of N- e = absurd (omega arith)
date_of (decimals n) e = absurd (omega arith)
date_of date e = refl
date_of cnpj e = absurd (omega arith)
date_of cpf e = absurd (omega arith)
date_of lfpd e = absurd (omega arith)
date_of brasil e = absurd (omega arith)
date_of opens e = absurd (omega arith)
date_of count e = absurd (omega arith)
date_of no_field e = absurd (omega arith)

-- the dates of a row that has a period
pub dates_kinds : (r : ℕ) → r < row_count → has_period r ≡ true → (kind r (first_date r) ≡ date) × (kind r (later_date r) ≡ date)
dates_kinds r known p =
    let inside = later_inside r known p in
    let first = date_kind_lem r known p (first_date r) (omega (arith, dates_order r)) in
    let later = date_kind_lem r known p (later_date r) inside in (
      date_of _ (eqb-true _ _ (first ∙ rw (eq-eqb (first_date r) (first_date r) refl))),
      date_of _ (eqb-true _ _ (later ∙ rw (eq-eqb (later_date r) (later_date r) refl) (or-true (eqb (later_date r) (first_date r))))),
    )

-- what a date's bar lets pass
pub record DateWord (w : List ℕ) : Type 0 where
  pub digits : not (empty w) ≡ true → all_digits w ≡ true
  pub size : not (empty w) ≡ true → length w ≡ 8
  pub real : (empty w || is_date (value w)) ≡ true

pub passed_date : (r : ℕ) (before : List ℕ) (n : ℕ) (w : List ℕ) → kind r n ≡ date → Passed r before n w → DateWord w
unfolding form_of
passed_date r before n w e p =
    record {
      digits = rw e at p.in_characters;
      size = λ some. eqb-true (length w) 8 (rw e at p.in_size some);
      real = rw e at p.in_content;
    }

-- the same, of a word whose bar breaks none of rules 10 to 12
unbroken : (characters size content : Bool) (rest : ℕ)
    → pick characters 10 (pick size 11 (pick (not content) 12 rest)) ≡ 0
    → (characters ≡ false) × (size ≡ false) × (content ≡ true)
unbroken true size content rest e = absurd (omega arith)
unbroken false true content rest e = absurd (omega arith)
unbroken false false true rest e = (refl, refl, refl)
unbroken false false false rest e = absurd (omega arith)

pub ruled_date : (due : ℕ) (w : List ℕ) → ruled (form_of date) due w ≡ 0 → DateWord w
unfolding ruled form_of
ruled_date due w e =
    let filled = not (empty w) in
    let right =
    unbroken (filled && not (all_digits w)) (filled && not (eqb (length w) 8)) (empty w || is_date (value w)) _ e in
    record {
      digits = then_holds filled (all_digits w) right.0;
      size = λ some. eqb-true (length w) 8 (then_holds filled (eqb (length w) 8) right.1 some);
      real = right.2;
    }

-- what is kept of any word of that kind
pub kept_date : (w : List ℕ) → (field_after (kind_number date) w).value ≡ min cap (value w)
unfolding with_byte kind_number
kept_date = digits_value (kind_number date) (λ f b. refl)

-- a date's number is below the unit
module _ (w : List ℕ) (d : DateWord w) where
  pub date_below : value w < date_unit
  date_below = go w d
    where
      go : (w : List ℕ) → DateWord w → value w < date_unit
      go [] d = unfold value in omega arith
      go (b ∷ w) d =
          let some : not (empty (b ∷ w)) ≡ true = unfold empty in refl in
          let e = d.size some in
          let l = value_below (b ∷ w) (d.digits some) in
          let t : value (b ∷ w) < 10 ^ 8 = rw e at l in
          omega arith

  -- no date has the number of an empty one, nor a number that an opening says
  pub date_large : not (empty w) ≡ true → 1900 ≤ value w
  unfolding is_date
  date_large some =
      let n = value w in
      let day = leb 1 (n / 1000000) in
      let month = leb (n / 1000000) (days_of (n % 10000) (n / 10000 % 100)) in
      let from = leb 1900 (n % 10000) in
      let to = leb (n % 10000) 2099 in
      let real : (day && month && from && to) ≡ true = rw (not-true (empty w) some) at d.real in
      let year = leb-true 1900 (n % 10000) (and_parts (day && month) from (and_parts (day && month && from) to real).0).1 in
      omega (arith, mod-le n 10000)

-- Digits of one length go by their value.
last_digit : (x y c d : ℕ) → c < 10 → d < 10 → eqb (x * 10 + c) (y * 10 + d) ≡ (eqb c d && eqb x y)
last_digit x y c d hc hd = go (ℕ_discrete c d) (ℕ_discrete x y)
  where
    go : Dec (c ≡ d) → Dec (x ≡ y) → eqb (x * 10 + c) (y * 10 + d) ≡ (eqb c d && eqb x y)
    go (yes p) (yes q) = rw (eq-eqb c d p, eq-eqb x y q) (eq-eqb (x * 10 + c) (y * 10 + d) (omega arith))
    go (yes p) (no q) = rw (eq-eqb c d p, ne_eqb x y q) (ne_eqb (x * 10 + c) (y * 10 + d) (λ e. q (omega arith)))
    go (no p) e = rw (ne_eqb c d p) (ne_eqb (x * 10 + c) (y * 10 + d) (λ e. p (omega arith)))

same_digit : (b c : ℕ) → is_digit b ≡ true → is_digit c ≡ true → eqb b c ≡ eqb (b - 48) (c - 48)
unfolding is_digit
same_digit b c hb hc =
    let lb = leb-true 48 b (and_parts (leb 48 b) (leb b 57) hb).0 in
    let lc = leb-true 48 c (and_parts (leb 48 c) (leb c 57) hc).0 in
    same_test b c (b - 48) (c - 48) (λ e. omega arith) (λ e. omega arith)

same_digits : (v w : List ℕ) → all_digits v ≡ true → all_digits w ≡ true → length v ≡ length w → same_bytes v w ≡ eqb (value v) (value w)
unfolding same_bytes value all_digits
same_digits [] [] p q e = refl
same_digits [] (c ∷ w) p q e = absurd (omega arith)
same_digits (b ∷ v) [] p q e = absurd (omega arith)
same_digits (b ∷ v) (c ∷ w) p q e =
    let hb = (and_parts (is_digit b) (all_digits v) p).0 in
    let hc = (and_parts (is_digit c) (all_digits w) q).0 in
    rw (
      same_digits v w (and_parts (is_digit b) (all_digits v) p).1 (and_parts (is_digit c) (all_digits w) q).1 (omega arith),
      same_digit b c hb hc,
      last_digit (value v) (value w) (b - 48) (c - 48) (digit_below b hb) (digit_below c hc),
    )

-- so do dates: bytes equal, or both empty
pub same_dates : (v w : List ℕ) → DateWord v → DateWord w → same_bytes v w ≡ eqb (value v) (value w)
same_dates [] [] p q = unfold same_bytes value in refl
same_dates [] (c ∷ w) p q =
    let large = date_large (c ∷ w) q (unfold empty in refl) in
    sym (ne_eqb (value []) (value (c ∷ w)) (λ e. unfold value in omega arith) ∙ (unfold same_bytes in refl))
same_dates (b ∷ v) [] p q =
    let large = date_large (b ∷ v) p (unfold empty in refl) in
    sym (ne_eqb (value (b ∷ v)) (value []) (λ e. unfold value in omega arith) ∙ (unfold same_bytes in refl))
same_dates (b ∷ v) (c ∷ w) p q =
    let first : not (empty (b ∷ v)) ≡ true = unfold empty in refl in
    let second : not (empty (c ∷ w)) ≡ true = unfold empty in refl in
    same_digits (b ∷ v) (c ∷ w) (p.digits first) (q.digits second) (p.size first ∙ sym (q.size second))
