-- Pairs of dates: one number a pair tells them apart, and the numbers kept of a row tell rules 20 and 21.
use mathlib.Core.Path.{◌≡◌, ◌∙◌, refl, sym, ap}
use mathlib.Core.Bool.{Bool, true, false, not, ◌&&◌, ◌||◌}
use mathlib.Core.List.{List, [], ◌∷◌, map}
use mathlib.Core.Logic.{◌⊎◌, inl, inr}
use Prim.Native.Nat.{ℕ, suc, ◌+◌, ◌*◌, ◌<◌, ◌≤◌, min}
use native.Mathlib.Omega.{arith}
use native.Mathlib.Nat.{mod-eq_of_lt}
use native.Mathlib.Decide.{ℕ_discrete}
use lib.Dec.{eqb, ltb}
use lib.ListN.{length, get_or, set, replicate, length-set, length-replicate}
use lib.Seq.{get_or-set_same, get_or-set_other}
use borrow.Author.Tests.{eq-eqb, ne_eqb, lt-ltb, ltb-true}
use Rattle.layout.specs.Pick.{pick}
use Rattle.layout.specs.Lists.{all_below}
use Rattle.layout.specs.Rows.{row_count}
use Rattle.layout.specs.Periods.{period_count, period_of, first_date, later_date}
use Rattle.layout.proofs.Below.{all_same}
use Rattle.layout.proofs.PeriodLaws.{has_period, first_after, later_inside, dates_order, own_place}
use Rattle.rules.specs.Bytes.{field, row_of, empty}
use Rattle.rules.specs.Counts.{lines_of_row, counts_of_rows}
use Rattle.rules.specs.Fields.{value, same_bytes}
use Rattle.rules.specs.Periods.{same_pair, seen_before, most_pairs}
use Rattle.std.proofs.lemmas.Bool.{and_parts}
use Rattle.rules.proofs.TestLaws.{split}
use Rattle.rules.proofs.Stood.{Stood}
use Rattle.rules.proofs.AllRows.{AllRows}
use Rattle.rules.proofs.CountLaws.{lines_here, lines_past, counts_at}
use Rattle.rules.proofs.SoundLaws.{AllPassed}
use Rattle.field.specs.Streaming.{cap}
use Rattle.line.specs.Machine.{date_unit, entry_of, pair_start, pair_count, none_is}
use Rattle.line.proofs.DateLaws.{DateWord, dates_kinds, passed_date, date_below, date_large, same_dates}
use Rattle.line.proofs.HotOf.{pair_number}

-- the dates of a line, and its pair
abbrev pub first_of : List ℕ → List ℕ
first_of line = field (first_date (row_of line)) line

abbrev pub later_of : List ℕ → List ℕ
later_of line = field (later_date (row_of line)) line

unfoldable pub pair_of : List ℕ → ℕ
pair_of line = pair_number (row_of line) (first_of line) (later_of line)

-- of each line ended the dates have passed their bars
abbrev pub Dated : List ℕ → Type 0
Dated line = has_period (row_of line) ≡ true → DateWord (first_of line) × DateWord (later_of line)

abbrev pub AllDated : List (List ℕ) → Type 0
AllDated [] = Unit {0}
AllDated (line ∷ before) = Dated line × AllDated before

pub all_dated : (ls : List (List ℕ)) → Stood (map row_of ls) → AllPassed ls → AllDated ls
all_dated [] s p = tt
all_dated (line ∷ before) s passed = (dated, all_dated before s.3 passed.1)
  where
    dated : Dated line
    dated p =
        let r = row_of line in
        let known = s.2 in
        let after = first_after r known p in
        let inside = later_inside r known p in
        let order = dates_order r in
        let kinds = dates_kinds r known p in (
          passed_date r (map row_of before) (first_date r) _ kinds.0 (passed.0 (first_date r) after (omega arith)),
          passed_date r (map row_of before) (later_date r) _ kinds.1 (passed.0 (later_date r) (omega arith) inside),
        )

and_self : (a : Bool) → (a && a) ≡ a
and_self true = refl
and_self false = refl

-- The number of a pair of dates.
both_parts : (x y v w : ℕ) → v < date_unit → w < date_unit → eqb (x * date_unit + v) (y * date_unit + w) ≡ (eqb x y && eqb v w)
both_parts x y v w hv hw = go (ℕ_discrete x y) (ℕ_discrete v w)
  where
    go : Dec (x ≡ y) → Dec (v ≡ w) → eqb (x * date_unit + v) (y * date_unit + w) ≡ (eqb x y && eqb v w)
    go (yes p) (yes q) = rw (eq-eqb x y p, eq-eqb v w q) (eq-eqb (x * date_unit + v) (y * date_unit + w) (omega arith))
    go (yes p) (no q) = rw (eq-eqb x y p, ne_eqb v w q) (ne_eqb (x * date_unit + v) (y * date_unit + w) (λ e. q (omega arith)))
    go (no p) d = rw (ne_eqb x y p) (ne_eqb (x * date_unit + v) (y * date_unit + w) (λ e. p (omega arith)))

capped : (w : List ℕ) → DateWord w → min cap (value w) ≡ value w
capped w d = let l = date_below w d in omega arith

pair_value : (r : ℕ) (first later : List ℕ) → DateWord first → DateWord later
    → pair_number r first later ≡ pick (eqb (first_date r) (later_date r)) (value later) (value first * date_unit + value later)
unfolding pair_number
pair_value r first later f l = rw (capped first f, capped later l, mod-eq_of_lt (date_below first f))

-- no pair is what an opening says
pub pair_large : (r : ℕ) (first later : List ℕ) → DateWord first → DateWord later → (n : ℕ) → 1 ≤ n → n ≤ 2
    → pair_number r first later ≡ n → ⊥
pair_large r first later f l n some few e = go (eqb (first_date r) (later_date r)) (sym (pair_value r first later f l) ∙ e) (value_large later l)
  where
    value_large : (w : List ℕ) → DateWord w → (value w ≡ 0) ⊎ (1900 ≤ value w)
    value_large [] d = inl (unfold value in refl)
    value_large (b ∷ w) d = inr (date_large (b ∷ w) d (unfold empty in refl))

    go : (t : Bool) → pick t (value later) (value first * date_unit + value later) ≡ n → (value later ≡ 0) ⊎ (1900 ≤ value later) → ⊥
    go true q (inl z) = omega arith
    go true q (inr z) = omega arith
    go false q (inl z) = omega arith
    go false q (inr z) = omega arith

-- two pairs of a row; where it has one date, it is both
module _ (r : ℕ) (f l f' l' : List ℕ) (df : DateWord f) (dl : DateWord l) (df' : DateWord f') (dl' : DateWord l')
    (one : first_date r ≡ later_date r → (f ≡ l) × (f' ≡ l')) where
  pair_same : eqb (pair_number r f' l') (pair_number r f l) ≡ (same_bytes f' f && same_bytes l' l)
  pair_same = rw (pair_value r f l df dl, pair_value r f' l' df' dl') (go (ℕ_discrete (first_date r) (later_date r)))
    where
      go : Dec (first_date r ≡ later_date r)
          → eqb (pick (eqb (first_date r) (later_date r)) (value l') (value f' * date_unit + value l'))
          (pick (eqb (first_date r) (later_date r)) (value l) (value f * date_unit + value l))
          ≡ (same_bytes f' f && same_bytes l' l)
      go (yes e) =
          rw (eq-eqb (first_date r) (later_date r) e, (one e).0, (one e).1)
          (sym (same_dates l' l dl' dl) ∙ sym (and_self (same_bytes l' l)))
      go (no e) =
          rw (ne_eqb (first_date r) (later_date r) e, same_dates f' f df' df, same_dates l' l dl' dl)
          (both_parts (value f') (value f) (value l') (value l) (date_below l' dl') (date_below l dl))

-- a line before has the row and the pair
unfoldable has_pair : ℕ → ℕ → List (List ℕ) → Bool
has_pair r v [] = false
has_pair r v (x ∷ before) = eqb (row_of x) r && eqb (pair_of x) v || has_pair r v before

module _ (line : List ℕ) (d : Dated line) (p : has_period (row_of line) ≡ true) where
  pair_is : (other : List ℕ) → Dated other → same_pair line other ≡ (eqb (row_of other) (row_of line) && eqb (pair_of other) (pair_of line))
  unfolding same_pair pair_of
  pair_is other d' = go (ℕ_discrete (row_of other) (row_of line))
    where
      r : ℕ
      r = row_of line

      go : Dec (row_of other ≡ r)
          → (eqb (row_of other) r && same_bytes (field (first_date r) other) (field (first_date r) line)
          && same_bytes (field (later_date r) other) (field (later_date r) line))
          ≡ (eqb (row_of other) r
          && eqb (pair_number (row_of other) (first_of other) (later_of other)) (pair_number r (first_of line) (later_of line)))
      go (yes e) =
          let words = d p in
          let words' = d' (rw e p) in
          rw (eq-eqb (row_of other) r e, e)
          (sym (pair_same r (first_of line) (later_of line) (field (first_date r) other) (field (later_date r) other)
          words.0 words.1 (rw (← e) words'.0) (rw (← e) words'.1) (λ q. (rw q, rw q))))
      go (no e) = rw (ne_eqb (row_of other) r e)

  seen_is : (before : List (List ℕ)) → AllDated before → seen_before line before ≡ has_pair (row_of line) (pair_of line) before
  unfolding seen_before has_pair
  seen_is [] all = refl
  seen_is (x ∷ before) all = rw (pair_is x all.0, seen_is before all.1)

-- The numbers kept: each line of a row that has a period sets the next one of its row.
abbrev line_number : ℕ → List (List ℕ) → ℕ
line_number r before = lines_of_row r (map row_of before)

abbrev keeps : ℕ → ℕ → Bool
keeps r n = has_period r && ltb n most_pairs

unfoldable pub pairs_of : List (List ℕ) → List ℕ
pairs_of [] = replicate pair_count 0
pairs_of (line ∷ before) =
    let rest = pairs_of before in
    let r = row_of line in
    let n = line_number r before in
    pick (keeps r n) (set rest (pair_start r + n) (pair_of line)) rest

pairs_length : (ls : List (List ℕ)) → length (pairs_of ls) ≡ pair_count
unfolding pairs_of
pairs_length [] = length-replicate {A = ℕ} pair_count 0
pairs_length (line ∷ before) = go (keeps (row_of line) (line_number (row_of line) before)) (pairs_length before)
  where
    go : (t : Bool) → length (pairs_of before) ≡ pair_count
        → length (pick t (set (pairs_of before) (pair_start (row_of line) + line_number (row_of line) before) (pair_of line)) (pairs_of before))
        ≡ pair_count
    go true e = length-set (pairs_of before) _ _ ∙ e
    go false e = e

one_more : (n : ℕ) (test : ℕ → Bool) → all_below (suc n) test ≡ (test n && all_below n test)
unfolding all_below
one_more n test = refl

-- neither of two holds
none_more : (a b : Bool) → (not a && not b) ≡ not (a || b)
none_more true b = refl
none_more false b = refl

-- the numbers of a row that has a period are the pairs of its lines
module _ (r : ℕ) (known : r < row_count) (p : has_period r ≡ true) (v : ℕ) where
  abbrev is_not : List (List ℕ) → ℕ → Bool
  is_not ls i = not (eqb (get_or (pairs_of ls) (pair_start r + i) 0) v)

  place_below : period_of r < period_count
  place_below = ltb-true (period_of r) period_count p

  -- one more line of the row
  module _ (x : List ℕ) (before : List (List ℕ)) (row : row_of x ≡ r) (room : line_number r before < most_pairs) where
    pairs_here : pairs_of (x ∷ before) ≡ set (pairs_of before) (pair_start r + line_number r before) (pair_of x)
    unfolding pairs_of
    pairs_here = rw (row, p, lt-ltb (line_number r before) most_pairs room)

    new_here : is_not (x ∷ before) (line_number r before) ≡ not (eqb (pair_of x) v)
    new_here =
        rw pairs_here
        (ap (λ k. not (eqb k v))
        (get_or-set_same (pairs_of before) (pair_start r + line_number r before) (pair_of x) 0
        (omega (arith, pairs_length before, place_below))))

    old_here : (i : ℕ) → i < line_number r before → is_not (x ∷ before) i ≡ is_not before i
    old_here i l =
        rw pairs_here
        (ap (λ k. not (eqb k v)) (get_or-set_other (pairs_of before) (pair_start r + line_number r before) (pair_start r + i) (pair_of x) 0 (λ e. omega arith)))

  -- a line of another row
  module _ (x : List ℕ) (before : List (List ℕ)) (other : row_of x < row_count) (row : row_of x ≡ r → ⊥) where
    same_there : (i : ℕ) → i < most_pairs → is_not (x ∷ before) i ≡ is_not before i
    unfolding pairs_of
    same_there i l =
        split (keeps (row_of x) (line_number (row_of x) before))
        (λ t. rw t
        (ap (λ k. not (eqb k v)) (get_or-set_other (pairs_of before) (pair_start (row_of x) + line_number (row_of x) before) (pair_start r + i) (pair_of x) 0
        (λ e. apart (ltb-true _ _ (and_parts (has_period (row_of x)) (ltb (line_number (row_of x) before) most_pairs) t).1) e))))
        (λ t. rw t)
      where
        apart : line_number (row_of x) before < most_pairs → pair_start r + i ≡ pair_start (row_of x) + line_number (row_of x) before → ⊥
        apart few e = row (own_place r (row_of x) known other p (omega arith))

  none_is_lem : (ls : List (List ℕ)) → AllRows (map row_of ls) → line_number r ls ≤ most_pairs
      → none_is (pairs_of ls) (pair_start r) (line_number r ls) v ≡ not (has_pair r v ls)
  unfolding none_is has_pair
  none_is_lem [] rows few = unfold lines_of_row all_below in refl
  none_is_lem (x ∷ before) rows few = go (ℕ_discrete (row_of x) r) (none_is_lem before rows.1)
    where
      go : Dec (row_of x ≡ r)
          → (line_number r before ≤ most_pairs
          → all_below (line_number r before) (is_not before) ≡ not (has_pair r v before))
          → all_below (line_number r (x ∷ before)) (is_not (x ∷ before))
          ≡ not (eqb (row_of x) r && eqb (pair_of x) v || has_pair r v before)
      go (yes e) ih =
          let more = lines_here r (row_of x) (map row_of before) e in
          let room : line_number r before < most_pairs = omega (arith, more, few) in
          let old = all_same (line_number r before) (is_not (x ∷ before)) (is_not before) (old_here x before e room) in
          rw (more, eq-eqb (row_of x) r e, one_more, new_here x before e room, old, ih (omega arith))
          (none_more (eqb (pair_of x) v) (has_pair r v before))
      go (no e) ih =
          let same = lines_past r (row_of x) (map row_of before) e in
          let few' : line_number r before ≤ most_pairs = omega (arith, same, few) in
          let old =
          all_same (line_number r before) (is_not (x ∷ before)) (is_not before)
          (λ i l. same_there x before rows.0 e i (omega arith))
          in
          rw (same, ne_eqb (row_of x) r e, old) (ih few')

not_not : (a : Bool) → not (not a) ≡ a
not_not true = refl
not_not false = refl

-- rule 20, by the numbers kept
pub pair_seen : (line : List ℕ) → row_of line < row_count → Dated line → has_period (row_of line) ≡ true
    → (ls : List (List ℕ)) → AllRows (map row_of ls) → AllDated ls → lines_of_row (row_of line) (map row_of ls) ≤ most_pairs
    → not (none_is (pairs_of ls) (pair_start (row_of line)) (lines_of_row (row_of line) (map row_of ls)) (pair_of line)) ≡ seen_before line ls
pair_seen line known d p ls rows all few =
    ap not (none_is_lem (row_of line) known p (pair_of line) ls rows few) ∙ not_not (has_pair (row_of line) (pair_of line) ls)
    ∙ sym (seen_is line d p ls all)

-- the count of a row
pub entry_count : (before : List ℕ) (r : ℕ) → r < row_count → entry_of (counts_of_rows before) r ≡ lines_of_row r before
unfolding entry_of
entry_count before r row = rw (lt-ltb r row_count row) (counts_at before r row)
