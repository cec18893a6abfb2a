-- Rules 4 to 6 at the state of the bytes received: where a line can stand, what the line before said, and room under one parent.
use mathlib.Core.Path.{◌≡◌, ◌∙◌, refl, sym}
use mathlib.Core.Bool.{true, false, ◌&&◌, ◌||◌, and-false}
use mathlib.Core.List.{List, [], ◌∷◌, map}
use Prim.Native.Nat.{ℕ, ◌+◌, ◌*◌, ◌<◌, ◌≤◌}
use lib.Dec.{eqb, ltb}
use native.Mathlib.Omega.{arith}
use borrow.Author.Tests.{ne_eqb, lt-ltb, eqb-true, eqb-false}
use Rattle.layout.specs.Pick.{pick}
use Rattle.layout.specs.Text.{bytes}
use Rattle.layout.specs.Rows.{row_count, is_opening, is_closing, parent, row0000, row9900, row9999}
use Rattle.rules.specs.Bytes.{lines, rows, row_of, row_of_word, field, bars}
use Rattle.rules.specs.Order.{last, can_stand, starts_file, starts_block, ends_file, has_room, under_parent, last_number, is_data}
use Rattle.rules.specs.Fields.{same_bytes, is_text}
use Rattle.rules.specs.Rules.{opened_by}
use Rattle.std.proofs.lemmas.Bool.{and_parts}
use Rattle.rules.proofs.TestLaws.{split}
use Rattle.rules.proofs.Stood.{Stood}
use Rattle.rules.proofs.AllRows.{AllRows, stood_rows}
use Rattle.layout.proofs.RoleLaws.{data_level}
use Rattle.layout.proofs.PeriodLaws.{has_period}
use Rattle.rules.proofs.OpenLaws.{hangs_climb, ends_last}
use Rattle.rules.proofs.OccurrenceLaws.{stamps, occurrences, stamp_at, occurred, stamps_at}
use Rattle.rules.proofs.OccurrenceLaws.{occurrences_at, under_stamps, parent_other}
use Rattle.rules.proofs.SoundLaws.{Sound}
use Rattle.rules.proofs.StatedLaws.{Opened, opened}
use Rattle.line.specs.Machine.{with_data, without_data, number_unit, starts_of, ends_of, hangs_of, stands_of, entry_of, used_of, room_of}
use Rattle.line.specs.Machine.{misplaced_of}
use Rattle.line.proofs.StatementLaws.{stated_by, stated_some}
use Rattle.line.proofs.HotOf.{says, said_by, says_at, line_says, last_says, says_early, pair_whole}
use Rattle.line.proofs.PairLaws.{first_of, later_of, Dated, AllDated, all_dated, pair_large}

-- 4: the row of the last line tells where a line can stand
pub stands_is : (before : List ℕ) → Stood before → (r : ℕ) → r < row_count → stands_of (last before) r ≡ can_stand r before
unfolding stands_of can_stand starts_file ends_file starts_of starts_block ends_of hangs_of
stands_is before s r row =
    split (eqb r row0000) (λ t. rw t)
    (λ first. rw first
    (split (is_opening r) (λ t. rw t)
    (λ opens. rw opens
    (split (is_closing r) (λ t. rw t (sym (ends_last before s r row t)))
    (λ closes. rw closes
    (split (eqb r row9999) (λ t. rw t)
    (λ final. rw final
    (sym (hangs_climb before s r row
    (data_level r row (eqb-false r row0000 first) opens closes (eqb-false r row9999 final)))))))))))

-- 5: no text is both 0 and 1
one_text : (w : List ℕ) → is_text "0" w ≡ true → is_text "1" w ≡ false
unfolding is_text same_bytes bytes
one_text [] e = refl
one_text (b ∷ []) e = rw (eqb-true b 48 (and_parts (eqb b 48) true e).0)
one_text (b ∷ c ∷ w) e = and-false (eqb b 49)

-- an opening's field 2, which is one of them
says_text : (w : List ℕ) → (is_text "0" w || is_text "1" w) ≡ true
    → (eqb (pick (is_text "0" w) with_data without_data) with_data ≡ is_text "0" w) × (eqb (pick (is_text "0" w) with_data without_data) without_data ≡ is_text "1" w)
says_text w e =
    split (is_text "0" w)
    (λ t. (rw t, rw (t, one_text w t)))
    (λ t. (rw t, rw t (sym (rw t at e))))

line_says_lem : (line : List ℕ) (before : List (List ℕ)) → row_of line < row_count → Opened (line ∷ before) → Dated line
    → (eqb (line_says line) with_data ≡ opened_by "0" (line ∷ before)) × (eqb (line_says line) without_data ≡ opened_by "1" (line ∷ before))
unfolding says_at said_by opened_by
line_says_lem line before known o d =
    split (is_opening (row_of line))
    (λ t. let q = says_text (field 2 line) (o.0 t) in (rw t q.0, rw t q.1))
    (λ t. split (eqb (row_of line) row9900)
    (λ s. let some = stated_some (field 3 line) in
    let said = row_of_word (field 2 line) + number_unit * stated_by (field 3 line) in
    (rw (t, s) (ne_eqb said with_data (λ e. omega arith)), rw (t, s) (ne_eqb said without_data (λ e. omega arith))))
    (λ s. split (has_period (row_of line))
    (λ p. let r = row_of line in
    let words = d p in
    let said = pair_whole r known p (first_of line) (later_of line) in
    let other = pair_large r (first_of line) (later_of line) words.0 words.1 in (
      rw (t, s, p, said) (ne_eqb _ with_data (λ e. other with_data (omega arith) (omega arith) e)),
      rw (t, s, p, said) (ne_eqb _ without_data (λ e. other without_data (omega arith) (omega arith) e)),
    ))
    (λ p. (rw (t, s, p), rw (t, s, p)))))

last_says_lem : (ls : List (List ℕ)) → AllRows (map row_of ls) → Opened ls → AllDated ls
    → (eqb (last_says ls) with_data ≡ opened_by "0" ls) × (eqb (last_says ls) without_data ≡ opened_by "1" ls)
unfolding last_says
last_says_lem [] all o d = unfold opened_by in (refl, refl)
last_says_lem (line ∷ before) all o d = line_says_lem line before all.0 o d.0

pub misplaced_is : (seen : List ℕ) → bars seen ≤ 1 → Sound seen → (r : ℕ)
    → misplaced_of (says seen) r ≡ (is_data r && opened_by "1" (lines seen) || is_closing r && opened_by "0" (lines seen))
unfolding misplaced_of rows
misplaced_is seen h s r =
    let ls = lines seen in
    let q = last_says_lem ls (stood_rows (map row_of ls) s.stood) (opened seen s) (all_dated ls s.stood s.passed) in
    rw (says_early seen h, q.0, q.1)

-- 6: the two arrays tell how many lines stand under one parent line
module _ (rows : List ℕ) where
  entry_stamp : (p : ℕ) → entry_of (stamps rows) p ≡ stamp_at p rows
  unfolding entry_of stamp_at
  entry_stamp p = split (ltb p row_count) (λ t. rw t (stamps_at rows p ∙ rw t)) (λ t. rw t)

  module _ (r : ℕ) (row : r < row_count) where
    row_stamp : stamp_at r rows ≡ last_number r rows
    unfolding stamp_at
    row_stamp = rw (lt-ltb r row_count row)

    entry_occurrence : entry_of (occurrences rows) r ≡ occurred r rows
    unfolding entry_of
    entry_occurrence = rw (lt-ltb r row_count row) (occurrences_at rows r row)

    pub used_is : AllRows rows → used_of (stamps rows) (occurrences rows) r ≡ under_parent r rows
    unfolding used_of
    used_is all =
        rw (entry_stamp (parent r), entry_stamp r, row_stamp, entry_occurrence)
        (sym (under_stamps r (parent_other r row) rows all))

    pub room_is : AllRows rows → room_of (stamps rows) (occurrences rows) r ≡ has_room r rows
    unfolding room_of has_room
    room_is all = rw (used_is all)
