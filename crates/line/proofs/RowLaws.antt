-- Rules of a line's row where it may be "no row": its fields, and the row of the code at hand.
use mathlib.Core.Path.{◌≡◌, refl}
use mathlib.Core.Bool.{Bool, true, false}
use mathlib.Core.List.{[], ◌∷◌}
use Prim.Native.Nat.{ℕ, ◌-◌, ◌<◌, ◌≤◌}
use native.Mathlib.Nat.{le_refl}
use native.Mathlib.Decide.{dec_lt}
use native.Mathlib.Omega.{arith}
use lib.Dec.{eqb}
use lib.ListN.{get_or-eq_default}
use Rattle.layout.specs.Pick.{pick}
use Rattle.layout.specs.Text.{bytes, code_number, text_number}
use Rattle.layout.specs.Rows.{row_table, listed, code, row_count, none, fields, row_of_code, row9999, blocks, block_letters, place_of, block}
use Rattle.layout.specs.Kind.{code_field, no_field}
use Rattle.layout.specs.Kinds.{kind}
use Rattle.layout.proofs.KindLaws.{kind_past, kinds_none}
use Rattle.layout.proofs.RoleLaws.{fields_none}
use Rattle.layout.proofs.CodeLaws.{row_of_code_le}
use Rattle.line.specs.declared.hot.Hot.{Hot}
use Rattle.line.specs.Machine.{word_row}

none_past : (n : ℕ) → 1 < n → kind none n ≡ no_field
unfolding kind
none_past n h = rw (kinds_none none (le_refl row_count)) (get_or-eq_default (code_field ∷ []) no_field {n = n - 1} (omega arith))

-- past the fields of a row, and of no row, none is to come
pub past_none : (r n : ℕ) → r ≤ row_count → fields r < n → kind r n ≡ no_field
past_none r n h past = go (dec_lt r row_count)
  where
    go : Dec (r < row_count) → kind r n ≡ no_field
    go (yes l) = kind_past r n l past
    go (no l) = let e : r ≡ none = omega arith in rw e (none_past n (rw (e, fields_none) at past))

-- what has a second field is a row
pub field_row : (r n : ℕ) → r ≤ row_count → 2 ≤ n → n ≤ fields r → r < row_count
field_row r n h two le = go (dec_lt r row_count)
  where
    go : Dec (r < row_count) → r < row_count
    go (yes l) = l
    go (no l) =
        let e : r ≡ none = omega arith in
        let one : n ≤ 1 = rw (e, fields_none) at le in
        absurd (omega arith)

pub word_row_le : (h : Hot) → word_row h ≤ row_count
unfolding word_row
word_row_le h = go (eqb h.field.length 4)
  where
    go : (t : Bool) → pick t (row_of_code h.field.value) none ≤ row_count
    go true = row_of_code_le h.field.value
    go false = le_refl row_count

pub block_9999 : block row9999 ≡ blocks - 1
unfolding row_table listed code block_letters place_of block bytes code_number text_number
block_9999 = refl
