-- The table of rows holds what the definitions say of each.
use mathlib.Core.Path.{◌≡◌, refl, sym, ◌∙◌}
use mathlib.Core.List.{map}
use Prim.Native.Nat.{ℕ, ◌≤◌}
use lib.ListN.{get_or, get_or-map}
use Rattle.layout.specs.Text.{bytes, code_number, text_number}
use Rattle.layout.specs.Lists.{tabulate}
use Rattle.layout.specs.Rows.{row_table, row_count, listed, code, fields, level, occurrence}
use Rattle.layout.specs.Packed.{often}
use Rattle.layout.specs.declared.rows.Row.{Row}
use Rattle.layout.specs.declared.rows.TheConstants.{TABLE}
use Rattle.layout.proofs.TableLaws.{of_rows, row_entry}

-- a row's four numbers
abbrev pub numbers : Row → ℕ × ℕ × ℕ × ℕ
numbers row = (row.0, row.1, row.2, often row.3)

abbrev numbers_of : ℕ → ℕ × ℕ × ℕ × ℕ
numbers_of r = (code r, fields r, level r, occurrence r)

held : map numbers TABLE ≡ of_rows numbers_of
unfolding tabulate code fields level occurrence listed row_table text_number code_number bytes
held = refl

pub row_numbers : (r : ℕ) (d : Row) → r ≤ row_count → numbers (get_or TABLE r d) ≡ (code r, fields r, level r, occurrence r)
row_numbers r d h = sym (get_or-map numbers TABLE r d) ∙ row_entry numbers_of held r (numbers d) h
