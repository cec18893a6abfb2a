-- The table holds the kinds of all fields: compared entry by entry, their numbers are the definition's.
use Rattle.std.proofs.Common.{◌≡◌, refl, ap, sym, ◌∙◌, ℕ, List, get_or, map, take, drop}
use lib.ListN.{get_or-map}
use Rattle.layout.specs.Text.{bytes, code_number, text_number}
use Rattle.layout.specs.declared.kinds.Class.TheVariants.{NoField}
use Rattle.layout.specs.declared.kinds.TheConstants.{TABLE}
use Rattle.layout.specs.Lists.{joined_parts}
use Rattle.layout.specs.Rows.{row_table, listed, code, fields, is_opening, is_closing}
use Rattle.layout.specs.Sheets.{sheets}
use Rattle.layout.specs.Kinds.{kind_of, sheet_of, fitted, kinds_of}
use Rattle.layout.specs.Packed.{kind_number, flat_kinds, packed_kinds, number_of}
use Rattle.layout.proofs.Compared.{same, compared, same_parts}
use Rattle.layout.proofs.kinds.kind_in_table.Goals as goal

abbrev held : List ℕ
held = map number_of TABLE

-- in two parts: of the whole table the check would not compute as far as a late entry
abbrev cut : ℕ
cut = 500

-- a wrong entry is refused with its place and the two numbers
parts_same :
    (compared 0 (take cut held) (take cut packed_kinds) ≡ same) × (compared cut (drop cut held) (drop cut packed_kinds) ≡ same)
unfolding compared number_of packed_kinds flat_kinds joined_parts kind_number kinds_of fitted kind_of sheet_of sheets
    is_opening is_closing fields code listed row_table text_number code_number bytes
parts_same = (refl, refl)

same_kinds : held ≡ packed_kinds
same_kinds = same_parts cut parts_same.0 parts_same.1

pub returns : goal.returns
unfolding number_of
returns c =
    sym (get_or-map number_of TABLE c.args.index (record { class = NoField; size = 0 }))
    ∙ ap (λ kinds. get_or kinds c.args.index 0) same_kinds
