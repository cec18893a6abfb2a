-- The row at the code's slot has the code, or no row has it.
use Rattle.std.proofs.Common.{◌≡◌, refl, ap, sym, subst, ◌∙◌, ℕ, ◌≤◌, get_or, Some}
use Rattle.layout.specs.Text.{bytes, code_number, text_number}
use Rattle.layout.specs.declared.codes.TheConstants.{TABLE}
use Rattle.layout.specs.Rows.{row_count, row_table, listed, code}
use Rattle.layout.specs.Packed.{slot_of, slots_of, slot_table}
use Rattle.layout.proofs.SlotLaws.{held_slots, slot_within, slot_most, slot_has, slot_lacks}
use Rattle.layout.proofs.codes.row_of_code.Goals as goal

held : TABLE ≡ held_slots
unfolding slot_table slots_of code listed row_table text_number code_number bytes
held = refl

-- the row that is looked up
found : (k code : ℕ) → k ≡ slot_of code → get_or TABLE k 0 ≡ get_or held_slots (slot_of code) 0
found k code e = ap (λ table. get_or table k 0) held ∙ ap (λ s. get_or held_slots s 0) e

pub code_at-requires : goal.code_at-requires
code_at-requires c =
    let e = found c.slot_of.result c.args.code c.slot_of.ensures in
    subst (λ r. r ≤ row_count) (sym e) (slot_most (slot_of c.args.code) (slot_within c.args.code))

pub returns-then-code_at-code : goal.returns-then-code_at-code
returns-then-code_at-code c =
    let e = found c.slot_of.result c.args.code c.slot_of.ensures in
    ap Some e ∙ slot_has c.args.code (sym (ap code e) ∙ sym c.code_at.ensures ∙ c.if-code_at-code.true)

pub returns-else-code_at-code : goal.returns-else-code_at-code
returns-else-code_at-code c =
    let e = found c.slot_of.result c.args.code c.slot_of.ensures in
    slot_lacks c.args.code (λ has. c.if-code_at-code.false (c.code_at.ensures ∙ ap code e ∙ has))
