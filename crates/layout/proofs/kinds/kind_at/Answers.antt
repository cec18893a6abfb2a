-- The kind stands in the flat table, n - 1 places after the row's start.
use Rattle.std.proofs.Common.{◌+◌, ◌-◌, ◌<◌, ap, ◌∙◌, get_or, arith}
use Rattle.layout.specs.Kinds.{field_count}
use Rattle.layout.specs.Packed.{packed_kinds}
use Rattle.layout.proofs.PackedLaws.{kind_entry, kind_within}
use Rattle.layout.proofs.kinds.kind_at.Goals as goal

-- the place, from which the sum follows
within : (c : goal.After-start_at) → c.start_at.result + (c.args.n - 1) < field_count
within c =
    let p = c.requires in
    let place = kind_within c.args.r c.args.n p.0 p.1 p.2 in
    omega arith

pub overflow_add-start_at : goal.overflow_add-start_at
overflow_add-start_at c = omega (arith, within c)

pub kind_in_table-requires : goal.kind_in_table-requires
kind_in_table-requires c = within c

pub returns : goal.returns
returns c =
    let p = c.requires in
    c.kind_in_table.ensures ∙ ap (λ s. get_or packed_kinds (s + (c.args.n - 1)) 0) c.start_at.ensures
    ∙ kind_entry c.args.r c.args.n p.0 p.1 p.2
