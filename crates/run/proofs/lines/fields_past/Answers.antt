use native.Mathlib.Omega.{arith}
use Rattle.run.proofs.FieldPasses.{fielded_start, fielded_next, index_within}
use Rattle.run.proofs.lines.fields_past.Goals as goal

pub loop-at-init : goal.loop-at-init
loop-at-init c =
    let p = c.requires.placed in
    fielded_start _ _ _ p.1 p.0 p.2

pub kind_in_table-requires : goal.kind_in_table-requires
kind_in_table-requires c = index_within c.args.p c.requires.placed.1 _ _ c.loop-at.invariant.placed

pub overflow_add-index : goal.overflow_add-index
overflow_add-index c = omega (arith, index_within c.args.p c.requires.placed.1 _ _ c.loop-at.invariant.placed)

pub loop-at-preserved : goal.loop-at-preserved
loop-at-preserved c =
    let past = rw c.kind_in_table.ensures at c.in-Some.ensures in
    fielded_next _ _ _ c.requires.placed.1 _ _ _ c.requires.near c.loop-at-test.true c.loop-at.invariant past.0 past.1
