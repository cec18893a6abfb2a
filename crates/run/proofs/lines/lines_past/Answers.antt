use Prim.Native.Nat.{◌<◌}
use native.Mathlib.Omega.{arith}
use lib.ListN.{length}
use Rattle.layout.specs.Rows.{row_count}
use Rattle.rules.specs.Bytes.{AllBytes}
use Rattle.line.proofs.HeldLaws.{held_small}
use Rattle.run.proofs.AlongLaws.{safe_length, place_fit, place_within, along_line, along_end}
use Rattle.run.proofs.lines.lines_past.Goals as goal

pub begun-requires : goal.begun-requires
begun-requires c =
    let here = c.loop-p.invariant in
    let fits = rw (← c.safe_of-safe.ensures) at (safe_length c.args.before (length c.args.s.now)) in
    (here.placed, (place_fit _ _ here.held.fit).last, omega (arith, fits, c.loop-p-test.true))

pub fields_past-p-requires-clause-near : goal.fields_past-p-requires-clause-near
fields_past-p-requires-clause-near c = rw (← c.safe_of-safe.ensures) at (safe_length c.args.before (length c.args.s.now))

pub fields_past-p-requires-clause-placed : goal.fields_past-p-requires-clause-placed
fields_past-p-requires-clause-placed c =
    let head = c.in-Some.ensures in
    (head.placed, head.inside, omega (arith, head.near, c.loop-p-test.true))

pub ends_here-requires : goal.ends_here-requires
ends_here-requires c =
    let head = c.in-Some.ensures in
    let fields = c.fields_past-p.ensures in
    let fits = rw (← c.safe_of-safe.ensures) at (safe_length c.args.before (length c.args.s.now)) in
    (fields.placed, omega (arith, head.inside, fields.row), omega (arith, fits, fields.near, c.loop-p-test.true))

pub returns-then-not-ends_here : goal.returns-then-not-ends_here
returns-then-not-ends_here c =
    along_line c.loop-p.invariant (λ k. (c.type_inv.s k).fits) c.safe_of-safe.ensures c.loop-p-test.true c.in-Some.ensures
    c.fields_past-p.ensures

pub count_line-requires-clause-limit : goal.count_line-requires-clause-limit
count_line-requires-clause-limit c =
    let line =
    along_line c.loop-p.invariant (λ k. (c.type_inv.s k).fits) c.safe_of-safe.ensures c.loop-p-test.true c.in-Some.ensures
    c.fields_past-p.ensures
    in
    omega (arith, (place_fit _ _ line.held.fit).lines, place_within _ _ line.held)

pub count_line-requires-clause-silent : goal.count_line-requires-clause-silent
count_line-requires-clause-silent c =
    let fields = c.fields_past-p.ensures in
    fields.placed.silent (omega (arith, c.in-Some.ensures.inside, fields.row))

pub count_line-requires-clause-below : goal.count_line-requires-clause-below
count_line-requires-clause-below c = held_small _ _ c.loop-p.invariant.held

pub end_past-p-requires : goal.end_past-p-requires
end_past-p-requires c =
    let line =
    along_line c.loop-p.invariant (λ k. (c.type_inv.s k).fits) c.safe_of-safe.ensures c.loop-p-test.true c.in-Some.ensures
    c.fields_past-p.ensures
    in
    let fit = place_fit _ _ line.held.fit in
    let within = place_within _ _ line.held in
    (omega (arith, within), omega (arith, fit.lines, within), omega (arith, fit.since, within))

pub loop-p-preserved : goal.loop-p-preserved
loop-p-preserved c =
    let all : AllBytes c.args.s.now = λ k. (c.type_inv.s k).fits in
    let head = c.in-Some.ensures in
    let fields = c.fields_past-p.ensures in
    let line = along_line c.loop-p.invariant all c.safe_of-safe.ensures c.loop-p-test.true head fields in
    let row : c.fields_past-p.result.row < row_count = omega (arith, head.inside, fields.row) in
    let ends = c.ends_here.ensures c.if-not-ends_here.false in
    rw (c.end_past-p.ensures, c.count_line.ensures)
    (along_end all line c.safe_of-safe.ensures (omega (arith, c.loop-p-test.true)) fields.near row ends)
