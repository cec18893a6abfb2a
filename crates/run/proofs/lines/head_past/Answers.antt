use native.Mathlib.Omega.{arith}
use Rattle.run.proofs.PlaceLaws.{silent_row, start_most}
use Rattle.run.proofs.HeadLaws.{over_head}
use Rattle.run.proofs.lines.head_past.Goals as goal

pub overflow_add-result-2 : goal.overflow_add-result-2
overflow_add-result-2 c =
    let row = c.in_ok-row.ensures.row in
    omega (arith, c.start_at.ensures, start_most c.in_ok-row.row (omega (arith, row)))

pub returns : goal.returns
returns c =
    let p = c.requires in
    let head = c.in_ok-row.ensures in
    rw c.start_at.ensures
    (over_head _ _ c.args.p p.0 (λ k. (c.type_inv.s k).fits) p.3 p.1 _ (c.follows.ensures c.if-not-follows.false)
    head.opens head.code head.closes)
