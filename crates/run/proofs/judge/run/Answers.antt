use Rattle.std.proofs.lemmas.Result.{err_from_is_err_and}
use Rattle.line.proofs.HeldLaws.{held_small}
use Rattle.run.proofs.LoopLaws.{passed_start, passed_on, passed_next, passed_stop, passed_end}
use Rattle.run.proofs.judge.run.Goals as goal

pub loop-i-init : goal.loop-i-init
loop-i-init c = passed_start _ _ _ c.requires

pub judge-requires : goal.judge-requires
judge-requires c =
    let g = passed_on c.loop-i.invariant (λ k. (c.type_inv.piece k).fits) c.lines_from.ensures in
    held_small _ _ g.held

pub returns-in_err-judge-clause-refused : goal.returns-in_err-judge-clause-refused
returns-in_err-judge-clause-refused c =
    let g = passed_on c.loop-i.invariant (λ k. (c.type_inv.piece k).fits) c.lines_from.ensures in
    let p = err_from_is_err_and c.from_residual.result c.from_residual.ensures.1 in
    rw (p.1, p.2, c.in_err-judge.ensures.refused) (passed_stop g c.if-i-piece.true _ c.judge.ensures.kept _ _ c.in_err-judge.ensures.step)

pub loop-i-preserved-then-i-piece : goal.loop-i-preserved-then-i-piece
loop-i-preserved-then-i-piece c =
    let g = passed_on c.loop-i.invariant (λ k. (c.type_inv.piece k).fits) c.lines_from.ensures in
    passed_next g c.if-i-piece.true _ c.judge.ensures.kept (c.type_inv.piece _).fits _ c.in_ok-judge.ensures.step

pub loop-i-preserved : goal.loop-i-preserved
loop-i-preserved c =
    passed_on c.loop-i.invariant (λ k. (c.type_inv.piece k).fits) c.lines_from.ensures
