use Rattle.line.proofs.KeptLaws.{kept_lf, kept_else}
use Rattle.line.proofs.line.Line.judge.Goals as goal

pub returns-then-b-eq-LF-clause-kept : goal.returns-then-b-eq-LF-clause-kept
returns-then-b-eq-LF-clause-kept c =
    let line = c.args.self.now in
    kept_lf line.hot _ _ _ c.in_ok-step.ensures.step line.fit c.if-b-eq-LF.true _ c.note.ensures

pub returns-else-b-eq-LF-clause-kept : goal.returns-else-b-eq-LF-clause-kept
returns-else-b-eq-LF-clause-kept c =
    let line = c.args.self.now in
    kept_else line.hot _ _ _ c.in_ok-step.ensures.step (λ p. c.if-b-eq-LF.false p)
