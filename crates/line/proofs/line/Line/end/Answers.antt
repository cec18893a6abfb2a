use Rattle.line.proofs.HotRanges.{ended_fit}
use Rattle.line.proofs.line.Line.end.Goals as goal

pub invariant_of-self : goal.invariant_of-self
invariant_of-self c =
    let line = c.args.self.now in
    record { fit = rw c.end.ensures (ended_fit line.hot line.fit c.requires) }
