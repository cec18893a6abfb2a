use Rattle.line.proofs.HotRanges.{grown_fit}
use Rattle.line.proofs.line.Line.grow.Goals as goal

pub invariant_of-self : goal.invariant_of-self
invariant_of-self c =
    let line = c.args.self.now in
    record { fit = rw c.grow.ensures (grown_fit line.hot line.fit c.requires c.args.b c.ranges.b.fits) }
