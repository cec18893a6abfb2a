use Rattle.state.proofs.RangeLaws.{held_of}
use Rattle.state.proofs.State.check.Goals as goal

pub run-requires : goal.run-requires
run-requires c =
    let known = c.in-Some.ensures.known in
    rw known.0 (held_of c.args.self.now known.1 c.if-self-ne0.false)
