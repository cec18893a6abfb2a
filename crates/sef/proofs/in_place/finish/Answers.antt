use Rattle.sef.proofs.CallLaws.{finishes}
use Rattle.sef.proofs.in_place.finish.Goals as goal

pub returns : goal.returns
returns c = finishes _ _ c.finish.ensures
