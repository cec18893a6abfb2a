use Rattle.sef.proofs.CallLaws.{checks}
use Rattle.sef.proofs.in_place.check.Goals as goal

pub returns : goal.returns
returns c = checks _ _ (λ k. (c.type_inv.piece k).fits) _ c.check.ensures
