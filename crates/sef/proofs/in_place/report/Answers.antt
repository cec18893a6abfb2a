use Rattle.sef.proofs.CallLaws.{reports}
use Rattle.sef.proofs.in_place.report.Goals as goal

pub returns : goal.returns
returns c = reports _ _ _ _ c.report.ensures.answer c.report.ensures.buffer
