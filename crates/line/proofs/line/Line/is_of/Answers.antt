use mathlib.Core.Path.{◌∙◌}
use Rattle.line.proofs.KindLaws.{same_kind}
use Rattle.line.proofs.line.Line.is_of.Goals as goal

pub returns : goal.returns
returns c = rw (← c.kind.ensures) (c.eq.ensures ∙ same_kind c.kind.result c.args.kind)
