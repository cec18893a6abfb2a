use mathlib.Core.Path.{◌∙◌}
use native.Mathlib.Omega.{arith}
use Rattle.line.specs.Machine.{none_is}
use Rattle.line.proofs.Searches.{any_from}
use Rattle.line.proofs.tally.Tally.is_among.Goals as goal

pub returns : goal.returns
unfolding none_is
returns c = c.contains.ensures.value ∙ any_from c.args.pair c.args.place c.args.n c.args.self.now.pairs (omega arith)
