use mathlib.Core.Path.{◌∙◌, refl}
use borrow.Author.Rules.{rules}
use Rattle.std.proofs.lemmas.Iterator.{YieldsList-from_range}
use Rattle.std.proofs.lemmas.Iterator.Search.{all_from_yields_List}
use Rattle.line.specs.Machine.{holds_of, all_hold_of}
use Rattle.line.proofs.Searches.{all_numbers}
use Rattle.line.proofs.tally.Tally.all_hold.Goals as goal

pub returns : goal.returns
unfolding all_hold_of
returns c =
    let holds = holds_of c.args.self.now.counts c.args.self.now.stated in
    all_from_yields_List holds _ _ _ c.all.ensures.ran (YieldsList-from_range 0 135 135 refl refl) (λ x b q k. search rules)
    ∙ all_numbers holds 135
