-- `kind::field_past` meets its contract.
use Rattle.std.proofs.Common.{◌+◌, refl, arith}
use Rattle.whole.specs.Whole.{is_quick}
use Rattle.whole.proofs.KindLaws.{of_class}
use Rattle.whole.proofs.kind.field_past.Goals as goal

pub returns-in-Text : goal.returns-in-Text
unfolding is_quick
returns-in-Text c =
    let a = c.args in
    of_class a.kind c.in-Text.is refl refl a.s.now a.i (a.safe + 8) (omega arith) _ c.text_past.ensures
