use mathlib.Core.Path.{◌∙◌, ap}
use native.Mathlib.Nat.{le_of_lt}
use native.Mathlib.Omega.{arith}
use Rattle.layout.specs.Rows.{level}
use Rattle.layout.proofs.ParentLaws.{parent_le, parent_level}
use Rattle.line.proofs.order.hangs.Goals as goal

pub level_at-requires : goal.level_at-requires
level_at-requires c = rw c.parent_at-parent.ensures (parent_le c.args.r (le_of_lt c.requires.1))

pub climb_to-requires : goal.climb_to-requires
climb_to-requires c =
    let above = parent_level c.args.r c.requires.1 c.requires.2 in
    (omega (arith, c.level_at.ensures ∙ ap level c.parent_at-parent.ensures), c.requires.0)
