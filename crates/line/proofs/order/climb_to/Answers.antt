use mathlib.Core.Path.{◌∙◌, sym, ap}
use native.Mathlib.Omega.{arith}
use Rattle.layout.specs.Rows.{level}
use Rattle.layout.proofs.ParentLaws.{parent_level, parent_le}
use Rattle.layout.proofs.RoleLaws.{level_row}
use Rattle.rules.proofs.OpenLaws.{climb_stop, climb_on}
use Rattle.line.proofs.order.climb_to.Goals as goal

pub loop-x-smaller : goal.loop-x-smaller
loop-x-smaller c =
    let x = c.loop-x.x in
    omega (arith, parent_level x (level_row x (omega arith)) (omega arith), ap level c.parent_at-x.ensures)

pub loop-x-preserved : goal.loop-x-preserved
loop-x-preserved c =
    let at = c.loop-x in
    rw c.parent_at-x.ensures record {
      row_or_none = parent_le at.x at.invariant.row_or_none;
      climbs = at.invariant.climbs ∙ climb_on c.args.n at.x c.requires.0 (omega arith);
    }

pub returns : goal.returns
returns c = sym (c.loop-x.invariant.climbs ∙ climb_stop _ _ (omega arith))
