use mathlib.Core.Path.{sym, ◌∙◌}
use Rattle.layout.proofs.RoleLaws.{data_level}
use Rattle.line.proofs.order.stands.Goals as goal

pub hangs-requires : goal.hangs-requires
hangs-requires c =
    let known = c.requires in
    let opens = sym c.is_opening.ensures ∙ c.if-is_opening.false in
    let closes = sym c.is_closing.ensures ∙ c.if-is_closing.false in
    (known.0, known.1, data_level c.args.r known.1 c.if-r-eq-ROW_0000.false opens closes c.if-r-eq-ROW_9999.false)
