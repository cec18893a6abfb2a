use mathlib.Core.Path.{◌∙◌, sym}
use Rattle.run.proofs.PlaceLaws.{no_byte, line_begins, field_begins}
use Rattle.run.proofs.place.begins.Goals as goal

pub returns-then-h-eq0 : goal.returns-then-h-eq0
returns-then-h-eq0 c e =
    line_begins _ (no_byte _ (rw c.start.ensures at (sym c.ne.ensures ∙ c.if-ne.false))) c.if-h-eq0.true (c.starts_line.ensures e)

pub returns : goal.returns
returns c e = field_begins _ (no_byte _ (rw c.start.ensures at (sym c.ne.ensures ∙ c.if-ne.false))) (c.starts_field.ensures e)
