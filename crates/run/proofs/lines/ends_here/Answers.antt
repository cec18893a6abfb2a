use native.Mathlib.Omega.{arith}
use Rattle.layout.proofs.KindLaws.{fields_within}
use Rattle.run.proofs.lines.ends_here.Goals as goal

pub overflow_add-start_at : goal.overflow_add-start_at
overflow_add-start_at c =
    omega (arith, c.start_at.ensures, c.fields_at.ensures, fields_within _ c.requires.1)
