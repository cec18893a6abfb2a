use Prim.Native.Nat.{◌≤◌}
use native.Mathlib.Omega.{arith}
use Rattle.layout.specs.Rows.{fields}
use Rattle.line.proofs.RowLaws.{field_row}
use Rattle.line.proofs.step.kind_of.Goals as goal

pub kind_at-requires : goal.kind_at-requires
kind_at-requires c =
    let within : c.args.n ≤ fields c.args.r = omega (arith, c.fields_at.ensures) in
    (field_row c.args.r c.args.n c.requires.0 c.requires.1 within, omega arith, within)
