use native.Mathlib.Omega.{arith}
use mathlib.Core.Path.{◌∙◌, refl}
use Rattle.layout.proofs.CodeLaws.{row_of_code_le}
use Prim.Native.Nat.{◌+◌}
use Rattle.run.specs.Places.{HasCode, code_at}
use Rattle.run.proofs.HeadLaws.{if_some, code_bytes}
use Rattle.run.proofs.lines.row_from.Goals as goal

pub returns : goal.returns
returns c =
    let s = c.args.s.now in
    let i = c.args.i in
    let code = c.from_be_bytes.ensures ∙ code_bytes s i in
    rw (c.row_of_code.ensures, code)
    (if_some (HasCode s i) _ _ (λ known.
    record {
      row = omega (arith, row_of_code_le (code_at s (i + 1)));
      opens = omega (arith, c.if-s-i-ne-BAR.false);
      code = refl;
      closes = omega (arith, c.if-s-i-ne-BAR-2.false);
    }))
