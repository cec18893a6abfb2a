-- `text::text_past` meets its contract.
use Rattle.std.proofs.Common.{◌+◌, ◌∙◌, arith}
use Rattle.whole.proofs.MarkLaws.{told_eight}
use Rattle.whole.proofs.WordLaws.{stop_marks_lem}
use Rattle.whole.proofs.TextLaws.{plain_counted, plain_join}
use Rattle.whole.proofs.text.text_past.Goals as goal

pub sized_past-requires : goal.sized_past-requires
sized_past-requires c =
    let a = c.args in
    let told = (told_eight stop_marks_lem a.s.now c.loop-j.j (λ k. (c.type_inv.s k).fits)
    c.eight.ensures c.stops-marks.ensures).some c.if-marks-ne0.true in
    let k = c.first_of.ensures in (
      omega (arith, c.loop-j.invariant.0),
      omega (arith, k.1),
      plain_join a.s.now a.i c.loop-j.j _ c.loop-j.invariant.1
          (plain_counted 8 a.s.now c.loop-j.j _ (rw (k.0 ∙ told))),
    )

pub loop-j-preserved : goal.loop-j-preserved
loop-j-preserved c =
    let a = c.args in
    let told = (told_eight stop_marks_lem a.s.now c.loop-j.j (λ k. (c.type_inv.s k).fits)
    c.eight.ensures c.stops-marks.ensures).all c.if-marks-ne0.false in
    let plain = plain_counted 8 a.s.now c.loop-j.j (c.loop-j.j + 8) (rw (← told)) in
    (omega (arith, c.loop-j.invariant.0), plain_join a.s.now a.i c.loop-j.j _ c.loop-j.invariant.1 plain)
