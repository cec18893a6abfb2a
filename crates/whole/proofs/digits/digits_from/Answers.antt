-- `digits::digits_from` meets its contract.
use Rattle.std.proofs.Common.{◌∙◌}
use Rattle.whole.proofs.MarkLaws.{told_eight}
use Rattle.whole.proofs.WordLaws.{other_marks_lem}
use Rattle.whole.proofs.digits.digits_from.Goals as goal

pub returns-then-marks-eq0-clause-counted : goal.returns-then-marks-eq0-clause-counted
returns-then-marks-eq0-clause-counted c =
    let a = c.args in
    (told_eight other_marks_lem a.s.now a.i (λ k. (c.type_inv.s k).fits) c.eight.ensures
    c.others-marks.ensures).all c.if-marks-eq0.true

pub returns-clause-counted : goal.returns-clause-counted
returns-clause-counted c =
    let a = c.args in
    c.first_of.ensures.0
    ∙ (told_eight other_marks_lem a.s.now a.i (λ k. (c.type_inv.s k).fits) c.eight.ensures
    c.others-marks.ensures).some c.if-marks-eq0.false
