-- `numbers::many_digits_from` meets its contract.
use Rattle.std.proofs.Common.{sym, ◌∙◌, arith}
use Rattle.rules.specs.Fields.{is_digit}
use Rattle.whole.proofs.AlikeLaws.{alike_on, alike_short}
use Rattle.whole.proofs.numbers.many_digits_from.Goals as goal

pub returns-then-k-lt-WORD-clause-counted : goal.returns-then-k-lt-WORD-clause-counted
returns-then-k-lt-WORD-clause-counted c =
    let a = c.args in
    let told = c.digits_from-k.ensures.counted in
    told ∙ sym (alike_short is_digit 8 8 a.s.now a.i (omega (arith, told, c.if-k-lt-WORD.true)))

pub returns-clause-counted : goal.returns-clause-counted
returns-clause-counted c =
    let a = c.args in
    let told = c.digits_from-k.ensures in
    omega (arith, told.counted, told.few, c.digits_from.ensures.counted, alike_on is_digit 8 8 a.s.now a.i (omega (arith, told.counted, told.few, c.if-k-lt-WORD.false)))
