use native.Mathlib.Omega.{arith}
use Rattle.run.proofs.PlaceLaws.{start_most}
use Rattle.run.proofs.place.index_of.Goals as goal

pub overflow_add-result : goal.overflow_add-result
overflow_add-result c =
    let fit = c.args.line.now.fit in
    omega (arith, c.start_at.ensures, start_most c.args.line.now.hot.row fit.row, fit.bars)
