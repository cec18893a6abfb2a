use Rattle.run.proofs.AlongLaws.{onward_none, along_start, onward_along}
use Rattle.run.proofs.lines.lines_from.Goals as goal

pub returns-then-not-begins : goal.returns-then-not-begins
returns-then-not-begins c =
    let inside = c.requires.inside in
    onward_none _ _ _ inside.0 inside.1 _

pub lines_past-p-requires : goal.lines_past-p-requires
lines_past-p-requires c =
    let inside = c.requires.inside in
    let begins = c.begins.ensures c.if-not-begins.false in
    rw c.of.ensures (along_start _ _ _ inside.0 inside.1 _ begins c.requires.held)

pub returns : goal.returns
returns c =
    let inside = c.requires.inside in
    let begins = c.begins.ensures c.if-not-begins.false in
    rw c.hot-line.ensures (onward_along _ _ _ inside.0 inside.1 _ begins (rw c.of.ensures at c.lines_past-p.ensures))
