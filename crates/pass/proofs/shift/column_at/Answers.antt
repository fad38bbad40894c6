-- `pass::shift::column_at` meets its contract. Assumes nothing.
use borrow.Author.Tests.{le-leb, lt-leb}
use Rattle.pass.specs.Pass.{column_at}
use Rattle.pass.proofs.shift.column_at.Goals as goal

pub returns-then-k-start : goal.returns-then-k-start
unfolding column_at
returns-then-k-start c = rw (le-leb _ _ c.if-k-start.true)

pub returns : goal.returns
unfolding column_at
returns c = rw (lt-leb _ _ c.if-k-start.false, c.bulge.ensures)
