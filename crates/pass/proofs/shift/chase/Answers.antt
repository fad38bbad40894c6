-- `pass::shift::chase` meets its contract. Assumes nothing.
use Rattle.pass.specs.Pass.{chased}
use Rattle.pass.proofs.shift.chase.Goals as goal

pub returns : goal.returns
unfolding chased
returns c =
    rw (c.step.ensures, c.column_at-column.ensures)
