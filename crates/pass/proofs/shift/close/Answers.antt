-- `pass::shift::close` meets its contract. Assumes nothing.
use Rattle.pass.specs.Pass.{closing}
use Rattle.pass.proofs.shift.close.Goals as goal

pub returns : goal.returns
unfolding closing
returns c =
    rw (c.step.ensures, c.bulge-column.ensures)
