-- `pass::shift::reflect_at` meets its contract. Assumes nothing.
use Rattle.pass.specs.Pass.{reflected_at}
use Rattle.pass.proofs.shift.reflect_at.Goals as goal

pub returns-then-asked : goal.returns-then-asked
unfolding reflected_at
returns-then-asked g c = rw (c.reflect_rows_by_vector.ensures, c.both_sides.ensures, c.if-asked.true)

pub returns-else-asked : goal.returns-else-asked
unfolding reflected_at
returns-else-asked g c = rw (c.both_sides.ensures, c.if-asked.false)
