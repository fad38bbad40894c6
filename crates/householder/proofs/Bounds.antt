-- What the check looks at for an index or a range of a matrix: an entry's place, a column's ends, and what the test
-- at the head of a kernel tells. Assumes nothing.
use Rattle.loops.specs.Place.{placed, column}
use Rattle.matrix.proofs.Fitting.{fits}

pub ruleset bounds = (placed, column, fits)
