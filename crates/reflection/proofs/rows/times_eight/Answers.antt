-- `reflection::rows::times_eight` meets its contract. Assumes nothing.
use Rattle.reflection.proofs.rows.times_eight.Goals as goal

pub returns : goal.returns
returns c = rw (c.times_four.ensures, c.times_four-2.ensures)
