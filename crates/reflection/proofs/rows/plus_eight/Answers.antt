-- `reflection::rows::plus_eight` meets its contract. Assumes nothing.
use Rattle.reflection.proofs.rows.plus_eight.Goals as goal

pub returns : goal.returns
returns c = rw (c.plus_four.ensures, c.plus_four-2.ensures)
