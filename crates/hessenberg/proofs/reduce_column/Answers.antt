-- `hessenberg::reduce_column` meets its contract. Assumes nothing.
use Rattle.loops.specs.Part.{on_part}
use Rattle.hessenberg.specs.Reduced.{reduce_column}
use Rattle.hessenberg.proofs.reduce_column.Goals as goal

pub returns : goal.returns
unfolding reduce_column on_part
returns c = rw (← c.clear_column-norm.ensures)
