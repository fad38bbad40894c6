-- `reflection::vector::across` meets its contract. Assumes nothing.
use native.Mathlib.Omega.{arith}
use lib.ListN.{length-replicate}
use Rattle.matrix.proofs.Filled.{filled_none, filled_more, filled_done}
use Rattle.reflection.proofs.vector.across.Goals as goal

pub loop-j-init : goal.loop-j-init
loop-j-init g c = filled_none _ _ _ (length-replicate g.row.N _)

pub loop-j-preserved : goal.loop-j-preserved
loop-j-preserved g c = filled_more c.loop-j.invariant (omega arith) (rw c.at.ensures.is)

pub returns : goal.returns
returns g c = filled_done c.loop-j.invariant (omega arith)
