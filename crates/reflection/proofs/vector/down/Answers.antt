-- `reflection::vector::down` meets its contract. Assumes nothing.
use mathlib.Core.Path.{refl}
use native.Mathlib.Omega.{arith}
use lib.ListN.{length-replicate}
use Rattle.matrix.proofs.Filled.{filled_none, filled_more, filled_done}
use Rattle.reflection.proofs.vector.down.Goals as goal

pub loop-k-init : goal.loop-k-init
loop-k-init g c = filled_none _ _ _ (length-replicate g.row.N _)

pub loop-k-preserved : goal.loop-k-preserved
loop-k-preserved g c = filled_more c.loop-k.invariant (omega arith) refl

pub returns : goal.returns
returns g c = filled_done c.loop-k.invariant (omega arith)
