-- `pass::shift::bulge` meets its contract. Assumes nothing.
use native.Mathlib.Omega.{arith}
use lib.ListN.{length-replicate}
use Rattle.matrix.proofs.Filled.{filled_none, filled_more, filled_done}
use Rattle.pass.specs.Pass.{bulge}
use Rattle.pass.proofs.shift.bulge.Goals as goal

pub loop-i-init : goal.loop-i-init
loop-i-init g c = filled_none _ _ _ (length-replicate g.row.N _)

pub loop-i-preserved : goal.loop-i-preserved
loop-i-preserved g c = filled_more c.loop-i.invariant (omega arith) c.get.ensures

pub returns : goal.returns
unfolding bulge
returns g c = filled_done c.loop-i.invariant (omega arith)
