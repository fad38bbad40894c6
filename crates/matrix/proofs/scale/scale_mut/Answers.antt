-- `matrix::scale::scale_mut` meets its contract. Assumes nothing.
use native.Mathlib.Omega.{arith}
use Rattle.matrix.proofs.Each.{rewriting_more}
use Rattle.matrix.proofs.scale.scale_mut.Goals as goal

pub loop-v-preserved : goal.loop-v-preserved
loop-v-preserved c = rewriting_more c.loop-v.invariant (omega arith)
