-- `reflection::rows::sum` meets its contract. Assumes nothing.
use mathlib.Core.Path.{refl, ◌∙◌}
use native.Mathlib.Omega.{arith}
use Rattle.reflection.proofs.RowSums.{along_one, along_more, along_done}
use Rattle.reflection.proofs.RowLoops.{summing_begun, summing_more, summing_done}
use Rattle.reflection.proofs.rows.sum.Goals as goal

pub loop-j-init : goal.loop-j-init
loop-j-init c = summing_begun (omega arith) (omega arith) (rw c.at-o.ensures.is (along_one _ _ _ _ _))

pub loop-j-preserved : goal.loop-j-preserved
loop-j-preserved c = summing_more c.loop-j.invariant (omega arith) (λ e h. rw (c.at-p.ensures.is, along_more, h, ← e))

pub returns : goal.returns
returns c = summing_done c.loop-j.invariant (omega arith) ∙ along_done _ _ _ _ _ _ refl
