-- `reflection::rows::sums_of_four` meets its contract. Assumes nothing.
use mathlib.Core.Path.{refl, ◌∙◌}
use native.Mathlib.Omega.{arith}
use Rattle.reflection.proofs.RowSums.{four_one, four_more, four_done}
use Rattle.reflection.proofs.RowLoops.{summing_begun, summing_more, summing_done}
use Rattle.reflection.proofs.rows.sums_of_four.Goals as goal

pub loop-j-init : goal.loop-j-init
loop-j-init c = summing_begun (omega arith) (omega arith) (rw (c.times_four-w.ensures, c.first_of-o.ensures.is) (four_one _ _ _ _ _))

pub loop-j-preserved : goal.loop-j-preserved
loop-j-preserved c = summing_more c.loop-j.invariant (omega arith)
    (λ e h. rw (c.plus_four-w.ensures, c.first_of-p.ensures.is, e) (four_more _ _ _ _ _ _ h))

pub returns : goal.returns
returns c = summing_done c.loop-j.invariant (omega arith) ∙ four_done _ _ _ _ _ _ refl
