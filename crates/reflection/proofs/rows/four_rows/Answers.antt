-- `reflection::rows::four_rows` meets its contract. Assumes nothing.
use native.Mathlib.Omega.{arith}
use Rattle.reflection.proofs.RowLoops.{putting_begun, putting_more, putting_done}
use Rattle.reflection.proofs.RowTurn.{four_turn}
use Rattle.reflection.proofs.rows.four_rows.Goals as goal

pub loop-j-preserved : goal.loop-j-preserved
loop-j-preserved c =
    putting_more c.loop-j.invariant (omega arith) (omega arith)
    (λ e. rw (c.put_four.ensures, c.first_of-p.ensures.is, c.sums_of_four-w.ensures)
    (four_turn _ _ _ _ _ _ _ _ (omega arith) e))

pub loop-j-init : goal.loop-j-init
loop-j-init c = putting_begun (omega arith) (omega arith)

pub returns : goal.returns
returns c = putting_done c.loop-j.invariant (omega arith)
