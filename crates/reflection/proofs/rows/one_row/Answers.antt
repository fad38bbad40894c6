-- `reflection::rows::one_row` meets its contract. Assumes nothing.
use native.Mathlib.Omega.{arith}
use lib.ListN.{length-set}
use Rattle.reflection.proofs.RowLoops.{putting_begun, putting_more, putting_done}
use Rattle.reflection.proofs.RowTurn.{one_turn}
use Rattle.reflection.proofs.rows.one_row.Goals as goal

pub loop-j-preserved : goal.loop-j-preserved
loop-j-preserved c =
    putting_more c.loop-j.invariant (omega arith) (simp length-set (omega arith))
    (λ e. rw (c.at-p.ensures.is, c.sum-w.ensures) (one_turn _ _ _ _ _ _ _ _ e))

pub loop-j-init : goal.loop-j-init
loop-j-init c = putting_begun (omega arith) (omega arith)

pub returns : goal.returns
returns c = putting_done c.loop-j.invariant (omega arith)
