-- `reflection::rows::rows_by_one` meets its contract. Assumes nothing.
use native.Mathlib.Omega.{arith}
use Rattle.reflection.proofs.RowLoops.{taking_begun, taking_more, taking_done}
use Rattle.reflection.proofs.rows.rows_by_one.Goals as goal

pub loop-i-preserved : goal.loop-i-preserved
loop-i-preserved c =
    taking_more c.requires.0 c.loop-i.invariant (omega arith) (omega arith) (omega arith) c.one_row.ensures

pub loop-i-init : goal.loop-i-init
loop-i-init c = taking_begun (search) (omega arith)

pub returns : goal.returns
returns c = taking_done c.loop-i.invariant (omega arith)
