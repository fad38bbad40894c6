-- `reflection::rows::rows_by_eight` meets its contract. Assumes nothing.
use mathlib.Core.Path.{◌≡◌}
use Prim.Native.Nat.{◌+◌, ◌*◌}
use native.Mathlib.Omega.{arith}
use Rattle.reflection.proofs.RowLoops.{taking_begun, taking_more, taking_done}
use Rattle.reflection.proofs.rows.rows_by_eight.Goals as goal

pub loop-b-preserved : goal.loop-b-preserved
loop-b-preserved c =
    let e : (c.loop-b.b + 1) * 8 ≡ c.loop-b.b * 8 + 8 = omega arith in
    rw e (taking_more c.requires c.loop-b.invariant (omega arith) (omega arith) (omega arith) c.eight_rows.ensures)

pub loop-b-init : goal.loop-b-init
loop-b-init c = taking_begun (search) (omega arith)

pub returns : goal.returns
returns c = taking_done c.loop-b.invariant (omega arith)
