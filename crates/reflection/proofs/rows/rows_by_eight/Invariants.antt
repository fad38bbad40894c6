-- `reflection::rows::rows_by_eight` meets its contract. Assumes nothing.
use Prim.Native.Nat.{◌*◌, ◌-◌}
use Rattle.reflection.proofs.RowLoops.{Taking}
use Rattle.reflection.proofs.rows.rows_by_eight.Given as goal

abbrev pub invariant-loop-b : goal.invariant-loop-b
invariant-loop-b l = Taking l.a l.sign l.n 0 (l.eights * 8) l.c0 l.initial.t (l.b * 8) l.t

abbrev pub decreases-loop-b : goal.decreases-loop-b
decreases-loop-b l = l.eights - l.b
