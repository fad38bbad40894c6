-- `reflection::rows::rows_by_one` meets its contract. Assumes nothing.
use Prim.Native.Nat.{◌-◌}
use Rattle.reflection.proofs.RowLoops.{Taking}
use Rattle.reflection.proofs.rows.rows_by_one.Given as goal

abbrev pub invariant-loop-i : goal.invariant-loop-i
invariant-loop-i l = Taking l.a l.sign l.n l.from l.to l.c0 l.initial.t l.i l.t

abbrev pub decreases-loop-i : goal.decreases-loop-i
decreases-loop-i l = l.to - l.i
