-- `reflection::rows::eight_rows` meets its contract. Assumes nothing.
use Prim.Native.Nat.{◌+◌, ◌-◌}
use Rattle.reflection.proofs.RowLoops.{Putting}
use Rattle.reflection.proofs.rows.eight_rows.Given as goal

abbrev pub invariant-loop-j : goal.invariant-loop-j
invariant-loop-j l = Putting l.a l.sign l.n l.i (l.i + 8) l.c0 l.initial.t l.j-end l.j l.t

abbrev pub decreases-loop-j : goal.decreases-loop-j
decreases-loop-j l = l.j-end - l.j
