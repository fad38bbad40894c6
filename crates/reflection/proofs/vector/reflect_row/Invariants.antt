-- `reflection::vector::reflect_row` meets its contract. Assumes nothing.
use Prim.Native.Nat.{◌+◌}
use Rattle.reflection.proofs.RowLoops.{Putting}
use Rattle.reflection.proofs.vector.reflect_row.Given as goal

abbrev pub invariant-loop-j : goal.invariant-loop-j
invariant-loop-j g l = Putting l.x l.sign l.n l.i (l.i + 1) l.c0 l.initial.t g.row.N l.j l.t
