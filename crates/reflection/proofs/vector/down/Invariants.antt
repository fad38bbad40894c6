-- `reflection::vector::down` meets its contract. Assumes nothing.
use Prim.Native.Nat.{◌+◌}
use Rattle.loops.specs.Rounded.{◌!◌}
use Rattle.matrix.proofs.Filled.{Filled}
use Rattle.reflection.proofs.vector.down.Given as goal

abbrev pub invariant-loop-k : goal.invariant-loop-k
invariant-loop-k g l = Filled g.row.N (λ k. l.t ! (l.o + k)) l.k l.u.0
