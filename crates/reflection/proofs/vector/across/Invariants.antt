-- `reflection::vector::across` meets its contract. Assumes nothing.
use Prim.Native.Nat.{◌+◌}
use Rattle.loops.specs.Place.{place}
use Rattle.loops.specs.Rounded.{◌!◌}
use Rattle.matrix.proofs.Filled.{Filled}
use Rattle.reflection.proofs.vector.across.Given as goal

abbrev pub invariant-loop-j : goal.invariant-loop-j
invariant-loop-j g l = Filled g.row.N (λ j. l.t ! place l.n l.i (l.c0 + j)) l.j l.u.0
