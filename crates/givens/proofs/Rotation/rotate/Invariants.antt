-- `givens::Rotation::rotate` meets its contract. Assumes nothing.
use Prim.Native.Nat.{◌+◌}
use Rattle.matrix.proofs.Walks.{Down}
use Rattle.givens.specs.Rotation.{rotation}
use Rattle.givens.specs.Rotated.{turned_rows}
use Rattle.givens.proofs.Rotation.rotate.Given as goal

abbrev pub invariant-loop-j : goal.invariant-loop-j
invariant-loop-j l = Down l.n l.i (l.i + 2) l.c0 l.c1 (turned_rows (rotation l.c l.s) l.n l.i l.initial.t) l.initial.t l.j l.t
