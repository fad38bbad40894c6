-- `givens::Rotation::rotate_rows` meets its contract. Assumes nothing.
use Prim.Native.Nat.{◌+◌}
use Rattle.matrix.proofs.Walks.{Across}
use Rattle.givens.specs.Rotation.{rotation}
use Rattle.givens.specs.Rotated.{turned_columns}
use Rattle.givens.proofs.Rotation.rotate_rows.Given as goal

abbrev pub invariant-loop-i : goal.invariant-loop-i
invariant-loop-i l = Across l.n l.rows l.k (l.k + 2) (turned_columns (rotation l.c l.s) l.n l.k l.initial.t) l.initial.t l.i l.t
