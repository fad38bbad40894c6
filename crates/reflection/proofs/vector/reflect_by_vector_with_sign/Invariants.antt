-- `reflection::vector::reflect_by_vector_with_sign` meets its contract. Assumes nothing.
use Prim.Native.Nat.{◌+◌}
use lib.ListN.{length}
use Rattle.matrix.specs.Sum.{bare}
use Rattle.matrix.proofs.Walks.{Down}
use Rattle.reflection.specs.Reflected.{mirrored_columns}
use Rattle.reflection.proofs.vector.reflect_by_vector_with_sign.Given as goal

abbrev pub invariant-loop-j : goal.invariant-loop-j
invariant-loop-j g l =
    Down l.n l.row (l.row + length l.x) l.c0 l.c1 (mirrored_columns bare l.x l.sign l.n l.row l.initial.t) l.initial.t l.j l.t
