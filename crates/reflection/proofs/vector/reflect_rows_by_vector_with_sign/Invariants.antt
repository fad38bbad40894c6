-- `reflection::vector::reflect_rows_by_vector_with_sign` meets its contract. Assumes nothing.
use Prim.Native.Nat.{◌+◌}
use lib.ListN.{length}
use Rattle.matrix.proofs.Walks.{Across}
use Rattle.reflection.specs.Reflected.{mirrored_rows}
use Rattle.reflection.proofs.vector.reflect_rows_by_vector_with_sign.Given as goal

abbrev pub invariant-loop-i : goal.invariant-loop-i
invariant-loop-i g l = Across l.n l.rows l.c0 (l.c0 + length l.a.0) (mirrored_rows l.a.0 l.sign l.n l.c0 l.initial.t) l.initial.t l.i l.t
