-- `reflection::columns::reflect_with_sign` meets its contract. Assumes nothing.
use Prim.Native.Nat.{◌+◌, ◌-◌}
use lib.ListN.{length}
use Rattle.matrix.specs.Sum.{lanes}
use Rattle.matrix.proofs.Walks.{Down}
use Rattle.reflection.specs.Reflected.{mirrored_columns}
use Rattle.reflection.proofs.columns.reflect_with_sign.Given as goal

abbrev pub invariant-loop-j : goal.invariant-loop-j
invariant-loop-j l = Down l.n l.row (l.row + length l.a) l.c0 l.c1 (mirrored_columns lanes l.a l.sign l.n l.row l.initial.t) l.initial.t l.j l.t

abbrev pub decreases-loop-j : goal.decreases-loop-j
decreases-loop-j l = l.c1 - l.j
