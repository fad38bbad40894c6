-- `matrix::vector::Vector::dot` meets its contract. Assumes nothing.
use Rattle.std.proofs.Common.{◌≡◌, ◌≤◌}
use Rattle.matrix.specs.Sum.{bare}
use Rattle.matrix.specs.Vectors.{products}
use Rattle.matrix.proofs.vector.Vector.dot.Given as goal

abbrev pub invariant-loop-k : goal.invariant-loop-k
invariant-loop-k g l = (1 ≤ l.k) × (l.k ≤ g.row.N) × (l.res ≡ bare l.k (products l.self.0 l.other.0))
