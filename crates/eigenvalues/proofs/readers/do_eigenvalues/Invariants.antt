-- `eigenvalues::readers::do_eigenvalues` meets its contract. Assumes nothing.
use Rattle.std.proofs.Common.{◌≡◌, take}
use Rattle.loops.specs.Place.{place}
use Rattle.loops.specs.Rounded.{◌!◌}
use Rattle.loops.specs.Table.{table}
use Rattle.eigenvalues.proofs.readers.do_eigenvalues.Given as goal

abbrev pub invariant-loop-k : goal.invariant-loop-k
invariant-loop-k l = take l.k l.values ≡ table l.k (λ k. l.t ! place l.n k k)
