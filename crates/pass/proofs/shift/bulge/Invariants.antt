-- `pass::shift::bulge` meets its contract. Assumes nothing.
use Prim.Native.Nat.{◌+◌, ◌-◌}
use Rattle.loops.specs.Place.{place}
use Rattle.loops.specs.Rounded.{◌!◌}
use Rattle.matrix.proofs.Filled.{Filled}
use Rattle.pass.proofs.shift.bulge.Given as goal

abbrev pub invariant-loop-i : goal.invariant-loop-i
invariant-loop-i g l = Filled g.row.N (λ i. l.t ! place l.n (l.k + i) (l.k - 1)) l.i l.u.0
