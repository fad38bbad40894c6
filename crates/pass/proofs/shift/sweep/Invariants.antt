-- `pass::shift::sweep` meets its contract. Assumes nothing.
use Prim.Native.Nat.{◌+◌, ◌-◌, ◌*◌, ◌≤◌, max}
use mathlib.Core.Path.{◌≡◌}
use lib.ListN.{length, set}
use Rattle.loops.specs.Constants.{zero}
use Rattle.loops.specs.Place.{place}
use Rattle.loops.specs.Times.{range}
use Rattle.pass.proofs.shift.sweep.Given as goal

abbrev pub invariant-loop-i : goal.invariant-loop-i
invariant-loop-i l =
    (l.k + 1 ≤ l.i) × (l.i ≤ max (l.k + 1) (l.k + l.rows)) × (length l.t ≡ l.n * l.n)
    × (l.t ≡ range (λ i t. set t (place l.n i (l.k - 1)) zero) (l.k + 1) l.i l.initial.t)
