-- `reflection::columns::axpy` meets its contract. Assumes nothing.
use mathlib.Core.Path.{◌≡◌}
use Prim.Native.Nat.{◌+◌, ◌-◌, ◌≤◌}
use lib.ListN.{length, set}
use Rattle.loops.specs.Rounded.{◌⊕◌, ◌⊗◌, ◌!◌}
use Rattle.loops.specs.Times.{times}
use Rattle.reflection.proofs.columns.axpy.Given as goal

abbrev pub invariant-loop-i : goal.invariant-loop-i
invariant-loop-i l =
    (l.i ≤ l.i-end) × (length l.t ≡ length l.initial.t)
    × (l.t ≡ times (λ i u. set u (l.o + i) (l.factor ⊗ (l.a ! i) ⊕ l.sign ⊗ (u ! (l.o + i)))) l.i l.initial.t)

abbrev pub decreases-loop-i : goal.decreases-loop-i
decreases-loop-i l = l.i-end - l.i
