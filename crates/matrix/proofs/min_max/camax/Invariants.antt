-- `matrix::min_max::camax` meets its contract. Assumes nothing.
use mathlib.Core.Path.{◌≡◌}
use Prim.Native.Nat.{◌+◌}
use Rattle.loops.specs.Rounded.{◌!◌}
use Rattle.loops.specs.Times.{range}
use Rattle.scalar.specs.Sign.{modulus_of}
use Rattle.matrix.specs.Vectors.{larger}
use Rattle.matrix.proofs.min_max.camax.Given as goal

-- the first number and so many of the rest were looked at
abbrev pub invariant-loop-v : goal.invariant-loop-v
invariant-loop-v l = l.max ≡ range (λ i a. larger a (modulus_of (l.t ! i))) 1 (l.v-index + 1) (modulus_of (l.t ! 0))
