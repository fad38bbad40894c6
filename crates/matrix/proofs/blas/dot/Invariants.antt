-- `matrix::blas::dot` meets its contract. Assumes nothing.
use mathlib.Core.Path.{◌≡◌}
use mathlib.Core.List.{List}
use Prim.Native.Nat.{ℕ}
use lib.ListN.{length}
use lib.Ieee.{Float}
use Rattle.loops.specs.Rounded.{◌⊕◌}
use Rattle.loops.specs.Times.{times}
use Rattle.matrix.specs.Sum.{lane}
use Rattle.matrix.specs.Vectors.{products}
use Rattle.matrix.proofs.Moving.{Moved}
use Rattle.matrix.proofs.blas.dot.Given as goal

-- after some blocks of eight: what is left of the lists, and what each accumulator holds
pub record Blocks (x y : List Float) (a0 a1 a2 a3 a4 a5 a6 a7 : Float) (u v : List Float) : Type 0 where
  pub count : ℕ
  pub moved : Moved x y u v count
  pub lane0 : a0 ≡ lane (products x y) 0 count
  pub lane1 : a1 ≡ lane (products x y) 1 count
  pub lane2 : a2 ≡ lane (products x y) 2 count
  pub lane3 : a3 ≡ lane (products x y) 3 count
  pub lane4 : a4 ≡ lane (products x y) 4 count
  pub lane5 : a5 ≡ lane (products x y) 5 count
  pub lane6 : a6 ≡ lane (products x y) 6 count
  pub lane7 : a7 ≡ lane (products x y) 7 count

abbrev pub invariant-loop-u : goal.invariant-loop-u
invariant-loop-u l = Blocks l.x l.y l.acc0 l.acc1 l.acc2 l.acc3 l.acc4 l.acc5 l.acc6 l.acc7 l.u l.v

abbrev pub decreases-loop-u : goal.decreases-loop-u
decreases-loop-u l = length l.u

-- after j of the terms behind the blocks
abbrev pub invariant-loop-j : goal.invariant-loop-j
invariant-loop-j l = l.res ≡ times (λ i d. d ⊕ products l.a-items l.v i) l.j l.initial.res
