-- `eigenvalues::readers::do_complex_eigenvalues` meets its contract. Assumes nothing.
use Prim.Native.Nat.{ℕ}
use mathlib.Core.List.{List}
use mathlib.Core.Path.{◌≡◌}
use lib.Ieee.{Float}
use Rattle.eigenvalues.specs.declared.block.BlockAnswer.{BlockAnswer}
use Rattle.eigenvalues.specs.Blocks.{answer_before, eigenvalue_at}
use Rattle.matrix.proofs.Filled.{Filled}
use Rattle.eigenvalues.proofs.readers.do_complex_eigenvalues.Given as goal

-- the parts of the first k eigenvalues are written, and `before` is what the row before k has answered
pub record Reading (n : ℕ) (t re im : List Float) (before : BlockAnswer) (k : ℕ) : Type 0 where
  pub reals : Filled n (λ k. (eigenvalue_at n t k).re) k re
  pub imaginaries : Filled n (λ k. (eigenvalue_at n t k).im) k im
  pub answered : before ≡ answer_before n t k

abbrev pub invariant-loop-k : goal.invariant-loop-k
invariant-loop-k l = Reading l.n l.t l.re l.im l.before l.k
