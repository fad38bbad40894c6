-- `eigenvalues::readers::first_value_not_finite` meets its contract. Assumes nothing.
use Prim.Native.Nat.{ℕ}
use mathlib.Core.List.{List}
use mathlib.Core.Path.{◌≡◌}
use lib.Ieee.{Float}
use Rattle.refusal.proofs.Searching.{Sought}
use Rattle.eigenvalues.specs.declared.block.BlockAnswer.{BlockAnswer}
use Rattle.eigenvalues.specs.Blocks.{answer_before}
use Rattle.eigenvalues.specs.Readers.{not_finite_at}
use Rattle.eigenvalues.proofs.readers.first_value_not_finite.Given as goal

-- `before` is what the row before k has answered
pub record Seeking (n : ℕ) (t : List Float) (before : BlockAnswer) (k : ℕ) : Type 0 where
  pub sought : Sought (not_finite_at n t) n 0 k
  pub answered : before ≡ answer_before n t k

abbrev pub invariant-loop-k : goal.invariant-loop-k
invariant-loop-k l = Seeking l.n l.t l.before l.k
