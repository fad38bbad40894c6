-- One contract, one answer, for the functions whose answer is a vector: two vectors that a contract allows on the same arguments are the same. The contracts
-- equate the vector's list, so the vector is read from its list here. They are those that are read from the source, `Post`: what each function has to show.
-- Assumes nothing.
use Prim.Native.Nat.{ℕ}
use mathlib.Core.Path.{◌≡◌, ap}
use mir.Syntax.{w64}
use mir.Val.{Fits}
use contract.Lifetimes.{Lfts}
use borrow.Fn.Kinds.{Dens, ended_of}
use denote.Triple.Clauses.{AtExit}
use Rattle.loops.specs.One.{one_answer}
use Rattle.matrix.specs.declared.vector.Vector.{Vector}
use Rattle.matrix.proofs.vector.Vector.unscale.Kinds as unscale
use Rattle.matrix.proofs.vector.Vector.unscale.Reads as reads_unscale
use Rattle.matrix.proofs.vector.Vector.normalize.Kinds as normalize
use Rattle.matrix.proofs.vector.Vector.normalize.Reads as reads_normalize

-- for every number of numbers
module _ (N : ℕ) (F : Fits w64 N) where
  -- a vector is told by its list
  one_list : (v w : Vector N) → v.0 ≡ w.0 → v ≡ w
  one_list v w e = ap (λ l. record { 0 = l }) e

  pub one_unscale : (κs : Lfts 2) (a : Dens κs (unscale.ps N F)) (r r' : Vector N) (s s' : AtExit (ended_of 2 (unscale.ps N F) (unscale.r N F)) κs)
      → reads_unscale.Post N F κs a r s → reads_unscale.Post N F κs a r' s'
      → r ≡ r'
  one_unscale κs a r r' s s' h k = one_list r r' (one_answer _ _ _ h k)

  pub one_normalize : (κs : Lfts 2) (a : Dens κs (normalize.ps N F)) (r r' : Vector N) (s s' : AtExit (ended_of 2 (normalize.ps N F) (normalize.r N F)) κs)
      → reads_normalize.Post N F κs a r s → reads_normalize.Post N F κs a r' s'
      → r ≡ r'
  one_normalize κs a r r' s s' h k = one_list r r' (one_answer _ _ _ h k)
