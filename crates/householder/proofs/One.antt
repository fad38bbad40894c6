-- One contract, one answer, for the axis: two answers, each with the lent column behind it, that a contract allows on the same arguments are the same. The
-- contracts name an answer field by field, and an axis by its list, so each answer is put together again here. The contracts are those that are read from the
-- source, `Post`: what each function has to show. Assumes nothing.
use Prim.Native.Nat.{ℕ}
use mathlib.Core.Path.{◌≡◌, ap}
use mir.Syntax.{w64}
use mir.Val.{Fits}
use contract.Lifetimes.{Lfts}
use borrow.Fn.Kinds.{Dens, ended_of}
use denote.Triple.Clauses.{AtExit}
use Rattle.loops.specs.One.{one_answer}
use Rattle.householder.specs.declared.axis.Axis.{Axis}
use Rattle.householder.proofs.axis.reflection_axis_mut.Kinds as axis
use Rattle.householder.proofs.axis.reflection_axis_mut.Reads as reads_axis
use Rattle.householder.proofs.axis.reflection_axis_of_vector.Kinds as vector
use Rattle.householder.proofs.axis.reflection_axis_of_vector.Reads as reads_vector

-- the column that becomes the axis
pub one_axis : (κs : Lfts 1) (a : Dens κs axis.ps) (r r' : Axis) (s s' : AtExit (ended_of 1 axis.ps axis.r) κs) → reads_axis.Post κs a r s
    → reads_axis.Post κs a r' s'
    → (r ≡ r') × (s.0.now ≡ s'.0.now)
one_axis κs a r r' s s' h k =
    let e = one_answer _ _ _ h k in
    (ap (λ o. record { norm = o.norm; reflected = o.reflected }) e, ap (λ o. o.axis) e)

-- the vector that becomes the axis
module _ (N : ℕ) (F : Fits w64 N) where
  pub one_axis_of_vector : (κs : Lfts 2) (a : Dens κs (vector.ps N F)) (r r' : Axis) (s s' : AtExit (ended_of 2 (vector.ps N F) (vector.r N F)) κs)
      → reads_vector.Post N F κs a r s → reads_vector.Post N F κs a r' s'
      → (r ≡ r') × (s.0.now ≡ s'.0.now)
  one_axis_of_vector κs a r r' s s' h k =
      let e = one_answer _ _ _ h k in
      (ap (λ o. record { norm = o.norm; reflected = o.reflected }) e, ap (λ o. record { 0 = o.axis }) e)
