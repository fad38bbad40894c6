-- One contract, one answer: two answers of `run`, each with the lent slices behind it, that its contract allows on the same arguments are the same. The
-- contract is the one that is read from the source, `reads.Post`: what the function has to show. Assumes nothing.
use mathlib.Core.Path.{◌≡◌, ap}
use mathlib.Core.List.{List}
use contract.Lifetimes.{Lfts}
use borrow.Fn.Kinds.{Dens, ended_of}
use denote.Triple.Clauses.{AtExit}
use lib.Ieee.{Float}
use Rattle.loops.specs.One.{one_answer}
use Rattle.calls.specs.Call.{Answer}
use Rattle.calls.proofs.run.Kinds as kinds
use Rattle.calls.proofs.run.Reads as reads

module _ (κs : Lfts 4) where
  abbrev Exit : Type 0
  Exit = AtExit (ended_of 4 kinds.ps kinds.r) κs

  abbrev x : Exit → List Float
  x s = s.1.1.0.now

  abbrev y : Exit → List Float
  y s = s.1.1.1.0.now

  abbrev z : Exit → List Float
  z s = s.1.1.1.1.0.now

  pub one_call : (a : Dens κs kinds.ps) (r r' : Answer) (s s' : Exit) → reads.Post κs a r s → reads.Post κs a r' s'
      → (r ≡ r') × (x s ≡ x s') × (y s ≡ y s') × (z s ≡ z s')
  one_call a r r' s s' h k =
      let e = one_answer _ _ _ h k in
      (ap (λ o. o.answer) e, ap (λ o. o.x) e, ap (λ o. o.y) e, ap (λ o. o.z) e)
