-- One contract, one answer: two answers of an entry, each with the lent buffers behind it, that its contract allows on the same arguments are the same.
-- The contracts are those that are read from the source, `Post`: what each function has to show. Assumes nothing.
use Rattle.decomposition.specs.Decomposition.{Decomposed}
use mathlib.Core.Path.{◌≡◌, ap}
use mathlib.Core.List.{List}
use contract.Lifetimes.{Lfts}
use borrow.Fn.Kinds.{Dens, ended_of}
use denote.Triple.Clauses.{AtExit}
use lib.Ieee.{Float}
use Rattle.loops.specs.One.{one_answer}
use Rattle.decomposition.proofs.try_new.Kinds as kinds
use Rattle.decomposition.proofs.try_new.Reads as reads
use Rattle.decomposition.proofs.try_new_in_place.Kinds as kinds_in_place
use Rattle.decomposition.proofs.try_new_in_place.Reads as reads_in_place

module _ (κs : Lfts 4) where
  abbrev Exit : Type 0
  Exit = AtExit (ended_of 4 kinds.ps kinds.r) κs

  -- T, Q and the workspace at exit
  abbrev t : Exit → List Float
  t s = s.1.1.1.0.now

  abbrev q : Exit → List Float
  q s = s.1.1.1.1.0.now

  abbrev work : Exit → List Float
  work s = s.1.1.1.1.1.0.now

  pub one_decomposition : (a : Dens κs kinds.ps) (r r' : Decomposed) (s s' : Exit) → reads.Post κs a r s → reads.Post κs a r' s'
      → (r ≡ r') × (t s ≡ t s') × (q s ≡ q s') × (work s ≡ work s')
  one_decomposition a r r' s s' h k =
      let e = one_answer _ _ _ h.0 k.0 in
      (ap (λ o. o.answer) e, ap (λ o. o.pair.t) e, ap (λ o. o.pair.q) e, ap (λ o. o.work) e)

module _ (κs : Lfts 3) where
  abbrev ExitInPlace : Type 0
  ExitInPlace = AtExit (ended_of 3 kinds_in_place.ps kinds_in_place.r) κs

  abbrev placed_t : ExitInPlace → List Float
  placed_t s = s.0.now

  abbrev placed_q : ExitInPlace → List Float
  placed_q s = s.1.0.now

  abbrev placed_work : ExitInPlace → List Float
  placed_work s = s.1.1.1.1.0.now

  pub one_in_place : (a : Dens κs kinds_in_place.ps) (r r' : Decomposed) (s s' : ExitInPlace) → reads_in_place.Post κs a r s → reads_in_place.Post κs a r' s'
      → (r ≡ r') × (placed_t s ≡ placed_t s') × (placed_q s ≡ placed_q s') × (placed_work s ≡ placed_work s')
  one_in_place a r r' s s' h k =
      let e = one_answer _ _ _ h.0 k.0 in
      (ap (λ o. o.answer) e, ap (λ o. o.pair.t) e, ap (λ o. o.pair.q) e, ap (λ o. o.work) e)
