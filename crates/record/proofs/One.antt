-- One contract, one answer: two lengths, each with the lent text behind it, that the contract of `answer` allows on the same arguments are the same. The
-- contract is the one that is read from the source, `Post`: what the function has to show. Assumes nothing.
use Prim.Native.Nat.{ℕ}
use mathlib.Core.Path.{◌≡◌, ap}
use contract.Lifetimes.{Lfts}
use borrow.Fn.Kinds.{Dens, ended_of}
use denote.Triple.Clauses.{AtExit}
use Rattle.loops.specs.One.{one_answer}
use Rattle.record.proofs.text.answer.Kinds as answer
use Rattle.record.proofs.text.answer.Reads as reads_answer

pub one_text : (κs : Lfts 2) (a : Dens κs answer.ps) (r r' : ℕ) (s s' : AtExit (ended_of 2 answer.ps answer.r) κs) → reads_answer.Post κs a r s
    → reads_answer.Post κs a r' s'
    → (r ≡ r') × (s.1.0.now ≡ s'.1.0.now)
one_text κs a r r' s s' h k = let e = one_answer _ _ _ h.0 k.0 in (ap (λ x. x.at) e, ap (λ x. x.text) e)
