-- One contract, one answer, for the functions of the door: two answers, each with the lent bytes behind it, that a contract allows on the same arguments are
-- the same. The contracts are those that are read from the source, `Post`: what each function has to show. Assumes nothing.
use Prim.Native.Nat.{ℕ}
use mathlib.Core.Path.{◌≡◌, ap}
use contract.Lifetimes.{Lfts}
use borrow.Fn.Kinds.{Dens, ended_of}
use denote.Triple.Clauses.{AtExit}
use Rattle.loops.specs.One.{one_answer}
use Rattle.door.proofs.manulsek_decompose.Kinds as decompose
use Rattle.door.proofs.manulsek_decompose.Reads as reads_decompose
use Rattle.door.proofs.manulsek_eigenvalues.Kinds as real
use Rattle.door.proofs.manulsek_eigenvalues.Reads as reads_real
use Rattle.door.proofs.manulsek_complex_eigenvalues.Kinds as complex
use Rattle.door.proofs.manulsek_complex_eigenvalues.Reads as reads_complex
use Rattle.door.proofs.manulsek_plain_eigenvalues.Kinds as plain
use Rattle.door.proofs.manulsek_plain_eigenvalues.Reads as reads_plain

-- the bytes of T and of Q
pub one_decompose : (κs : Lfts 3) (a : Dens κs decompose.ps) (r r' : ℕ) (s s' : AtExit (ended_of 3 decompose.ps decompose.r) κs)
    → reads_decompose.Post κs a r s → reads_decompose.Post κs a r' s'
    → (r ≡ r') × (s.1.1.1.1.1.0.now ≡ s'.1.1.1.1.1.0.now) × (s.1.1.1.1.1.1.0.now ≡ s'.1.1.1.1.1.1.0.now)
one_decompose κs a r r' s s' h k = let e = one_answer _ _ _ h.0 k.0 in (ap (λ x. x.answer) e, ap (λ x. x.t) e, ap (λ x. x.q) e)

-- those of the eigenvalues
pub one_real : (κs : Lfts 2) (a : Dens κs real.ps) (r r' : ℕ) (s s' : AtExit (ended_of 2 real.ps real.r) κs) → reads_real.Post κs a r s
    → reads_real.Post κs a r' s'
    → (r ≡ r') × (s.1.1.0.now ≡ s'.1.1.0.now)
one_real κs a r r' s s' h k = let e = one_answer _ _ _ h k in (ap (λ x. x.answer) e, ap (λ x. x.values) e)

-- those of the real and of the imaginary parts
pub one_complex : (κs : Lfts 3) (a : Dens κs complex.ps) (r r' : ℕ) (s s' : AtExit (ended_of 3 complex.ps complex.r) κs) → reads_complex.Post κs a r s
    → reads_complex.Post κs a r' s'
    → (r ≡ r') × (s.1.1.0.now ≡ s'.1.1.0.now) × (s.1.1.1.0.now ≡ s'.1.1.1.0.now)
one_complex κs a r r' s s' h k = let e = one_answer _ _ _ h k in (ap (λ x. x.answer) e, ap (λ x. x.re) e, ap (λ x. x.im) e)

pub one_plain : (κs : Lfts 2) (a : Dens κs plain.ps) (r r' : ℕ) (s s' : AtExit (ended_of 2 plain.ps plain.r) κs) → reads_plain.Post κs a r s
    → reads_plain.Post κs a r' s'
    → (r ≡ r') × (s.1.1.0.now ≡ s'.1.1.0.now)
one_plain κs a r r' s s' h k = let e = one_answer _ _ _ h k in (ap (λ x. x.answer) e, ap (λ x. x.values) e)
