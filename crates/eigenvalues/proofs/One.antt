-- One contract, one answer, for the readers: two answers, each with the lent lists behind it, that a contract allows on the same
-- arguments are the same. The contracts are those that are read from the source, `Post`: what each function has to show. Assumes nothing.
use Rattle.refusal.specs.Refusal.{Checked}
use mathlib.Core.Path.{◌≡◌, ap}
use contract.Lifetimes.{Lfts}
use borrow.Fn.Kinds.{Dens, ended_of}
use denote.Triple.Clauses.{AtExit}
use Rattle.loops.specs.One.{one_answer}
use Rattle.eigenvalues.proofs.readers.eigenvalues.Kinds as real
use Rattle.eigenvalues.proofs.readers.eigenvalues.Reads as reads_real
use Rattle.eigenvalues.proofs.readers.eigenvalues_of_finite.Kinds as real_finite
use Rattle.eigenvalues.proofs.readers.eigenvalues_of_finite.Reads as reads_real_finite
use Rattle.eigenvalues.proofs.readers.complex_eigenvalues.Kinds as complex
use Rattle.eigenvalues.proofs.readers.complex_eigenvalues.Reads as reads_complex
use Rattle.eigenvalues.proofs.readers.complex_eigenvalues_of_finite.Kinds as complex_finite
use Rattle.eigenvalues.proofs.readers.complex_eigenvalues_of_finite.Reads as reads_complex_finite

-- the list of eigenvalues
pub one_real : (κs : Lfts 2) (a : Dens κs real.ps) (r r' : Checked) (s s' : AtExit (ended_of 2 real.ps real.r) κs) → reads_real.Post κs a r s
    → reads_real.Post κs a r' s'
    → (r ≡ r') × (s.1.1.0.now ≡ s'.1.1.0.now)
one_real κs a r r' s s' h k = let e = one_answer _ _ _ h.0 k.0 in (ap (λ x. x.answer) e, ap (λ x. x.values) e)

pub one_real_finite : (κs : Lfts 2) (a : Dens κs real_finite.ps) (r r' : Checked) (s s' : AtExit (ended_of 2 real_finite.ps real_finite.r) κs)
    → reads_real_finite.Post κs a r s
    → reads_real_finite.Post κs a r' s' → (r ≡ r') × (s.1.1.0.now ≡ s'.1.1.0.now)
one_real_finite κs a r r' s s' h k = let e = one_answer _ _ _ h k in (ap (λ x. x.answer) e, ap (λ x. x.values) e)

-- the lists of real and of imaginary parts
pub one_complex : (κs : Lfts 3) (a : Dens κs complex.ps) (r r' : Checked) (s s' : AtExit (ended_of 3 complex.ps complex.r) κs) → reads_complex.Post κs a r s
    → reads_complex.Post κs a r' s'
    → (r ≡ r') × (s.1.1.0.now ≡ s'.1.1.0.now) × (s.1.1.1.0.now ≡ s'.1.1.1.0.now)
one_complex κs a r r' s s' h k = let e = one_answer _ _ _ h k in (ap (λ x. x.answer) e, ap (λ x. x.re) e, ap (λ x. x.im) e)

pub one_complex_finite : (κs : Lfts 3) (a : Dens κs complex_finite.ps) (r r' : Checked) (s s' : AtExit (ended_of 3 complex_finite.ps complex_finite.r) κs)
    → reads_complex_finite.Post κs a r s → reads_complex_finite.Post κs a r' s'
    → (r ≡ r') × (s.1.1.0.now ≡ s'.1.1.0.now) × (s.1.1.1.0.now ≡ s'.1.1.1.0.now)
one_complex_finite κs a r r' s s' h k = let e = one_answer _ _ _ h k in (ap (λ x. x.answer) e, ap (λ x. x.re) e, ap (λ x. x.im) e)
