-- One contract, one answer, for the plain entry: two answers, each with what was lent behind it, that a contract allows on the same arguments are the same.
-- The contracts are those that are read from the source, `Post`: what each function has to show. Assumes nothing.
use Rattle.refusal.specs.Refusal.{Checked}
use mathlib.Core.Path.{◌≡◌, ap}
use contract.Lifetimes.{Lfts}
use borrow.Fn.Kinds.{Dens, ended_of}
use denote.Triple.Clauses.{AtExit}
use Rattle.loops.specs.One.{one_answer}
use Rattle.plain.specs.Plain.{InPlace}
use Rattle.plain.proofs.plain_eigenvalues.Kinds as plain
use Rattle.plain.proofs.plain_eigenvalues.Reads as reads_plain
use Rattle.plain.proofs.plain_eigenvalues_in_place.Kinds as in_place
use Rattle.plain.proofs.plain_eigenvalues_in_place.Reads as reads_in_place
use Rattle.plain.proofs.plain_eigenvalues_of_finite.Kinds as finite
use Rattle.plain.proofs.plain_eigenvalues_of_finite.Reads as reads_finite

-- the list of eigenvalues and the workspace
pub one_plain : (κs : Lfts 3) (a : Dens κs plain.ps) (r r' : Checked) (s s' : AtExit (ended_of 3 plain.ps plain.r) κs) → reads_plain.Post κs a r s
    → reads_plain.Post κs a r' s'
    → (r ≡ r') × (s.1.1.0.now ≡ s'.1.1.0.now) × (s.1.1.1.0.now ≡ s'.1.1.1.0.now)
one_plain κs a r r' s s' h k = let e = one_answer _ _ _ h k in (ap (λ x. x.answer) e, ap (λ x. x.values) e, ap (λ x. x.work) e)

-- in place: T before them
part_by_part : {x y : InPlace} → x ≡ y → (x.answer ≡ y.answer) × (x.t ≡ y.t) × (x.values ≡ y.values) × (x.work ≡ y.work)
part_by_part e = (ap (λ x. x.answer) e, ap (λ x. x.t) e, ap (λ x. x.values) e, ap (λ x. x.work) e)

pub one_in_place : (κs : Lfts 3) (a : Dens κs in_place.ps) (r r' : Checked) (s s' : AtExit (ended_of 3 in_place.ps in_place.r) κs)
    → reads_in_place.Post κs a r s → reads_in_place.Post κs a r' s'
    → (r ≡ r') × (s.0.now ≡ s'.0.now) × (s.1.1.0.now ≡ s'.1.1.0.now) × (s.1.1.1.0.now ≡ s'.1.1.1.0.now)
one_in_place κs a r r' s s' h k = part_by_part (one_answer _ _ _ h k)

pub one_of_finite : (κs : Lfts 3) (a : Dens κs finite.ps) (r r' : Checked) (s s' : AtExit (ended_of 3 finite.ps finite.r) κs)
    → reads_finite.Post κs a r s → reads_finite.Post κs a r' s'
    → (r ≡ r') × (s.0.now ≡ s'.0.now) × (s.1.1.0.now ≡ s'.1.1.0.now) × (s.1.1.1.0.now ≡ s'.1.1.1.0.now)
one_of_finite κs a r r' s s' h k = part_by_part (one_answer _ _ _ h k)
