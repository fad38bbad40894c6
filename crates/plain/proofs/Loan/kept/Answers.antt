-- `plain::Loan::kept` meets its contract. Assumes nothing.
use mathlib.Core.Path.{refl, ap}
use Rattle.plain.specs.Plain.{in_place, kept}
use Rattle.plain.proofs.Plainly.{begun_two}
use Rattle.plain.proofs.Loan.kept.Goals as goal

pub returns-then-self-eq2 : goal.returns-then-self-eq2
returns-then-self-eq2 c =
    let two = c.two.ensures in
    record { is = ap (λ p. kept p) (begun_two (in_place _ _ _ _) _ _ _ _ c.if-self-eq2.true two.told refl two.cleared); same = two.same }
