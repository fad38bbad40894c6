-- `plain::Loan::any` meets its contract. Assumes nothing.
use mathlib.Core.Path.{refl}
use Rattle.plain.specs.Plain.{in_place}
use Rattle.plain.proofs.Plainly.{begun_two, begun_run}
use Rattle.plain.proofs.Loan.any.Goals as goal

pub returns-then-self-eq2 : goal.returns-then-self-eq2
returns-then-self-eq2 c =
    let two = c.two.ensures in
    record { is = begun_two (in_place _ _ _ _) _ _ _ _ c.if-self-eq2.true two.told refl two.cleared; same = two.same }

pub returns-else-self-eq2 : goal.returns-else-self-eq2
returns-else-self-eq2 c =
    let ran = c.run.ensures in
    record { is = begun_run (in_place _ _ _ _) _ _ _ _ c.if-self-eq2.false ran.told ran.left ran.cleared; same = ran.same }
