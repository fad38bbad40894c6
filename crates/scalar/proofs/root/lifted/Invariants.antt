-- `scalar::root::lifted` meets its contract. Each turn takes two zeros into top and one from h, and w stays what the two stand for.
-- Assumes nothing.
use Rattle.scalar.proofs.root.Steps.{Lift}
use Rattle.scalar.proofs.root.lifted.Given as goal

abbrev pub invariant-loop-top : goal.invariant-loop-top
invariant-loop-top l = Lift l.w l.top l.h

abbrev pub decreases-loop-top : goal.decreases-loop-top
decreases-loop-top l = l.h
