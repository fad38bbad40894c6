-- `scalar::root::lifted` meets its contract. Each turn takes two zeros into top and one from h, and w stays what the two stand for.
-- Assumes nothing.
use Rattle.scalar.proofs.root.Steps.{lift_more}
use Rattle.scalar.proofs.root.lifted.Goals as goal

pub loop-top-preserved : goal.loop-top-preserved
loop-top-preserved c = lift_more _ _ _ c.requires.some c.loop-top.invariant c.loop-top-test.true
