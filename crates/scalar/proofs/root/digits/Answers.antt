-- `scalar::root::digits` meets its contract. After k digits root * root + rem is the whole part of X's first 2 * k digits (`Digits`); after
-- 53 it is X itself, and what is left over decides the rounding. Assumes nothing.
use Rattle.std.proofs.Common.{arith}
use Rattle.scalar.proofs.root.Steps.{digits_one, digits_zero}
use Rattle.scalar.proofs.root.digits.Goals as goal
use Rattle.scalar.proofs.root.digits.Goals.{then-trial-rem, else-trial-rem}

pub digits-preserved : goal.digits-preserved
digits-preserved c =
    let d = c.digits.invariant in elim c.if-trial-rem.branch [
      | then-trial-rem w ↦ rw (w.rem-is, w.root-is) (digits_one _ _ _ _ _ d (omega arith) w.if-trial-rem.true)
      | else-trial-rem w ↦ rw (w.rem-is, w.root-is) (digits_zero _ _ _ _ _ d (omega arith) w.if-trial-rem.false)
    ]
