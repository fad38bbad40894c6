-- `scalar::root::digits` meets its contract. After k digits root * root + rem is the whole part of X's first 2 * k digits (`Digits`); after
-- 53 it is X itself, and what is left over decides the rounding. Assumes nothing.
use Rattle.scalar.proofs.root.Steps.{Digits}
use Rattle.scalar.proofs.root.digits.Given as goal

abbrev pub invariant-digits : goal.invariant-digits
invariant-digits l = Digits l.top l.left l.rem l.root l.counter
