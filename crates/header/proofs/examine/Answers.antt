-- `header::examine` meets its contract. Assumes nothing.
use native.Mathlib.Omega.{arith}
use Rattle.refusal.proofs.ChecksInTurn.{in_turn}
use Rattle.refusal.specs.Refusal.{refuse}
use Rattle.header.specs.Record.{record_checks, by_checks, examined}
use Rattle.header.proofs.examine.Goals as goal

pub returns-then-input-lt20 : goal.returns-then-input-lt20
unfolding examined by_checks record_checks refuse
returns-then-input-lt20 c = grind (arith, in_turn)

pub returns-in_err-check : goal.returns-in_err-check
unfolding examined by_checks record_checks refuse
returns-in_err-check c = grind (arith, in_turn)

pub returns : goal.returns
unfolding examined by_checks record_checks refuse
returns c = grind (arith, in_turn)
