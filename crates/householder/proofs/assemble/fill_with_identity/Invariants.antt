-- `householder::assemble::fill_with_identity` meets its contract. Assumes nothing.
use mathlib.Core.Path.{◌≡◌}
use Rattle.loops.specs.Times.{times}
use Rattle.householder.proofs.Identity.{ones}
use Rattle.householder.proofs.assemble.fill_with_identity.Given as goal

-- the first i ones stand
abbrev pub invariant-loop-i : goal.invariant-loop-i
invariant-loop-i l = l.q ≡ times (ones l.n) l.i l.initial.q
