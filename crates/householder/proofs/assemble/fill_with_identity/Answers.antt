-- `householder::assemble::fill_with_identity` meets its contract. Assumes nothing.
use mathlib.Core.Path.{sym, ◌∙◌}
use native.Mathlib.Omega.{arith}
use Rattle.loops.specs.Times.{times_none, times_more, times_done}
use Rattle.householder.proofs.Identity.{ones, ones-identity}
use Rattle.householder.proofs.assemble.fill_with_identity.Goals as goal

pub loop-i-init : goal.loop-i-init
loop-i-init c = sym (times_none _ _)

pub loop-i-preserved : goal.loop-i-preserved
loop-i-preserved c = rw (times_more, ← c.loop-i.invariant)

pub returns : goal.returns
returns c =
    c.loop-i.invariant
    ∙ times_done (ones c.args.n) _ c.args.n _ (omega arith) (omega arith)
    ∙ rw c.fill.ensures (ones-identity _ _ (omega arith) (omega arith))
