-- `plain::decompose` meets its contract. Assumes nothing.
use native.Mathlib.Omega.{arith}
use Rattle.schur.specs.Run.{left}
use Rattle.decomposition.specs.Decomposition.{settlement}
use Rattle.plain.proofs.Plainly.{ran_by}
use Rattle.plain.proofs.decompose.Goals as goal

pub returns : goal.returns
returns c =
    ran_by {l = left _ _} {s = settlement _ _} _ _ _ c.requires c.do_decompose-ran.ensures.q_after c.decide.ensures c.do_decompose-ran.ensures.work_after
    (omega arith)
