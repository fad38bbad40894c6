-- `matrix::edition::copy_from` meets its contract. Assumes nothing.
use native.Mathlib.Omega.{arith}
use Rattle.matrix.proofs.Each.{rewriting_more}
use Rattle.matrix.proofs.edition.copy_from.Goals as goal

pub loop-i-preserved : goal.loop-i-preserved
loop-i-preserved c = rewriting_more c.loop-i.invariant (omega arith)
