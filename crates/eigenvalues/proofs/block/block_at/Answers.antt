-- `eigenvalues::block::block_at` meets its contract. Assumes nothing.
use native.Mathlib.Omega.{arith}
use Rattle.eigenvalues.proofs.BlockAnswers.{block_read}
use Rattle.eigenvalues.proofs.block.block_at.Goals as goal

pub returns : goal.returns
returns c =
    rw (c.entry.ensures, c.entry-2.ensures, c.entry-3.ensures, c.entry-4.ensures)
    (block_read _ _ _ (omega arith) (omega arith) (omega arith))
