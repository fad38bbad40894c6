-- `eigenvalues::readers::do_eigenvalues` meets its contract. Assumes nothing.
use native.Mathlib.Numerals.{unary_clauses}
use native.Mathlib.Omega.{arith}
use mathlib.Core.Path.{refl, ◌∙◌}
use Rattle.std.proofs.Math.Seq.{take-suc-set}
use Rattle.loops.specs.Table.{table}
use Rattle.matrix.proofs.Kernels.{entry_of_there}
use Rattle.eigenvalues.proofs.readers.do_eigenvalues.Goals as goal

pub loop-k-preserved : goal.loop-k-preserved
unfolding table
loop-k-preserved c =
    let entry = c.entry.ensures ∙ entry_of_there _ _ _ _ (omega arith) (omega arith) (omega arith) (omega arith) in
    simp unary_clauses (take-suc-set _ _ _ (omega arith) ∙ rw (c.loop-k.invariant, entry) refl)
