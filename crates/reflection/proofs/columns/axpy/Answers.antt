-- `reflection::columns::axpy` meets its contract. Assumes nothing.
use mathlib.Core.Path.{sym, ◌∙◌}
use native.Mathlib.Omega.{arith}
use lib.ListN.{length-set}
use Rattle.loops.specs.Times.{times_none, times_more, times_done}
use Rattle.reflection.specs.Inner.{axpy_of}
use Rattle.reflection.proofs.columns.axpy.Goals as goal

pub loop-i-init : goal.loop-i-init
loop-i-init c = (omega arith, omega arith, sym (times_none _ _))

pub loop-i-preserved : goal.loop-i-preserved
loop-i-preserved c = (omega arith, simp length-set (omega arith), rw (times_more, ← c.loop-i.invariant.2))

pub returns : goal.returns
unfolding axpy_of
returns c = c.loop-i.invariant.2 ∙ times_done _ _ _ _ (omega arith) (omega arith)
