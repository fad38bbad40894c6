-- `hessenberg::new_with_workspace` meets its contract. Assumes nothing.
use mathlib.Core.Path.{sym}
use Rattle.loops.specs.Times.{times_none, times_more}
use Rattle.hessenberg.proofs.new_with_workspace.Goals as goal

pub loop-k-init : goal.loop-k-init
loop-k-init c = sym (times_none _ _)

pub loop-k-preserved : goal.loop-k-preserved
loop-k-preserved c = rw (times_more, ← c.loop-k.invariant) c.reduce_column.ensures
