-- `hessenberg::new_with_workspace` meets its contract. Assumes nothing.
use mathlib.Core.Path.{◌≡◌}
use Rattle.loops.specs.Times.{times}
use Rattle.hessenberg.specs.Reduced.{reduction, reduce_column}
use Rattle.hessenberg.proofs.new_with_workspace.Given as goal

-- the first k columns have been reduced
abbrev pub invariant-loop-k : goal.invariant-loop-k
invariant-loop-k l = reduction l.hess l.work ≡ times (reduce_column l.n) l.k (reduction l.initial.hess l.initial.work)
