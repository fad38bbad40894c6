-- `reflection::rows::sums_of_four` meets its contract. Assumes nothing.
use Prim.Native.Nat.{◌-◌}
use Rattle.reflection.proofs.RowSums.{four_to}
use Rattle.reflection.proofs.RowLoops.{Summing}
use Rattle.reflection.proofs.rows.sums_of_four.Given as goal

abbrev pub invariant-loop-j : goal.invariant-loop-j
invariant-loop-j l = Summing (λ j. four_to j l.a l.n l.c0 l.t l.i) l.a l.j-end l.j l.w

abbrev pub decreases-loop-j : goal.decreases-loop-j
decreases-loop-j l = l.j-end - l.j
