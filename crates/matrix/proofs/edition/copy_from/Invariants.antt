-- `matrix::edition::copy_from` meets its contract. Assumes nothing.
use lib.ListN.{length}
use Rattle.loops.specs.Rounded.{◌!◌}
use Rattle.matrix.proofs.Each.{Rewriting}
use Rattle.matrix.proofs.edition.copy_from.Given as goal

-- the first i numbers of c were copied
abbrev pub invariant-loop-i : goal.invariant-loop-i
invariant-loop-i l = Rewriting (length l.c) (λ k _. l.c ! k) l.initial.t l.i l.t
