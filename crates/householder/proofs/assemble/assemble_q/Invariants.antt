-- `householder::assemble::assemble_q` meets its contract. Assumes nothing.
use mathlib.Core.Path.{◌≡◌}
use Rattle.loops.specs.Down.{down}
use Rattle.householder.specs.Assembled.{with_axis}
use Rattle.householder.proofs.assemble.assemble_q.Given as goal

-- what the first i axes, from the last of them down, have yet to do is the whole
abbrev pub invariant-loop-i : goal.invariant-loop-i
invariant-loop-i l = down (with_axis l.n l.m l.signs) l.i l.q ≡ down (with_axis l.n l.m l.signs) l.last l.initial.q
