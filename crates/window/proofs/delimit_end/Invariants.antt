-- `window::delimit_end` meets its contract. Assumes nothing.
use mathlib.Core.Path.{◌≡◌}
use Rattle.loops.specs.Until.{until}
use Rattle.window.specs.Window.{falling, stands, fall, end_from}
use Rattle.window.proofs.delimit_end.Given as goal

-- the end has fallen to e: what is left to do is the whole
abbrev pub invariant-loop-e : goal.invariant-loop-e
invariant-loop-e l = until (stands l.n l.eps) (fall l.n) l.e (falling l.e l.t) ≡ end_from l.n l.eps l.end l.initial.t
