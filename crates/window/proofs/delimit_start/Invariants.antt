-- `window::delimit_start` meets its contract. Assumes nothing.
use Prim.Native.Nat.{◌-◌}
use mathlib.Core.Path.{◌≡◌}
use Rattle.loops.specs.Until.{until}
use Rattle.window.specs.Window.{cut, start_from}
use Rattle.window.proofs.delimit_start.Given as goal

-- nothing cuts the window off from row s downward: what is left to search is the whole
abbrev pub invariant-loop-s : goal.invariant-loop-s
invariant-loop-s l = until (cut l.n l.eps l.t) (λ i. i - 1) (l.s - 1) (l.s - 1) ≡ start_from l.n l.eps l.end l.t
