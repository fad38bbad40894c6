-- `pass::shift::shift_here` meets its contract. Assumes nothing.
use Prim.Native.Nat.{ℕ, ◌+◌, ◌-◌, ◌≤◌}
use mathlib.Core.Path.{◌≡◌}
use mathlib.Core.List.{List}
use lib.ListN.{length}
use lib.Ieee.{Float}
use Rattle.loops.specs.Times.{range}
use Rattle.window.specs.declared.Window.{Window}
use Rattle.pass.specs.declared.setting.Setting.{Setting}
use Rattle.pass.specs.Pair.{Pair, pair}
use Rattle.pass.specs.Pass.{chased}
use Rattle.pass.specs.Inner.{Reaches, listed}
use Rattle.pass.proofs.shift.shift_here.Given as goal

-- the steps before k have been made
pub record Chasing (asked : Setting) (w : Window) (first : List Float) (p₀ : Pair) (k-end k : ℕ) (p : Pair) : Type 0 where
  pub from : w.start ≤ k
  pub within : k ≤ k-end
  pub last : k-end + 1 ≡ w.end
  pub matrix : Reaches asked.order w.end p.t
  pub room : length p.q ≡ length p₀.q
  pub done : p ≡ range (chased asked w first) w.start k p₀

abbrev pub invariant-loop-k : goal.invariant-loop-k
invariant-loop-k l = Chasing l.asked l.w (listed l.first) (pair l.initial.t l.initial.q) l.k-end l.k (pair l.t l.q)

abbrev pub decreases-loop-k : goal.decreases-loop-k
decreases-loop-k l = l.k-end - l.k
