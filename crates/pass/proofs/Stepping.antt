-- One step of a pass, told of what its axis has answered: for axes of two and of three alike. Assumes nothing.
use Prim.Native.Nat.{ℕ}
use mathlib.Core.Bool.{Bool, true, false, cond}
use mathlib.Core.Path.{◌≡◌, sym, ap, ◌∙◌}
use mathlib.Core.List.{List}
use lib.ListN.{length}
use lib.Ieee.{Float}
use Rattle.matrix.specs.Sum.{bare}
use Rattle.householder.specs.Axis.{AxisAnswer, axis_of}
use Rattle.window.specs.declared.Window.{Window}
use Rattle.pass.specs.declared.setting.Setting.{Setting}
use Rattle.pass.specs.Pair.{Pair, pair}
use Rattle.pass.specs.Pass.{swept_past, reflected_at, rows_at, step_at}

module _ (asked : Setting) (w : Window) (k : ℕ) (c : List Float) (p : Pair) where
  abbrev there : AxisAnswer → Pair
  there x = pair (swept_past asked.order w.start k (length c) x.norm p.t) p.q

  abbrev ways : Bool → AxisAnswer → Pair
  ways b x = cond b (reflected_at asked k (rows_at k w.end) x.axis (there x)) p

  answered : (x : AxisAnswer) (b : Bool) → x ≡ axis_of bare c → x.reflected ≡ b → ways b x ≡ step_at asked w k c p
  unfolding step_at
  answered x b e h = sym (ap (λ d. ways d x) h) ∙ ap (λ y. ways y.reflected y) e

  -- there is no reflection: nothing is done
  pub step_none : (x : AxisAnswer) → x ≡ axis_of bare c → x.reflected ≡ false → p ≡ step_at asked w k c p
  step_none x e h = answered x false e h

  -- there is one: t is what the column was swept to, and T and Q are reflected from there
  pub step_made : (x : AxisAnswer) (t : List Float) (rows : ℕ) (after : Pair) → x ≡ axis_of bare c → x.reflected ≡ true
      → t ≡ swept_past asked.order w.start k (length c) x.norm p.t → rows ≡ rows_at k w.end
      → after ≡ reflected_at asked k rows x.axis (pair t p.q)
      → after ≡ step_at asked w k c p
  step_made x t rows after e h swept count made =
      made ∙ ap (λ r. reflected_at asked k r x.axis (pair t p.q)) count ∙ ap (λ t. reflected_at asked k (rows_at k w.end) x.axis (pair t p.q)) swept
      ∙ answered x true e h
