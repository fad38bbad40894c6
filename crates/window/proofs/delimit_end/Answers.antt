-- `window::delimit_end` meets its contract. Assumes nothing.
use native.Mathlib.Omega.{arith}
use mathlib.Core.Path.{◌≡◌, sym, ap, ◌∙◌}
use Rattle.loops.specs.Until.{until}
use Rattle.loops.proofs.Until.{until_out}
use Rattle.window.specs.Window.{falling, stands, fall}
use Rattle.window.proofs.delimit_end.Goals as goal

-- row 0
pub returns : goal.returns
returns c =
    let l = c.loop-e in
    let x = c.args in
    let e : l.e ≡ 0 = omega arith in
    record {
      fallen = sym (ap (λ k. until (stands x.n x.eps) (fall x.n) k (falling k l.t)) e ∙ until_out _ _ _) ∙ l.invariant;
      upto = omega arith;
    }
