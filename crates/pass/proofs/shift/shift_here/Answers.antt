-- `pass::shift::shift_here` meets its contract. Assumes nothing.
use native.Mathlib.Omega.{arith}
use Prim.Native.Nat.{◌-◌}
use mathlib.Core.Path.{sym, ap, ◌∙◌}
use Rattle.loops.specs.Times.{range_none, range_more, range_done}
use Rattle.pass.specs.Pair.{pair}
use Rattle.pass.specs.Pass.{chased, closing, pass_here}
use Rattle.pass.specs.Inner.{listed}
use Rattle.pass.proofs.shift.shift_here.Goals as goal

pub loop-k-preserved : goal.loop-k-preserved
loop-k-preserved c =
    let l = c.loop-k in
    let inv = l.invariant in
    record {
      from = omega arith;
      within = omega arith;
      last = inv.last;
      matrix = omega arith;
      room = omega arith;
      done = c.chase.ensures ∙ ap (chased _ _ _ l.k) inv.done ∙ sym (range_more _ _ l.k _ inv.from);
    }

pub returns : goal.returns
unfolding pass_here
returns c =
    let l = c.loop-k in
    let x = c.args in
    let s = x.w.start in
    let e = x.w.end in
    let done = range_done (chased x.asked x.w (listed c.first_column-first.result)) s (e - 1) l.k (pair x.t.now x.q.now) (omega arith) (omega arith)
    (omega arith) in
    c.close.ensures ∙ ap (closing x.asked x.w) (l.invariant.done ∙ done) ∙ rw c.first_column-first.ensures

pub loop-k-init : goal.loop-k-init
loop-k-init c = record {
  from = omega arith;
  within = omega arith;
  last = omega arith;
  matrix = omega arith;
  room = omega arith;
  done = sym (range_none _ _ _);
}
