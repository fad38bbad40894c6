-- `pass::shift::sweep` meets its contract. Assumes nothing.
use mathlib.Core.Path.{sym, ap, ◌∙◌}
use native.Mathlib.Omega.{arith}
use borrow.Author.Tests.{le-leb, lt-leb}
use lib.ListN.{set, length-set}
use Prim.Native.Nat.{◌+◌, ◌-◌}
use Rattle.loops.specs.Constants.{zero}
use Rattle.loops.specs.Place.{place}
use Rattle.loops.specs.Times.{range, range_none, range_more, range_done}
use Rattle.pass.specs.Pass.{swept, swept_past}
use Rattle.pass.proofs.shift.sweep.Goals as goal

pub returns-then-k-start : goal.returns-then-k-start
unfolding swept_past
returns-then-k-start c = rw (le-leb _ _ c.if-k-start.true)

pub loop-i-init : goal.loop-i-init
loop-i-init c = (omega arith, omega arith, rw c.put.ensures (simp length-set (omega arith)), sym (range_none _ _ _))

pub loop-i-preserved : goal.loop-i-preserved
loop-i-preserved c =
    let inv = c.loop-i.invariant in
    (omega arith, omega arith, rw c.put-in-loop-i.ensures (simp length-set (omega arith)), rw (c.put-in-loop-i.ensures, range_more _ _ c.loop-i.i _ inv.0, ← inv.3))

pub returns : goal.returns
unfolding swept_past swept
returns c =
    let x = c.args in
    let inv = c.loop-i.invariant in
    rw (lt-leb _ _ c.if-k-start.false)
    (inv.3 ∙ range_done _ _ _ _ _ inv.0 inv.1 (omega arith)
    ∙ ap (range (λ i t. set t (place x.n i (x.k - 1)) zero) (x.k + 1) (x.k + x.rows)) c.put.ensures)
