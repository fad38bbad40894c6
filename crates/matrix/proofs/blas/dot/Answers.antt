-- `matrix::blas::dot` meets its contract. Assumes nothing.
use mathlib.Core.Path.{sym, ◌∙◌}
use Prim.Native.Nat.{◌+◌}
use native.Mathlib.Omega.{arith}
use borrow.Author.Tests.{ne_eqb}
use lib.ListN.{length-take, length-drop}
use Rattle.loops.specs.Times.{times_none, times_more}
use Rattle.matrix.specs.Sum.{lanes_summed}
use Rattle.matrix.specs.Vectors.{dot_of}
use Rattle.matrix.proofs.Sums.{lane_none}
use Rattle.matrix.proofs.Moving.{moved_none, moved_lane, moved_more, moved_done}
use Rattle.matrix.proofs.blas.dot.Goals as goal

pub returns-then-x-y : goal.returns-then-x-y
unfolding dot_of
returns-then-x-y c = rw (ne_eqb _ _ c.if-x-y.true) c.not_a_number.ensures

pub loop-u-init : goal.loop-u-init
loop-u-init c = record {
  count = 0;
  moved = moved_none (omega arith);
  lane0 = sym (lane_none _ _);
  lane1 = sym (lane_none _ _);
  lane2 = sym (lane_none _ _);
  lane3 = sym (lane_none _ _);
  lane4 = sym (lane_none _ _);
  lane5 = sym (lane_none _ _);
  lane6 = sym (lane_none _ _);
  lane7 = sym (lane_none _ _);
}

pub loop-u-preserved : goal.loop-u-preserved
loop-u-preserved c =
    let inv = c.loop-u.invariant in
    record {
      count = inv.count + 1;
      moved = moved_more inv.moved c.loop-u-test.true;
      lane0 = rw (moved_lane inv.moved 0, ← inv.lane0);
      lane1 = rw (moved_lane inv.moved 1, ← inv.lane1);
      lane2 = rw (moved_lane inv.moved 2, ← inv.lane2);
      lane3 = rw (moved_lane inv.moved 3, ← inv.lane3);
      lane4 = rw (moved_lane inv.moved 4, ← inv.lane4);
      lane5 = rw (moved_lane inv.moved 5, ← inv.lane5);
      lane6 = rw (moved_lane inv.moved 6, ← inv.lane6);
      lane7 = rw (moved_lane inv.moved 7, ← inv.lane7);
    }

pub loop-j-init : goal.loop-j-init
loop-j-init c = sym (times_none _ _)

pub loop-j-preserved : goal.loop-j-preserved
loop-j-preserved c = rw (times_more, ← c.loop-j.invariant)

pub returns : goal.returns
unfolding lanes_summed
returns c =
    let inv = c.loop-u.invariant in
    c.loop-j.invariant
    ∙ moved_done inv.moved _ _ (omega arith) (omega arith)
    (rw (← inv.lane0, ← inv.lane1, ← inv.lane2, ← inv.lane3, ← inv.lane4, ← inv.lane5, ← inv.lane6, ← inv.lane7))

pub loop-u-smaller : goal.loop-u-smaller
loop-u-smaller c = simp (length-take, length-drop) (omega arith)
