-- `givens::Rotation::rotate` meets its contract. Assumes nothing.
use native.Mathlib.Omega.{arith}
use Rattle.matrix.proofs.Walks.{down_refused, down_begun, down_more, down_done}
use Rattle.givens.specs.Rotated.{rotated}
use Rattle.givens.proofs.RotatedTurns.{turn_down}
use Rattle.std.specs.Prelude.{not}
use Rattle.std.proofs.Common.{ap}
use Rattle.givens.proofs.Rotation.rotate.Goals as goal

pub loop-j-preserved : goal.loop-j-preserved
loop-j-preserved c =
    let inv = c.loop-j.invariant in
    down_more inv (omega arith) (rw (c.at-p.ensures.0, c.at-q.ensures.0)
    (turn_down _ _ _ _ _ _ _ inv.fits.in_rows inv.from inv.done))

pub returns-then-not-block_fits : goal.returns-then-not-block_fits
unfolding rotated
returns-then-not-block_fits c = down_refused _ _ _ _ _ _ _ c.block_fits.ensures (ap not c.if-not-block_fits.true)

pub loop-j-init : goal.loop-j-init
unfolding rotated
loop-j-init c = down_begun _ _ _ _ _ _ _ c.block_fits.ensures (ap not c.if-not-block_fits.false)

pub returns : goal.returns
unfolding rotated
returns c = down_done c.loop-j.invariant (omega arith)
