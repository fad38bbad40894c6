-- `givens::Rotation::rotate_rows` meets its contract. Assumes nothing.
use native.Mathlib.Omega.{arith}
use Rattle.matrix.proofs.Walks.{across_refused, across_begun, across_more, across_done}
use Rattle.givens.specs.Rotated.{rotated_rows}
use Rattle.givens.proofs.RotatedTurns.{turn_across}
use Rattle.std.specs.Prelude.{not}
use Rattle.std.proofs.Common.{ap}
use Rattle.givens.proofs.Rotation.rotate_rows.Goals as goal

pub loop-i-preserved : goal.loop-i-preserved
loop-i-preserved c =
    let inv = c.loop-i.invariant in
    across_more inv (omega arith) (rw c.at-p.ensures.0
    (turn_across _ _ _ _ _ _ inv.fits.size (omega arith) inv.fits.in_cols inv.done))

pub returns-then-not-block_fits : goal.returns-then-not-block_fits
unfolding rotated_rows
returns-then-not-block_fits c = across_refused _ _ _ _ _ _ c.block_fits.ensures (ap not c.if-not-block_fits.true)

pub loop-i-init : goal.loop-i-init
unfolding rotated_rows
loop-i-init c = across_begun _ _ _ _ _ _ c.block_fits.ensures (ap not c.if-not-block_fits.false)

pub returns : goal.returns
unfolding rotated_rows
returns c = across_done c.loop-i.invariant (omega arith)
