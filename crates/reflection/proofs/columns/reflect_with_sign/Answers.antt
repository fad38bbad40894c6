-- `reflection::columns::reflect_with_sign` meets its contract. Assumes nothing.
use native.Mathlib.Omega.{arith}
use Rattle.loops.specs.Place.{Column, column}
use Rattle.matrix.proofs.Walks.{down_refused, down_begun, down_more, down_done}
use Rattle.reflection.specs.Reflected.{reflected}
use Rattle.reflection.proofs.ColumnTurn.{part_down, column_turn}
use Rattle.std.specs.Prelude.{not}
use Rattle.std.proofs.Common.{ap}
use Rattle.reflection.proofs.columns.reflect_with_sign.Goals.{In-loop-j}
use Rattle.reflection.proofs.columns.reflect_with_sign.Goals as goal

-- the bounds of the turn's column
turn : (c : In-loop-j) → Column c.args.n c.loop-j.j
turn c = column _ _ (omega arith) (omega arith)

pub loop-j-preserved : goal.loop-j-preserved
loop-j-preserved c =
    let inv = c.loop-j.invariant in
    let here = turn (goal.at.loop-j-preserved c).In-loop-j in
    down_more inv (omega arith)
    (rw (c.axpy.ensures, c.dot.ensures)
    (column_turn _ _ _ _ _ _ _ _ _ _ inv.from inv.done (part_down _ _ _ _ _ _ _ _ inv.fits.in_rows (omega arith) inv.done)))

pub returns-then-not-block_fits : goal.returns-then-not-block_fits
unfolding reflected
returns-then-not-block_fits c = down_refused _ _ _ _ _ _ _ c.block_fits.ensures (ap not c.if-not-block_fits.true)

pub loop-j-init : goal.loop-j-init
unfolding reflected
loop-j-init c = down_begun _ _ _ _ _ _ _ c.block_fits.ensures (ap not c.if-not-block_fits.false)

pub overflow_mul-o : goal.overflow_mul-o
unfolding reflected
overflow_mul-o c = omega (arith, turn c)

pub overflow_add-o : goal.overflow_add-o
unfolding reflected
overflow_add-o c = omega (arith, turn c)

pub overflow_add-e : goal.overflow_add-e
unfolding reflected
overflow_add-e c = omega (arith, turn c)

pub offset_bounds-t-o : goal.offset_bounds-t-o
unfolding reflected
offset_bounds-t-o c = omega (arith, turn c)

pub slice_bounds-dot-count : goal.slice_bounds-dot-count
unfolding reflected
slice_bounds-dot-count c = omega (arith, turn c)

pub slice_bounds-dot-start : goal.slice_bounds-dot-start
unfolding reflected
slice_bounds-dot-start c = omega (arith, turn (goal.at.slice_bounds-dot-start c).In-loop-j)

pub slice_bounds-dot-end : goal.slice_bounds-dot-end
unfolding reflected
slice_bounds-dot-end c = omega (arith, turn (goal.at.slice_bounds-dot-end c).In-loop-j)

pub dot-requires : goal.dot-requires
unfolding reflected
dot-requires c = omega (arith, turn (goal.at.dot-requires c).In-loop-j)

pub axpy-requires : goal.axpy-requires
unfolding reflected
axpy-requires c = omega (arith, turn (goal.at.axpy-requires c).In-loop-j)

pub returns : goal.returns
unfolding reflected
returns c = down_done c.loop-j.invariant (omega arith)
