-- `reflection::vector::reflect_by_vector_with_sign` meets its contract. Assumes nothing.
use mathlib.Core.Path.{◌≡◌}
use native.Mathlib.Omega.{arith}
use lib.ListN.{length}
use Rattle.matrix.proofs.Walks.{down_refused, down_begun, down_more, down_done}
use Rattle.reflection.specs.Reflected.{reflected}
use Rattle.reflection.proofs.ColumnTurn.{read_down, column_turn}
use Rattle.std.specs.Prelude.{not}
use Rattle.std.proofs.Common.{ap, rules}
use Rattle.reflection.proofs.vector.reflect_by_vector_with_sign.Goals as goal

pub loop-j-preserved : goal.loop-j-preserved
loop-j-preserved g c =
    let inv = c.loop-j.invariant in
    let e : g.row.N ≡ length c.args.a.now.0 = search rules in
    down_more inv (omega arith)
    (rw (c.axpy.ensures, c.dot.ensures, c.down.ensures, c.first_of-o.ensures.is, e)
    (column_turn _ _ _ _ _ _ _ _ _ _ inv.from inv.done (read_down _ _ _ _ _ _ _ _ inv.fits.in_rows inv.done)))

pub returns-then-not-block_fits : goal.returns-then-not-block_fits
unfolding reflected
returns-then-not-block_fits g c =
    down_refused _ _ _ _ _ _ _ c.block_fits.ensures (ap not c.if-not-block_fits.true)

pub loop-j-init : goal.loop-j-init
loop-j-init g c =
    down_begun _ _ _ _ _ _ _ c.block_fits.ensures (ap not c.if-not-block_fits.false)

pub first_of-o-requires : goal.first_of-o-requires
first_of-o-requires g c =
    let f = c.loop-j.invariant.fits in
    let e : g.row.N ≡ length c.args.a.now.0 = search rules in
    omega arith

pub returns : goal.returns
unfolding reflected
returns g c = down_done c.loop-j.invariant (omega arith)
