-- `reflection::vector::reflect_rows_by_vector_with_sign` meets its contract. Assumes nothing.
use mathlib.Core.Path.{◌≡◌}
use native.Mathlib.Omega.{arith}
use lib.ListN.{length}
use Rattle.matrix.proofs.Walks.{across_refused, across_begun, across_more, across_done}
use Rattle.reflection.specs.Reflected.{reflected_rows}
use Rattle.reflection.proofs.RowTurn.{rows_more}
use Rattle.std.specs.Prelude.{not}
use Rattle.std.proofs.Common.{ap, rules}
use Rattle.reflection.proofs.vector.reflect_rows_by_vector_with_sign.Goals as goal

pub returns-then-not-block_fits : goal.returns-then-not-block_fits
unfolding reflected_rows
returns-then-not-block_fits g c =
    across_refused _ _ _ _ _ _ c.block_fits.ensures (ap not c.if-not-block_fits.true)

pub loop-i-init : goal.loop-i-init
loop-i-init g c =
    across_begun _ _ _ _ _ _ c.block_fits.ensures (ap not c.if-not-block_fits.false)

pub reflect_row-requires : goal.reflect_row-requires
reflect_row-requires g c =
    let f = c.loop-i.invariant.fits in
    let e : g.row.N ≡ length c.args.a.now.0 = search rules in
    omega arith

pub loop-i-preserved : goal.loop-i-preserved
loop-i-preserved g c =
    let inv = c.loop-i.invariant in
    let e : g.row.N ≡ length c.args.a.now.0 = search rules in
    across_more inv (omega arith)
    (rw (c.reflect_row.ensures, e)
    (rows_more _ _ _ _ _ _ _ _ _ inv.fits.size (omega arith) (omega arith) (omega arith) inv.fits.in_cols inv.done))

pub returns : goal.returns
unfolding reflected_rows
returns g c = across_done c.loop-i.invariant (omega arith)
