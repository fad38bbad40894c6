-- `reflection::rows::reflect_rows_with_sign` meets its contract. Assumes nothing.
use mathlib.Core.Path.{sym, ◌∙◌}
use Prim.Native.Nat.{◌+◌}
use native.Mathlib.Nat.{add-zero}
use native.Mathlib.Omega.{arith}
use lib.ListN.{length}
use Rattle.matrix.specs.Entries.{on_entries}
use Rattle.matrix.proofs.Fitting.{Fits, within, inside, outside, from_row_0}
use Rattle.matrix.proofs.Blocks.{in_block_no_columns}
use Rattle.reflection.specs.Reflected.{reflected_rows}
use Rattle.reflection.proofs.RowTurn.{rows_more}
use Rattle.std.specs.Prelude.{not}
use Rattle.std.proofs.Common.{ap}
use Rattle.reflection.proofs.rows.reflect_rows_with_sign.Goals.{Else-not-block_fits}
use Rattle.reflection.proofs.rows.reflect_rows_with_sign.Goals as goal

fitted : (c : Else-not-block_fits) → let x = c.args in Fits x.n (length x.t.now) x.rows (x.c0 + length x.a.now)
fitted c = within _ _ _ _ (from_row_0 _ _ _ _ c.block_fits.ensures) (ap not c.if-not-block_fits.false)

pub returns-then-not-block_fits : goal.returns-then-not-block_fits
unfolding reflected_rows on_entries
returns-then-not-block_fits c = rw (outside (from_row_0 _ _ _ _ c.block_fits.ensures) (ap not c.if-not-block_fits.true))

pub returns-then-a-eq0 : goal.returns-then-a-eq0
unfolding reflected_rows on_entries
returns-then-a-eq0 c = rw (inside (from_row_0 _ _ _ _ c.block_fits.ensures) (ap not c.if-not-block_fits.false), c.if-a-eq0.true, add-zero)
    (sym (in_block_no_columns _ _ _ _ _ _))

-- the eights, then the rows that are left
pub returns : goal.returns
unfolding reflected_rows on_entries
returns c =
    let x = c.args in
    let f = fitted (goal.at.returns c).Else-not-block_fits in
    rw (inside (from_row_0 _ _ _ _ c.block_fits.ensures) (ap not c.if-not-block_fits.false))
    (c.rows_left.ensures ∙ rows_more x.a.now x.sign _ _ _ _ _ x.t.now _ f.size (omega arith) (omega arith) f.in_rows
    f.in_cols c.rows_by_eight.ensures)

pub rows_by_eight-requires : goal.rows_by_eight-requires
rows_by_eight-requires c = let f = fitted (goal.at.rows_by_eight-requires c).Else-not-block_fits in omega arith

pub overflow_mul-eights : goal.overflow_mul-eights
overflow_mul-eights c = let f = fitted (goal.at.overflow_mul-eights c).Else-not-block_fits in omega arith

pub rows_left-requires : goal.rows_left-requires
rows_left-requires c = let f = fitted (goal.at.rows_left-requires c).Else-not-block_fits in
    omega arith
