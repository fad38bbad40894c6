-- `pass::shift::double_shift` meets its contract. Assumes nothing.
use Prim.Native.Nat.{◌+◌, ◌*◌, ◌≤◌}
use mathlib.Core.Path.{◌≡◌}
use mathlib.Core.Bool.{true}
use native.Mathlib.Omega.{arith}
use borrow.Author.Tests.{le-leb, lt-leb}
use lib.ListN.{length}
use Rattle.loops.specs.Place.{product_64}
use Rattle.matrix.specs.Fits.{block_fits}
use Rattle.matrix.proofs.Fitting.{Fits, within, outside, fitting, from_row_0, from_column_0}
use Rattle.pass.specs.Pass.{pass_of}
use Rattle.pass.proofs.Fitted.{no_matrix, too_large, behind, present}
use Rattle.std.specs.Prelude.{not}
use Rattle.std.proofs.Common.{ap}
use Rattle.pass.proofs.shift.double_shift.Goals.{After-block_fits, Else-end-gt64, Else-end-n, Else-not-block_fits}
use Rattle.pass.proofs.shift.double_shift.Goals as goal

whole : (c : After-block_fits)
    → let x = c.args in c.block_fits.result ≡ block_fits x.asked.order (length x.t.now) x.asked.order x.asked.order
whole c = from_row_0 _ _ _ _ (from_column_0 _ _ _ _ c.block_fits.ensures)

matrix : (c : Else-not-block_fits) → let x = c.args in Fits x.asked.order (length x.t.now) x.asked.order x.asked.order
matrix c = within _ _ _ _ (from_row_0 _ _ _ _ (from_column_0 _ _ _ _ c.block_fits.ensures)) (ap not c.if-not-block_fits.false)

fitted : (c : Else-end-n)
    → let x = c.args in Fits x.asked.order (length x.t.now) (x.w.end + 1) (x.w.end + 1)
fitted c =
    present _ _ _ (within _ _ _ _ (from_row_0 _ _ _ _ (from_column_0 _ _ _ _ c.block_fits.ensures)) (ap not c.if-not-block_fits.false)) (omega arith)

there : (c : Else-end-n)
    → let x = c.args in block_fits x.asked.order (length x.t.now) (x.w.end + 1) (x.w.end + 1) ≡ true
there c = let f = fitted c in fitting _ _ _ _ f.order f.size f.in_rows f.in_cols

pub returns-then-not-block_fits : goal.returns-then-not-block_fits
unfolding pass_of
returns-then-not-block_fits c =
    rw (no_matrix _ _ c.args.w.end (outside (whole (goal.at.returns-then-not-block_fits c).After-block_fits) (ap not c.if-not-block_fits.true)))

pub returns-then-end-gt64 : goal.returns-then-end-gt64
unfolding pass_of
returns-then-end-gt64 c =
    let x = c.args in rw (too_large x.asked.order (length x.t.now) x.w.end (omega arith))

pub returns-then-end-n : goal.returns-then-end-n
unfolding pass_of
returns-then-end-n c =
    let x = c.args in rw (behind x.asked.order (length x.t.now) x.w.end (omega arith))

pub returns-then-end-lt2 : goal.returns-then-end-lt2
unfolding pass_of
returns-then-end-lt2 c =
    let w = c.args.w in rw (there (goal.at.returns-then-end-lt2 c).Else-end-n, lt-leb (w.start + 2) w.end (omega arith))

pub returns-then-start-end : goal.returns-then-start-end
unfolding pass_of
returns-then-start-end c =
    let w = c.args.w in rw (there (goal.at.returns-then-start-end c).Else-end-n, lt-leb (w.start + 2) w.end (omega arith))

pub returns : goal.returns
unfolding pass_of
returns c =
    let w = c.args.w in
    rw (there (goal.at.returns c).Else-end-n, le-leb (w.start + 2) w.end (omega arith)) c.shift_here.ensures

-- the place of the last entry, where both numbers are at most 64
room : (c : Else-end-gt64) → let x = c.args in x.w.end * x.asked.order ≤ 4096
room c =
    let f = within _ _ _ _ (from_row_0 _ _ _ _ (from_column_0 _ _ _ _ c.block_fits.ensures)) (ap not c.if-not-block_fits.false) in product_64 _ _ (omega arith) f.order

pub overflow_mul-end : goal.overflow_mul-end
overflow_mul-end c = omega (arith, room c)

pub overflow_add-end : goal.overflow_add-end
overflow_add-end c = omega (arith, room c)

pub shift_here-requires : goal.shift_here-requires
shift_here-requires c = omega (arith, fitted (goal.at.shift_here-requires c).Else-end-n)
