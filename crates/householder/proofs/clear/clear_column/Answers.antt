-- `householder::clear::clear_column` meets its contract. Assumes nothing.
use mathlib.Core.Path.{◌≡◌, ◌∙◌}
use Prim.Native.Nat.{◌+◌}
use native.Mathlib.Omega.{arith}
use borrow.Author.Tests.{not-true, not-false}
use Rattle.loops.specs.Place.{place, Column, column}
use Rattle.loops.specs.Part.{on_part, part_length, on_part-part}
use Rattle.matrix.proofs.Fitting.{within}
use Rattle.householder.specs.Cleared.{below_row, cleared_here, clear_of}
use Rattle.std.specs.Prelude.{not}
use Rattle.std.proofs.Common.{ap}
use Rattle.std.proofs.lemmas.Grind.{common_steps}
use Rattle.householder.proofs.clear.clear_column.Goals.{After-reflection_axis_mut-axis, Else-n-work}
use Rattle.householder.proofs.clear.clear_column.Goals as goal

-- after the tests
passed : (c : Else-n-work) → let x = c.args in
    clear_of x.n x.icol x.t.now x.work.now ≡ cleared_here x.n x.icol x.t.now x.work.now
unfolding clear_of
passed c = grind (arith, common_steps)

pub returns-then-not-axis : goal.returns-then-not-axis
unfolding cleared_here on_part
returns-then-not-axis c =
    rw (
      passed (goal.at.returns-then-not-axis c).Else-n-work,
      ← c.reflection_axis_mut-axis.ensures,
      not-true c.reflection_axis_mut-axis.result.reflected c.if-not-axis.true,
    )

-- what stands in the column after the axis routine is the axis
rewritten : (c : After-reflection_axis_mut-axis) → let x = c.args in let ys = c.reflection_axis_mut-axis.new.column in
    below_row x.n x.icol (on_part (λ _. ys) (place x.n (x.icol + 1) x.icol) (place x.n x.n x.icol) x.t.now) ≡ ys
rewritten c =
    let x = c.args in
    let f = within _ _ _ _ c.block_fits.ensures (ap not c.if-not-block_fits.false) in
    let b : Column x.n x.icol = column _ _ (omega arith) (omega arith) in
    let a = place x.n (x.icol + 1) x.icol in
    let e = place x.n x.n x.icol in
    on_part-part (λ _. c.reflection_axis_mut-axis.new.column) a e x.t.now (omega arith) (omega arith) (c.reflection_axis_mut-axis.auto.column
    ∙ part_length a e x.t.now (omega arith) (omega arith))

pub returns : goal.returns
unfolding cleared_here on_part
returns c =
    rw (
      c.reflect_both_sides.ensures.0,
      c.reflect_both_sides.ensures.1,
      c.signum.ensures,
      passed (goal.at.returns c).Else-n-work,
      ← c.reflection_axis_mut-axis.ensures,
      not-false c.reflection_axis_mut-axis.result.reflected c.if-not-axis.false,
      rewritten (goal.at.returns c).After-reflection_axis_mut-axis,
    )
