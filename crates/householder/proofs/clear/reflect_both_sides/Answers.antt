-- `householder::clear::reflect_both_sides` meets its contract. Assumes nothing.
use mathlib.Core.Path.{◌≡◌}
use Prim.Native.Nat.{◌+◌, ◌-◌}
use native.Mathlib.Omega.{arith}
use Rattle.loops.specs.Place.{place, Column, column}
use Rattle.loops.specs.Part.{part, part_length}
use Rattle.householder.specs.Cleared.{below_row, both_sides}
use Rattle.matrix.specs.Vectors.{copied}
use Rattle.matrix.proofs.Copied.{copied_to}
use Rattle.householder.proofs.clear.reflect_both_sides.Goals.{Start}
use Rattle.householder.proofs.clear.reflect_both_sides.Goals as goal

bounds : (c : Start) → Column c.args.n c.args.k
bounds c = column _ _ (omega arith) (omega arith)

-- the axis in the workspace is the axis
front : (c : Start) → let x = c.args in
    part 0 (place x.n x.n x.k - place x.n (x.k + 1) x.k) (copied (below_row x.n x.k x.t.now) x.work.now)
    ≡ below_row x.n x.k x.t.now
front c =
    let b = bounds c in
    copied_to _ _ _ (part_length (place c.args.n (c.args.k + 1) c.args.k) (place c.args.n c.args.n c.args.k) c.args.t.now
    (omega arith) (omega arith)) (omega arith)

pub returns : goal.returns
unfolding both_sides
returns c = (
  rw (
    c.reflect_with_sign.ensures,
    c.reflect_rows_with_sign.ensures,
    c.copy_from.ensures,
    front (goal.at.returns c).Start,
  ),
  c.copy_from.ensures,
)
