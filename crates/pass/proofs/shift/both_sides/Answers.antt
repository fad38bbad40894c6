-- `pass::shift::both_sides` meets its contract. Assumes nothing.
use mathlib.Core.Path.{ap, ◌∙◌}
use Prim.Native.Nat.{◌+◌}
use native.Mathlib.Omega.{arith}
use lib.ListN.{length}
use Rattle.loops.specs.Constants.{one}
use Rattle.matrix.specs.Sum.{bare}
use Rattle.reflection.specs.Reflected.{reflected, reflected_rows}
use Rattle.reflection.proofs.Portions.{near_first}
use Rattle.pass.proofs.shift.both_sides.Goals as goal

-- the columns right of the axis's own come last
pub returns : goal.returns
returns g c =
    let x = c.args in
    let a = x.a.now.0 in
    c.reflect_by_vector-2.ensures
    ∙ ap (reflected bare a one x.n x.k (x.k + length a) x.n) (c.reflect_rows_by_vector.ensures
    ∙ ap (reflected_rows a one x.n x.rows x.k) c.reflect_by_vector.ensures)
    ∙ near_first a one x.n x.k (omega arith) (omega arith) x.rows x.t.now (omega arith) (omega arith)
