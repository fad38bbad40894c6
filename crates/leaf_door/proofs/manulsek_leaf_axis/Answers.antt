-- `leaf_door::manulsek_leaf_axis` meets its contract. Assumes nothing.
use mathlib.Core.Path.{ap}
use Rattle.householder.specs.Axis.{AxisAnswer}
use Rattle.leaf_door.proofs.manulsek_leaf_axis.Goals as goal

pub returns : goal.returns
returns c =
    let e = c.reflection_axis_mut-axis.ensures in
    record { value = ap (λ (r : AxisAnswer). r.norm) e; c_after = ap (λ (r : AxisAnswer). r.axis) e }
