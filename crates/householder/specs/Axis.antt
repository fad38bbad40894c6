-- The axis of the reflection that takes a column c to a multiple of the first unit vector (document 01, step 4;
-- docs/SUMS.md, 3.1 to 3.3). `sum` is the order of the column's sums: `lanes` where its length is known at run time,
-- `bare` for a column of two or three.
use Rattle.std.specs.Prelude.{Bool, true, false, cond, ◌&&◌, List, eqb, length, set, Float}
use Rattle.std.specs.Float.Ieee.{neg}
use Rattle.loops.specs.Constants.{zero, two}
use Rattle.loops.specs.Rounded.{◌⊕◌, ◌⊗◌, ◌!◌}
use Rattle.loops.specs.Times.{times}
use Rattle.scalar.specs.Root.{root_of}
use Rattle.scalar.specs.Sign.{to_exp_of}
use Rattle.scalar.specs.Class.{is_zero}
use Rattle.matrix.specs.Sum.{Order}
use Rattle.matrix.specs.Vectors.{norm_squared, norm_of, unscaled, normalized}

-- what the routine leaves: the column rewritten, what would be its first number after the reflection, and whether there
-- is a reflection
pub record AxisAnswer : Type 0 where
  pub axis : List Float
  pub norm : Float
  pub reflected : Bool

abbrev pub axis_answer : List Float → Float → Bool → AxisAnswer
axis_answer c x b = record { axis = c; norm = x; reflected = b }

-- the norm with the sign of the column's first number
unfoldable pub signed_norm : Order → List Float → Float
signed_norm sum c = (to_exp_of (c ! 0)).sign ⊗ norm_of sum c

-- the square of the norm that the column has once the signed norm is added to its first number, worked out from what is
-- at hand
unfoldable pub factor_of : Order → List Float → Float
factor_of sum c = (norm_squared sum c ⊕ (to_exp_of (c ! 0)).magnitude ⊗ norm_of sum c) ⊗ two

-- the signed norm added to the first number
unfoldable pub shifted : Order → List Float → List Float
shifted sum c = set c 0 ((c ! 0) ⊕ signed_norm sum c)

-- Three ways: the column is reflected; it is zero throughout; or some number in it is not zero, and yet all squares
-- vanish. The Rust answers the last two alike.
pub data Way : Type 0 where
  way_reflected : Way
  way_all_zero : Way
  way_too_small : Way

unfoldable pub all_zero : List Float → Bool
all_zero c = times (λ i b. b && is_zero (c ! i)) (length c) true

unfoldable pub way_of : Order → List Float → Way
way_of sum c = cond (is_zero (factor_of sum c)) (cond (all_zero c) way_all_zero way_too_small) way_reflected

-- Reflected: divided by the root of the factor, and then by the norm that is left; the norm's sign is turned. Else the
-- shifted column and the signed norm as they are.
unfoldable pub in_way : Order → List Float → Way → AxisAnswer
in_way sum c way_reflected =
    axis_answer (normalized sum (unscaled (root_of (factor_of sum c)) (shifted sum c))) (neg (signed_norm sum c)) true
in_way sum c way_all_zero = axis_answer (shifted sum c) (signed_norm sum c) false
in_way sum c way_too_small = axis_answer (shifted sum c) (signed_norm sum c) false

-- a column without a number has no axis
unfoldable pub axis_of : Order → List Float → AxisAnswer
axis_of sum c = cond (eqb (length c) 0) (axis_answer c zero false) (in_way sum c (way_of sum c))
