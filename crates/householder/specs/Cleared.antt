-- Column k of a matrix of order n cleared by a reflection of both sides (document 01, steps 2 and 4; docs/SUMS.md,
-- 3.4).
use Rattle.std.specs.Prelude.{ℕ, ◌+◌, cond, ◌&&◌, List, leb, length, Float}
use Rattle.std.specs.Float.{nan}
use Rattle.loops.specs.Place.{place}
use Rattle.loops.specs.Part.{part, on_part}
use Rattle.scalar.specs.Sign.{signum_of}
use Rattle.matrix.specs.Sum.{lanes}
use Rattle.matrix.specs.Vectors.{copied}
use Rattle.matrix.specs.Fits.{block_fits}
use Rattle.reflection.specs.Reflected.{reflected, reflected_rows}
use Rattle.householder.specs.Axis.{axis_of}

-- the column below row k: that part alone is lent to the axis routine, and rewritten
abbrev pub below_row : (n k : ℕ) → (t : List Float) → List Float
below_row n k t = part (place n (k + 1) k) (place n n k) t

-- what clearing a column answers and leaves: the norm with its sign, the matrix, and the workspace
pub record Cleared : Type 0 where
  pub norm : Float
  pub matrix : List Float
  pub work : List Float

abbrev pub cleared : Float → List Float → List Float → Cleared
cleared x t w = record { norm = x; matrix = t; work = w }

-- both sides by the axis a with the sign s: all rows first, then the columns right of column k, from row k + 1 on
unfoldable pub both_sides : (n k : ℕ) → (a : List Float) → (s : Float) → (t : List Float) → List Float
both_sides n k a s t = reflected lanes a s n (k + 1) (k + 1) n (reflected_rows a s n n (k + 1) t)

-- The axis is made in its column. Where there is a reflection it is copied into the workspace and used there.
unfoldable pub cleared_here : (n k : ℕ) → (t w : List Float) → Cleared
cleared_here n k t w =
    let r = axis_of lanes (below_row n k t) in
    let t' = on_part (λ c. (axis_of lanes c).axis) (place n (k + 1) k) (place n n k) t in
    cleared r.norm (cond r.reflected (both_sides n k r.axis (signum_of r.norm) t') t')
    (cond r.reflected (copied r.axis w) w)

-- nothing is done, and the answer is NaN, where there is no row below row k, or the workspace is shorter than n
unfoldable pub clear_of : (n k : ℕ) → (t w : List Float) → Cleared
clear_of n k t w =
    cond (block_fits n (length t) (k + 2) (k + 2) && leb n (length w)) (cleared_here n k t w) (cleared nan t w)
