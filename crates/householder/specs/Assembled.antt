-- Q from the axes that the reduction left below the diagonal of m, and from the signs of their norms (docs/SUMS.md,
-- 3.5).
use Rattle.std.specs.Prelude.{ℕ, ◌+◌, ◌-◌, cond, ◌&&◌, List, eqb, leb, length, Float}
use Rattle.loops.specs.Constants.{zero, one}
use Rattle.loops.specs.Down.{down}
use Rattle.loops.specs.Rounded.{◌!◌}
use Rattle.scalar.specs.Sign.{signum_of}
use Rattle.matrix.specs.Sum.{lanes}
use Rattle.matrix.specs.Fits.{block_fits}
use Rattle.matrix.specs.Entries.{on_entries}
use Rattle.reflection.specs.Reflected.{reflected}
use Rattle.householder.specs.Cleared.{below_row}

-- 1 on the diagonal, +0 elsewhere
unfoldable pub identity : ℕ → List Float → List Float
identity n q = on_entries n 0 n 0 n (λ i j _. cond (eqb i j) one zero) q

-- The axis of column i, used whether or not a reflection was made there, reflects the columns from i on in the rows
-- below row i.
unfoldable pub with_axis : (n : ℕ) → (m signs : List Float) → (i : ℕ) → (q : List Float) → List Float
with_axis n m signs i q = reflected lanes (below_row n i m) (signum_of (signs ! i)) n (i + 1) i n q

-- From the last column but one up to the first. Nothing is done where m or q is no matrix of order n, or a sign is
-- missing.
unfoldable pub assembled : ℕ → List Float → List Float → List Float → List Float
assembled n m signs q =
    cond (block_fits n (length m) n n && (block_fits n (length q) n n && leb (n - 1) (length signs)))
    (down (with_axis n m signs) (n - 1) (identity n q)) q
