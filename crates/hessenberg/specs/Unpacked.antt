-- H and Q out of the reduced matrix and the norms that stand in the workspace's second half (docs/SUMS.md, 6.2 and
-- 6.3).
use Rattle.std.specs.Prelude.{ℕ, ◌+◌, ◌*◌, ◌-◌, cond, List, eqb, leb, Float}
use Rattle.loops.specs.Constants.{zero}
use Rattle.loops.specs.Part.{part}
use Rattle.loops.specs.Rounded.{◌!◌}
use Rattle.scalar.specs.Sign.{modulus_of}
use Rattle.matrix.specs.Entries.{Rule, on_entries}
use Rattle.householder.specs.Assembled.{assembled}
use Rattle.hessenberg.specs.Reduced.{work_fits}

-- An entry of H: +0 from the second subdiagonal down, the magnitude of its column's norm just below the diagonal, and
-- else what stands there.
unfoldable pub of_h : ℕ → List Float → Rule
of_h n w i j x = cond (leb (j + 2) i) zero (cond (eqb i (j + 1)) (modulus_of (w ! (n + j))) x)

-- the last column has no entry below the diagonal
unfoldable pub unpacked_h : ℕ → List Float → List Float → List Float
unpacked_h n w t = cond (work_fits n w) (on_entries n 0 n 0 (n - 1) (of_h n w) t) t

-- Q, from the axes below the diagonal of the reduced matrix and the signs of the norms
unfoldable pub unpacked_q : ℕ → List Float → List Float → List Float → List Float
unpacked_q n t w q = cond (work_fits n w) (assembled n t (part n (2 * n) w) q) q
