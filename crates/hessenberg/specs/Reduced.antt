-- The reduction to Hessenberg form, column by column, with reflections of both sides (document 01, step 2;
-- docs/SUMS.md, 6.1). The workspace has 2n numbers. Its first half is lent to the clearing of each column; its second
-- half keeps the norm that each column answers.
use Rattle.std.specs.Prelude.{ℕ, ◌+◌, ◌*◌, ◌-◌, Bool, cond, ◌&&◌, List, eqb, length, set, Float}
use Rattle.loops.specs.Part.{part, on_part}
use Rattle.loops.specs.Times.{times}
use Rattle.matrix.specs.Fits.{block_fits}
use Rattle.householder.specs.Cleared.{clear_of}

-- what the reduction works on: the matrix and the workspace
pub record Reduction : Type 0 where
  pub matrix : List Float
  pub work : List Float

abbrev pub reduction : List Float → List Float → Reduction
reduction t w = record { matrix = t; work = w }

-- column k is cleared, and its norm is kept at n + k
unfoldable pub reduce_column : (n k : ℕ) → Reduction → Reduction
reduce_column n k r =
    let c = clear_of n k r.matrix (part 0 n r.work) in
    reduction c.matrix (set (on_part (λ w. (clear_of n k r.matrix w).work) 0 n r.work) (n + k) c.norm)

-- whether the workspace has room for a matrix of order n
abbrev pub work_fits : ℕ → List Float → Bool
work_fits n w = eqb (length w) (2 * n)

-- every column but the last; nothing is done where t is no matrix of order n, or the workspace has another length
unfoldable pub reduced : ℕ → List Float → List Float → Reduction
reduced n t w =
    cond (block_fits n (length t) n n && work_fits n w) (times (reduce_column n) (n - 1) (reduction t w)) (reduction t w)
