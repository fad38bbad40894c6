-- The first entry of a matrix at fault, column by column: one that is not finite (6 and 8), one that spoils the shape
-- (9).
use Rattle.std.specs.Prelude.{None, Option, Some}
use Rattle.refusal.specs.declared.refusal.Place.{Place}
use Rattle.std.specs.Prelude.{ℕ, ◌+◌, ◌-◌, Bool, cond, not, ◌&&◌, ◌||◌, List, leb, ltb, eqb, length, Float}
use Rattle.loops.specs.First.{first}
use Rattle.loops.specs.Place.{place}
use Rattle.loops.specs.Rounded.{◌!◌}
use Rattle.scalar.specs.Class.{is_zero, is_finite}
use Rattle.matrix.specs.Fits.{block_fits}
use Rattle.refusal.specs.Refusal.{at}

-- ---- a search of a matrix of order n for a place that a test names, told its row and column

-- the first row of column j, or n
unfoldable pub first_row : (ℕ → ℕ → Bool) → (n j : ℕ) → ℕ
first_row test n j = first (λ i. test i j) n

-- the first column with such a row, or n
unfoldable pub first_col : (ℕ → ℕ → Bool) → ℕ → ℕ
first_col test n = first (λ j. ltb (first_row test n j) n) n

unfoldable pub first_place : (ℕ → ℕ → Bool) → ℕ → Option Place
first_place test n = let j = first_col test n in cond (ltb j n) (Some (at (first_row test n j) j)) None

-- the same along the diagonal
unfoldable pub first_on_diagonal : (ℕ → Bool) → ℕ → Option Place
first_on_diagonal test n = let k = first test n in cond (ltb k n) (Some (at k k)) None

-- ---- what is looked for; in a list of another length nothing is found

-- NaN or infinite
unfoldable pub not_finite : (n : ℕ) → (t : List Float) → (i j : ℕ) → Bool
not_finite n t i j = not (is_finite (t ! place n i j))

-- An entry spoils the shape if it is nonzero and two or more rows below the diagonal, or if it stands just below the
-- diagonal, is nonzero, and so is the one just below the diagonal in the column before.
unfoldable pub spoils : (n : ℕ) → (t : List Float) → (i j : ℕ) → Bool
spoils n t i j =
    not (is_zero (t ! place n i j)) && (leb (j + 2) i
    || (eqb i (j + 1) && (leb 1 j && not (is_zero (t ! place n j (j - 1))))))

unfoldable pub first_not_finite : ℕ → List Float → Option Place
first_not_finite n t = cond (block_fits n (length t) n n) (first_place (not_finite n t) n) None

unfoldable pub first_spoiling : ℕ → List Float → Option Place
first_spoiling n t = cond (block_fits n (length t) n n) (first_place (spoils n t) n) None
