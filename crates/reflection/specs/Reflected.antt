-- What a reflection does to a block of a matrix of order n (docs/SUMS.md, section 4). The axis is a list a; the sign s
-- is 1 where none is named. Sums with a column of run-time length go by `lanes`, with one of two or three by `bare`;
-- sums along a row always go by `bare`.
use Rattle.std.specs.Prelude.{ℕ, ◌+◌, ◌-◌, List, length, Float}
use Rattle.loops.specs.Constants.{minus_two}
use Rattle.loops.specs.Place.{place}
use Rattle.loops.specs.Rounded.{◌⊕◌, ◌⊗◌, ◌!◌}
use Rattle.matrix.specs.Sum.{Order}
use Rattle.matrix.specs.Entries.{Rule, on_entries}
use Rattle.matrix.specs.Product.{along}

-- the axis times column j, from the row `row` on
unfoldable pub down : Order → (a : List Float) → (n row : ℕ) → (t : List Float) → (j : ℕ) → Float
down sum a n row t j = sum (length a) (λ k. (a ! k) ⊗ (t ! place n (row + k) j))

-- Each column by itself: with d the axis times the column, an entry x beside the axis's number a_i becomes (d * (s *
-- -2)) * a_i + s * x.
unfoldable pub mirrored_columns : Order → (a : List Float) → (s : Float) → (n row : ℕ) → (t : List Float) → Rule
mirrored_columns sum a s n row t i j x = down sum a n row t j ⊗ (s ⊗ minus_two) ⊗ (a ! (i - row)) ⊕ s ⊗ x

-- the columns from c0 to below c1, in as many rows from `row` on as the axis is long
unfoldable pub reflected : Order → (a : List Float) → (s : Float) → (n row c0 c1 : ℕ) → (t : List Float) → List Float
reflected sum a s n row c0 c1 t = on_entries n row (row + length a) c0 c1 (mirrored_columns sum a s n row t) t

-- Each row by itself: with w the row times the axis, an entry x beside the axis's number a_j becomes ((s * -2) * a_j) *
-- w + s * x.
unfoldable pub mirrored_rows : (a : List Float) → (s : Float) → (n c0 : ℕ) → (t : List Float) → Rule
mirrored_rows a s n c0 t i j x = s ⊗ minus_two ⊗ (a ! (j - c0)) ⊗ along a n c0 t i ⊕ s ⊗ x

-- the first `rows` rows, in as many columns from c0 on as the axis is long
unfoldable pub reflected_rows : (a : List Float) → (s : Float) → (n rows c0 : ℕ) → (t : List Float) → List Float
reflected_rows a s n rows c0 t = on_entries n 0 rows c0 (c0 + length a) (mirrored_rows a s n c0 t) t
