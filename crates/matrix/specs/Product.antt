-- A row times a vector (docs/SUMS.md, 2.9): left to right over the columns, and the first product stands bare.
use Rattle.std.specs.Prelude.{ℕ, ◌+◌, List, length, Float}
use Rattle.loops.specs.Place.{place}
use Rattle.loops.specs.Rounded.{◌⊗◌, ◌!◌}
use Rattle.matrix.specs.Sum.{bare}

-- row i of the columns from c0 on, as many as a is long, times a
unfoldable pub along : (a : List Float) → (n c0 : ℕ) → (t : List Float) → (i : ℕ) → Float
along a n c0 t i = bare (length a) (λ j. (t ! place n i (c0 + j)) ⊗ (a ! j))
