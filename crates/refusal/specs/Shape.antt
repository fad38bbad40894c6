-- What the readers of T trust (document 00, demand 3): every entry is finite, and the shape is quasi-triangular. -0
-- counts as zero.
use Rattle.std.specs.Prelude.{ℕ, ◌+◌, ◌<◌, ◌≤◌, true, ◌||◌, ◌≡◌, List, Float}
use Rattle.loops.specs.Place.{place}
use Rattle.loops.specs.Rounded.{◌!◌}
use Rattle.scalar.specs.Class.{is_zero, is_finite}

-- no entry is NaN or infinite
abbrev pub AllFinite : ℕ → List Float → Type 0
AllFinite n t = (i j : ℕ) → i < n → j < n → is_finite (t ! place n i j) ≡ true

-- zero two or more places below the diagonal, and of two neighbouring entries just below it at least one is zero
pub record QuasiTriangular (n : ℕ) (t : List Float) : Type 0 where
  pub far : (i j : ℕ) → i < n → j + 2 ≤ i → is_zero (t ! place n i j) ≡ true
  pub near : (k : ℕ) → k + 2 < n → (is_zero (t ! place n (k + 1) k) || is_zero (t ! place n (k + 2) (k + 1))) ≡ true
