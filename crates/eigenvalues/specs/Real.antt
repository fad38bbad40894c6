-- What the real reader promises (document 00, demand 3): given a T that may be read, its diagonal if every entry just
-- below the diagonal is zero, and else 'complex', 10. -0 counts as zero.
use Rattle.std.specs.Prelude.{ℕ, ◌+◌, ◌*◌, ◌<◌, ◌≤◌, true, false, ◌≡◌, List, length, Float}
use Rattle.loops.specs.Place.{place}
use Rattle.loops.specs.Rounded.{◌!◌}
use Rattle.scalar.specs.Class.{is_zero}
use Rattle.refusal.specs.Refusal.{Checked, without_place, checked_told}
use Rattle.refusal.specs.Shape.{AllFinite, QuasiTriangular}
use Rattle.eigenvalues.specs.Readers.{diagonal}

-- a T that may be read, and room for one number for each row
pub record Given (n : ℕ) (t values : List Float) : Type 0 where
  pub some : 1 ≤ n
  pub order : n ≤ 64
  pub square : length t ≡ n * n
  pub room : length values ≡ n
  pub finite : AllFinite n t
  pub shape : QuasiTriangular n t

-- every entry just below the diagonal is zero
abbrev pub AllZeroBelow : ℕ → List Float → Type 0
AllZeroBelow n t = (k : ℕ) → k + 1 < n → is_zero (t ! place n (k + 1) k) ≡ true

-- one of them is not, that of column k
pub record OneNotZero (n : ℕ) (t : List Float) : Type 0 where
  pub k : ℕ
  pub inside : k + 1 < n
  pub nonzero : is_zero (t ! place n (k + 1) k) ≡ false

-- of what is answered, r, and of the list before and after: the two answers by their numbers, and that each is given
-- then only
pub record RealAnswer (n : ℕ) (t values : List Float) (r : Checked) (after : List Float) : Type 0 where
  pub real : Given n t values → AllZeroBelow n t → ((checked_told r).number ≡ 0) × (after ≡ diagonal n t)
  pub complex : Given n t values → OneNotZero n t → (checked_told r ≡ without_place 10) × (after ≡ values)
  pub only_real : (checked_told r).number ≡ 0 → Given n t values × AllZeroBelow n t
  pub only_complex : (checked_told r).number ≡ 10 → Given n t values × OneNotZero n t
