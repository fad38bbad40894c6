-- What the contracts of private functions name. Nothing here need be believed: the public contracts cite `Pass` and
-- `Block` alone.
use Rattle.std.specs.Prelude.{ℕ, ◌*◌, ◌<◌, ◌≤◌, ◌≡◌, List, [], ◌∷◌, length, Float}
use Rattle.pass.specs.declared.shift.First.{First}

-- t is a matrix of order n, at most 64, and has row and column `last`
pub record Reaches (n last : ℕ) (t : List Float) : Type 0 where
  pub order : n ≤ 64
  pub size : length t ≡ n * n
  pub there : last < n

-- the first column as a list
abbrev pub listed : First → List Float
listed c = c.x ∷ c.y ∷ c.z ∷ []
