-- What the inner functions of the readers ask. Nothing outside this crate cites it.
use Rattle.std.specs.Prelude.{ℕ, ◌*◌, ◌≤◌, ◌≡◌}

-- a list of as many numbers as a matrix of order n has, and the order is at most 64
pub record Square (n len : ℕ) : Type 0 where
  pub order : n ≤ 64
  pub size : len ≡ n * n
