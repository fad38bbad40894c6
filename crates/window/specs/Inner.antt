-- What private functions ask of T, and what the two searches of delimiting promise, each of itself. Nothing outside
-- this crate cites it.
use Rattle.std.specs.Prelude.{ℕ, ◌*◌, ◌≤◌, ◌<◌, ◌≡◌, List, length, Float}
use Rattle.window.specs.Window.{falling, end_from, start_from}

-- t is a matrix of order n, at most 64
pub record Square (n : ℕ) (t : List Float) : Type 0 where
  pub order : n ≤ 64
  pub size : length t ≡ n * n

-- from `end` on t₀ the end has fallen to e, and T is t
pub record EndFound (n : ℕ) (eps : Float) (end : ℕ) (t₀ : List Float) (e : ℕ) (t : List Float) : Type 0 where
  pub fallen : falling e t ≡ end_from n eps end t₀
  pub upto : e ≤ end

-- s is the start of the window that ends at `end`
pub record StartFound (n : ℕ) (eps : Float) (end : ℕ) (t : List Float) (s : ℕ) : Type 0 where
  pub is : s ≡ start_from n eps end t
  pub above : s < end
