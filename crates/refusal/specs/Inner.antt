-- What private functions ask and promise.
use Rattle.std.specs.Prelude.{◌≡◌, ℕ, ◌*◌, ◌≤◌, List, length, Option, Some, None, cond, ltb}

-- t holds a matrix of order n
abbrev pub IsSquare : {X : Type 0} → (n : ℕ) → (t : List X) → Type 0
IsSquare n t = (n ≤ 64) × (length t ≡ n * n)

-- what a search below n has found, which comes to n where it finds none
abbrev pub found : (n k : ℕ) → Option ℕ
found n k = cond (ltb k n) (Some k) None
