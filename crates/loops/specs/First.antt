-- The first of the numbers below n that a test names, and n itself where it names none: a search that a loop makes from
-- 0 on. What is left to search at k is `first_from test n k`, so a loop's invariant says that this equals the whole
-- search.
use Rattle.std.specs.Prelude.{Bool, ℕ, ◌+◌, ◌-◌, ltb}
use Rattle.loops.specs.Until.{until}

-- from k on
unfoldable pub first_from : (ℕ → Bool) → (n k : ℕ) → ℕ
first_from test n k = until test (λ i. i + 1) (n - k) k

abbrev pub first : (ℕ → Bool) → ℕ → ℕ
first test n = first_from test n 0

-- whether the test names some number from a to below b
abbrev pub some : (ℕ → Bool) → (a b : ℕ) → Bool
some test a b = ltb (first_from test b a) b
