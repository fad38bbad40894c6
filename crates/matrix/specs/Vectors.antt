-- Dot product, norm, scaling, filling, copying and largest magnitude of a list of numbers: a column, a part of one, or
-- a whole matrix column by column (docs/SUMS.md, 2.1 to 2.7).
use Rattle.std.specs.Prelude.{ℕ, cond, List, eqb, leb, length, set, Float}
use Rattle.std.specs.Float.{nan}
use Rattle.std.specs.Float.Ieee.{le}
use Rattle.loops.specs.Constants.{zero}
use Rattle.loops.specs.Rounded.{◌⊕◌, ◌⊗◌, ◌⊘◌, ◌!◌}
use Rattle.loops.specs.Table.{table}
use Rattle.loops.specs.Times.{times, range}
use Rattle.scalar.specs.Root.{root_of}
use Rattle.scalar.specs.Sign.{modulus_of}
use Rattle.matrix.specs.Sum.{Order, lanes}

-- the terms of a dot product
abbrev pub products : List Float → List Float → ℕ → Float
products x y i = (x ! i) ⊗ (y ! i)

-- the dot product of two lists of a length known at run time; lists of different lengths have none
unfoldable pub dot_of : List Float → List Float → Float
dot_of x y = cond (eqb (length x) (length y)) (lanes (length x) (products x y)) nan

-- the square of the norm, and the norm: a zero leads, whatever the order
unfoldable pub norm_squared : Order → List Float → Float
norm_squared sum c = zero ⊕ sum (length c) (products c c)

unfoldable pub norm_of : Order → List Float → Float
norm_of sum c = root_of (norm_squared sum c)

-- the first k numbers rewritten: g is told the place and what stands there
unfoldable pub each_to : ℕ → (ℕ → Float → Float) → List Float → List Float
each_to k g t = times (λ i s. set s i (g i (s ! i))) k t

-- f done to each number
abbrev pub each : (Float → Float) → List Float → List Float
each f t = each_to (length t) (λ _ e. f e) t

-- each number is x
unfoldable pub filled : Float → List Float → List Float
filled x t = each (λ _. x) t

-- k numbers, all +0: memory to begin with
unfoldable pub zeros : ℕ → List Float
zeros k = table k (λ _. zero)

-- c copied to the front of t; nothing is done where it is the longer one
unfoldable pub copied : List Float → List Float → List Float
copied c t = cond (leb (length c) (length t)) (each_to (length c) (λ i _. c ! i) t) t

-- each number times x; each divided by x, one division for each; each divided by the norm
unfoldable pub scaled : Float → List Float → List Float
scaled x t = each (λ e. e ⊗ x) t

unfoldable pub unscaled : Float → List Float → List Float
unscaled x t = each (λ e. e ⊘ x) t

unfoldable pub normalized : Order → List Float → List Float
normalized sum c = unscaled (norm_of sum c) c

-- the one held unless it is not at least the new one: so a NaN that is held gives way, and one that comes stays until
-- the next number
abbrev pub larger : Float → Float → Float
larger held new = cond (le new held) held new

-- the largest magnitude, from the first entry on; 0 where there is no entry
unfoldable pub largest : List Float → Float
largest t = cond (eqb (length t) 0) zero (range (λ i a. larger a (modulus_of (t ! i))) 1 (length t) (modulus_of (t ! 0)))
