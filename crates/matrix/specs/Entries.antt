-- What a kernel does to a block of a matrix, entry by entry. A matrix of order n is a list, column by column.
use Rattle.std.specs.Prelude.{ℕ, ◌+◌, cond, List, length, set, Float}
use Rattle.std.specs.Float.{nan}
use Rattle.loops.specs.Place.{place}
use Rattle.loops.specs.Rounded.{◌!◌}
use Rattle.loops.specs.Times.{range}
use Rattle.matrix.specs.Fits.{block_fits}

-- what an entry becomes: a rule is told its row, its column and what it holds
abbrev pub Rule : Type 0
Rule = ℕ → ℕ → Float → Float

-- the entry in row i of column j rewritten by the rule g
abbrev pub at_entry : (n : ℕ) → Rule → (j i : ℕ) → (t : List Float) → List Float
at_entry n g j i t = set t (place n i j) (g i j (t ! place n i j))

-- each entry of the rows from r0 to below r1 and the columns from c0 to below c1, one after another
unfoldable pub in_block : (n r0 r1 c0 c1 : ℕ) → Rule → (t : List Float) → List Float
in_block n r0 r1 c0 c1 g t = range (λ j. range (at_entry n g j) r0 r1) c0 c1 t

-- The same where that block lies in the matrix; where it does not, nothing is done.
-- What g reads of the matrix, it reads of the matrix as it was: so the order in which the entries are taken changes
-- nothing.
unfoldable pub on_entries : (n r0 r1 c0 c1 : ℕ) → Rule → (t : List Float) → List Float
on_entries n r0 r1 c0 c1 g t = cond (block_fits n (length t) r1 c1) (in_block n r0 r1 c0 c1 g t) t

-- the number in row i of column j: a NaN where there is no such place
unfoldable pub entry_of : (n i j : ℕ) → (t : List Float) → Float
entry_of n i j t = cond (block_fits n (length t) (i + 1) (j + 1)) (t ! place n i j) nan

-- x put there: nothing where there is no such place
unfoldable pub put_of : (n i j : ℕ) → (x : Float) → (t : List Float) → List Float
put_of n i j x t = on_entries n i (i + 1) j (j + 1) (λ _ _ _. x) t
