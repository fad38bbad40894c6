-- The blocks on the diagonal of a quasi-triangular T, and the eigenvalues that each answers (document 01; docs/SUMS.md,
-- 8.1 and 8.2).
use Rattle.std.specs.Prelude.{ℕ, ◌+◌, ◌-◌, Bool, cond, not, ◌&&◌, List, ltb, eqb, Float}
use Rattle.std.specs.Float.Ieee.{neg, le}
use Rattle.loops.specs.Constants.{zero, half}
use Rattle.loops.specs.Place.{place}
use Rattle.loops.specs.Rounded.{◌⊕◌, ◌⊖◌, ◌⊗◌, ◌!◌}
use Rattle.scalar.specs.Class.{is_zero}
use Rattle.scalar.specs.Root.{root_of}
use Rattle.pass.specs.declared.block.Block.{Block}
use Rattle.pass.specs.Block.{block_at, discriminant}
use Rattle.eigenvalues.specs.declared.block.Parts.{Parts}
use Rattle.eigenvalues.specs.declared.block.BlockAnswer.{BlockAnswer}
use Rattle.eigenvalues.specs.declared.block.BlockAnswer.TheVariants.{One, Pair}

abbrev pub parts : Float → Float → Parts
parts re im = record { re = re; im = im }

-- a block of two stands at k: the entry just below the diagonal in column k is there and is not 0 (-0 is)
unfoldable pub paired : (n : ℕ) → (t : List Float) → (k : ℕ) → Bool
paired n t k = ltb (k + 1) n && not (is_zero (t ! place n (k + 1) k))

-- ---- what a block answers: one real number, or a pair

-- half the trace, and the root of the discriminant without its sign
unfoldable pub pair_of : Block → Parts
pair_of b = parts ((b.h11 ⊕ b.h00) ⊗ half) (root_of (neg (discriminant b)))

unfoldable pub answer_at : (n : ℕ) → (t : List Float) → (k : ℕ) → BlockAnswer
answer_at n t k = cond (paired n t k) (Pair (pair_of (block_at n k t))) (One (t ! place n k k))

-- The discriminant of a block that stands at k is above 0 or NaN. It was below 0, or NaN, before T was multiplied by
-- the largest magnitude; after that rounding may differ.
unfoldable pub not_complex : (n : ℕ) → (t : List Float) → (k : ℕ) → Bool
not_complex n t k = paired n t k && not (le (discriminant (block_at n k t)) zero)

-- ---- the eigenvalues, one for each row

-- a block's first: part by part, the sum of (half, 0) and (0, root)
unfoldable pub upper : BlockAnswer → Parts
upper (One x) = parts x zero
upper (Pair p) = parts (p.re ⊕ zero) (zero ⊕ p.im)

-- a pair's second: part by part, their difference
unfoldable pub lower : Parts → Parts
lower p = parts (p.re ⊖ zero) (zero ⊖ p.im)

-- that of a row, by the answers of the row before and its own: the row before may begin a pair
unfoldable pub follows : BlockAnswer → BlockAnswer → Parts
follows (One x) here = upper here
follows (Pair p) here = lower p

-- nothing stands before row 0
unfoldable pub answer_before : (n : ℕ) → (t : List Float) → (k : ℕ) → BlockAnswer
answer_before n t k = cond (eqb k 0) (One zero) (answer_at n t (k - 1))

unfoldable pub eigenvalue_at : (n : ℕ) → (t : List Float) → (k : ℕ) → Parts
eigenvalue_at n t k = follows (answer_before n t k) (answer_at n t k)
