-- The sums of one row, of four and of eight as the loops make them: the first k products. Assumes nothing.
use Prim.Native.Nat.{ℕ, ◌+◌, ◌*◌, ◌≤◌}
use mathlib.Core.Path.{◌≡◌}
use mathlib.Core.List.{List}
use native.Mathlib.Nat.{add-zero, add_assoc}
use lib.ListN.{length}
use lib.Ieee.{Float}
use Rattle.loops.specs.Place.{place}
use Rattle.loops.specs.Rounded.{◌⊕◌, ◌⊗◌, ◌!◌}
use Rattle.matrix.specs.Sum.{bare}
use Rattle.matrix.specs.Product.{along}
use Rattle.matrix.proofs.Sums.{bare-one, bare_more}
use Rattle.reflection.specs.declared.rows.Four.{Four}
use Rattle.reflection.specs.declared.rows.Eight.{Eight}
use Rattle.reflection.specs.Inner.{four, four_times, four_plus, four_along, eight_times, eight_plus, eight_along}

-- the first k products of row i
pub along_to : ℕ → List Float → ℕ → ℕ → List Float → ℕ → Float
along_to k a n c0 t i = bare k (λ j. (t ! place n i (c0 + j)) ⊗ (a ! j))

pub along_one : (a : List Float) (n c0 : ℕ) (t : List Float) (i : ℕ) → (t ! place n i c0) ⊗ (a ! 0) ≡ along_to 1 a n c0 t i
unfolding along_to
along_one a n c0 t i = rw (bare-one, add-zero)

pub along_more : (j : ℕ) (a : List Float) (n c0 : ℕ) (t : List Float) (i : ℕ) → 1 ≤ j
    → along_to (j + 1) a n c0 t i ≡ along_to j a n c0 t i ⊕ (t ! place n i (c0 + j)) ⊗ (a ! j)
unfolding along_to
along_more j a n c0 t i h = bare_more j _ h

pub along_done : (j : ℕ) (a : List Float) (n c0 : ℕ) (t : List Float) (i : ℕ) → j ≡ length a → along_to j a n c0 t i ≡ along a n c0 t i
unfolding along_to along
along_done j a n c0 t i e = rw e

-- of the rows from i to i + 3
pub four_to : ℕ → List Float → ℕ → ℕ → List Float → ℕ → Four
four_to k a n c0 t i = four (along_to k a n c0 t i) (along_to k a n c0 t (i + 1)) (along_to k a n c0 t (i + 2)) (along_to k a n c0 t (i + 3))

pub four_one : (a : List Float) (n c0 : ℕ) (t : List Float) (i : ℕ) → four_times t (place n i c0) (a ! 0) ≡ four_to 1 a n c0 t i
unfolding four_to
four_one a n c0 t i = simp (add_assoc, along_one)

pub four_more : (j : ℕ) (a : List Float) (n c0 : ℕ) (t : List Float) (i : ℕ) → 1 ≤ j
    → four_plus t (place n i (c0 + j)) (a ! j) (four_to j a n c0 t i) ≡ four_to (j + 1) a n c0 t i
unfolding four_to
four_more j a n c0 t i h =
    rw (along_more j a n c0 t i h, along_more j a n c0 t (i + 1) h, along_more j a n c0 t (i + 2) h, along_more j a n c0 t (i + 3) h) (simp add_assoc)

pub four_done : (j : ℕ) (a : List Float) (n c0 : ℕ) (t : List Float) (i : ℕ) → j ≡ length a → four_to j a n c0 t i ≡ four_along a n c0 t i
unfolding four_to along_to four_along along
four_done j a n c0 t i e = rw e

-- of the rows from i to i + 7
pub eight_to : ℕ → List Float → ℕ → ℕ → List Float → ℕ → Eight
eight_to k a n c0 t i = record { upper = four_to k a n c0 t i; lower = four_to k a n c0 t (i + 4) }

pub eight_one : (a : List Float) (n c0 : ℕ) (t : List Float) (i : ℕ) → eight_times t (place n i c0) (a ! 0) ≡ eight_to 1 a n c0 t i
unfolding eight_to
eight_one a n c0 t i = rw (add_assoc (c0 * n) i 4, four_one a n c0 t i, four_one a n c0 t (i + 4))

pub eight_more : (j : ℕ) (a : List Float) (n c0 : ℕ) (t : List Float) (i : ℕ) → 1 ≤ j
    → eight_plus t (place n i (c0 + j)) (a ! j) (eight_to j a n c0 t i) ≡ eight_to (j + 1) a n c0 t i
unfolding eight_to
eight_more j a n c0 t i h = rw (add_assoc ((c0 + j) * n) i 4, four_more j a n c0 t i h, four_more j a n c0 t (i + 4) h)

pub eight_done : (j : ℕ) (a : List Float) (n c0 : ℕ) (t : List Float) (i : ℕ) → j ≡ length a → eight_to j a n c0 t i ≡ eight_along a n c0 t i
unfolding eight_to
eight_done j a n c0 t i e = rw (four_done j a n c0 t i e, four_done j a n c0 t (i + 4) e)
