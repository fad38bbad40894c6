-- Laws of the two orders of a sum (`Sum`) and of the dot product. Assumes nothing.
use Prim.Native.Nat.{ℕ, zero, suc, ◌+◌, ◌*◌, ◌/◌, ◌<◌, ◌≤◌}
use mathlib.Core.Path.{◌≡◌, refl, ap}
use mathlib.Core.List.{List}
use native.Mathlib.Numerals.{add-one}
use native.Mathlib.Omega.{arith}
use borrow.Author.Tests.{eq-eqb}
use lib.ListN.{length}
use lib.Ieee.{Float}
use Rattle.loops.specs.Constants.{zero as zero_f}
use Rattle.loops.specs.Rounded.{◌⊕◌}
use Rattle.loops.specs.Times.{times_none, times_more, times_same, range}
use Rattle.matrix.specs.Sum.{bare, lane, lanes_summed, lanes}
use Rattle.matrix.specs.Vectors.{products, dot_of}

-- ---- left to right, the first term bare

-- a sum of no term
pub bare_none : (f : ℕ → Float) → bare 0 f ≡ zero_f
unfolding bare
bare_none f = refl

-- a sum of one term is that term
pub bare-one : (f : ℕ → Float) → bare 1 f ≡ f 0
unfolding bare
bare-one f = refl

-- one term more, at the code's j + 1
pub bare_more : (j : ℕ) (f : ℕ → Float) → 1 ≤ j → bare (j + 1) f ≡ bare j f ⊕ f j
unfolding bare
bare_more zero f h = absurd (omega arith)
bare_more (suc j) f h = rw add-one

-- equal terms have equal sums
pub bare_same : (k : ℕ) (f g : ℕ → Float) → ((i : ℕ) → i < k → f i ≡ g i) → bare k f ≡ bare k g
unfolding bare
bare_same zero f g h = refl
bare_same (suc zero) f g h = h 0 (omega arith)
bare_same (suc (suc k)) f g h = rw (bare_same (suc k) f g (λ i l. h i (omega arith)), h (suc k) (omega arith))

-- ---- eight accumulators

-- an accumulator before the first block
pub lane_none : (f : ℕ → Float) (l : ℕ) → lane f l 0 ≡ zero_f
unfolding lane
lane_none f l = times_none _ _

-- an accumulator after one block more, at the code's b + 1
pub lane_more : (f : ℕ → Float) (l b : ℕ) → lane f l (b + 1) ≡ lane f l b ⊕ f (b * 8 + l)
unfolding lane
lane_more f l b = times_more _ _ _

-- an accumulator is made of its own terms
pub lane_same : (f g : ℕ → Float) (l b : ℕ) → ((i : ℕ) → i < b → f (i * 8 + l) ≡ g (i * 8 + l)) → lane f l b ≡ lane g l b
unfolding lane
lane_same f g l b h = times_same _ _ _ _ (λ i x k. ap (λ e. x ⊕ e) (h i k))

-- the eight accumulators are made of the terms of their blocks
pub joined_same : (f g : ℕ → Float) (b : ℕ) → ((i : ℕ) → i < b * 8 → f i ≡ g i) → lanes_summed f b ≡ lanes_summed g b
unfolding lanes_summed
joined_same f g b h =
    rw (
      at 0 (omega arith),
      at 1 (omega arith),
      at 2 (omega arith),
      at 3 (omega arith),
      at 4 (omega arith),
      at 5 (omega arith),
      at 6 (omega arith),
      at 7 (omega arith),
    )
  where
    at : (l : ℕ) → l < 8 → lane f l b ≡ lane g l b
    at l k = lane_same f g l b (λ i u. h (i * 8 + l) (omega arith))

-- equal terms have equal sums
pub lanes_same : (k : ℕ) (f g : ℕ → Float) → ((i : ℕ) → i < k → f i ≡ g i) → lanes k f ≡ lanes k g
unfolding lanes range
lanes_same k f g h =
    rw (joined_same f g (k / 8) (λ i l. h i (omega arith)))
    (times_same _ _ _ _ (λ i x l. ap (λ e. x ⊕ e) (h (k / 8 * 8 + i) (omega arith))))

-- ---- the dot product

-- of two lists of one length it is the sum of the products
pub dot_of_is : (x y : List Float) → length x ≡ length y → dot_of x y ≡ lanes (length x) (products x y)
unfolding dot_of
dot_of_is x y h = rw (eq-eqb (length x) (length y) h)

-- of a list with itself it is the sum of the squares
pub dot_of_self : (c : List Float) → dot_of c c ≡ lanes (length c) (products c c)
dot_of_self c = dot_of_is c c refl
