-- The two orders in which a sum of k terms is taken; the term at i is f i (docs/SUMS.md, section 2).
-- Which of the two a dot product takes goes by the type in the Rust: `lanes` where the length is known at run time,
-- `bare` where it is 2 or 3 by the type.
use Rattle.std.specs.Prelude.{ℕ, zero, suc, ◌+◌, ◌*◌, ◌/◌, Float}
use Rattle.loops.specs.Constants.{zero as zero_f}
use Rattle.loops.specs.Rounded.{◌⊕◌}
use Rattle.loops.specs.Times.{times, range}

-- an order of summing: from the number of terms and the terms to their sum
abbrev pub Order : Type 0
Order = ℕ → (ℕ → Float) → Float

-- Left to right, and the first term stands bare: no zero is added to it, so a sum of -0 alone is -0.
unfoldable pub bare : ℕ → (ℕ → Float) → Float
bare zero f = zero_f
bare (suc zero) f = f 0
bare (suc (suc k)) f = bare (suc k) f ⊕ f (suc k)

-- accumulator l of eight after b blocks: it takes the terms l, 8 + l, 16 + l, ..
unfoldable pub lane : (ℕ → Float) → (l b : ℕ) → Float
lane f l b = times (λ k d. d ⊕ f (k * 8 + l)) b zero_f

-- the eight accumulators after b blocks, added in pairs to a leading zero
unfoldable pub lanes_summed : (ℕ → Float) → ℕ → Float
lanes_summed f b =
    zero_f
    ⊕ (lane f 0 b ⊕ lane f 4 b)
    ⊕ (lane f 1 b ⊕ lane f 5 b)
    ⊕ (lane f 2 b ⊕ lane f 6 b)
    ⊕ (lane f 3 b ⊕ lane f 7 b)

-- Eight accumulators over the whole blocks of eight, joined; then the terms that are left, one by one.
unfoldable pub lanes : ℕ → (ℕ → Float) → Float
lanes k f = range (λ i d. d ⊕ f i) (k / 8 * 8) k (lanes_summed f (k / 8))
