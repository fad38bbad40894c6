-- The floats in between, for those who call the library over bytes: what was read, filled and written where there is room. Assumes nothing.
use Prim.Native.Nat.{ℕ, ◌*◌, ◌/◌, ◌≤◌}
use mathlib.Core.Path.{◌≡◌, ap, ◌∙◌}
use mathlib.Core.Bool.{cond}
use mathlib.Core.List.{List}
use native.Mathlib.Omega.{arith}
use borrow.Author.Tests.{eq-eqb}
use lib.Dec.{eqb}
use lib.ListN.{length, replicate, length-replicate, get_or-replicate, take}
use lib.Seq.{length-take-le, get_or-take}
use lib.Ieee.{Float, nan}
use Rattle.loops.specs.Constants.{zero}
use Rattle.loops.specs.Table.{table_of}
use Rattle.matrix.specs.Vectors.{filled, zeros}
use Rattle.matrix.proofs.Each.{filled-length, filled_at, zeros-length}
use Rattle.words.specs.Floats.{floats_of, bytes_of}
use Rattle.words.proofs.Chunks.{floats_of-length}

-- whatever stood there
pub filled-zeros : (t : List Float) (k : ℕ) → length t ≡ k → filled zero t ≡ zeros k
unfolding zeros
filled-zeros t k e = table_of k _ (filled zero t) nan (filled-length zero t ∙ e) (λ i l. filled_at zero t i (omega arith))

-- the front of a room that is fresh
pub fresh_zeros : (k n : ℕ) → k ≤ n → take k (replicate n zero) ≡ zeros k
unfolding zeros
fresh_zeros k n l =
    table_of k _ (take k (replicate n zero)) nan (length-take-le k _ (omega (arith, length-replicate {A = Float} n zero)))
    (λ i h. get_or-take k (replicate n zero) i nan h ∙ get_or-replicate n i zero nan (omega arith))

pub fresh_length : (k n : ℕ) → k ≤ n → k ≡ length (take k (replicate n zero))
fresh_length k n l = omega (arith, ap length (fresh_zeros k n l), zeros-length k)

pub floats_length : (m : List ℕ) (k : ℕ) → length m ≡ 8 * k → length (floats_of m) ≡ k
floats_length m k e = floats_of-length m ∙ omega arith

-- `decode` and `encode`, where there is room
pub decoded : {a : List Float} (m : List ℕ) (a₀ : List Float) (k : ℕ) → length m ≡ 8 * k → length a₀ ≡ k
    → a ≡ cond (eqb (length m / 8) (length a₀)) (floats_of m) a₀ → a ≡ floats_of m
decoded m a₀ k e f h = let q : length m / 8 ≡ length a₀ = omega arith in h ∙ rw (eq-eqb _ _ q)

pub encoded : {b : List ℕ} (a : List Float) (b₀ : List ℕ) → b ≡ cond (eqb (length b₀) (8 * length a)) (bytes_of a) b₀ → length b₀ ≡ 8 * length a → b ≡ bytes_of a
encoded a b₀ h e = h ∙ rw (eq-eqb _ _ e)
