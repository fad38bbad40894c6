-- A row e of a matrix of order n, told by the place of its entry on the diagonal. Assumes nothing.
use Prim.Native.Nat.{ℕ, ◌+◌, ◌*◌, ◌<◌, ◌≤◌}
use mathlib.Core.Bool.{Bool, true, false, false≢true}
use mathlib.Core.Path.{◌≡◌, refl, sym, ◌∙◌}
use native.Mathlib.Nat.{mul-le-mul_right}
use native.Mathlib.Decide.{dec_lt}
use native.Mathlib.Omega.{arith}
use Rattle.loops.specs.Place.{in_square}
use Rattle.matrix.specs.Fits.{block_fits}
use Rattle.matrix.proofs.Fitting.{Fits, fits, fitting}

-- there is no such row
absent : (n len e : ℕ) → (Fits n len (e + 1) (e + 1) → ⊥) → block_fits n len (e + 1) (e + 1) ≡ false
absent n len e out = go (block_fits n len (e + 1) (e + 1)) refl
  where
    go : (b : Bool) → block_fits n len (e + 1) (e + 1) ≡ b → b ≡ false
    go true h = absurd (out (fits n len (e + 1) (e + 1) h))
    go false h = refl

-- since there is no matrix of that order, e is above 64, or the place lies behind its end
pub no_matrix : (n len e : ℕ) → block_fits n len n n ≡ false → block_fits n len (e + 1) (e + 1) ≡ false
no_matrix n len e h = absent n len e (λ f. false≢true (sym h ∙ fitting n len n n f.order f.size (omega arith) (omega arith)))

pub too_large : (n len e : ℕ) → 64 < e → block_fits n len (e + 1) (e + 1) ≡ false
too_large n len e h = absent n len e (λ f. omega arith)

pub behind : (n len e : ℕ) → len ≤ e * n + e → block_fits n len (e + 1) (e + 1) ≡ false
behind n len e h = absent n len e (λ f. omega (arith, in_square n e e (omega arith) (omega arith)))

-- there is one
pub present : (n len e : ℕ) → Fits n len n n → e * n + e < len → Fits n len (e + 1) (e + 1)
present n len e f h = record { order = f.order; size = f.size; small = f.small; in_rows = below; in_cols = below }
  where
    go : Dec (e < n) → e + 1 ≤ n
    go (yes l) = omega arith
    go (no l) = let m : n * n ≤ e * n = mul-le-mul_right n (omega arith) in absurd (omega arith)

    below : e + 1 ≤ n
    below = go (dec_lt e n)
