-- A column swept: what stands where afterwards, and what is left alone. Assumes nothing.
use Prim.Native.Nat.{ℕ, ◌+◌, ◌-◌, ◌*◌, ◌<◌, ◌≤◌}
use mathlib.Core.Path.{◌≡◌, sym, ◌∙◌}
use mathlib.Core.List.{List}
use native.Mathlib.Omega.{arith}
use lib.ListN.{length, set, length-set}
use lib.Seq.{get_or-set_same, get_or-set_other}
use lib.Ieee.{Float, nan}
use Rattle.loops.specs.Constants.{zero}
use Rattle.loops.specs.Place.{place, in_square}
use Rattle.loops.proofs.Place.{places}
use Rattle.loops.specs.Rounded.{◌!◌}
use Rattle.loops.specs.Times.{range, range_length, range_frame, range_at}
use Rattle.pass.specs.Pass.{swept}

abbrev cleared : ℕ → ℕ → ℕ → List Float → List Float
cleared n k i t = set t (place n i (k - 1)) zero

-- ---- what stands where

pub swept-length : (n k rows : ℕ) (x : Float) (t : List Float) → length (swept n k rows x t) ≡ length t
unfolding swept
swept-length n k rows x t = range_length _ _ _ _ (λ i s. simp length-set) ∙ simp length-set

-- only the rows from k to below k + rows of column k - 1 are touched
pub swept_frame : (n k rows : ℕ) (x : Float) (t : List Float) (i j : ℕ) → i < n → k + rows ≤ n → 0 < rows → (j ≡ k - 1 → k ≤ i → i < k + rows → ⊥)
    → swept n k rows x t ! place n i j ≡ t ! place n i j
unfolding swept
swept_frame n k rows x t i j h m some out =
    range_frame _ (k + 1) (k + rows) _ (place n i j) nan
    (λ i' u a b. get_or-set_other u (place n i' (k - 1)) (place n i j) zero nan
    (places n i j i' (k - 1) h (omega arith) (λ e f. out f (omega arith) (omega arith))))
    ∙ get_or-set_other t (place n k (k - 1)) (place n i j) x nan (places n i j k (k - 1) h (omega arith) (λ e f. out f (omega arith) (omega arith)))

-- below its first row it is +0
pub swept-zero : (n k rows : ℕ) (x : Float) (t : List Float) (i : ℕ) → length t ≡ n * n → k + rows ≤ n → k < i → i < k + rows
    → swept n k rows x t ! place n i (k - 1) ≡ zero
unfolding swept
swept-zero n k rows x t i size m l h =
    let before = range (cleared n k) (k + 1) i (set t (place n k (k - 1)) x) in
    let same : length before ≡ n * n = range_length (cleared n k) (k + 1) i (set t (place n k (k - 1)) x) (λ i s. simp length-set) ∙ simp length-set size in
    let at =
    range_at (cleared n k) (k + 1) (k + rows) (set t (place n k (k - 1)) x) i (place n i (k - 1)) nan (omega arith) h
    (λ i' u a b d. get_or-set_other u (place n i' (k - 1)) (place n i (k - 1)) zero nan
    (places n i (k - 1) i' (k - 1) (omega arith) (omega arith) (λ e f. d (sym e)))) in
    at ∙ get_or-set_same before (place n i (k - 1)) zero nan (omega (arith, same, in_square n i (k - 1) (omega arith) (omega arith)))
