-- What clearing a column and assembling Q leave alone: lengths, the columns left of the one that is cleared, and its entries down to the
-- diagonal. Assumes nothing.
use Prim.Native.Nat.{ℕ, suc, ◌+◌, ◌*◌, ◌-◌, ◌≤◌, ◌<◌}
use mathlib.Core.Path.{◌≡◌, refl, ap, ◌∙◌}
use mathlib.Core.Bool.{Bool, true, false, cond, ◌&&◌}
use mathlib.Core.List.{List}
use native.Mathlib.Decide.{dec_lt}
use native.Mathlib.Nat.{mul-le-mul_right, suc-mul}
use native.Mathlib.Omega.{arith}
use lib.Dec.{leb}
use lib.ListN.{length}
use lib.Ieee.{Float, nan}
use Rattle.loops.specs.Down.{down, down-length}
use Rattle.loops.specs.Part.{on_part, on_part-length, on_part_before}
use Rattle.loops.specs.Place.{place, column}
use Rattle.loops.specs.Rounded.{◌!◌}
use Rattle.loops.specs.Tests.{cond_hold}
use Rattle.scalar.specs.Sign.{signum_of}
use Rattle.matrix.specs.Sum.{lanes}
use Rattle.matrix.specs.Fits.{block_fits}
use Rattle.matrix.proofs.Fitting.{Fits, fits}
use Rattle.matrix.specs.Vectors.{copied}
use Rattle.matrix.proofs.Copied.{copied-length}
use Rattle.matrix.proofs.Kernels.{on_entries-length}
use Rattle.reflection.specs.Reflected.{reflected, reflected_rows}
use Rattle.reflection.proofs.Frames.{reflected-length, reflected_frame, reflected_rows-length, reflected_rows_frame}
use Rattle.householder.specs.Axis.{axis_of}
use Rattle.householder.specs.Cleared.{Cleared, below_row, cleared, both_sides, cleared_here, clear_of}
use Rattle.householder.specs.Assembled.{identity, with_axis, assembled}
use Rattle.householder.proofs.Ways.{axis_length}

-- ---- both sides

both_sides-length : (n k : ℕ) (a : List Float) (s : Float) (t : List Float) → length (both_sides n k a s t) ≡ length t
unfolding both_sides
both_sides-length n k a s t = simp (reflected-length, reflected_rows-length)

both_sides_frame : (n k : ℕ) (a : List Float) (s : Float) (t : List Float) (i j : ℕ) → i < n → j ≤ k → both_sides n k a s t ! place n i j ≡ t ! place n i j
unfolding both_sides
both_sides_frame n k a s t i j h l =
    let columns : (u : List Float) → reflected lanes a s n (k + 1) (k + 1) n u ! place n i j ≡ u ! place n i j =
    λ u. reflected_frame _ _ _ _ _ _ _ _ i j h (λ o. omega arith) in
    let rows : (u : List Float) → reflected_rows a s n n (k + 1) u ! place n i j ≡ u ! place n i j =
    λ u. reflected_rows_frame _ _ _ _ _ _ i j h (λ o. omega arith) in
    simp (columns, rows)

-- ---- a column cleared

-- an entry left of column k, or of it and not below row k, stands before the part that is lent
before : (n k i j : ℕ) → i < n → j ≤ k → (j ≡ k → i ≤ k) → place n i j < place n (k + 1) k
before n k i j h l m = go (dec_lt j k)
  where
    go : Dec (j < k) → place n i j < place n (k + 1) k
    go (yes a) = omega (arith, mul-le-mul_right {m = suc j} n a, suc-mul j n)
    go (no a) = let e : j ≡ k = omega arith in omega (arith, m e, ap (λ x. x * n) e)

-- what stands where the axis was made
module _ (n k : ℕ) (t : List Float) (f : Fits n (length t) (k + 2) (k + 2)) where
  made : List Float
  made = on_part (λ c. (axis_of lanes c).axis) (place n (k + 1) k) (place n n k) t

  made-length : length made ≡ length t
  unfolding made
  made-length =
      let b = column n k (omega arith) (omega arith) in
      on_part-length (λ c. (axis_of lanes c).axis) (place n (k + 1) k) (place n n k) t (omega arith) (omega arith) (λ c. axis_length lanes c)

  made_frame : (i j : ℕ) → i < n → j ≤ k → (j ≡ k → i ≤ k) → made ! place n i j ≡ t ! place n i j
  unfolding made
  made_frame i j h l m =
      let b = column n k (omega arith) (omega arith) in
      on_part_before (λ c. (axis_of lanes c).axis) (place n (k + 1) k) (place n n k) t (place n i j) nan (omega arith) (before n k i j h l m)

  here_length : (w : List Float) → length (cleared_here n k t w).matrix ≡ length t
  unfolding cleared_here made
  here_length w =
      let r = axis_of lanes (below_row n k t) in
      cond_hold (λ s. length s ≡ length t) r.reflected (both_sides n k r.axis (signum_of r.norm) made) made (λ _. both_sides-length n k _ _ made
      ∙ made-length) made-length

  here_frame : (w : List Float) (i j : ℕ) → i < n → j ≤ k → (j ≡ k → i ≤ k) → (cleared_here n k t w).matrix ! place n i j ≡ t ! place n i j
  unfolding cleared_here made
  here_frame w i j h l m =
      let r = axis_of lanes (below_row n k t) in
      cond_hold (λ s. s ! place n i j ≡ t ! place n i j) r.reflected (both_sides n k r.axis (signum_of r.norm) made) made
      (λ _. both_sides_frame n k _ _ made i j h l ∙ made_frame i j h l m) (made_frame i j h l m)

  here_work : (w : List Float) → length (cleared_here n k t w).work ≡ length w
  unfolding cleared_here
  here_work w =
      let r = axis_of lanes (below_row n k t) in
      cond_hold (λ s. length s ≡ length w) r.reflected (copied r.axis w) w (λ _. copied-length _ w) refl

-- what holds where nothing is done and where the column is cleared, holds
either : (P : Cleared → Type 0) (n k : ℕ) (t w : List Float) → (Fits n (length t) (k + 2) (k + 2) → P (cleared_here n k t w)) → P (cleared nan t w)
    → P (clear_of n k t w)
unfolding clear_of
either P n k t w h l = go (block_fits n (length t) (k + 2) (k + 2)) (leb n (length w)) (λ e. h (fits n (length t) (k + 2) (k + 2) e))
  where
    go : (b d : Bool) → (b ≡ true → P (cleared_here n k t w)) → P (cond (b && d) (cleared_here n k t w) (cleared nan t w))
    go true true m = m refl
    go true false m = l
    go false d m = l

pub clear_of-length : (n k : ℕ) (t w : List Float) → length (clear_of n k t w).matrix ≡ length t
clear_of-length n k t w = either (λ r. length r.matrix ≡ length t) n k t w (λ f. here_length n k t f w) refl

pub clear_of_work : (n k : ℕ) (t w : List Float) → length (clear_of n k t w).work ≡ length w
clear_of_work n k t w = either (λ r. length r.work ≡ length w) n k t w (λ f. here_work n k t f w) refl

-- the columns left of column k, and column k down to its diagonal, are left alone
pub clear_of_frame : (n k : ℕ) (t w : List Float) (i j : ℕ) → i < n → j ≤ k → (j ≡ k → i ≤ k) → (clear_of n k t w).matrix ! place n i j ≡ t ! place n i j
clear_of_frame n k t w i j h l m = either (λ r. r.matrix ! place n i j ≡ t ! place n i j) n k t w (λ f. here_frame n k t f w i j h l m) refl

-- ---- Q assembled

with_axis-length : (n : ℕ) (m signs : List Float) (i : ℕ) (q : List Float) → length (with_axis n m signs i q) ≡ length q
unfolding with_axis
with_axis-length n m signs i q = reflected-length _ _ _ _ _ _ _ _

identity-length : (n : ℕ) (q : List Float) → length (identity n q) ≡ length q
unfolding identity
identity-length n q = on_entries-length _ _ _ _ _ _ _

pub assembled-length : (n : ℕ) (m signs q : List Float) → length (assembled n m signs q) ≡ length q
unfolding assembled
assembled-length n m signs q =
    let whole : Bool = block_fits n (length m) n n && (block_fits n (length q) n n && leb (n - 1) (length signs)) in
    cond_hold (λ s. length s ≡ length q) whole (down (with_axis n m signs) (n - 1) (identity n q)) q
    (λ _. down-length (with_axis n m signs) (n - 1) (identity n q) (λ i s. with_axis-length n m signs i s) ∙ identity-length n q) refl
