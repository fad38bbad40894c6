-- The reduction, H and Q keep the lengths of the lists, the reduction keeps what each of its columns keeps, and H is +0 below its
-- subdiagonal. Assumes nothing.
use Prim.Native.Nat.{ℕ, ◌+◌, ◌*◌, ◌-◌, ◌≤◌, ◌<◌}
use mathlib.Core.Path.{◌≡◌, refl, ◌∙◌}
use mathlib.Core.Bool.{Bool, true, false, cond, ◌&&◌}
use mathlib.Core.List.{List}
use native.Mathlib.Omega.{arith}
use borrow.Author.Tests.{eqb-true}
use lib.ListN.{length, length-set}
use lib.Ieee.{Float}
use Rattle.loops.specs.Constants.{zero}
use Rattle.loops.specs.Part.{part, on_part-length}
use Rattle.loops.specs.Place.{place}
use Rattle.loops.specs.Rounded.{◌!◌}
use Rattle.loops.specs.Tests.{cond_hold}
use Rattle.loops.specs.Times.{times, times_hold}
use Rattle.matrix.specs.Entries.{on_entries}
use Rattle.matrix.specs.Fits.{block_fits}
use Rattle.matrix.proofs.Fitting.{Fits, fits}
use Rattle.matrix.proofs.Kernels.{on_entries-length, on_entries-at}
use Rattle.householder.specs.Assembled.{assembled}
use Rattle.householder.specs.Cleared.{clear_of}
use Rattle.householder.proofs.Frames.{clear_of-length, clear_of_work, assembled-length}
use Rattle.hessenberg.specs.Reduced.{Reduction, reduction, reduce_column, work_fits, reduced}
use Rattle.hessenberg.specs.Unpacked.{of_h, unpacked_h, unpacked_q}
use Rattle.hessenberg.proofs.Column.{of_h_below}

-- ---- the reduction

pub reduce_column-length : (n k : ℕ) (r : Reduction) → length (reduce_column n k r).matrix ≡ length r.matrix
unfolding reduce_column
reduce_column-length n k r = clear_of-length n k r.matrix (part 0 n r.work)

pub reduce_column_work : (n k : ℕ) (r : Reduction) → n ≤ length r.work → length (reduce_column n k r).work ≡ length r.work
unfolding reduce_column
reduce_column_work n k r h =
    simp length-set (on_part-length (λ w. (clear_of n k r.matrix w).work) 0 n r.work (omega arith) h (λ w. clear_of_work n k r.matrix w))

-- what each column's reduction keeps, the whole keeps
pub reduced_hold : (P : Reduction → Type 0) (n : ℕ) (t w : List Float)
    → (Fits n (length t) n n → length w ≡ 2 * n → (k : ℕ) (r : Reduction) → k + 2 ≤ n → P r → P (reduce_column n k r))
    → P (reduction t w) → P (reduced n t w)
unfolding reduced work_fits
reduced_hold P n t w keep h = go (block_fits n (length t) n n) (work_fits n w) (fits n (length t) n n) (eqb-true (length w) (2 * n))
  where
    go : (b d : Bool) → (b ≡ true → Fits n (length t) n n) → (d ≡ true → length w ≡ 2 * n)
        → P (cond (b && d) (times (reduce_column n) (n - 1) (reduction t w)) (reduction t w))
    go true true f g = times_hold P (reduce_column n) (n - 1) (reduction t w) (λ k r l. keep (f refl) (g refl) k r (omega arith)) h
    go true false f g = h
    go false d f g = h

pub reduced-length : (n : ℕ) (t w : List Float) → length (reduced n t w).matrix ≡ length t
reduced-length n t w = reduced_hold (λ r. length r.matrix ≡ length t) n t w (λ f s k r l e. reduce_column-length n k r ∙ e) refl

pub reduced_work : (n : ℕ) (t w : List Float) → length (reduced n t w).work ≡ length w
reduced_work n t w = reduced_hold (λ r. length r.work ≡ length w) n t w (λ f s k r l e. reduce_column_work n k r (omega arith) ∙ e) refl

-- ---- H

pub unpacked_h-length : (n : ℕ) (w t : List Float) → length (unpacked_h n w t) ≡ length t
unfolding unpacked_h
unpacked_h-length n w t =
    cond_hold (λ s. length s ≡ length t) (work_fits n w) (on_entries n 0 n 0 (n - 1) (of_h n w) t) t (λ _. on_entries-length n 0 n 0 (n - 1) (of_h n w) t) refl

pub unpacked_h-zero : (n : ℕ) (w t : List Float) (i j : ℕ) → n ≤ 64 → length t ≡ n * n → work_fits n w ≡ true → i < n → j + 2 ≤ i
    → unpacked_h n w t ! place n i j ≡ zero
unfolding unpacked_h
unpacked_h-zero n w t i j h k f l m =
    rw f (on_entries-at n 0 n 0 (n - 1) (of_h n w) t i j h k (omega arith) (omega arith) (omega arith) ∙ of_h_below n w i j (t ! place n i j) m)

-- ---- Q

pub unpacked_q-length : (n : ℕ) (t w q : List Float) → length (unpacked_q n t w q) ≡ length q
unfolding unpacked_q
unpacked_q-length n t w q =
    cond_hold (λ s. length s ≡ length q) (work_fits n w) (assembled n t (part n (2 * n) w) q) q (λ _. assembled-length n t (part n (2 * n) w) q) refl
