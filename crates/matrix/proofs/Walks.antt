-- A kernel's loop from its guard to its last turn. `Down` goes along the columns from c0 to below c1 and rewrites the same rows of each;
-- `Across` goes along the rows from 0 to below r1 and rewrites the same columns of each. Each has four laws: the guard refused, so nothing is
-- done; the loop begun; one turn more; the loop done, so that the memory is the kernel's `on_entries`. Assumes nothing.
use Prim.Native.Nat.{ℕ, ◌+◌, ◌*◌, ◌<◌, ◌≤◌, max}
use mathlib.Core.Bool.{Bool, true, false, not}
use mathlib.Core.Path.{◌≡◌, sym, ◌∙◌}
use mathlib.Core.List.{List}
use native.Mathlib.Omega.{arith}
use lib.ListN.{length}
use lib.Ieee.{Float}
use Rattle.matrix.specs.Fits.{block_fits}
use Rattle.matrix.specs.Entries.{Rule, in_block, on_entries}
use Rattle.matrix.proofs.Fitting.{Fits, within, outside, from_column_0, from_row_0}
use Rattle.matrix.proofs.Blocks.{in_block-length, in_block_no_rows, in_block_no_columns, in_block_columns_done, in_block_rows_done}
use Rattle.matrix.proofs.Kernels.{on_entries_does}

refused : {r : Bool} (n r0 r1 c0 c1 : ℕ) (g : Rule) (t : List Float) → r ≡ block_fits n (length t) r1 c1 → not r ≡ true → t ≡ on_entries n r0 r1 c0 c1 g t
unfolding on_entries
refused n r0 r1 c0 c1 g t e h = rw (outside e h)

-- ---- along the columns

-- before column j: what the loop has made of the matrix t₀ is t
pub record Down (n r0 r1 c0 c1 : ℕ) (g : Rule) (t₀ : List Float) (j : ℕ) (t : List Float) : Type 0 where
  pub fits : Fits n (length t₀) r1 c1
  pub from : c0 ≤ j
  pub upto : j ≤ max c0 c1
  pub size : length t ≡ n * n
  pub done : t ≡ in_block n r0 r1 c0 j g t₀

module _ {r : Bool} (n r0 r1 c0 c1 : ℕ) (g : Rule) (t : List Float) (e : r ≡ block_fits n (length t) r1 (0 + c1)) where
  pub down_refused : not r ≡ true → t ≡ on_entries n r0 r1 c0 c1 g t
  down_refused h = refused n r0 r1 c0 c1 g t (from_column_0 _ _ _ _ e) h

  pub down_begun : not r ≡ false → Down n r0 r1 c0 c1 g t c0 t
  down_begun h =
      let f = within n (length t) r1 c1 (from_column_0 _ _ _ _ e) h in
      record { fits = f; from = omega arith; upto = omega arith; size = f.size; done = sym (in_block_no_columns n r0 r1 c0 g t) }

pub down_more : {n r0 r1 c0 c1 : ℕ} {g : Rule} {t₀ : List Float} {j : ℕ} {t s : List Float} → Down n r0 r1 c0 c1 g t₀ j t → j < c1
    → s ≡ in_block n r0 r1 c0 (j + 1) g t₀ → Down n r0 r1 c0 c1 g t₀ (j + 1) s
down_more {n} {r0} {r1} {c0} {c1} {g} {t₀} {j} d h e =
    let kept : length (in_block n r0 r1 c0 (j + 1) g t₀) ≡ length t₀ = in_block-length n r0 r1 c0 (j + 1) g t₀ in
    record { fits = d.fits; from = omega arith; upto = omega arith; size = rw e (kept ∙ d.fits.size); done = e }

pub down_done : {n r0 r1 c0 c1 : ℕ} {g : Rule} {t₀ : List Float} {j : ℕ} {t : List Float} → Down n r0 r1 c0 c1 g t₀ j t → c1 ≤ j
    → t ≡ on_entries n r0 r1 c0 c1 g t₀
down_done {n} {r0} {r1} {c0} {c1} {g} {t₀} {j} d h =
    let f = d.fits in
    d.done
    ∙ in_block_columns_done n r0 r1 c0 c1 j g t₀ d.from d.upto h
    ∙ sym (on_entries_does n r0 r1 c0 c1 g t₀ f.order f.size f.in_rows f.in_cols)

-- ---- along the rows

-- before row i: what the loop has made of the matrix t₀ is t
pub record Across (n r1 c0 c1 : ℕ) (g : Rule) (t₀ : List Float) (i : ℕ) (t : List Float) : Type 0 where
  pub fits : Fits n (length t₀) r1 c1
  pub upto : i ≤ r1
  pub size : length t ≡ n * n
  pub done : t ≡ in_block n 0 i c0 c1 g t₀

module _ {r : Bool} (n r1 c0 c1 : ℕ) (g : Rule) (t : List Float) (e : r ≡ block_fits n (length t) (0 + r1) c1) where
  pub across_refused : not r ≡ true → t ≡ on_entries n 0 r1 c0 c1 g t
  across_refused h = refused n 0 r1 c0 c1 g t (from_row_0 _ _ _ _ e) h

  pub across_begun : not r ≡ false → Across n r1 c0 c1 g t 0 t
  across_begun h =
      let f = within n (length t) r1 c1 (from_row_0 _ _ _ _ e) h in
      record { fits = f; upto = omega arith; size = f.size; done = sym (in_block_no_rows n g t f.size 0 c0 c1 (omega arith) f.in_cols) }

-- to row k: one row more, or several
pub across_more : {n r1 c0 c1 : ℕ} {g : Rule} {t₀ : List Float} {i k : ℕ} {t s : List Float} → Across n r1 c0 c1 g t₀ i t → k ≤ r1
    → s ≡ in_block n 0 k c0 c1 g t₀ → Across n r1 c0 c1 g t₀ k s
across_more {n} {r1} {c0} {c1} {g} {t₀} {i} {k} d h e =
    let kept : length (in_block n 0 k c0 c1 g t₀) ≡ length t₀ = in_block-length n 0 k c0 c1 g t₀ in
    record { fits = d.fits; upto = h; size = rw e (kept ∙ d.fits.size); done = e }

pub across_done : {n r1 c0 c1 : ℕ} {g : Rule} {t₀ : List Float} {i : ℕ} {t : List Float} → Across n r1 c0 c1 g t₀ i t → r1 ≤ i → t ≡ on_entries n 0 r1 c0 c1 g t₀
across_done {n} {r1} {c0} {c1} {g} {t₀} {i} d h =
    let f = d.fits in
    d.done
    ∙ in_block_rows_done n r1 c0 c1 i g t₀ d.upto h
    ∙ sym (on_entries_does n 0 r1 c0 c1 g t₀ f.order f.size f.in_rows f.in_cols)
