-- What holds at the head of each turn of a loop over the columns of some rows, and of one over rows: begun, one turn more, done. Assumes nothing.
use Prim.Native.Nat.{ℕ, ◌+◌, ◌*◌, ◌≤◌, ◌<◌}
use mathlib.Core.Path.{◌≡◌, sym, ap, ◌∙◌}
use mathlib.Core.List.{List}
use native.Mathlib.Nat.{add-zero}
use native.Mathlib.Omega.{arith}
use lib.ListN.{length}
use lib.Ieee.{Float}
use Rattle.matrix.specs.Entries.{in_block}
use Rattle.matrix.proofs.Blocks.{in_block_no_rows, in_block_no_columns, in_block_columns_done}
use Rattle.reflection.specs.Reflected.{mirrored_rows}
use Rattle.reflection.specs.Inner.{RowsFit}
use Rattle.reflection.proofs.RowTurn.{rows_more}

-- ---- the sums of some rows: w is what the first j columns of the axis a give, f j

pub record Summing {A : Type 0} (f : ℕ → A) (a : List Float) (end j : ℕ) (w : A) : Type 0 where
  pub whole : end ≡ length a
  pub from : 1 ≤ j
  pub within : j ≤ end
  pub sum : w ≡ f j

pub summing_begun : {A : Type 0} {f : ℕ → A} {a : List Float} {end : ℕ} {w : A} → end ≡ length a → 1 ≤ end → w ≡ f 1 → Summing f a end 1 w
summing_begun e h s = record { whole = e; from = omega arith; within = h; sum = s }

pub summing_more : {A : Type 0} {f : ℕ → A} {a : List Float} {end j : ℕ} {w u : A} → Summing f a end j w → j < end → (w ≡ f j → 1 ≤ j → u ≡ f (j + 1))
    → Summing f a end (j + 1) u
summing_more inv h s = record { whole = inv.whole; from = omega arith; within = omega arith; sum = s inv.sum inv.from }

pub summing_done : {A : Type 0} {f : ℕ → A} {a : List Float} {end j : ℕ} {w : A} → Summing f a end j w → end ≤ j → w ≡ f (length a)
summing_done {f = f} {a = a} {j = j} inv h = let e : j ≡ length a = omega arith in inv.sum ∙ ap f e

-- ---- some rows put, from i to below k: their first j columns are what the rule says

pub record Putting (a : List Float) (s : Float) (n i k c0 : ℕ) (t₀ : List Float) (end j : ℕ) (t : List Float) : Type 0 where
  pub whole : end ≡ length a
  pub within : j ≤ end
  pub size : length t ≡ n * n
  pub done : t ≡ in_block n i k c0 (c0 + j) (mirrored_rows a s n c0 t₀) t₀

pub putting_begun : {a : List Float} {s : Float} {n i k c0 : ℕ} {t : List Float} {end : ℕ} → end ≡ length a → length t ≡ n * n → Putting a s n i k c0 t end 0 t
putting_begun {a} {s} {n} {i} {k} {c0} {t} e h =
    record { whole = e; within = omega arith; size = h; done = rw add-zero (sym (in_block_no_columns n i k c0 (mirrored_rows a s n c0 t) t)) }

pub putting_more : {a : List Float} {s : Float} {n i k c0 : ℕ} {t₀ : List Float} {end j : ℕ} {t u : List Float} → Putting a s n i k c0 t₀ end j t → j < end
    → length u ≡ n * n
    → (t ≡ in_block n i k c0 (c0 + j) (mirrored_rows a s n c0 t₀) t₀ → u ≡ in_block n i k c0 (c0 + (j + 1)) (mirrored_rows a s n c0 t₀) t₀)
    → Putting a s n i k c0 t₀ end (j + 1) u
putting_more inv h l turn = record { whole = inv.whole; within = omega arith; size = l; done = turn inv.done }

pub putting_done : {a : List Float} {s : Float} {n i k c0 : ℕ} {t₀ : List Float} {end j : ℕ} {t : List Float} → Putting a s n i k c0 t₀ end j t → end ≤ j
    → t ≡ in_block n i k c0 (c0 + length a) (mirrored_rows a s n c0 t₀) t₀
putting_done {c0 = c0} inv h = inv.done ∙ in_block_columns_done _ _ _ c0 _ _ _ _ (omega arith) (omega arith) (omega arith)

-- ---- rows taken in portions, from r0 to below r1: those to below k are what the rule says

pub record Taking (a : List Float) (s : Float) (n r0 r1 c0 : ℕ) (t₀ : List Float) (k : ℕ) (t : List Float) : Type 0 where
  pub from : r0 ≤ k
  pub within : k ≤ r1
  pub size : length t ≡ n * n
  pub done : t ≡ in_block n r0 k c0 (c0 + length a) (mirrored_rows a s n c0 t₀) t₀

module _ {a : List Float} {s : Float} {n r0 r1 c0 : ℕ} {t₀ : List Float} (fits : RowsFit n r1 c0 a t₀) where
  pub taking_begun : r0 ≤ r1 → Taking a s n r0 r1 c0 t₀ r0 t₀
  taking_begun h =
      record { from = omega arith; within = h; size = fits.size; done = sym (in_block_no_rows n _ t₀ fits.size r0 c0 _ (omega arith) fits.in_cols) }

  pub taking_more : {k l : ℕ} {t u : List Float} → Taking a s n r0 r1 c0 t₀ k t → k ≤ l → l ≤ r1 → length u ≡ n * n
      → u ≡ in_block n k l c0 (c0 + length a) (mirrored_rows a s n c0 t) t → Taking a s n r0 r1 c0 t₀ l u
  taking_more {k} {l} {t} inv h m size put = record {
    from = omega arith;
    within = m;
    size = size;
    done = put ∙ rows_more a s n r0 k l c0 t₀ t fits.size inv.from h (omega arith) fits.in_cols inv.done;
  }

pub taking_done : {a : List Float} {s : Float} {n r0 r1 c0 : ℕ} {t₀ : List Float} {k : ℕ} {t : List Float} → Taking a s n r0 r1 c0 t₀ k t → r1 ≤ k
    → t ≡ in_block n r0 r1 c0 (c0 + length a) (mirrored_rows a s n c0 t₀) t₀
taking_done {r1 = r1} {k = k} inv h = let e : k ≡ r1 = omega arith in rw e at inv.done
