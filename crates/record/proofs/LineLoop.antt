-- The loop over lines: of `all` lines k are put on the page, none longer than `most`. And the row and the column of a line's entry. Assumes nothing.
use Prim.Native.Nat.{ℕ, zero, suc, ◌+◌, ◌*◌, ◌/◌, ◌%◌, ◌<◌, ◌≤◌}
use mathlib.Core.Path.{◌≡◌, sym}
use mathlib.Core.List.{List, ◌++◌}
use native.Mathlib.Nat.{mul-add, mod-lt, div-lt_iff_lt-mul}
use native.Mathlib.Numerals.{add-one}
use native.Mathlib.Omega.{arith}
use Rattle.record.specs.Text.{joined}
use Rattle.record.specs.declared.page.Page.{Page as LentPage}
use Rattle.record.specs.Lent.{Puts}
use Rattle.record.proofs.Paging.{none_puts, puts_as, puts_within, both_puts}

pub record Listing (line : ℕ → List ℕ) (most all : ℕ) (before : LentPage) (k : ℕ) (after : LentPage) : Type 0 where
  pub upto : k ≤ all
  pub done : Puts (joined line k) (most * k) before after

pub listing_none : (line : ℕ → List ℕ) (most all : ℕ) (p : LentPage) → Listing line most all p 0 p
unfolding joined
listing_none line most all p = record { upto = omega arith; done = puts_within (omega arith) (none_puts p) }

joined_more : (line : ℕ → List ℕ) (k : ℕ) → joined line (k + 1) ≡ joined line k ++ line k
unfolding joined
joined_more line k = rw add-one

pub listing_more : {line : ℕ → List ℕ} {most all k : ℕ} {p q r : LentPage} → Listing line most all p k q → k < all → Puts (line k) most q r
    → Listing line most all p (k + 1) r
listing_more {line} {most} {k = k} l some put = record {
  upto = omega arith;
  done = puts_as (sym (joined_more line k)) (puts_within (omega (arith, mul-add most k 1)) (both_puts l.done put));
}

-- after the last line
pub listing_all : {line : ℕ → List ℕ} {most all k : ℕ} {p q : LentPage} → Listing line most all p k q → all ≤ k → Puts (joined line all) (most * all) p q
listing_all {all = all} {k = k} l h = let e : k ≡ all = omega arith in rw e at l.done

-- entry k of a matrix of order n, column by column
pub record Spot (n k : ℕ) : Type 0 where
  pub some : 0 < n
  pub row : k % n < n
  pub col : k / n < n

pub spot : (n k : ℕ) → k < n * n → Spot n k
spot zero k h = absurd (omega arith)
spot (suc n) k h = record { some = omega arith; row = mod-lt k (omega arith); col = (div-lt_iff_lt-mul {k = suc n} {x = k} {y = suc n} (omega arith)).1 h }
