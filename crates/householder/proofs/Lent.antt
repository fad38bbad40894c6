-- What lent memory held is not felt: a column is cleared alike whatever the workspace held, and Q is assembled alike whatever stood in its place. Assumes
-- nothing.
use Prim.Native.Nat.{ℕ, ◌+◌, ◌*◌, ◌-◌, ◌≤◌, ◌<◌}
use mathlib.Core.Path.{◌≡◌, refl, sym, ap, ◌∙◌}
use mathlib.Core.Bool.{Bool, true, false, cond, ◌&&◌}
use mathlib.Core.List.{List}
use native.Mathlib.Omega.{arith}
use borrow.Author.Tests.{le-leb}
use lib.Dec.{leb}
use lib.ListN.{length}
use lib.Ieee.{Float, nan}
use Rattle.loops.specs.Down.{down, down_same}
use Rattle.loops.specs.Place.{Inside}
use Rattle.loops.specs.Rounded.{◌!◌}
use Rattle.scalar.specs.Sign.{signum_of}
use Rattle.matrix.specs.Fits.{block_fits}
use Rattle.matrix.specs.Sum.{lanes}
use Rattle.matrix.proofs.Fitting.{fitting}
use Rattle.matrix.proofs.Kernels.{on_entries-at, on_entries-length}
use Rattle.matrix.proofs.Blocks.{same_entries}
use Rattle.reflection.specs.Reflected.{reflected}
use Rattle.householder.specs.Assembled.{identity, with_axis, assembled}
use Rattle.householder.specs.Cleared.{Cleared, below_row, cleared, cleared_here, clear_of}

-- ---- a column cleared, with one workspace or another of the same length

pub record SameCleared (x y : Cleared) : Type 0 where
  pub matrix : x.matrix ≡ y.matrix
  pub norm : x.norm ≡ y.norm

pub clear_lent : (n k : ℕ) (t w w' : List Float) → length w ≡ length w' → SameCleared (clear_of n k t w) (clear_of n k t w')
unfolding clear_of cleared_here
clear_lent n k t w w' e = rw e (go (block_fits n (length t) (k + 2) (k + 2) && leb n (length w')))
  where
    go : (b : Bool) → SameCleared (cond b (cleared_here n k t w) (cleared nan t w)) (cond b (cleared_here n k t w') (cleared nan t w'))
    go true = record { matrix = refl; norm = refl }
    go false = record { matrix = refl; norm = refl }

-- ---- Q assembled, in the place of one matrix or another

identity_lent : (n : ℕ) (q q' : List Float) → n ≤ 64 → length q ≡ n * n → length q' ≡ n * n → identity n q ≡ identity n q'
unfolding identity
identity_lent n q q' order size size' =
    same_entries n _ _ (on_entries-length n 0 n 0 n _ q ∙ size) (on_entries-length n 0 n 0 n _ q' ∙ size')
    (λ i j a b.
    let inside : Inside 0 n 0 n i j = omega arith in
    on_entries-at n 0 n 0 n _ q i j order size (omega arith) (omega arith) inside
    ∙ sym (on_entries-at n 0 n 0 n _ q' i j order size' (omega arith) (omega arith) inside))

-- of the signs only those of the columns but the last are read
pub assembled_lent : (n : ℕ) (m s s' q q' : List Float) → n ≤ 64 → length m ≡ n * n → length q ≡ n * n → length q' ≡ n * n → n - 1 ≤ length s
    → n - 1 ≤ length s' → ((i : ℕ) → i < n - 1 → s ! i ≡ s' ! i) → assembled n m s q ≡ assembled n m s' q'
unfolding assembled with_axis
assembled_lent n m s s' q q' order size size_q size_q' enough enough' same =
    rw (
      fitting n (length m) n n order size (omega arith) (omega arith),
      fitting n (length q) n n order size_q (omega arith) (omega arith),
      fitting n (length q') n n order size_q' (omega arith) (omega arith),
      le-leb (n - 1) (length s) enough,
      le-leb (n - 1) (length s') enough',
    )
    (ap (down (with_axis n m s) (n - 1)) (identity_lent n q q' order size_q size_q')
    ∙ down_same (with_axis n m s) (with_axis n m s') (n - 1) (identity n q')
    (λ i x l. ap (λ z. reflected lanes (below_row n i m) (signum_of z) n (i + 1) i n x) (same i l)))
