-- A block of two rows and columns: its eigenvalues, the rotation that makes it triangular, and what that does to T
-- and Q (document 01, steps 1, 3 and 6; docs/SUMS.md, 7.2 to 7.4 and 7.8).
use Rattle.pass.specs.declared.block.Values.{Values}
use Rattle.givens.specs.declared.Rotation.{Rotation}
use Rattle.std.specs.Prelude.{ℕ, ◌+◌, cond, List, [], ◌∷◌, eqb, length, set, Float, None, Option, Some}
use Rattle.std.specs.Float.Ieee.{neg, le, lt}
use Rattle.loops.specs.Constants.{zero, one, half}
use Rattle.loops.specs.Place.{place}
use Rattle.loops.specs.Rounded.{◌⊕◌, ◌⊖◌, ◌⊗◌, ◌!◌}
use Rattle.scalar.specs.Root.{root_of}
use Rattle.scalar.specs.Sign.{modulus_of}
use Rattle.scalar.specs.Class.{is_zero}
use Rattle.matrix.specs.Fits.{block_fits}
use Rattle.givens.specs.Rotation.{inverse_of, new_of}
use Rattle.givens.specs.Rotated.{rotated, rotated_rows}
use Rattle.pass.specs.declared.block.Block.{Block}
use Rattle.pass.specs.declared.setting.Setting.{Setting}
use Rattle.pass.specs.Pair.{Pair, pair, on_q}

-- rows (h00 h01), (h10 h11): the block of T with its upper left entry at k k
unfoldable pub block_at : (n k : ℕ) → (t : List Float) → Block
block_at n k t = record {
  h00 = t ! place n k k;
  h10 = t ! place n (k + 1) k;
  h01 = t ! place n k (k + 1);
  h11 = t ! place n (k + 1) (k + 1);
}

-- ---- its eigenvalues

unfoldable pub discriminant : Block → Float
discriminant b = let val = (b.h00 ⊖ b.h11) ⊗ half in b.h10 ⊗ b.h01 ⊕ val ⊗ val

-- none are real where the discriminant is below 0 or NaN
unfoldable pub eigvals_of : Block → Option Values
eigvals_of b =
    let root = root_of (discriminant b) in
    let half_tra = (b.h00 ⊕ b.h11) ⊗ half in
    cond (le zero (discriminant b)) (Some (record { first = half_tra ⊕ root; second = half_tra ⊖ root })) None

-- ---- the rotation that makes it triangular

-- from the eigenvalue that lies further from h11: the second, unless the first is truly further
unfoldable pub basis_by : Block → Option Values → Option Rotation
basis_by b None = None
basis_by b (Some v) =
    let x1 = v.first ⊖ b.h11 in
    let x2 = v.second ⊖ b.h11 in
    Some (new_of (cond (lt (modulus_of x2) (modulus_of x1)) x1 x2) b.h10).rotation

-- a rotation to use; or the block is left standing, since it is triangular already or has no real eigenvalues
unfoldable pub basis_of : Block → Option Rotation
basis_of b = cond (is_zero b.h10) None (basis_by b (eigvals_of b))

-- ---- what it does

-- the rows k and k + 1 of T by the inverse, in all columns from k to the order; then its columns k and k + 1 in the
-- rows down to k + 1; +0 below the diagonal
unfoldable pub turned_t : (n k : ℕ) → Option Rotation → (t : List Float) → List Float
turned_t n k None t = t
turned_t n k (Some r) t = set (rotated_rows r n k (k + 2) (rotated (inverse_of r) n k k n t)) (place n (k + 1) k) zero

-- the columns k and k + 1 of Q in all its rows
unfoldable pub turned_q : (n k : ℕ) → Option Rotation → (q : List Float) → List Float
turned_q n k None q = q
turned_q n k (Some r) q = rotated_rows r n k n q

-- a window of two, at k: nothing is done where it is none of the matrix
unfoldable pub split_at : Setting → (k : ℕ) → Pair → Pair
split_at asked k p =
    let n = asked.order in
    let b = basis_of (block_at n k p.t) in
    cond (block_fits n (length p.t) (k + 2) (k + 2))
    (pair (turned_t n k b p.t) (on_q asked.wanted (turned_q n k b) p.q)) p

-- ---- order 2

-- Q is the rotation itself, or the identity
unfoldable pub columns_of : Option Rotation → List Float
columns_of None = one ∷ zero ∷ zero ∷ one ∷ []
columns_of (Some r) = r.c ∷ r.s ∷ neg r.s ∷ r.c ∷ []

-- put into Q, if it has order 2
unfoldable pub columns_in : Option Rotation → List Float → List Float
columns_in b q = cond (eqb (length q) 4) (columns_of b) q

-- no scaling and no pass; nothing is done where T has another order
unfoldable pub order_two : Setting → Pair → Pair
order_two asked p =
    let b = basis_of (block_at 2 0 p.t) in
    cond (eqb (length p.t) 4) (pair (turned_t 2 0 b p.t) (on_q asked.wanted (columns_in b) p.q)) p
