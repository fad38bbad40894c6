-- What turning and splitting a block keep: the lengths of T and Q, and the entries below the diagonal, but for the block's own. Assumes nothing.
use Rattle.std.specs.Prelude.{None, Option, Some}
use Rattle.givens.specs.declared.Rotation.{Rotation}
use mathlib.Core.Path.{◌≡◌, refl, ◌∙◌}
use Prim.Native.Nat.{ℕ, ◌+◌, ◌<◌, ◌≤◌}
use mathlib.Core.List.{List}
use native.Mathlib.Omega.{arith}
use lib.ListN.{length, length-set}
use lib.Seq.{get_or-set_other}
use lib.Ieee.{Float, nan}
use Rattle.loops.specs.Constants.{zero}
use Rattle.loops.specs.Place.{place}
use Rattle.loops.proofs.Place.{places}
use Rattle.loops.specs.Rounded.{◌!◌}
use Rattle.loops.specs.Tests.{cond_hold}
use Rattle.matrix.specs.Fits.{block_fits}
use Rattle.matrix.proofs.Fitting.{fits}
use Rattle.givens.specs.Rotation.{inverse_of}
use Rattle.givens.specs.Rotated.{rotated, rotated_rows}
use Rattle.givens.proofs.Frames.{rotated-length, rotated_frame, rotated_rows-length, rotated_rows_frame}
use Rattle.pass.specs.declared.setting.Setting.{Setting}
use Rattle.pass.specs.Pair.{Pair}
use Rattle.pass.specs.Block.{block_at, basis_of, turned_t, turned_q, split_at}

-- ---- by the rotation's answer

pub turned_t-length : (n k : ℕ) (b : Option Rotation) (t : List Float) → length (turned_t n k b t) ≡ length t
unfolding turned_t
turned_t-length n k None t = refl
turned_t-length n k (Some r) t = simp (length-set, rotated_rows-length, rotated-length)

pub turned_q-length : (n k : ℕ) (b : Option Rotation) (q : List Float) → length (turned_q n k b q) ≡ length q
unfolding turned_q
turned_q-length n k None q = refl
turned_q-length n k (Some r) q = rotated_rows-length r n k n q

-- of the entries below the diagonal only the block's own is changed
turned_t_frame : (n k : ℕ) (b : Option Rotation) (t : List Float) (i j : ℕ) → k + 2 ≤ n → i < n → j < i → (i ≡ k + 1 → j ≡ k → ⊥)
    → turned_t n k b t ! place n i j ≡ t ! place n i j
unfolding turned_t
turned_t_frame n k None t i j m h l out = refl
turned_t_frame n k (Some r) t i j m h l out =
    let rows = rotated (inverse_of r) n k k n t in
    get_or-set_other (rotated_rows r n k (k + 2) rows) (place n (k + 1) k) (place n i j) zero nan (places n i j (k + 1) k h (omega arith) out)
    ∙ rotated_rows_frame r n k (k + 2) rows i j h (λ o. out (omega arith) (omega arith))
    ∙ rotated_frame (inverse_of r) n k k n t i j h (λ o. out (omega arith) (omega arith))

-- ---- a window of two

pub split_at-length : (asked : Setting) (k : ℕ) (p : Pair) → length (split_at asked k p).t ≡ length p.t
unfolding split_at
split_at-length asked k p =
    let n = asked.order in
    cond_hold (λ r. length r.t ≡ length p.t) (block_fits n (length p.t) (k + 2) (k + 2)) _ p
    (λ _. turned_t-length n k (basis_of (block_at n k p.t)) p.t) refl

pub split_at_frame : (asked : Setting) (k : ℕ) (p : Pair) (i j : ℕ) → i < asked.order → j < i → (i ≡ k + 1 → j ≡ k → ⊥)
    → (split_at asked k p).t ! place asked.order i j ≡ p.t ! place asked.order i j
unfolding split_at
split_at_frame asked k p i j h l out =
    let n = asked.order in
    cond_hold (λ r. r.t ! place n i j ≡ p.t ! place n i j) (block_fits n (length p.t) (k + 2) (k + 2)) _ p
    (λ e. turned_t_frame n k (basis_of (block_at n k p.t)) p.t i j (fits n (length p.t) (k + 2) (k + 2) e).in_rows h l out) refl
