-- A pass, a split and order 2 keep the lengths of T and Q. Assumes nothing.
use Rattle.std.specs.Prelude.{None, Option, Some}
use Rattle.givens.specs.declared.Rotation.{Rotation}
use Prim.Native.Nat.{ℕ, ◌+◌, ◌-◌}
use mathlib.Core.Bool.{Bool, ◌&&◌}
use mathlib.Core.Path.{◌≡◌, refl, sym, ◌∙◌}
use mathlib.Core.List.{List}
use borrow.Author.Tests.{eqb-true}
use lib.Dec.{eqb, leb}
use lib.ListN.{length}
use lib.Ieee.{Float}
use Rattle.loops.specs.Constants.{one}
use Rattle.loops.specs.Tests.{cond_hold}
use Rattle.loops.specs.Times.{range, range_hold}
use Rattle.matrix.specs.Fits.{block_fits}
use Rattle.matrix.specs.Sum.{bare}
use Rattle.reflection.specs.Reflected.{reflected_rows}
use Rattle.reflection.proofs.Frames.{reflected-length, reflected_rows-length}
use Rattle.householder.specs.Axis.{axis_of}
use Rattle.window.specs.declared.Window.{Window}
use Rattle.pass.specs.declared.setting.Setting.{Setting}
use Rattle.pass.specs.Pair.{Pair, pair, on_q}
use Rattle.pass.specs.Pass.{first_column, bulge, column_at, swept, swept_past, reflected_at, rows_at, step_at, chased, closing, pass_here, pass_of}
use Rattle.pass.specs.Block.{block_at, basis_of, turned_t, turned_q, split_at, columns_of, columns_in, order_two}
use Rattle.pass.proofs.BlockFrames.{turned_t-length, turned_q-length}
use Rattle.pass.proofs.Swept.{swept-length}

-- r has as many entries as p, in T and in Q
pub record AsLong (p r : Pair) : Type 0 where
  pub t : length r.t ≡ length p.t
  pub q : length r.q ≡ length p.q

pub same_long : (p : Pair) → AsLong p p
same_long p = record { t = refl; q = refl }

pub then_long : {p r s : Pair} → AsLong p r → AsLong r s → AsLong p s
then_long h k = record { t = k.t ∙ h.t; q = k.q ∙ h.q }

-- Q, if it is wanted
pub on_q-length : (wanted : Bool) (f : List Float → List Float) (q : List Float) → length (f q) ≡ length q → length (on_q wanted f q) ≡ length q
on_q-length wanted f q h = cond_hold (λ s. length s ≡ length q) wanted (f q) q (λ _. h) refl

-- ---- one step of a pass

pub swept_past-length : (n s k rows : ℕ) (x : Float) (t : List Float) → length (swept_past n s k rows x t) ≡ length t
unfolding swept_past
swept_past-length n s k rows x t = cond_hold (λ u. length u ≡ length t) (leb k s) t (swept n k rows x t) (λ _. refl) (swept-length n k rows x t)

reflected_at_length : (asked : Setting) (k rows : ℕ) (a : List Float) (p : Pair) → AsLong p (reflected_at asked k rows a p)
unfolding reflected_at
reflected_at_length asked k rows a p =
    let n = asked.order in
    record {
      t = simp (reflected_rows-length, reflected-length);
      q = on_q-length asked.wanted (reflected_rows a one n n k) p.q (reflected_rows-length a one n n k p.q);
    }

step_at_length : (asked : Setting) (w : Window) (k : ℕ) (c : List Float) (p : Pair) → AsLong p (step_at asked w k c p)
unfolding step_at
step_at_length asked w k c p =
    let r = axis_of bare c in
    let rows = rows_at k w.end in
    let here = pair (swept_past asked.order w.start k (length c) r.norm p.t) p.q in
    cond_hold (AsLong p) r.reflected (reflected_at asked k rows r.axis here) p
    (λ _. then_long (record { t = swept_past-length asked.order w.start k (length c) r.norm p.t; q = refl })
    (reflected_at_length asked k rows r.axis here)) (same_long p)

-- ---- the pass

chased_length : (asked : Setting) (w : Window) (first : List Float) (k : ℕ) (p : Pair) → AsLong p (chased asked w first k p)
unfolding chased
chased_length asked w first k p = step_at_length asked w k (column_at asked.order w.start k first p.t) p

closing_length : (asked : Setting) (w : Window) (p : Pair) → AsLong p (closing asked w p)
unfolding closing
closing_length asked w p = step_at_length asked w (w.end - 1) (bulge asked.order (w.end - 1) 2 p.t) p

pass_here_length : (asked : Setting) (w : Window) (p : Pair) → AsLong p (pass_here asked w p)
unfolding pass_here
pass_here_length asked w p =
    let s = w.start in
    let e = w.end in
    let first = first_column asked.order s e p.t in
    then_long (range_hold (AsLong p) (chased asked w first) s (e - 1) p (λ k r _ _ h. then_long h (chased_length asked w first k r)) (same_long p))
    (closing_length asked w (range (chased asked w first) s (e - 1) p))

pub pass_of_length : (asked : Setting) (w : Window) (p : Pair) → AsLong p (pass_of asked w p)
unfolding pass_of
pass_of_length asked w p =
    cond_hold (AsLong p) (block_fits asked.order (length p.t) (w.end + 1) (w.end + 1) && leb (w.start + 2) w.end) (pass_here asked w p) p
    (λ _. pass_here_length asked w p) (same_long p)

-- ---- a block of two, and order 2

pub split_length : (asked : Setting) (k : ℕ) (p : Pair) → AsLong p (split_at asked k p)
unfolding split_at
split_length asked k p =
    let n = asked.order in
    let b = basis_of (block_at n k p.t) in
    cond_hold (AsLong p) (block_fits n (length p.t) (k + 2) (k + 2)) (pair (turned_t n k b p.t) (on_q asked.wanted (turned_q n k b) p.q)) p
    (λ _. record { t = turned_t-length n k b p.t; q = on_q-length asked.wanted (turned_q n k b) p.q (turned_q-length n k b p.q) }) (same_long p)

columns_of-length : (b : Option Rotation) → length (columns_of b) ≡ 4
unfolding columns_of
columns_of-length None = refl
columns_of-length (Some r) = refl

columns_in-length : (b : Option Rotation) (q : List Float) → length (columns_in b q) ≡ length q
unfolding columns_in
columns_in-length b q = cond_hold (λ s. length s ≡ length q) (eqb (length q) 4) (columns_of b) q (λ h. columns_of-length b ∙ sym (eqb-true _ _ h)) refl

pub order_two_length : (asked : Setting) (p : Pair) → AsLong p (order_two asked p)
unfolding order_two
order_two_length asked p =
    let b = basis_of (block_at 2 0 p.t) in
    cond_hold (AsLong p) (eqb (length p.t) 4) (pair (turned_t 2 0 b p.t) (on_q asked.wanted (columns_in b) p.q)) p
    (λ _. record { t = turned_t-length 2 0 b p.t; q = on_q-length asked.wanted (columns_in b) p.q (columns_in-length b p.q) }) (same_long p)
