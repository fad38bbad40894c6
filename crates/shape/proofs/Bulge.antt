-- One step of a pass: the bulge moves on by one row and column, unless the axis was not zero and its squares vanished. What the numbers are plays
-- no part: NaN and infinities are swept like any other. Assumes nothing.
use Prim.Native.Nat.{ℕ, ◌+◌, ◌-◌, ◌*◌, ◌<◌, ◌≤◌}
use mathlib.Core.Bool.{true, false, cond, false≢true}
use mathlib.Core.Path.{◌≡◌, refl, sym, ap, ◌∙◌}
use mathlib.Core.List.{List}
use native.Mathlib.Decide.{dec_lt}
use native.Mathlib.Omega.{arith}
use borrow.Author.Tests.{leb-true, leb-false}
use lib.Dec.{leb}
use lib.ListN.{length}
use lib.Ieee.{Float}
use Rattle.loops.specs.Constants.{one}
use Rattle.loops.specs.Place.{place}
use Rattle.loops.specs.Tests.{cond_both}
use Rattle.loops.specs.Rounded.{◌!◌}
use Rattle.scalar.specs.Class.{is_zero}
use Rattle.matrix.specs.Sum.{bare}
use Rattle.reflection.specs.Reflected.{reflected, reflected_rows}
use Rattle.reflection.proofs.Frames.{reflected-length, reflected_frame, reflected_rows-length, reflected_rows_frame}
use Rattle.householder.specs.Axis.{Way, way_reflected, way_all_zero, way_too_small, way_of, in_way}
use Rattle.householder.proofs.Ways.{axis_length, axis_way, way_zero}
use Rattle.window.specs.declared.Window.{Window}
use Rattle.pass.specs.declared.setting.Setting.{Setting}
use Rattle.pass.specs.Pair.{Pair, pair}
use Rattle.pass.specs.Pass.{swept, swept_past, reflected_at, rows_at, step_at}
use Rattle.pass.proofs.Swept.{swept_frame, swept-zero}
use Rattle.pass.proofs.Lengths.{swept_past-length}
use Rattle.shape.specs.Vanished.{is_too_small, too_small}
use Rattle.shape.proofs.Zeros.{zero_is}

-- ---- the step

-- T before the step at k of a pass over the rows from s to e: zero two or more places below the diagonal, but for the bulge. That stands, past the first
-- step, in the columns k - 1 and k, down to row k + 2 and to the window's end.
abbrev pub Bulging : (n s e k : ℕ) → (t : List Float) → Type 0
Bulging n s e k t = (i j : ℕ) → i < n → j + 2 ≤ i → (s < k → k ≤ j + 1 → i ≤ k + 2 → i ≤ e → ⊥) → is_zero (t ! place n i j) ≡ true

-- where such a step reaches, by a column of two or three numbers: to the window's end, and over all of the bulge in column k - 1
pub record Reach (n s e k len : ℕ) : Type 0 where
  pub begun : s ≤ k
  pub room : e < n
  pub some : 0 < len
  pub short : len ≤ 3
  pub fits : k + len ≤ e + 1
  pub covers : (i : ℕ) → i ≤ k + 2 → i ≤ e → i < k + len

-- past the first step the column is the bulge's
abbrev pub Column : (n s k : ℕ) → (c t : List Float) → Type 0
Column n s k c t = s < k → (m : ℕ) → m < length c → c ! m ≡ t ! place n (k + m) (k - 1)

-- both sides reflected by the axis a, in as many rows as the step at k does in a window that ends at e
abbrev mirrored : (n k e : ℕ) → (a u : List Float) → List Float
mirrored n k e a u = reflected_rows a one n (rows_at k e) k (reflected bare a one n k k n u)

module _ (n s e k : ℕ) (c t : List Float) (d : Reach n s e k (length c)) (size : length t ≡ n * n) where
  -- T after the sweep
  abbrev past : Float → List Float
  past x = swept_past n s k (length c) x t

  past-length : (x : Float) → length (past x) ≡ n * n
  past-length x = swept_past-length n s k (length c) x t ∙ size

  -- a column right of the one that is swept
  past_right : (x : Float) (i j : ℕ) → i < n → k ≤ j → past x ! place n i j ≡ t ! place n i j
  unfolding swept_past
  past_right x i j h l =
      cond_both (λ u. u ! place n i j ≡ t ! place n i j) (leb k s) t (swept n k (length c) x t) (λ _. refl)
      (λ e. let past_first = leb-false k s e in swept_frame n k (length c) x t i j h (omega arith) d.some (λ u v w. omega arith))

  -- left of column k the bulge has gone
  past_left : (x : Float) → Bulging n s e k t → (i j : ℕ) → i < n → j + 2 ≤ i → j < k → is_zero (past x ! place n i j) ≡ true
  unfolding swept_past
  past_left x z i j h l m =
      cond_both (λ u. is_zero (u ! place n i j) ≡ true) (leb k s) t (swept n k (length c) x t)
      (λ e. let first = leb-true k s e in z i j h l (λ u _ _ _. omega arith))
      (λ e. go (leb-false k s e) (dec_lt (j + 1) k) (dec_lt i (k + length c)))
    where
      go : s < k → Dec (j + 1 < k) → Dec (i < k + length c) → is_zero (swept n k (length c) x t ! place n i j) ≡ true
      go p (yes u) v =
          ap is_zero (swept_frame n k (length c) x t i j h (omega arith) d.some (λ o _ _. omega arith)) ∙ z i j h l (λ _ o _ _. omega arith)
      go p (no u) (yes v) =
          let q : j ≡ k - 1 = omega arith in
          rw q (ap is_zero (swept-zero n k (length c) x t i size (omega arith) (omega arith) v) ∙ zero_is)
      go p (no u) (no v) =
          ap is_zero (swept_frame n k (length c) x t i j h (omega arith) d.some (λ _ _ o. omega arith))
          ∙ z i j h l (λ _ _ o w. v (d.covers i o w))

  -- an entry that neither side reaches, by an axis of that length
  mirrored_frame : (a u : List Float) (i j : ℕ) → length a ≡ length c → i < n → (k ≤ j → i < rows_at k e → ⊥)
      → (k ≤ j → k ≤ i → i < k + length c → ⊥) → mirrored n k e a u ! place n i j ≡ u ! place n i j
  mirrored_frame a u i j q h out off =
      reflected_rows_frame a one n (rows_at k e) k (reflected bare a one n k k n u) i j h (λ o. out (omega arith) (omega arith))
      ∙ reflected_frame bare a one n k k n u i j h (λ o. off (omega arith) (omega arith) (omega arith))

  made_bulge : (a : List Float) (x : Float) → length a ≡ length c → Bulging n s e k t → Bulging n s e (k + 1) (mirrored n k e a (past x))
  made_bulge a x q z i j h l out = go (dec_lt j k) (dec_lt e i) (dec_lt (k + 3) i)
    where
      -- a row that neither side reaches
      off : k ≤ j → (k + 3 < i → ⊥) → (e < i → ⊥) → ⊥
      off u v w = out (omega arith) (omega arith) (omega arith) (omega arith)

      go : Dec (j < k) → Dec (e < i) → Dec (k + 3 < i) → is_zero (mirrored n k e a (past x) ! place n i j) ≡ true
      go (yes u) v w = ap is_zero (mirrored_frame a (past x) i j q h (λ o _. omega arith) (λ o _ _. omega arith)) ∙ past_left x z i j h l u
      go (no u) (yes v) w =
          ap is_zero (mirrored_frame a (past x) i j q h (λ _ o. omega arith) (λ _ _ o. omega arith) ∙ past_right x i j h (omega arith))
          ∙ z i j h l (λ _ _ _ o. omega arith)
      go (no u) (no v) (yes w) =
          ap is_zero (mirrored_frame a (past x) i j q h (λ _ o. omega arith) (λ _ _ o. omega arith) ∙ past_right x i j h (omega arith))
          ∙ z i j h l (λ _ _ o _. omega arith)
      go (no u) (no v) (no w) = absurd (off (omega arith) w v)

  -- no reflection, since the column is zero throughout
  still_bulge : Column n s k c t → ((m : ℕ) → m < length c → is_zero (c ! m) ≡ true) → Bulging n s e k t → Bulging n s e (k + 1) t
  still_bulge holds zeros z i j h l out = go (dec_lt s k) (dec_lt (j + 1) k) (dec_lt (k + 2) i) (dec_lt e i)
    where
      go : Dec (s < k) → Dec (j + 1 < k) → Dec (k + 2 < i) → Dec (e < i) → is_zero (t ! place n i j) ≡ true
      go (no u) v w y = z i j h l (λ o _ _ _. u o)
      go (yes u) (yes v) w y = z i j h l (λ _ o _ _. omega arith)
      go (yes u) (no v) (yes w) y = z i j h l (λ _ _ o _. omega arith)
      go (yes u) (no v) (no w) (yes y) = z i j h l (λ _ _ _ o. omega arith)
      go (yes u) (no v) (no w) (no y) = column (dec_lt j k)
        where
          column : Dec (j < k) → is_zero (t ! place n i j) ≡ true
          column (yes x) =
              let a : j ≡ k - 1 = omega arith in
              let b : k + (i - k) ≡ i = omega arith in
              let inside : i < k + length c = d.covers i (omega arith) (omega arith) in
              let at = holds u (i - k) (omega arith) in
              rw a (rw (at, b) at (zeros (i - k) (omega arith)))
          column (no x) = absurd (out (omega arith) (omega arith) (omega arith) (omega arith))

  -- below the window's end nothing is touched
  past_below : (x : Float) (i j : ℕ) → i < n → e < i → past x ! place n i j ≡ t ! place n i j
  unfolding swept_past
  past_below x i j h l =
      cond_both (λ u. u ! place n i j ≡ t ! place n i j) (leb k s) t (swept n k (length c) x t) (λ _. refl)
      (λ _. swept_frame n k (length c) x t i j h (omega arith) d.some (λ _ _ o. omega arith))

  made_below : (a : List Float) (x : Float) (i j : ℕ) → length a ≡ length c → i < n → e < i
      → mirrored n k e a (past x) ! place n i j ≡ t ! place n i j
  made_below a x i j q h l =
      mirrored_frame a (past x) i j q h (λ _ o. omega arith) (λ _ _ o. omega arith) ∙ past_below x i j h l

-- what holds of T as it was, if the column is zero throughout, and of T swept and reflected, holds after the step
module _ (P : List Float → Type 0) (asked : Setting) (w : Window) (k : ℕ) (c : List Float) (p : Pair) where
  abbrev n : ℕ
  n = asked.order

  -- T swept, and reflected by an axis
  abbrev made : List Float → Float → List Float
  made a x = mirrored n k w.end a (swept_past n w.start k (length c) x p.t)

  -- the step in one of the axis's ways
  abbrev step_in : Way → Pair
  step_in v =
      let r = in_way bare c v in
      cond r.reflected (reflected_at asked k (rows_at k w.end) r.axis (pair (swept_past n w.start k (length c) r.norm p.t) p.q)) p

  by_way : (v : Way) → way_of bare c ≡ v → is_too_small v ≡ false → (way_of bare c ≡ way_all_zero → P p.t)
      → ((a : List Float) (x : Float) → length a ≡ length (in_way bare c (way_of bare c)).axis → P (made a x)) → P (step_in v).t
  unfolding in_way reflected_at is_too_small
  by_way way_reflected e h still moved = moved _ _ (ap (λ v. length (in_way bare c v).axis) (sym e))
  by_way way_all_zero e h still moved = still e
  by_way way_too_small e h still moved = absurd (false≢true (sym h))

  step_hold : 0 < length c → too_small c ≡ false → (((m : ℕ) → m < length c → is_zero (c ! m) ≡ true) → P p.t)
      → ((a : List Float) (x : Float) → length a ≡ length c → P (made a x)) → P (step_at asked w k c p).t
  unfolding step_at too_small
  step_hold some h still moved =
      let way = axis_way bare c some in
      rw way (by_way (way_of bare c) refl h (λ e. still (λ m. way_zero bare c m e))
      (λ a x q. moved a x (q ∙ sym (ap (λ r. length r.axis) way) ∙ axis_length bare c)))

-- ---- all of it

-- T before the step at k, where t₀ is what it was before the pass
pub record Chased (n s e k : ℕ) (t₀ t : List Float) : Type 0 where
  pub size : length t ≡ n * n
  pub bulge : Bulging n s e k t
  pub below : (i j : ℕ) → i < n → e < i → t ! place n i j ≡ t₀ ! place n i j

pub step_chased : (asked : Setting) (w : Window) (k : ℕ) (c t₀ : List Float) (p : Pair) → Reach asked.order w.start w.end k (length c)
    → Column asked.order w.start k c p.t → too_small c ≡ false → Chased asked.order w.start w.end k t₀ p.t
    → Chased asked.order w.start w.end (k + 1) t₀ (step_at asked w k c p).t
step_chased asked w k c t₀ p d holds h z =
    let n = asked.order in
    let s = w.start in
    let e = w.end in
    step_hold (Chased n s e (k + 1) t₀) asked w k c p d.some h
    (λ zeros. record { size = z.size; bulge = still_bulge n s e k c p.t d z.size holds zeros z.bulge; below = z.below })
    (λ a x q. record {
      size = reflected_rows-length _ _ _ _ _ _ ∙ reflected-length _ _ _ _ _ _ _ _ ∙ past-length n s e k c p.t d z.size x;
      bulge = made_bulge n s e k c p.t d z.size a x q z.bulge;
      below = λ i j u v. made_below n s e k c p.t d z.size a x i j q u v ∙ z.below i j u v;
    })
