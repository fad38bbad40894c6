-- A window of two: splitting it changes one entry below the diagonal, and so the end may fall by two. Assumes nothing.
use Prim.Native.Nat.{ℕ, ◌+◌, ◌-◌, ◌*◌, ◌<◌, ◌≤◌}
use mathlib.Core.Bool.{true, ◌||◌}
use mathlib.Core.Path.{◌≡◌, refl, ap, ◌∙◌, subst}
use mathlib.Core.List.{List}
use native.Mathlib.Decide.{dec_lt}
use native.Mathlib.Omega.{arith}
use borrow.Author.Tests.{leb-true, leb-false}
use lib.Dec.{leb}
use lib.ListN.{length}
use lib.Ieee.{Float}
use Rattle.loops.specs.Place.{place}
use Rattle.loops.specs.Rounded.{◌!◌}
use Rattle.loops.specs.Tests.{cond_both}
use Rattle.scalar.specs.Class.{is_zero}
use Rattle.window.specs.Window.{window}
use Rattle.pass.specs.declared.setting.Setting.{Setting}
use Rattle.pass.specs.Pair.{Pair}
use Rattle.pass.specs.Block.{split_at}
use Rattle.pass.proofs.BlockFrames.{split_at-length, split_at_frame}
use Rattle.schur.specs.declared.run.State.{State}
use Rattle.schur.specs.Run.{Running, delimiting, after, turn_two}
use Rattle.shape.proofs.Zeros.{either_first, either_second, either_keeps}
use Rattle.shape.proofs.Delimited.{ShapedFrom, Open, Sound, delimit_sound}

-- ---- from where on T has the shape then: t becomes u, and of the entries below the diagonal only that of row s + 1 and column s differs

module _ (n s : ℕ) (t u : List Float) (z : ShapedFrom n (s + 1) t) (start : 0 < s → is_zero (t ! place n s (s - 1)) ≡ true)
    (same : (i j : ℕ) → i < n → j < i → (i ≡ s + 1 → j ≡ s → ⊥) → u ! place n i j ≡ t ! place n i j) where
  zero_still : (i j : ℕ) → i < n → j < i → (i ≡ s + 1 → j ≡ s → ⊥) → is_zero (t ! place n i j) ≡ true → is_zero (u ! place n i j) ≡ true
  zero_still i j h l out e = ap is_zero (same i j h l out) ∙ e

  split_far : (i j : ℕ) → i < n → j + 2 ≤ i → is_zero (u ! place n i j) ≡ true
  split_far i j h l = zero_still i j h (omega arith) (λ x y. omega arith) (z.far i j h l)

  -- the entry that cuts the window off, named by its column
  cutting : (k : ℕ) → k + 1 ≡ s → k + 2 < n → is_zero (u ! place n (k + 1) k) ≡ true
  cutting k q l =
      let r : s - 1 ≡ k = omega arith in
      let at : is_zero (t ! place n (k + 1) k) ≡ true = rw (r, ← q) at (start (omega arith)) in
      zero_still (k + 1) k (omega arith) (omega arith) (λ x y. omega arith) at

  split_near : (k : ℕ) → s ≤ k + 1 → k + 2 < n → (is_zero (u ! place n (k + 1) k) || is_zero (u ! place n (k + 2) (k + 1))) ≡ true
  split_near k h l = go (dec_lt k s) (dec_lt s k)
    where
      go : Dec (k < s) → Dec (s < k) → (is_zero (u ! place n (k + 1) k) || is_zero (u ! place n (k + 2) (k + 1))) ≡ true
      go (yes a) b = either_first (is_zero (u ! place n (k + 1) k)) (is_zero (u ! place n (k + 2) (k + 1))) (cutting k (omega arith) l)
      go (no a) (yes b) =
          either_keeps (is_zero (t ! place n (k + 1) k)) (is_zero (t ! place n (k + 2) (k + 1)))
          (is_zero (u ! place n (k + 1) k)) (is_zero (u ! place n (k + 2) (k + 1)))
          (zero_still (k + 1) k (omega arith) (omega arith) (λ x y. omega arith))
          (zero_still (k + 2) (k + 1) l (omega arith) (λ x y. omega arith)) (z.near k (omega arith) l)
      go (no a) (no b) =
          let q : k ≡ s = omega arith in
          let e : s + 1 + 1 ≡ s + 2 = omega arith in
          let at : is_zero (t ! place n (s + 2) (s + 1)) ≡ true = rw e at (z.end (omega arith)) in
          rw q (either_second (is_zero (u ! place n (s + 1) s)) (is_zero (u ! place n (s + 2) (s + 1)))
          (zero_still (s + 2) (s + 1) (omega arith) (omega arith) (λ x y. omega arith) at))

  -- above row 0: the end falls to the row above s
  split_shaped : 0 < s → length u ≡ n * n → ShapedFrom n (s - 1) u
  split_shaped l size =
      let q : s - 1 + 1 ≡ s = omega arith in
      record {
        size = size;
        far = split_far;
        end = end_there q;
        near = λ k h m. split_near k (omega arith) m;
      }
    where
      end_there : s - 1 + 1 ≡ s → s - 1 + 1 < n → is_zero (u ! place n (s - 1 + 1) (s - 1)) ≡ true
      end_there q h = rw q (zero_still s (s - 1) (omega arith) (omega arith) (λ x y. omega arith) (start l))

-- ---- the turn

abbrev pub SoundAt : ℕ → Running → Type 0
SoundAt n r = Sound n r.state.window r.pair.t

-- the end is 2 or less, and so the start 1 or less: all of T has the shape
ends_sound : (n s : ℕ) (t u : List Float) → ShapedFrom n (s + 1) t → (0 < s → is_zero (t ! place n s (s - 1)) ≡ true)
    → ((i j : ℕ) → i < n → j < i → (i ≡ s + 1 → j ≡ s → ⊥) → u ! place n i j ≡ t ! place n i j) → length u ≡ n * n → s + 1 ≤ 2 → Sound n (window 0 0) u
ends_sound n s t u z start same size l =
    record {
      size = size;
      when_closed = λ _. record { far = split_far n s t u z start same; near = λ k m. split_near n s t u z start same k (omega arith) m };
      when_open = λ d. absurd (d refl);
    }

pub two_sound : (asked : Setting) (s : State) (p : Pair) → asked.order ≤ 64 → Open asked.order s.window p.t
    → s.window.end ≤ s.window.start + 1 → SoundAt asked.order (turn_two asked s p)
unfolding turn_two after delimiting
two_sound asked s p small o l =
    let n = asked.order in
    let k = s.window.start in
    let two : s.window.end ≡ k + 1 = omega arith in
    let z : ShapedFrom n (k + 1) p.t = subst (λ e. ShapedFrom n e p.t) two o.shaped in
    let parted = (split_at asked k p).t in
    let same = split_at_frame asked k p in
    let size : length parted ≡ n * n = split_at-length asked k p ∙ z.size in
    cond_both (SoundAt n) (leb s.window.end 2) _ _
    (λ e. ends_sound n k p.t parted z o.start same size (let small_end = leb-true s.window.end 2 e in omega arith))
    (λ e.
    let far = leb-false s.window.end 2 e in
    let q : k - 1 ≡ s.window.end - 2 = omega arith in
    delimit_sound n asked.tolerance (s.window.end - 2) parted small (omega arith)
    (subst (λ e. ShapedFrom n e parted) q (split_shaped n k p.t parted z o.start same (omega arith) size)))
