-- Delimiting keeps the shape: what stands below the window's end has it, and where the window has closed all of T has. Assumes nothing.
use Prim.Native.Nat.{ℕ, zero, suc, ◌+◌, ◌-◌, ◌*◌, ◌<◌, ◌≤◌}
use mathlib.Core.Bool.{Bool, true, false, cond, ◌||◌}
use mathlib.Core.Path.{◌≡◌, refl, sym, ◌∙◌, subst}
use mathlib.Core.List.{List}
use native.Mathlib.Decide.{dec_lt}
use native.Mathlib.Omega.{arith}
use borrow.Author.Tests.{eqb-true, eqb-false}
use lib.Dec.{eqb}
use lib.ListN.{length, set, length-set}
use lib.Ieee.{Float}
use Rattle.loops.specs.Constants.{zero as zero_f}
use Rattle.loops.specs.Place.{place, in_square}
use Rattle.loops.specs.Rounded.{◌!◌}
use Rattle.loops.proofs.Until.{until_hold}
use Rattle.scalar.specs.Class.{is_zero}
use Rattle.matrix.proofs.Fitting.{fitting}
use Rattle.window.specs.declared.Window.{Window}
use Rattle.window.specs.Window.{window, decoupled, Falling, falling, stands, fall, end_from, cut, start_from, delimit_here, delimit_of}
use Rattle.refusal.specs.Shape.{QuasiTriangular}
use Rattle.shape.proofs.Zeros.{either_first, either_keeps, put_there, put_keeps}

-- T is zero two or more places below its diagonal, and from row e on it has the shape: the entry just below the diagonal in column e is zero, and from
-- there on of two neighbours at least one
pub record ShapedFrom (n e : ℕ) (t : List Float) : Type 0 where
  pub size : length t ≡ n * n
  pub far : (i j : ℕ) → i < n → j + 2 ≤ i → is_zero (t ! place n i j) ≡ true
  pub end : e + 1 < n → is_zero (t ! place n (e + 1) e) ≡ true
  pub near : (k : ℕ) → e ≤ k → k + 2 < n → (is_zero (t ! place n (k + 1) k) || is_zero (t ! place n (k + 2) (k + 1))) ≡ true

-- from row 0 on it is all of T
pub shaped_shape : (n : ℕ) (t : List Float) → ShapedFrom n 0 t → QuasiTriangular n t
shaped_shape n t s = record { far = s.far; near = λ k l. s.near k (omega arith) l }

-- more zeros do no harm
shaped_put : (n e : ℕ) (t : List Float) (p : ℕ) → ShapedFrom n e t → ShapedFrom n e (set t p zero_f)
shaped_put n e t p s = record {
  size = simp length-set s.size;
  far = λ i j h l. put_keeps t p (place n i j) (s.far i j h l);
  end = λ l. put_keeps t p (place n (e + 1) e) (s.end l);
  near = λ k h l. either_keeps _ _ _ _ (put_keeps t p (place n (k + 1) k)) (put_keeps t p (place n (k + 2) (k + 1))) (s.near k h l);
}

-- ---- the end falls

-- the entry above becomes +0: so T has the shape from the row above on
shaped_fall : (n e : ℕ) (t : List Float) → ShapedFrom n (e + 1) t → ShapedFrom n e (decoupled n (e + 1) t)
shaped_fall n e t s =
    let put = shaped_put n (e + 1) t (place n (e + 1) (e + 1 - 1)) s in
    let same : e + 1 - 1 ≡ e = omega arith in
    let there : e + 1 < n → is_zero (decoupled n (e + 1) t ! place n (e + 1) e) ≡ true =
    λ l. rw same (put_there t (place n (e + 1) e) (omega (arith, s.size, in_square n (e + 1) e l (omega arith)))) in
    record { size = put.size; far = put.far; end = there; near = λ k h l. go k h l (dec_lt e k) there put.near }
  where
    go : (k : ℕ) → e ≤ k → k + 2 < n → Dec (e < k)
        → (e + 1 < n → is_zero (decoupled n (e + 1) t ! place n (e + 1) e) ≡ true)
        → ((k : ℕ) → e + 1 ≤ k → k + 2 < n
        → (is_zero (decoupled n (e + 1) t ! place n (k + 1) k) || is_zero (decoupled n (e + 1) t ! place n (k + 2) (k + 1))) ≡ true)
        → (is_zero (decoupled n (e + 1) t ! place n (k + 1) k) || is_zero (decoupled n (e + 1) t ! place n (k + 2) (k + 1))) ≡ true
    go k h l (yes d) there later = later k (omega arith) l
    go k h l (no d) there later = let q : k ≡ e = omega arith in rw q (either_first _ _ (there (omega arith)))

-- in row 0 the end stays
fall_shaped : (n e : ℕ) (t : List Float) → ShapedFrom n e t → ShapedFrom n (e - 1) (decoupled n e t)
fall_shaped n zero t s = shaped_put n 0 t (place n 0 (0 - 1)) s
fall_shaped n (suc e) t s =
    let q : suc e ≡ e + 1 = omega arith in
    let r : e ≡ e + 1 - 1 = omega arith in
    let fallen = subst (λ x. ShapedFrom n x (decoupled n (e + 1) t)) r (shaped_fall n e t (subst (λ x. ShapedFrom n x t) q s)) in
    subst (λ x. ShapedFrom n (x - 1) (decoupled n x t)) (sym q) fallen

-- how far the end has fallen, and what T is then
record Fallen (n e : ℕ) (f : Falling) : Type 0 where
  pub upto : f.end ≤ e
  pub shaped : ShapedFrom n f.end f.t

end_fallen : (n : ℕ) (eps : Float) (e : ℕ) (t : List Float) → ShapedFrom n e t → Fallen n e (end_from n eps e t)
unfolding end_from fall
end_fallen n eps e t s =
    until_hold (Fallen n e) (stands n eps) (fall n) e (falling e t)
    (λ f h. record { upto = omega arith; shaped = fall_shaped n f.end f.t h.shaped })
    (record { upto = omega arith; shaped = s })

-- ---- the start

start_before : (n : ℕ) (eps : Float) (e : ℕ) (t : List Float) → start_from n eps e t ≤ e - 1
unfolding start_from
start_before n eps e t = until_hold (λ i. i ≤ e - 1) (cut n eps t) (λ i. i - 1) (e - 1) (e - 1) (λ i h. omega arith) (omega arith)

-- ---- both

-- T at a window: closed, it has the shape; open, it has the shape from the end on, and the entry that cuts the window off at its start is zero
pub record Open (n : ℕ) (w : Window) (t : List Float) : Type 0 where
  pub order : w.start < w.end
  pub room : w.end < n
  pub shaped : ShapedFrom n w.end t
  pub start : 0 < w.start → is_zero (t ! place n w.start (w.start - 1)) ≡ true

pub record Sound (n : ℕ) (w : Window) (t : List Float) : Type 0 where
  pub size : length t ≡ n * n
  pub when_closed : w.start ≡ w.end → QuasiTriangular n t
  pub when_open : (w.start ≡ w.end → ⊥) → Open n w t

-- the window that was found, by whether there is an entry that cuts it off
cut_off : (n s : ℕ) (t : List Float) (e : ℕ) (b : Bool) → eqb s 0 ≡ b → ShapedFrom n e t → s ≤ e - 1 → e < n → Sound n (window s e) (cond b t (decoupled n s t))
cut_off n s t e true h z l m =
    let first : s ≡ 0 = eqb-true s 0 h in
    record {
      size = z.size;
      when_closed = λ q. shaped_shape n t (subst (λ x. ShapedFrom n x t) (sym q ∙ first) z);
      when_open = λ d. record { order = omega arith; room = m; shaped = z; start = λ p. absurd (omega arith) };
    }
cut_off n s t e false h z l m =
    let some : s ≡ 0 → ⊥ = eqb-false s 0 h in
    let put = shaped_put n e t (place n s (s - 1)) z in
    record {
      size = put.size;
      when_closed = λ q. absurd (some (omega arith));
      when_open = λ d. record {
        order = omega arith;
        room = m;
        shaped = put;
        start = λ p. put_there t (place n s (s - 1)) (omega (arith, z.size, in_square n s (s - 1) (omega arith) (omega arith)));
      };
    }

pub delimit_sound : (n : ℕ) (eps : Float) (e : ℕ) (t : List Float) → n ≤ 64 → e < n → ShapedFrom n e t
    → Sound n (delimit_of n eps e t).window (delimit_of n eps e t).t
unfolding delimit_of delimit_here
delimit_sound n eps e t small l s =
    let f = end_fallen n eps e t s in
    let at = end_from n eps e t in
    rw (fitting n (length t) (e + 1) (e + 1) small s.size (omega arith) (omega arith))
    (cut_off n (start_from n eps at.end at.t) at.t at.end _ refl f.shaped (start_before n eps _ _) (omega arith))
