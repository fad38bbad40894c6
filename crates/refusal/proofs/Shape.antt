-- Where no entry is at fault: all are finite, and the shape is quasi-triangular; and the other way (document 00, demand 3). Assumes nothing.
use Rattle.std.specs.Prelude.{None}
use Prim.Native.Nat.{ℕ, zero, suc, ◌+◌, ◌-◌, ◌*◌, ◌<◌, ◌≤◌}
use mathlib.Core.Bool.{Bool, true, false, not, ◌&&◌, ◌||◌}
use mathlib.Core.Path.{◌≡◌, refl, sym, ap, ◌∙◌}
use mathlib.Core.List.{List}
use native.Mathlib.Decide.{dec_lt}
use native.Mathlib.Omega.{arith}
use borrow.Author.Tests.{le-leb, not-false}
use lib.ListN.{length}
use lib.Ieee.{Float}
use Rattle.loops.specs.Tests.{cond_hold}
use Rattle.loops.specs.Place.{place}
use Rattle.loops.specs.Rounded.{◌!◌}
use Rattle.scalar.specs.Class.{is_zero}
use Rattle.matrix.specs.Fits.{block_fits}
use Rattle.matrix.proofs.Fitting.{fitting}
use Rattle.refusal.specs.Search.{first_place, not_finite, spoils, first_not_finite, first_spoiling}
use Rattle.refusal.specs.Shape.{AllFinite, QuasiTriangular}
use Rattle.refusal.proofs.Searching.{nowhere_none, none_nowhere}
use Rattle.refusal.proofs.Spoiling.{spoils_above, spoils_just, spoils_far, just_first}

-- that neither is zero
neither : (a b : Bool) → not b && not a ≡ not (a || b)
neither true true = refl
neither true false = refl
neither false true = refl
neither false false = refl

-- the second of two neighbours just below the diagonal spoils the shape where neither is zero
just_next : (n : ℕ) (t : List Float) (k : ℕ) → spoils n t (k + 2) (k + 1) ≡ not (is_zero (t ! place n (k + 1) k) || is_zero (t ! place n (k + 2) (k + 1)))
just_next n t k =
    let e : k + 1 + 1 ≡ k + 2 = omega arith in
    let f : k + 1 - 1 ≡ k = omega arith in
    ap (λ i. spoils n t i (k + 1)) (sym e) ∙ spoils_just n t (k + 1) ∙ rw (le-leb 1 (k + 1) (omega arith), e, f) (neither (is_zero (t ! place n (k + 1) k)) _)

module _ (n : ℕ) (t : List Float) where
  -- ---- finite

  pub nowhere_finite : n ≤ 64 → length t ≡ n * n → first_not_finite n t ≡ None → AllFinite n t
  unfolding first_not_finite not_finite
  nowhere_finite o e h i j k l = not-false _ (nowhere_none (not_finite n t) n (rw (fitting n (length t) n n o e (omega arith) (omega arith)) at h) i j k l)

  pub finite_nowhere : AllFinite n t → first_not_finite n t ≡ None
  unfolding first_not_finite not_finite
  finite_nowhere f =
      cond_hold (λ x. x ≡ None) (block_fits n (length t) n n) (first_place (not_finite n t) n) None
      (λ _. none_nowhere (not_finite n t) n (λ i j k l. ap not (f i j k l))) refl

  -- ---- quasi-triangular

  pub nowhere_shape : n ≤ 64 → length t ≡ n * n → first_spoiling n t ≡ None → QuasiTriangular n t
  unfolding first_spoiling
  nowhere_shape o e h =
      let none = nowhere_none (spoils n t) n (rw (fitting n (length t) n n o e (omega arith) (omega arith)) at h) in
      record {
        far = λ i j h l. not-false _ (sym (spoils_far n t i j l) ∙ none i j h (omega arith));
        near = λ k h. not-false _ (sym (just_next n t k) ∙ none (k + 2) (k + 1) h (omega arith));
      }

  -- the other way: by where an entry stands
  just_none : QuasiTriangular n t → (j : ℕ) → j + 1 < n → spoils n t (j + 1) j ≡ false
  just_none s zero h = sym (just_first n t 0 refl)
  just_none s (suc k) h =
      let e : suc k ≡ k + 1 = omega arith in
      let f : k + 1 + 1 ≡ k + 2 = omega arith in
      rw (e, f) (just_next n t k ∙ ap not (s.near k (omega arith)))

  shape_none : QuasiTriangular n t → (i j : ℕ) → i < n → spoils n t i j ≡ false
  shape_none s i j h = go (dec_lt j i) (dec_lt (j + 1) i)
    where
      go : Dec (j < i) → Dec (j + 1 < i) → spoils n t i j ≡ false
      go (no a) d = spoils_above n t i j (omega arith)
      go (yes a) (yes b) = let l : j + 2 ≤ i = omega arith in spoils_far n t i j l ∙ ap not (s.far i j h l)
      go (yes a) (no b) = let e : i ≡ j + 1 = omega arith in rw e (just_none s j (omega arith))

  pub shape_nowhere : QuasiTriangular n t → first_spoiling n t ≡ None
  unfolding first_spoiling
  shape_nowhere s = cond_hold (λ x. x ≡ None) (block_fits n (length t) n n) (first_place (spoils n t) n) None
      (λ _. none_nowhere (spoils n t) n (λ i j h _. shape_none s i j h)) refl
