-- The laws of `Portions` of specs.
use Rattle.std.proofs.Math.Path.{◌≡◌, refl, sym, ap}
use Rattle.std.proofs.Common.{◌∙◌, add-zero}
use Rattle.std.specs.Prelude.{Bool, ℕ, ◌+◌, ◌<◌}
use Rattle.std.proofs.Math.Bool.{true, false, cond}
use mathlib.Core.List.{List, [], ◌∷◌}
use native.Mathlib.Omega.{arith}
use borrow.Author.Tests.{eq-eqb, ne_eqb, eqb-true, eqb-false}
use Rattle.std.proofs.Math.Dec.{eqb}
use Rattle.loops.specs.Until.{until}
use Rattle.loops.proofs.Until.{until_out, until_stop, until_portions}
use Rattle.loops.specs.Counted.{Counted}
use Rattle.loops.proofs.Counted.{run_settled, short_done, count_most}
use Rattle.loops.specs.Portions.{Portioned, finished, parked, portion, portions, together}

module _ {A : Type 0} {done : A → Bool} {turn : A → A} {count : A → ℕ} (counted : Counted done turn count) where
  abbrev run : ℕ → A → A
  run budget x = until done turn budget x

  abbrev portioned : ℕ → A → Portioned A
  portioned k x = portion done turn count k x

  -- ---- one portion

  portion_parked : (k : ℕ) (x : A) → count (run k x) ≡ count x + k → portioned k x ≡ parked (run k x)
  unfolding portion
  portion_parked k x h = rw (eq-eqb (count (run k x)) (count x + k) h)

  portion_finished : (k : ℕ) (x : A) → (count (run k x) ≡ count x + k → ⊥) → portioned k x ≡ finished (run k x)
  unfolding portion
  portion_finished k x h = rw (ne_eqb (count (run k x)) (count x + k) h)

  -- of a run that is done it finishes, and adds no count
  pub portion_done : (k : ℕ) (x : A) → 0 < k → done x ≡ true → portioned k x ≡ finished x
  portion_done k x l h =
      let same = until_stop done turn k x h in
      portion_finished k x (λ e. let q = ap count same in omega arith) ∙ ap finished same

  -- behind one that was parked, it is the rest of one that is longer
  taken_up : (k m : ℕ) (x : A) → count (run k x) ≡ count x + k → portioned (k + m) x ≡ portioned m (run k x)
  unfolding portion
  taken_up k m x h =
      let y = run k x in
      let sum : count x + (k + m) ≡ count y + m = omega arith in
      rw (until_portions done turn k m x) (ap (λ z. cond (eqb (count (run m y)) z) (parked (run m y))
      (finished (run m y))) sum)

  -- ---- several

  pub portions_one : (ks : List ℕ) (x : A) → portions done turn count ks x ≡ portioned (together ks) x
  unfolding portions together
  portions_one [] x = sym (portion_parked 0 x (rw (until_out done turn x) (sym (add-zero (count x))))
      ∙ ap parked (until_out done turn x))
  portions_one (k ∷ ks) x = go (eqb (count (run k x)) (count x + k)) refl (portions_one ks (run k x))
    where
      next : Portioned A → Portioned A
      next o = elim o [ parked y ↦ portions done turn count ks y | finished y ↦ finished y ]

      go : (d : Bool) → eqb (count (run k x)) (count x + k) ≡ d
          → portions done turn count ks (run k x) ≡ portioned (together ks) (run k x)
          → next (portioned k x) ≡ portioned (k + together ks) x
      go true e later =
          let all = eqb-true _ _ e in
          ap next (portion_parked k x all) ∙ later ∙ sym (taken_up k (together ks) x all)
      go false e later =
          let short = eqb-false (count (run k x)) (count x + k) e in
          let same : run (k + together ks) x ≡ run k x =
          run_settled counted k (k + together ks) x (short_done counted k x short) (omega arith) in
          ap next (portion_finished k x short)
          ∙ sym (portion_finished (k + together ks) x (λ h. let q = ap count same in
          omega (arith, count_most counted k x)) ∙ ap finished same)

  -- What is parked is the run itself after so many turns, and all of them have counted.
  pub parked_run : (ks : List ℕ) (x y : A) → portions done turn count ks x ≡ parked y
      → (y ≡ until done turn (together ks) x) × (count y ≡ count x + together ks)
  unfolding portion
  parked_run ks x y h =
      go (eqb (count (run (together ks) x)) (count x + together ks)) refl (sym (portions_one ks x) ∙ h)
    where
      go : (d : Bool) → eqb (count (run (together ks) x)) (count x + together ks) ≡ d
          → cond d (parked (run (together ks) x)) (finished (run (together ks) x)) ≡ parked y
          → (y ≡ run (together ks) x) × (count y ≡ count x + together ks)
      go true e q = let same : y ≡ run (together ks) x = cc in (same, ap count same ∙ eqb-true _ _ e)
      go false e q = let z : ◌≡◌ {A = ℕ} 0 1 = cc in absurd (omega arith)
