-- The laws of `Counted` of specs.
use Rattle.std.specs.Prelude.{◌≡◌, refl, Bool, true, false, ℕ, ◌+◌, ◌-◌, ◌≤◌}
use Rattle.std.proofs.Common.{sym, ap, ◌∙◌, true≢false, add-zero, arith}
use Rattle.loops.specs.Until.{until}
use Rattle.loops.proofs.Until.{until_out, until_stop, until_turn, until_portions, until_walk, until_count}
use Rattle.loops.specs.Counted.{Counted}

module _ {A : Type 0} {done : A → Bool} {turn : A → A} {count : A → ℕ} (counted : Counted done turn count) where
  abbrev run : ℕ → A → A
  run budget x = until done turn budget x

  -- once it is done, a larger budget changes nothing
  pub run_settled : (m b : ℕ) (x : A) → done (run m x) ≡ true → m ≤ b → run b x ≡ run m x
  run_settled m b x h l =
      let e : b ≡ m + (b - m) = omega arith in
      ap (λ k. run k x) e ∙ until_portions done turn m (b - m) x ∙ until_stop done turn (b - m) (run m x) h

  -- while it is not, one more is one turn more
  pub run_further : (b : ℕ) (x : A) → done (run b x) ≡ false → run (b + 1) x ≡ turn (run b x)
  run_further b x h = until_portions done turn b 1 x ∙ until_turn done turn 1 (run b x) (omega arith) h
      ∙ until_out done turn (turn (run b x))

  -- and all its turns have counted
  pub open_count : (b : ℕ) (x : A) → done (run b x) ≡ false → count (run b x) ≡ count x + b
  open_count b x =
      until_walk (λ m y. done y ≡ false → count y ≡ count x + m) done turn b x
      (λ m l d h still. absurd (true≢false (sym d ∙ still)))
      (λ m l d h still. counted.going _ still ∙ (let before = h d in omega arith)) (λ _. sym (add-zero (count x)))

  -- no run counts more than its budget
  pub count_most : (b : ℕ) (x : A) → count (run b x) ≤ count x + b
  count_most b x = until_count count done turn b x counted.most

  -- one that has counted less is done
  pub short_done : (b : ℕ) (x : A) → (count (run b x) ≡ count x + b → ⊥) → done (run b x) ≡ true
  short_done b x short = go (done (run b x)) refl
    where
      go : (d : Bool) → done (run b x) ≡ d → d ≡ true
      go true e = refl
      go false e = absurd (short (open_count b x e))

  -- where all turns have counted, and the next one has not, the count stays
  pub count_stays : (b : ℕ) (x : A) → count (run b x) ≡ count x + b → (count (run (b + 1) x) ≡ count x + (b + 1) → ⊥)
      → count (run (b + 1) x) ≡ count x + b
  count_stays b x all short = go (done (run b x)) refl
    where
      go : (d : Bool) → done (run b x) ≡ d → count (run (b + 1) x) ≡ count x + b
      go true e = ap count (run_settled b (b + 1) x e (omega arith)) ∙ all
      go false e = let next = ap count (run_further b x e) in
          omega (arith, counted.least (run b x), counted.most (run b x), count_most (b + 1) x)
