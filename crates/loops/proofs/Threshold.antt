-- The laws of `Threshold` of specs.
use Rattle.std.specs.Prelude.{◌≡◌, refl, Bool, true, false, ℕ, zero, suc, ◌+◌, ◌<◌, ◌≤◌, eqb}
use Rattle.std.proofs.Common.{ap, ◌∙◌, arith, eqb-true}
use Rattle.std.proofs.Math.Decide.{dec_lt}
use Rattle.std.proofs.lemmas.Bool.{eqb-false}
use Rattle.loops.specs.Until.{until}
use Rattle.loops.proofs.Until.{until_out}
use Rattle.loops.specs.Counted.{Counted}
use Rattle.loops.proofs.Counted.{run_settled, short_done, count_stays}
use Rattle.loops.specs.Threshold.{Threshold, from, never}

module _ {A : Type 0} {done : A → Bool} {turn : A → A} {count : A → ℕ} (counted : Counted done turn count) where
  abbrev run : ℕ → A → A
  run budget x = until done turn budget x

  abbrev Thresholds : A → ℕ → Type 0
  Thresholds x most = Threshold (λ b. count (run b x)) (λ b. run b x) most

  pub threshold : (x : A) (most : ℕ) → count x ≡ 0 → Thresholds x most
  threshold x zero none = never (λ b l. let e : b ≡ 0 = omega arith in rw e (ap count (until_out done turn x) ∙ none))
  threshold x (suc most) none = elim (threshold x most none) [
    | from c l below above end same ↦ from c (omega arith) below above end same
    | never all ↦ go all (eqb (count (run (suc most) x)) (suc most)) refl
  ]
    where
      go : ((b : ℕ) → b ≤ most → count (run b x) ≡ b) → (d : Bool) → eqb (count (run (suc most) x)) (suc most) ≡ d
          → Thresholds x (suc most)
      go all true e = never (λ b l. upto b (dec_lt b (suc most)) l)
        where
          upto : (b : ℕ) → Dec (b < suc most) → b ≤ suc most → count (run b x) ≡ b
          upto b (yes l) m = all b (omega arith)
          upto b (no l) m = let last : b ≡ suc most = omega arith in rw last (eqb-true _ _ e)
      go all false e =
          let one_more : suc most ≡ most + 1 = omega arith in
          let short : (count (run (most + 1) x) ≡ count x + (most + 1)) → ⊥ =
          λ h. eqb-false (count (run (most + 1) x)) (most + 1) (rw one_more at e) (omega arith) in
          let ended : done (run (most + 1) x) ≡ true = short_done counted (most + 1) x short in
          let same : (b : ℕ) → most < b → run b x ≡ run (most + 1) x =
          λ b l. run_settled counted (most + 1) b x ended (omega arith) in
          let here : count (run most x) ≡ count x + most = (let q = all most (omega arith) in omega arith) in
          let last : count (run (most + 1) x) ≡ most = (let q = count_stays counted most x here short in omega arith) in
          from most (omega arith) all (λ b l. ap count (same b l) ∙ last) (run (most + 1) x) same
