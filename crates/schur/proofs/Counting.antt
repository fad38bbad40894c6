-- What a run answers, by the definition's count, which is of the matrix alone: it ends, with that count, below the budget; or the count is the budget or more.
-- Assumes nothing.
use Rattle.std.specs.Prelude.{Err, Ok}
use Rattle.schur.specs.Run.{Ran}
use Prim.Native.Nat.{ℕ, ◌+◌, ◌*◌, ◌<◌, ◌≤◌}
use mathlib.Core.Bool.{Bool, true, false, cond, true≢false}
use mathlib.Core.Path.{◌≡◌, refl, sym, ap, ◌∙◌, subst}
use mathlib.Core.List.{List}
use native.Mathlib.Decide.{dec_lt}
use native.Mathlib.Omega.{arith}
use lib.Dec.{eqb, leb}
use lib.ListN.{length}
use lib.Ieee.{Float}
use Rattle.loops.specs.Counted.{Counted}
use Rattle.loops.proofs.Counted.{open_count}
use Rattle.loops.specs.Tests.{cond_both}
use Rattle.loops.specs.Threshold.{Threshold, never, from}
use Rattle.loops.proofs.Threshold.{threshold}
use Rattle.matrix.specs.Vectors.{largest, zeros}
use Rattle.window.specs.declared.Window.{Window}
use Rattle.pass.specs.declared.setting.Setting.{Setting}
use Rattle.pass.specs.Pair.{Pair}
use Rattle.schur.specs.declared.run.Stopped.TheVariants.{BudgetReached}
use Rattle.schur.specs.Run.{Running, passes_at, closed, delimiting, after, turn_two, turn_more, turn_of, run_from, opened, opened_of, Left}
use Rattle.schur.specs.Run.{answered, ran_of, largest_budget, count_of}
use Rattle.schur.proofs.RunAnswers.{answered_reached, answered_ended, RunFits}
use Rattle.schur.proofs.Independent.{opened_alike, run_from_alike}
use Rattle.schur.proofs.Lent.{fits_fresh}

-- ---- a turn counts 1, or it closes the window and goes uncounted

data Turned (r x : Running) : Type 0 where
  counts : passes_at x ≡ passes_at r + 1 → Turned r x
  ends : passes_at x ≡ passes_at r → closed x ≡ true → Turned r x

turned : (asked : Setting) (r : Running) → Turned r (turn_of asked r)
unfolding turn_of turn_two turn_more after delimiting closed
turned asked r =
    cond_both (Turned r) (leb r.state.window.end (r.state.window.start + 1)) _ _
    (λ _. cond_both (Turned r) (leb r.state.window.end 2) _ _ (λ _. ends refl refl) (λ _. counts refl)) (λ _. counts refl)

-- all that is known of a run by its count follows from this (`Counted` in loops)
pub run_counts : (asked : Setting) → Counted closed (turn_of asked) passes_at
run_counts asked = record {
  least = λ x. elim (turned asked x) [ counts e ↦ omega arith | ends e _ ↦ omega arith ];
  most = λ x. elim (turned asked x) [ counts e ↦ omega arith | ends e _ ↦ omega arith ];
  going = λ x still. elim (turned asked x) [ counts e ↦ e | ends _ c ↦ absurd (true≢false (sym c ∙ still)) ];
}

pub opened_none : (asked : Setting) (p : Pair) (w : List Float) → passes_at (opened asked p w) ≡ 0
unfolding opened delimiting
opened_none asked p w = refl

-- a run whose window is still open has counted its whole budget
pub run_counted : (asked : Setting) (budget : ℕ) (r : Running) → passes_at r ≡ 0 → closed (run_from asked budget r) ≡ false
    → passes_at (run_from asked budget r) ≡ budget
unfolding run_from
run_counted asked budget r first still = omega (arith, first, open_count (run_counts asked) _ r still)

-- ---- the count at a budget, by that at the largest

-- short of the budget it is the definition's; else it is the budget
data Counts (at budget count : ℕ) : Type 0 where
  short : count < budget → at ≡ count → Counts at budget count
  full : budget ≤ count → at ≡ budget → Counts at budget count

module _ (asked : Setting) (r : Running) (first : passes_at r ≡ 0) where
  abbrev at : ℕ → Running
  at budget = run_from asked budget r

  grows : Threshold (λ b. passes_at (at b)) at largest_budget
  unfolding run_from
  grows = threshold (run_counts asked) r largest_budget first

  counts_at : (budget : ℕ) → budget ≤ largest_budget → Counts (passes_at (at budget)) budget (passes_at (at largest_budget))
  counts_at budget most = elim grows [
    | never all ↦ (let last = all largest_budget (omega arith) in full (omega arith) (all budget most))
    | from c l below above end same ↦ go c (above largest_budget l) (below budget) (above budget) (dec_lt c budget)
  ]
    where
      go : (c : ℕ) → passes_at (at largest_budget) ≡ c → (budget ≤ c → passes_at (at budget) ≡ budget) → (c < budget → passes_at (at budget) ≡ c)
          → Dec (c < budget) → Counts (passes_at (at budget)) budget (passes_at (at largest_budget))
      go c e below above (yes l) = short (omega arith) (above l ∙ sym e)
      go c e below above (no l) = full (omega arith) (below (omega arith))

  -- and every budget above it ends alike
  ends_at : (budget : ℕ) → budget ≤ largest_budget → passes_at (at largest_budget) < budget → at budget ≡ at largest_budget
  ends_at budget most l = elim grows [
    | never all ↦ (let last = all largest_budget (omega arith) in absurd (omega arith))
    | from c m below above end same ↦ (let last = above largest_budget m in same budget (omega arith) ∙ sym (same largest_budget m))
  ]

-- ---- the two answers

-- orders 1 and 2 end with no pass counted, even at a budget of 0
pub data Tells (l : Left) (count budget : ℕ) : Type 0 where
  ended : (1 ≤ budget → count < budget) → l.answer ≡ Ok count → Tells l count budget
  reached : (w : Window) → budget ≤ count → l.answer ≡ Err (BudgetReached w) → Tells l count budget

answered_tells : {count : ℕ} (budget : ℕ) (amax : Float) (r : Running) → Counts (passes_at r) budget count → Tells (answered budget amax r) count budget
answered_tells {count} budget amax r c = elim c [
  | short l e ↦
      ended (λ _. l) (sym (ap (λ x. x.answer) (answered_ended budget amax r.state r.pair r refl (λ f. omega arith))) ∙ ap Ok e)
  | full l e ↦ reached _ l (sym (ap (λ x. x.answer) (answered_reached budget amax r.state r.pair r refl e)))
]

-- a state that has counted less than either budget is answered alike
answered_alike : (budget : ℕ) (amax : Float) (x y : Running) → x ≡ y → passes_at y < budget → budget ≤ largest_budget
    → answered budget amax x ≡ answered largest_budget amax y
answered_alike budget amax x y e l most =
    ap (answered budget amax) e ∙ sym (answered_ended budget amax y.state y.pair y refl (λ f. omega arith))
    ∙ answered_ended largest_budget amax y.state y.pair y refl (λ f. omega arith)

tells_cond : {x y : Left} {i j budget : ℕ} (b : Bool) → Tells x i budget → Tells y j budget → Tells (cond b x y) (cond b i j) budget
tells_cond true h k = h
tells_cond false h k = k

-- ---- every run on arguments that fit, with a budget up to the largest

module _ (asked : Setting) (budget : ℕ) (p : Pair) (w : List Float) (fits : RunFits asked.order (length p.t) (length w))
    (most : budget ≤ largest_budget) where
  abbrev answer : Ran
  answer = (ran_of asked budget p w).answer

  abbrev count : ℕ
  count = count_of asked p.t

  -- the count of the run in hand, with the largest budget, is that of the matrix
  count_alike : passes_at (run_from asked largest_budget (opened asked p w)) ≡ passes_at (run_from asked largest_budget (opened_of asked p.t))
  unfolding opened_of
  count_alike =
      let n = asked.order in
      let b = asked.wanted in
      let alone = opened_alike asked p.t w (zeros (2 * n)) fits (fits_fresh fits) b b p.q (zeros (n * n)) in
      ap (λ s. s.passes) (run_from_alike b b asked largest_budget _ _ alone).state

  counted : Counts (passes_at (run_from asked budget (opened asked p w))) budget (passes_at (run_from asked largest_budget (opened_of asked p.t)))
  counted = subst (Counts _ budget) count_alike (counts_at asked (opened asked p w) (opened_none asked p w) budget most)

  pub ran_tells : Tells (ran_of asked budget p w) count budget
  unfolding ran_of count_of
  ran_tells =
      tells_cond (eqb asked.order 1) (ended (λ l. omega arith) refl)
      (tells_cond (eqb asked.order 2) (ended (λ l. omega arith) refl) (answered_tells budget (largest p.t) _ counted))

  -- below the budget it ends, with the count
  pub below_ended : count < budget → answer ≡ Ok count
  below_ended l = elim ran_tells [ ended _ h ↦ h | reached _ e _ ↦ absurd (omega arith) ]

  -- A budget above the count is not felt: the run is that with the largest budget.
  pub budget_not_felt : count < budget → ran_of asked budget p w ≡ ran_of asked largest_budget p w
  unfolding ran_of count_of
  budget_not_felt l = go (eqb asked.order 1) (eqb asked.order 2) _ _ l
    where
      go : (a b : Bool) (x y : Left) → cond a 0 (cond b 0 (passes_at (run_from asked largest_budget (opened_of asked p.t)))) < budget
          → cond a x (cond b y (answered budget (largest p.t) (run_from asked budget (opened asked p w))))
          ≡ cond a x (cond b y (answered largest_budget (largest p.t) (run_from asked largest_budget (opened asked p w))))
      go true b x y m = refl
      go false true x y m = refl
      go false false x y m =
          answered_alike budget (largest p.t) _ _ (ends_at asked (opened asked p w) (opened_none asked p w) budget most (omega (arith, count_alike)))
          (omega (arith, count_alike)) most
