-- The answer by the definition's count, which is of the matrix alone (document 00, demand 3): an accepted count is the definition's and lies below the budget;
-- and where the checks before the run pass, 7 is given exactly if the definition's count is the budget or more. Below the budget the answer is the run's own,
-- whatever the budget. Assumes nothing.
use Rattle.std.specs.Prelude.{Err, Ok}
use Prim.Native.Nat.{ℕ, ◌<◌, ◌≤◌}
use mathlib.Core.Path.{◌≡◌, refl, sym, ap, ◌∙◌, subst}
use mathlib.Core.List.{List}
use native.Mathlib.Omega.{arith}
use lib.ListN.{length}
use lib.Ieee.{Float}
use Rattle.refusal.specs.declared.refusal.Refusal.{Refusal}
use Rattle.refusal.specs.Refusal.{Checked, passed, told_of, without_place}
use Rattle.refusal.proofs.ChecksInTurn.{refused_not_passed, Only, only_next, only_at}
use Rattle.refusal.proofs.PassedChecks.{only_asked}
use Rattle.pass.specs.declared.setting.Setting.{Setting}
use Rattle.pass.specs.Pair.{Pair, pair}
use Rattle.schur.specs.Run.{Ran, Left, ran_of, largest_budget, count_of}
use Rattle.schur.proofs.Counting.{Tells, ended, reached, ran_tells, below_ended, budget_not_felt}
use Rattle.schur.proofs.RunAnswers.{RunFits}
use Rattle.decomposition.specs.Checks.{argument_checks, result_checks}
use Rattle.decomposition.specs.Decomposition.{Decomposed, verdict, passes_of, judged, entry_of, decomposed_told, BelowBudget}
use Rattle.decomposition.proofs.CheckedArguments.{Sizes, all_right, some_budget, most_budget, sizes_run}
use Rattle.decomposition.proofs.Touched.{run_judged, accepted_passed, as_run, accepted_run, as_refused, refused_run}

-- ---- what is looked at after the run comes to 8 or 9 only

abbrev Results : Checked → Type 0
Results c = Only (λ r. (8 ≤ (told_of r).number) × ((told_of r).number ≤ 9)) c

result_numbers : (asked : Setting) (p : Pair) → Results (result_checks asked p)
unfolding result_checks told_of
result_numbers asked p =
    only_next _ _ _ (only_at _ _ _ (λ _. (omega arith, omega arith)))
    (only_next _ _ _ (only_asked _ asked.wanted _ (only_at _ _ _ (λ _. (omega arith, omega arith)))) (only_at _ _ _ (λ _. (omega arith, omega arith))))

-- accepted with the count, or refused by what is looked at there
pub data Own (a : Decomposed) (count : ℕ) : Type 0 where
  accepted : a ≡ Ok count → Own a count
  refused : 8 ≤ (decomposed_told a).number → (decomposed_told a).number ≤ 9 → Own a count

-- ---- an answer by its number

pub declined_told : {r : Refusal} (a : Decomposed) → a ≡ Err r → decomposed_told a ≡ told_of r
unfolding decomposed_told
declined_told a e = rw e refl

-- a number other than 0 is a refusal's
pub told_declined : (a : Decomposed) (k : ℕ) → 1 ≤ k → (decomposed_told a).number ≡ k → (r : Refusal) × (a ≡ Err r) × ((told_of r).number ≡ k)
unfolding decomposed_told
told_declined (Ok c) k l e = absurd (omega arith)
told_declined (Err r) k l e = (r, refl, e)

-- ---- the answer of any entry whose checks tell the lengths

module _ (lengths : Checked) (asked : Setting) (m : List Float) (p : Pair) (w : List Float)
    (lent : lengths ≡ passed → Sizes asked.order (length m) (length p.t) (length w)) where
  -- the definition's: of the matrix alone, whatever the budget
  abbrev count : ℕ
  count = count_of asked m

  module _ (budget : ℕ) where
    abbrev checks : Checked
    checks = argument_checks lengths asked budget m

    abbrev ran : Left
    ran = ran_of asked budget (pair m p.q) w

    abbrev answer : Decomposed
    answer = (entry_of lengths asked budget m p w).answer

    -- a budget that has passed is at least 1
    budgeted : checks ≡ passed → 1 ≤ budget
    budgeted h = some_budget budget (all_right _ _ _ _ h).bound

    most : checks ≡ passed → budget ≤ largest_budget
    most h = most_budget budget (all_right _ _ _ _ h).bound

    pub fitting : checks ≡ passed → RunFits asked.order (length m) (length w)
    fitting h = let r = all_right _ _ _ _ h in sizes_run r.some r.order (lent r.lent)

    pub tells : checks ≡ passed → Tells ran count budget
    tells h = ran_tells asked budget (pair m p.q) w (fitting h) (most h)

    -- what is said of a run that answered so
    said : {a : Ran} → ran.answer ≡ a → verdict asked ran.answer ran.pair ≡ verdict asked a ran.pair
    said f = ap (λ a. verdict asked a ran.pair) f

    -- accepted: with the definition's count, which lies below the budget
    pub accepted_count : {c : ℕ} → answer ≡ Ok c → (c ≡ count) × (c < budget)
    unfolding verdict passes_of
    accepted_count {c} e =
        let h = accepted_passed lengths asked budget m p w e in
        let a = as_run lengths asked budget m p w e in
        elim (tells h) [
          | ended k f ↦ (let same : c ≡ count = a.1 ∙ ap passes_of f in (same, omega (arith, k (budgeted h))))
          | reached _ _ f ↦ absurd (refused_not_passed _ (sym (said f) ∙ a.0))
        ]

    -- what an entry promises of its count
    pub count_below : (r : Decomposed) → r ≡ answer → BelowBudget r budget
    count_below (Ok c) h = (accepted_count (sym h)).1
    count_below (Err r) h = tt

    -- 7: only if the count is the budget or more, and whenever it is
    pub seven_reached : checks ≡ passed → (decomposed_told answer).number ≡ 7 → budget ≤ count
    unfolding verdict
    seven_reached h e =
        let d = told_declined answer 7 (omega arith) e in
        let a = as_refused lengths asked budget m p w h d.1 in
        elim (tells h) [
          | ended _ f ↦ (let k = subst Results (sym (said f) ∙ a.0) (result_numbers asked _) in absurd (omega (arith, d.2)))
          | reached _ k _ ↦ k
        ]

    pub reached_seven : checks ≡ passed → budget ≤ count → decomposed_told answer ≡ without_place 7
    unfolding verdict told_of
    reached_seven h l = elim (tells h) [
      | ended k _ ↦ absurd (omega (arith, k (budgeted h)))
      | reached _ _ f ↦ declined_told answer (refused_run lengths asked budget m p w h (said f))
    ]

    -- Below the budget the answer is the run's own: accepted with that count, or 8 or 9.
    pub below_own : checks ≡ passed → count < budget → Own answer count
    unfolding verdict passes_of
    below_own h l =
        let e = below_ended asked budget (pair m p.q) w (fitting h) (most h) l in
        go (result_checks asked ran.pair) (said e) (result_numbers asked _) (ap passes_of e)
      where
        go : (c : Checked) → verdict asked ran.answer ran.pair ≡ c → Results c → passes_of ran.answer ≡ count → Own answer count
        go (Ok u) k numbers passes = accepted (accepted_run lengths asked budget m p w h k ∙ ap Ok passes)
        go (Err r) k numbers passes =
            let e = ap (λ x. x.number) (declined_told answer (refused_run lengths asked budget m p w h k)) in
            refused (omega arith) (omega arith)

  -- So every budget above the count gives one outcome.
  pub below_same : (b d : ℕ) → checks b ≡ passed → checks d ≡ passed → count < b → count < d
      → entry_of lengths asked b m p w ≡ entry_of lengths asked d m p w
  below_same b d h k l l' =
      run_judged lengths asked b m p w h ∙ ap (λ r. judged asked r w) (unfelt b h l ∙ sym (unfelt d k l')) ∙ sym (run_judged lengths asked d m p w k)
    where
      unfelt : (b : ℕ) → checks b ≡ passed → count < b → ran b ≡ ran largest_budget
      unfelt b h l = budget_not_felt asked b (pair m p.q) w (fitting b h) (most b h) l
