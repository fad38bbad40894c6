-- An accepted T and its count are the same whether Q is wanted or not, and whatever is lent for it (document 01, step 7). Assumes nothing.
use Rattle.std.specs.Prelude.{Err, Ok}
use Rattle.refusal.specs.Refusal.{passed}
use Prim.Native.Nat.{ℕ}
use mathlib.Core.Bool.{Bool, true, false, false≢true}
use mathlib.Core.Path.{◌≡◌, refl, sym, ap, ◌∙◌}
use mathlib.Core.List.{List}
use lib.ListN.{length}
use lib.Ieee.{Float}
use Rattle.refusal.specs.Checks.{only_if}
use Rattle.refusal.proofs.ChecksInTurn.{refused_not_passed, next_passed, next_passes, next_on}
use Rattle.refusal.proofs.PassedChecks.{matrices_passed, matrices_passes}
use Rattle.pass.specs.declared.setting.Setting.{Setting}
use Rattle.pass.specs.Setting.{wanting}
use Rattle.pass.specs.Pair.{Pair, pair}
use Rattle.schur.specs.declared.run.Stopped.TheVariants.{BudgetReached, Unfit}
use Rattle.schur.specs.Run.{Ran, ran_of}
use Rattle.schur.proofs.Independent.{Same, ran_same}
use Rattle.schur.proofs.RunAnswers.{RunFits}
use Rattle.decomposition.specs.Checks.{all_lengths, result_checks}
use Rattle.decomposition.specs.Decomposition.{verdict, passes_of, decomposition_of}
use Rattle.decomposition.proofs.CheckedArguments.{all_right, right_passed, all_lent, sizes_run}
use Rattle.decomposition.proofs.Touched.{checks_of, accepted_passed, as_run, accepted_run}

-- ---- what passes with Q passes without

module _ (asked : Setting) where
  abbrev with : Setting
  with = wanting true asked

  abbrev without : Setting
  without = wanting false asked

  lengths_without : (mn tn qn qn' wn : ℕ) → all_lengths with mn tn qn wn ≡ passed → all_lengths without mn tn qn' wn ≡ passed
  unfolding all_lengths
  lengths_without mn tn qn qn' wn h =
      let a = next_passed _ _ h in
      let l = matrices_passed _ _ mn tn qn a.0 in
      next_passes (matrices_passes (record { m = l.m; t = l.t; q = λ e. absurd (false≢true e) })) a.1

  result_without : (p r : Pair) → p.t ≡ r.t → result_checks with p ≡ passed → result_checks without r ≡ passed
  unfolding result_checks only_if
  result_without p r e h =
      let a = next_passed _ _ h in
      sym (ap (λ t. result_checks without (pair t r.q)) e) ∙ next_on _ _ a.0 ∙ next_on passed _ refl ∙ (next_passed _ _ a.1).1

  verdict-without : (a : Ran) (p r : Pair) → p.t ≡ r.t → verdict with a p ≡ passed → verdict without a r ≡ passed
  unfolding verdict
  verdict-without (Ok c) p r e h = result_without p r e h
  verdict-without (Err (BudgetReached w)) p r e h = absurd (refused_not_passed _ h)
  verdict-without (Err Unfit) p r e h = absurd (refused_not_passed _ h)

module _ (asked : Setting) (budget : ℕ) (m t q q' w : List Float) where
  checks_without : checks_of (with asked) budget m (pair t q) w ≡ passed → checks_of (without asked) budget m (pair t q') w ≡ passed
  checks_without h =
      let r = all_right _ _ _ _ h in
      right_passed (record {
        some = r.some;
        order = r.order;
        lent = lengths_without asked _ _ _ (length q') _ r.lent;
        near = r.near;
        bound = r.bound;
        entries = r.entries;
      })

  -- ---- the two decompositions of one matrix, with one tolerance, budget, workspace and room for T

  -- what is accepted was made by a run on arguments that fit
  accepted_fits : {c : ℕ} (b : Bool) → (decomposition_of (wanting b asked) budget m (pair t q) w).answer ≡ Ok c
      → RunFits asked.order (length m) (length w)
  accepted_fits b e =
      let r = all_right _ _ _ _ (accepted_passed _ (wanting b asked) budget m (pair t q) w e) in
      sizes_run r.some r.order (all_lent (wanting b asked) (length m) (length t) (length q) (length w) r.lent)

  runs_same : {c : ℕ} (b d : Bool) → (decomposition_of (wanting b asked) budget m (pair t q) w).answer ≡ Ok c
      → Same (ran_of (wanting b asked) budget (pair m q) w) (ran_of (wanting d asked) budget (pair m q') w)
  runs_same b d e = let fits = accepted_fits b e in ran_same b d asked budget m q q' w w fits fits

  -- both accepted: one count, one T
  pub accepted_same : {c c' : ℕ} (b d : Bool) → (decomposition_of (wanting b asked) budget m (pair t q) w).answer ≡ Ok c
      → (decomposition_of (wanting d asked) budget m (pair t q') w).answer ≡ Ok c'
      → (c ≡ c') × ((decomposition_of (wanting b asked) budget m (pair t q) w).pair.t ≡ (decomposition_of (wanting d asked) budget m (pair t q') w).pair.t)
  accepted_same b d e f =
      let x = as_run _ (wanting b asked) budget m (pair t q) w e in
      let y = as_run _ (wanting d asked) budget m (pair t q') w f in
      let same = runs_same b d e in
      (x.1 ∙ ap passes_of same.answer ∙ sym y.1, ap (λ p. p.t) x.2 ∙ same.t ∙ sym (ap (λ p. p.t) y.2))

  -- accepted with Q, so accepted without: the same count and the same T
  pub accepted_without : {c : ℕ} → (decomposition_of (with asked) budget m (pair t q) w).answer ≡ Ok c
      → ((decomposition_of (without asked) budget m (pair t q') w).answer ≡ Ok c)
      × ((decomposition_of (with asked) budget m (pair t q) w).pair.t ≡ (decomposition_of (without asked) budget m (pair t q') w).pair.t)
  accepted_without e =
      let x = as_run _ (with asked) budget m (pair t q) w e in
      let same = runs_same true false e in
      let here = ran_of (with asked) budget (pair m q) w in
      let there = ran_of (without asked) budget (pair m q') w in
      let told = ap (λ a. verdict (without asked) a there.pair) (sym same.answer)
      ∙ verdict-without asked here.answer here.pair there.pair same.t x.0 in
      let other =
      accepted_run _ (without asked) budget m (pair t q') w (checks_without (accepted_passed _ (with asked) budget m (pair t q) w e)) told
      ∙ ap (λ a. Ok (passes_of a)) (sym same.answer) ∙ sym (ap Ok x.1) in
      (other, (accepted_same true false e other).1)
