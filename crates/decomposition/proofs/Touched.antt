-- What lent memory holds afterwards (document 00, demand 1): refused before the run, what it held; after the run the workspace is +0 throughout, and where
-- the run's result is refused T is NaN throughout, and Q too if it is wanted. T and Q stay as long as they were. Assumes nothing.
use Rattle.std.specs.Prelude.{Err, Ok}
use Rattle.refusal.specs.Refusal.{Checked, passed}
use Prim.Native.Nat.{ℕ, ◌*◌, ◌<◌}
use mathlib.Core.Bool.{true}
use mathlib.Core.Path.{◌≡◌, refl, sym, ap, ◌∙◌}
use mathlib.Core.List.{List}
use native.Mathlib.Omega.{arith}
use lib.ListN.{length}
use lib.Ieee.{Float, nan}
use Rattle.loops.specs.Constants.{zero}
use Rattle.loops.specs.Rounded.{◌!◌}
use Rattle.matrix.specs.Vectors.{filled}
use Rattle.matrix.proofs.Each.{filled-length, filled_at}
use Rattle.refusal.specs.declared.refusal.Refusal.{Refusal}
use Rattle.pass.specs.declared.setting.Setting.{Setting}
use Rattle.pass.specs.Pair.{Pair, pair, on_q}
use Rattle.pass.proofs.Lengths.{AsLong, same_long, then_long, on_q-length}
use Rattle.schur.specs.Run.{Left, ran_of}
use Rattle.schur.proofs.Lengths.{ran_length}
use Rattle.decomposition.specs.Checks.{all_lengths, argument_checks}
use Rattle.decomposition.specs.Decomposition.{Outcome, outcome, verdict, passes_of, nan_filled, settled, decided, judged, begun, entry_of, decomposition_of}
use Rattle.decomposition.specs.Decomposition.{placed_of}
use Rattle.decomposition.proofs.CheckedArguments.{Sizes, all_right, all_lent, passed_judged, judged_work}

-- ---- as a run was judged, so it is answered

settled_accepted : {c : ℕ} (asked : Setting) (passes : ℕ) (checked : Checked) (p : Pair) → (settled asked passes checked p).answer ≡ Ok c
    → (checked ≡ passed) × (c ≡ passes) × ((settled asked passes checked p).pair ≡ p)
unfolding settled
settled_accepted asked passes (Ok u) p h = (refl, cc, refl)
settled_accepted asked passes (Err r) p h = (cc, cc, cc)

settled_declined : {r : Refusal} (asked : Setting) (passes : ℕ) (checked : Checked) (p : Pair) → (settled asked passes checked p).answer ≡ Err r
    → (checked ≡ Err r) × ((settled asked passes checked p).pair ≡ nan_filled asked p)
unfolding settled
settled_declined asked passes (Ok u) p h = (cc, cc)
settled_declined asked passes (Err r) p h = (cc, refl)

-- either way T and Q stay as long as the run left them
spoiled_length : (asked : Setting) (p : Pair) → AsLong p (nan_filled asked p)
unfolding nan_filled
spoiled_length asked p = record { t = filled-length nan p.t; q = on_q-length asked.wanted (filled nan) p.q (filled-length nan p.q) }

settled_length : (asked : Setting) (passes : ℕ) (checked : Checked) (p : Pair) → AsLong p (settled asked passes checked p).pair
unfolding settled
settled_length asked passes (Ok u) p = same_long p
settled_length asked passes (Err r) p = spoiled_length asked p

judged_length : (asked : Setting) (l : Left) (w : List Float) → AsLong l.pair (judged asked l w).pair
unfolding judged decided
judged_length asked l w = settled_length asked (passes_of l.answer) (verdict asked l.answer l.pair) l.pair

-- a list filled with NaN
nan_throughout : (t u : List Float) → t ≡ filled nan u → (i : ℕ) → i < length t → t ! i ≡ nan
nan_throughout t u e i l = ap (λ x. x ! i) e ∙ filled_at nan u i (omega (arith, ap length e, filled-length nan u))

-- ---- any entry, whatever its lengths' checks are

-- the checks before the run of the decomposition
abbrev pub checks_of : Setting → (budget : ℕ) → (m : List Float) → Pair → (w : List Float) → Checked
checks_of asked budget m p w = argument_checks (all_lengths asked (length m) (length p.t) (length p.q) (length w)) asked budget m

module _ (lengths : Checked) (asked : Setting) (budget : ℕ) (m : List Float) (p : Pair) (w : List Float) where
  abbrev checks : Checked
  checks = argument_checks lengths asked budget m

  abbrev ran : Left
  ran = ran_of asked budget (pair m p.q) w

  abbrev whole : Outcome
  whole = entry_of lengths asked budget m p w

  -- refused before the run: that refusal is answered, and nothing is touched
  pub untouched : {r : Refusal} → checks ≡ Err r → whole ≡ outcome (Err r) p w
  unfolding entry_of begun
  untouched h = rw h

  -- else the run decides
  pub run_judged : checks ≡ passed → whole ≡ judged asked ran w
  run_judged h = passed_judged lengths asked budget m p w (all_right _ _ _ _ h)

  -- and the workspace is +0 throughout, whatever is answered
  pub work_cleared : checks ≡ passed → whole.work ≡ filled zero w
  work_cleared h = ap (λ o. o.work) (run_judged h) ∙ judged_work _ _ _

  -- what is accepted has passed them
  pub accepted_passed : {c : ℕ} → whole.answer ≡ Ok c → checks ≡ passed
  accepted_passed e = go checks refl
    where
      go : (k : Checked) → checks ≡ k → k ≡ passed
      go (Ok u) h = refl
      go (Err r) h = let other = ap (λ o. o.answer) (untouched h) in cc

  -- accepted: T and Q are the run's, and all else has passed too; and the other way round
  pub as_run : {c : ℕ} → whole.answer ≡ Ok c → (verdict asked ran.answer ran.pair ≡ passed) × (c ≡ passes_of ran.answer)
      × (whole.pair ≡ ran.pair)
  unfolding judged decided
  as_run e = let h = accepted_passed e in rw (run_judged h) (settled_accepted _ _ _ _ (rw (run_judged h) at e))

  pub accepted_run : checks ≡ passed → verdict asked ran.answer ran.pair ≡ passed → whole.answer ≡ Ok (passes_of ran.answer)
  unfolding judged decided settled
  accepted_run h k = ap (λ o. o.answer) (run_judged h) ∙ ap (λ c. (settled asked (passes_of ran.answer) c ran.pair).answer) k

  -- refused after the run: T and Q are spoiled
  pub as_refused : {r : Refusal} → checks ≡ passed → whole.answer ≡ Err r
      → (verdict asked ran.answer ran.pair ≡ Err r) × (whole.pair ≡ nan_filled asked ran.pair)
  unfolding judged decided
  as_refused h e = rw (run_judged h) (settled_declined _ _ _ _ (rw (run_judged h) at e))

  pub refused_run : {r : Refusal} → checks ≡ passed → verdict asked ran.answer ran.pair ≡ Err r → whole.answer ≡ Err r
  unfolding judged decided settled
  refused_run h k = ap (λ o. o.answer) (run_judged h) ∙ ap (λ c. (settled asked (passes_of ran.answer) c ran.pair).answer) k

  -- ---- where passing tells the lengths, as it does for each entry

  module _ (lent : lengths ≡ passed → Sizes asked.order (length m) (length p.t) (length w)) where
    sizes : checks ≡ passed → Sizes asked.order (length m) (length p.t) (length w)
    sizes h = lent (all_right _ _ _ _ h).lent

    -- T and Q are as long as what was lent for them, whatever is answered
    pub lent_long : AsLong p whole.pair
    lent_long = go checks refl
      where
        go : (k : Checked) → checks ≡ k → AsLong p whole.pair
        go (Ok u) h =
            let begins : AsLong p (pair m p.q) = record { t = (sizes h).alike; q = refl } in
            rw (run_judged h) (then_long begins (then_long (ran_length asked budget (pair m p.q) w) (judged_length asked ran w)))
        go (Err r) h = rw (untouched h) (same_long p)

    -- past the checks that is n * n numbers for T, as the matrix has
    pub t_square : checks ≡ passed → length whole.pair.t ≡ asked.order * asked.order
    t_square h = lent_long.t ∙ (sizes h).square

    -- refused after the run: NaN in every entry of T, and of Q if it is wanted
    pub t_nan : {r : Refusal} → checks ≡ passed → whole.answer ≡ Err r → (i : ℕ) → i < length p.t → whole.pair.t ! i ≡ nan
    unfolding nan_filled
    t_nan h e i l = nan_throughout _ _ (ap (λ x. x.t) (as_refused h e).1) i (omega (arith, lent_long.t))

    pub q_nan : {r : Refusal} → checks ≡ passed → asked.wanted ≡ true → whole.answer ≡ Err r → (i : ℕ) → i < length p.q → whole.pair.q ! i ≡ nan
    unfolding nan_filled
    q_nan h k e i l =
        nan_throughout _ _ (ap (λ x. x.q) (as_refused h e).1 ∙ ap (λ b. on_q b (filled nan) ran.pair.q) k) i (omega (arith, lent_long.q))

-- ---- the decomposition is a copy and the decomposition in place

-- where the checks pass; where they do not, both leave all as it was (`untouched`)
pub copied_in_place : (asked : Setting) (budget : ℕ) (m : List Float) (p : Pair) (w : List Float) → checks_of asked budget m p w ≡ passed
    → decomposition_of asked budget m p w ≡ placed_of asked budget (pair m p.q) w
copied_in_place asked budget m p w h =
    let alike = (all_lent asked _ _ (length p.q) _ (all_right _ _ _ _ h).lent).alike in
    let there = ap (λ k. argument_checks (all_lengths asked (length m) k (length p.q) (length w)) asked budget m) alike ∙ h in
    run_judged _ asked budget m p w h ∙ sym (run_judged _ asked budget m (pair m p.q) w there)
