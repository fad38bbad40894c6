-- What lent memory held is not felt (document 01, demand 2: the steps are functions of the matrix). Two calls on one matrix, with one setting and budget, whose
-- checks come to the same: they answer the same, and past the checks they leave the same T, the same workspace, and the same Q where it is wanted. Assumes
-- nothing.
use Rattle.std.specs.Prelude.{Err, Ok}
use Rattle.refusal.specs.Refusal.{Checked, passed}
use Prim.Native.Nat.{ℕ, ◌*◌}
use mathlib.Core.Bool.{Bool, true, false}
use mathlib.Core.Path.{◌≡◌, refl, sym, ap, ap₂, subst, ◌∙◌}
use mathlib.Core.List.{List}
use lib.ListN.{length}
use lib.Ieee.{Float, nan}
use Rattle.loops.specs.Constants.{zero}
use Rattle.matrix.specs.Vectors.{filled}
use Rattle.matrix.proofs.Each.{filled_same}
use Rattle.refusal.specs.Checks.{only_if}
use Rattle.pass.specs.declared.setting.Setting.{Setting}
use Rattle.pass.specs.Pair.{Pair, pair}
use Rattle.schur.specs.declared.run.Stopped.TheVariants.{BudgetReached, Unfit}
use Rattle.schur.specs.Run.{Ran, Left, left, ran_of}
use Rattle.schur.proofs.Lent.{Lent, Unfelt, lent_not_felt}
use Rattle.decomposition.specs.Checks.{all_lengths, argument_checks, result_checks}
use Rattle.decomposition.specs.Decomposition.{Outcome, verdict, passes_of, nan_filled, settled, decided, judged, entry_of, decomposition_of}
use Rattle.decomposition.proofs.CheckedArguments.{Sizes, all_right, all_lent, q_lent, sizes_run, judged_work}
use Rattle.decomposition.proofs.Touched.{untouched, run_judged}

-- what two calls answer and leave
pub record SameOutcome (asked : Setting) (x y : Outcome) : Type 0 where
  pub answer : x.answer ≡ y.answer
  pub t : x.pair.t ≡ y.pair.t
  pub q : asked.wanted ≡ true → x.pair.q ≡ y.pair.q
  pub work : x.work ≡ y.work

-- ---- one run is judged as the other

-- without Q nothing of it is looked at
module _ (asked : Setting) (unwanted : asked.wanted ≡ false) where
  verdict_same : (a : Ran) (p r : Pair) → p.t ≡ r.t → verdict asked a p ≡ verdict asked a r
  unfolding verdict result_checks only_if
  verdict_same (Ok c) p r e = rw (unwanted, e) refl
  verdict_same (Err (BudgetReached v)) p r e = refl
  verdict_same (Err Unfit) p r e = refl

  settled_answer : (passes : ℕ) (c : Checked) (p r : Pair) → (settled asked passes c p).answer ≡ (settled asked passes c r).answer
  unfolding settled
  settled_answer passes (Ok u) p r = refl
  settled_answer passes (Err x) p r = refl

  settled_t : (passes : ℕ) (c : Checked) (p r : Pair) → p.t ≡ r.t → (settled asked passes c p).pair.t ≡ (settled asked passes c r).pair.t
  unfolding settled nan_filled
  settled_t passes (Ok u) p r e = e
  settled_t passes (Err x) p r e = ap (filled nan) e

module _ (asked : Setting) (x y : Left) (w w' : List Float) (unfelt : Unfelt asked x y) (room : length w ≡ length w') where
  abbrev Wanted : Type 0
  Wanted = asked.wanted ≡ true

  -- with Q the two runs are one
  one_run : Wanted → x ≡ y
  one_run h = ap₂ left unfelt.same.answer (ap₂ pair unfelt.same.t (unfelt.q h))

  judged_answer : (b : Bool) → asked.wanted ≡ b → (judged asked x w).answer ≡ (judged asked y w').answer
  unfolding judged decided
  judged_answer true h = ap (λ l. (decided asked l.answer l.pair).answer) (one_run h)
  judged_answer false h =
      settled_answer asked h (passes_of x.answer) (verdict asked x.answer x.pair) x.pair y.pair
      ∙ ap (λ c. (settled asked (passes_of x.answer) c y.pair).answer) (verdict_same asked h x.answer x.pair y.pair unfelt.same.t)
      ∙ ap (λ a. (settled asked (passes_of a) (verdict asked a y.pair) y.pair).answer) unfelt.same.answer

  judged_t : (b : Bool) → asked.wanted ≡ b → (judged asked x w).pair.t ≡ (judged asked y w').pair.t
  unfolding judged decided
  judged_t true h = ap (λ l. (decided asked l.answer l.pair).pair.t) (one_run h)
  judged_t false h =
      settled_t asked h (passes_of x.answer) (verdict asked x.answer x.pair) x.pair y.pair unfelt.same.t
      ∙ ap (λ c. (settled asked (passes_of x.answer) c y.pair).pair.t) (verdict_same asked h x.answer x.pair y.pair unfelt.same.t)
      ∙ ap (λ a. (settled asked (passes_of a) (verdict asked a y.pair) y.pair).pair.t) unfelt.same.answer

  judged_q : Wanted → (judged asked x w).pair.q ≡ (judged asked y w').pair.q
  unfolding judged decided
  judged_q h = ap (λ l. (decided asked l.answer l.pair).pair.q) (one_run h)

  pub judged_same : SameOutcome asked (judged asked x w) (judged asked y w')
  judged_same = record {
    answer = judged_answer asked.wanted refl;
    t = judged_t asked.wanted refl;
    q = judged_q;
    work = judged_work asked x w ∙ filled_same zero w w' room ∙ sym (judged_work asked y w');
  }

-- ---- any entry, on two memories that its checks take alike

-- where they pass, the lengths are told
pub record LengthsTold (lengths : Checked) (asked : Setting) (m : List Float) (p : Pair) (w : List Float) : Type 0 where
  pub sizes : lengths ≡ passed → Sizes asked.order (length m) (length p.t) (length w)
  pub q : lengths ≡ passed → asked.wanted ≡ true → length p.q ≡ asked.order * asked.order

module _ (lengths : Checked) (asked : Setting) (budget : ℕ) (m : List Float) (p p' : Pair) (w w' : List Float) (lent : LengthsTold lengths asked m p w)
    (lent' : LengthsTold lengths asked m p' w') where
  abbrev checks : Checked
  checks = argument_checks lengths asked budget m

  pub entry_lent : checks ≡ passed → SameOutcome asked (entry_of lengths asked budget m p w) (entry_of lengths asked budget m p' w')
  entry_lent h =
      let r = all_right _ _ _ _ h in
      let z = lent.sizes r.lent in
      let z' = lent'.sizes r.lent in
      let fits = sizes_run r.some r.order z in
      let fits' = sizes_run r.some r.order z' in
      let memories : Lent asked m p.q p'.q w w' =
      record { fits = fits; fits' = fits'; for_q = lent.q r.lent; for_q' = lent'.q r.lent } in
      let unfelt = lent_not_felt asked m p.q p'.q w w' memories budget in
      rw (run_judged lengths asked budget m p w h, run_judged lengths asked budget m p' w' h)
      (judged_same asked (ran_of asked budget (pair m p.q) w) (ran_of asked budget (pair m p'.q) w') w w' unfelt (z.room ∙ sym z'.room))

  pub entry_answer : (entry_of lengths asked budget m p w).answer ≡ (entry_of lengths asked budget m p' w').answer
  entry_answer = go checks refl
    where
      go : (c : Checked) → checks ≡ c → (entry_of lengths asked budget m p w).answer ≡ (entry_of lengths asked budget m p' w').answer
      go (Ok u) h = (entry_lent h).answer
      go (Err r) h = ap (λ o. o.answer) (untouched lengths asked budget m p w h) ∙ sym (ap (λ o. o.answer) (untouched lengths asked budget m p' w' h))

-- ---- the decomposition

module _ (asked : Setting) (budget : ℕ) (m : List Float) (p p' : Pair) (w w' : List Float) where
  abbrev lengths_of : Pair → List Float → Checked
  lengths_of p w = all_lengths asked (length m) (length p.t) (length p.q) (length w)

  told : (p : Pair) (w : List Float) → LengthsTold (lengths_of p w) asked m p w
  told p w = record { sizes = all_lent asked _ _ _ _; q = q_lent asked _ _ _ _ }

  -- the lengths of one memory are taken as those of the other, whatever either holds
  module _ (same : lengths_of p w ≡ lengths_of p' w') where
    told' : LengthsTold (lengths_of p w) asked m p' w'
    told' = subst (λ c. LengthsTold c asked m p' w') (sym same) (told p' w')

    -- In place, p and p' hold the matrix itself as T.
    pub decomposition_lent : argument_checks (lengths_of p w) asked budget m ≡ passed
        → SameOutcome asked (decomposition_of asked budget m p w) (decomposition_of asked budget m p' w')
    decomposition_lent h =
        subst (λ c. SameOutcome asked (decomposition_of asked budget m p w) (entry_of c asked budget m p' w')) same
        (entry_lent (lengths_of p w) asked budget m p p' w w' (told p w) told' h)

    -- refused before the run, too
    pub decomposition_answer : (decomposition_of asked budget m p w).answer ≡ (decomposition_of asked budget m p' w').answer
    decomposition_answer =
        entry_answer (lengths_of p w) asked budget m p p' w w' (told p w) told' ∙ ap (λ c. (entry_of c asked budget m p' w').answer) same
