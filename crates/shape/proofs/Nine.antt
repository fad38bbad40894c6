-- Where refusal 9 comes from (document 00, demand 3): from no run but one in which an axis was not zero and its squares vanished. Every other run that ends
-- short of its budget keeps the shape by its own steps, NaN and infinities included. Assumes nothing.
use Rattle.std.specs.Prelude.{None, Ok}
use Rattle.refusal.specs.Refusal.{Checked, passed}
use Rattle.decomposition.specs.Decomposition.{Decomposed}
use Prim.Native.Nat.{ℕ, ◌*◌, ◌≤◌}
use mathlib.Core.Bool.{Bool, true, false}
use mathlib.Core.Path.{◌≡◌, refl, sym, ap, ◌∙◌, subst}
use mathlib.Core.List.{List, []}
use native.Mathlib.Omega.{arith}
use lib.ListN.{length}
use lib.Ieee.{Float}
use Rattle.loops.specs.Rounded.{◌!◌}
use Rattle.scalar.specs.Class.{is_finite}
use Rattle.matrix.specs.Vectors.{largest}
use Rattle.matrix.proofs.Blocks.{each_place}
use Rattle.matrix.proofs.Largest.{largest_finite}
use Rattle.refusal.specs.declared.refusal.Refusal.TheVariants.{ResultNotFinite}
use Rattle.refusal.specs.Refusal.{told_of, refuse_at, checked_told}
use Rattle.refusal.specs.Search.{first_not_finite}
use Rattle.refusal.specs.Shape.{QuasiTriangular}
use Rattle.refusal.proofs.ChecksInTurn.{Only, only_next, only_at}
use Rattle.refusal.proofs.PassedChecks.{only_asked}
use Rattle.refusal.proofs.Shape.{nowhere_finite, shape_nowhere}
use Rattle.pass.specs.declared.setting.Setting.{Setting}
use Rattle.pass.specs.Pair.{Pair, pair}
use Rattle.schur.specs.Run.{Left, ran_of}
use Rattle.schur.proofs.Counting.{ended, reached}
use Rattle.schur.proofs.Lent.{fresh_same}
use Rattle.decomposition.specs.Checks.{argument_checks, result_checks}
use Rattle.decomposition.specs.Decomposition.{verdict, entry_of, decomposed_told}
use Rattle.decomposition.proofs.CheckedArguments.{Sizes, all_right, all_lent, sizes_run}
use Rattle.decomposition.proofs.Count.{told_declined, tells}
use Rattle.decomposition.proofs.Touched.{as_refused}
use Rattle.plain.specs.Plain.{plain_budget, plain_asked, plain_of}
use Rattle.plain.proofs.PlainRun.{plain_passed, plain_run_lem}
use Rattle.shape.specs.Vanished.{vanished}
use Rattle.shape.proofs.Run.{ended_shape}

-- what was looked at and found finite has a largest magnitude that is finite
found_finite : (n : ℕ) (m : List Float) → n ≤ 64 → length m ≡ n * n → first_not_finite n m ≡ None → is_finite (largest m) ≡ true
found_finite n m small size h =
    largest_finite m (λ p l. each_place (λ p. is_finite (m ! p) ≡ true) n (nowhere_finite n m small size h) p (omega arith))

-- of a T with the shape the checks after the run come to 8 only
only_eight : (asked : Setting) (p : Pair) → QuasiTriangular asked.order p.t → Only (λ r. (told_of r).number ≡ 8) (result_checks asked p)
unfolding result_checks told_of refuse_at
only_eight asked p shape =
    let n = asked.order in
    let eight = only_at (λ r. (told_of r).number ≡ 8) ResultNotFinite in
    only_next _ _ _ (eight (first_not_finite n p.t) (λ _. refl))
    (only_next _ _ _ (only_asked _ asked.wanted _ (eight (first_not_finite n p.q) (λ _. refl))) (rw (shape_nowhere n p.t shape) tt))

-- ---- any entry whose checks tell the lengths, as those of the decomposition and of the decomposition in place do

module _ (lengths : Checked) (asked : Setting) (budget : ℕ) (m : List Float) (p : Pair) (w : List Float)
    (lent : lengths ≡ passed → Sizes asked.order (length m) (length p.t) (length w)) where
  abbrev checks : Checked
  checks = argument_checks lengths asked budget m

  abbrev ran : Left
  ran = ran_of asked budget (pair m p.q) w

  abbrev answer : Decomposed
  answer = (entry_of lengths asked budget m p w).answer

  -- in some step of the run of the matrix an axis was not zero, and its squares vanished
  abbrev axis_vanished : Bool
  axis_vanished = vanished asked budget m

  -- the run ended short of its budget, and no axis vanished: T has the shape by the run's own steps
  pub run_shape : {c : ℕ} → checks ≡ passed → axis_vanished ≡ false → ran.answer ≡ Ok c → QuasiTriangular asked.order ran.pair.t
  run_shape h none e =
      let r = all_right _ _ _ _ h in
      let z = lent r.lent in
      let size = z.alike ∙ z.square in
      let alone = fresh_same asked budget m p.q w (sizes_run r.some r.order z) in
      subst (QuasiTriangular asked.order) (sym alone.t)
      (ended_shape asked budget m r.some r.order size (found_finite asked.order m r.order size r.entries) none (sym alone.answer ∙ e))

  no_nine : checks ≡ passed → axis_vanished ≡ false → (decomposed_told answer).number ≡ 9 → ⊥
  unfolding verdict told_of
  no_nine h none e =
      let d = told_declined answer 9 (omega arith) e in
      let a = as_refused lengths asked budget m p w h d.1 in
      elim (tells lengths asked m p w lent budget h) [
        | ended _ f ↦
            (let said = sym (ap (λ a. verdict asked a ran.pair) f) ∙ a.0 in
            let eight = subst (Only (λ r. (told_of r).number ≡ 8)) said (only_eight asked ran.pair (run_shape h none f)) in omega (arith, d.2))
        | reached _ _ f ↦
            (let said = sym (ap (λ a. verdict asked a ran.pair) f) ∙ a.0 in
            let seven = subst (Only (λ r. (told_of r).number ≡ 7)) said refl in omega (arith, d.2))
      ]

  -- 9 after a run: so an axis was not zero, and its squares vanished
  pub nine_vanished : checks ≡ passed → (decomposed_told answer).number ≡ 9 → axis_vanished ≡ true
  nine_vanished h e = go axis_vanished refl
    where
      go : (b : Bool) → axis_vanished ≡ b → b ≡ true
      go true k = refl
      go false k = absurd (no_nine h k e)

-- ---- the plain entry

-- its 9 is one of a run, too; in place the answer is the same (`copied_in_place` in plain)
pub plain_nine : (n : ℕ) (m values w : List Float) → (checked_told (plain_of n m values w).answer).number ≡ 9 → vanished (plain_asked n) plain_budget m ≡ true
plain_nine n m values w e =
    let asked = plain_asked n in
    let a = plain_run_lem n m values w 9 (λ f. f.nine refl) e in
    nine_vanished _ asked plain_budget m (pair m []) w (all_lent asked _ _ 0 _) (plain_passed n m values w a.0) a.1
