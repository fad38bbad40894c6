-- An accepted T (document 00, demand 3): every entry is finite, and the shape is quasi-triangular. Where Q is wanted its entries are finite too. Assumes
-- nothing.
use Rattle.std.specs.Prelude.{Err, None, Ok}
use Rattle.refusal.specs.Refusal.{Checked, passed}
use Rattle.schur.specs.Run.{Ran}
use Prim.Native.Nat.{ℕ, ◌*◌, ◌≤◌}
use mathlib.Core.Bool.{true}
use mathlib.Core.Path.{◌≡◌, sym, subst, ◌∙◌}
use mathlib.Core.List.{List}
use lib.ListN.{length}
use lib.Ieee.{Float}
use Rattle.refusal.specs.Search.{first_not_finite, first_spoiling}
use Rattle.refusal.specs.Shape.{AllFinite, QuasiTriangular}
use Rattle.refusal.proofs.ChecksInTurn.{refused_not_passed, next_passed, refuse_at_passed}
use Rattle.refusal.proofs.PassedChecks.{asked_passed}
use Rattle.refusal.proofs.Shape.{nowhere_finite, nowhere_shape}
use Rattle.pass.specs.declared.setting.Setting.{Setting}
use Rattle.pass.specs.Pair.{Pair}
use Rattle.schur.specs.declared.run.Stopped.TheVariants.{BudgetReached, Unfit}
use Rattle.decomposition.specs.Checks.{result_checks}
use Rattle.decomposition.specs.Decomposition.{Decomposed, verdict, entry_of, Shaped}
use Rattle.decomposition.proofs.CheckedArguments.{Sizes, all_right}
use Rattle.decomposition.proofs.Touched.{accepted_passed, as_run, lent_long, t_square}

-- ---- only a run that has ended passes, and where T and Q have passed

verdict_passed : (asked : Setting) (r : Ran) (p : Pair) → verdict asked r p ≡ passed → result_checks asked p ≡ passed
unfolding verdict
verdict_passed asked (Ok passes) p h = h
verdict_passed asked (Err (BudgetReached window)) p h = absurd (refused_not_passed _ h)
verdict_passed asked (Err Unfit) p h = absurd (refused_not_passed _ h)

-- nothing is found then
record NoneFound (asked : Setting) (p : Pair) : Type 0 where
  t_finite : first_not_finite asked.order p.t ≡ None
  q_finite : asked.wanted ≡ true → first_not_finite asked.order p.q ≡ None
  t_shape : first_spoiling asked.order p.t ≡ None

found_none : (asked : Setting) (p : Pair) → result_checks asked p ≡ passed → NoneFound asked p
unfolding result_checks
found_none asked p h =
    let a = next_passed _ _ h in
    let b = next_passed _ _ a.1 in
    record {
      t_finite = refuse_at_passed _ _ a.0;
      q_finite = λ e. refuse_at_passed _ _ (asked_passed asked.wanted _ b.0 e);
      t_shape = refuse_at_passed _ _ b.1;
    }

-- ---- of any entry whose checks tell the lengths

module _ (lengths : Checked) (asked : Setting) (budget : ℕ) (m : List Float) (p : Pair) (w : List Float)
    (lent : lengths ≡ passed → Sizes asked.order (length m) (length p.t) (length w)) where
  abbrev n : ℕ
  n = asked.order

  abbrev answer : Decomposed
  answer = (entry_of lengths asked budget m p w).answer

  abbrev t : List Float
  t = (entry_of lengths asked budget m p w).pair.t

  abbrev q : List Float
  q = (entry_of lengths asked budget m p w).pair.q

  none : {c : ℕ} → answer ≡ Ok c → NoneFound asked (entry_of lengths asked budget m p w).pair
  none e =
      let a = as_run lengths asked budget m p w e in
      subst (NoneFound asked) (sym a.2) (found_none asked _ (verdict_passed asked _ _ a.0))

  order : {c : ℕ} → answer ≡ Ok c → n ≤ 64
  order e = (all_right _ _ _ _ (accepted_passed lengths asked budget m p w e)).order

  square : {c : ℕ} → answer ≡ Ok c → length t ≡ n * n
  square e = t_square lengths asked budget m p w lent (accepted_passed lengths asked budget m p w e)

  pub accepted_finite : {c : ℕ} → answer ≡ Ok c → AllFinite n t
  accepted_finite e = nowhere_finite n t (order e) (square e) (none e).t_finite

  pub accepted_q_finite : {c : ℕ} → asked.wanted ≡ true → answer ≡ Ok c → length p.q ≡ n * n → AllFinite n q
  accepted_q_finite k e size = nowhere_finite n q (order e) ((lent_long lengths asked budget m p w lent).q ∙ size) ((none e).q_finite k)

  pub accepted_shape : {c : ℕ} → answer ≡ Ok c → QuasiTriangular n t
  accepted_shape e = nowhere_shape n t (order e) (square e) (none e).t_shape

  -- what an entry promises of its T
  pub shape_held : (r : Decomposed) (u : List Float) → r ≡ answer → u ≡ t → Shaped r n u
  shape_held (Ok c) u h k = rw k (accepted_shape (sym h))
  shape_held (Err r) u h k = tt
