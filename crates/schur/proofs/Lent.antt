-- What lent memory held is not felt: two runs on one matrix, with one setting and budget, answer the same, leave the same T, and the same Q where it is
-- wanted, whatever stood in Q's place and in the workspace. Assumes nothing.
use Prim.Native.Nat.{ℕ, ◌*◌, ◌-◌}
use mathlib.Core.Bool.{Bool, true}
use mathlib.Core.Path.{◌≡◌, refl, sym, ap, ap₂, ◌∙◌}
use mathlib.Core.List.{List}
use native.Mathlib.Decide.{ℕ_discrete}
use native.Mathlib.Omega.{arith}
use borrow.Author.Tests.{eq-eqb, ne_eqb}
use lib.ListN.{length}
use lib.Ieee.{Float}
use Rattle.loops.specs.Constants.{one}
use Rattle.matrix.specs.Vectors.{largest, zeros}
use Rattle.matrix.proofs.Each.{filled_same, zeros-length}
use Rattle.hessenberg.specs.Reduced.{reduced}
use Rattle.hessenberg.specs.Unpacked.{unpacked_q}
use Rattle.hessenberg.proofs.Frames.{reduced-length}
use Rattle.hessenberg.proofs.Lent.{q_lent}
use Rattle.pass.specs.declared.setting.Setting.{Setting}
use Rattle.pass.specs.Pair.{pair, on_q}
use Rattle.pass.specs.Block.{columns_in, order_two}
use Rattle.schur.specs.Run.{state, delimiting, run_from, scaled_down, reduced_pair, opened, Left, answered, ran_of, fresh_ran}
use Rattle.schur.proofs.Independent.{Same, reduction_alike, h_alike, ran_same}
use Rattle.schur.proofs.Lengths.{scaled_down-length}
use Rattle.schur.proofs.RunAnswers.{RunFits}

-- two memories lent for the matrix t: for Q where it is wanted, and for the workspace
pub record Lent (asked : Setting) (t q q' w w' : List Float) : Type 0 where
  pub fits : RunFits asked.order (length t) (length w)
  pub fits' : RunFits asked.order (length t) (length w')
  pub for_q : asked.wanted ≡ true → length q ≡ asked.order * asked.order
  pub for_q' : asked.wanted ≡ true → length q' ≡ asked.order * asked.order

-- one answer, one T, and one Q where it is wanted
pub record Unfelt (asked : Setting) (x y : Left) : Type 0 where
  pub same : Same x y
  pub q : asked.wanted ≡ true → x.pair.q ≡ y.pair.q

wanted_same : (b : Bool) (f g : List Float → List Float) (q q' : List Float) → b ≡ true → f q ≡ g q' → on_q b f q ≡ on_q b g q'
wanted_same b f g q q' h e = rw h e

module _ (asked : Setting) (t q q' w w' : List Float) (lent : Lent asked t q q' w w') where
  abbrev n : ℕ
  n = asked.order

  abbrev down : List Float
  down = scaled_down t

  -- Q with the workspace w, in the place of another matrix
  abbrev q_of : (w q : List Float) → List Float
  q_of w q = unpacked_q n (reduced n down w).matrix (reduced n down w).work q

  -- the first state, Q and all
  opened_lent : asked.wanted ≡ true → opened asked (pair t q) w ≡ opened asked (pair t q') w'
  unfolding opened reduced_pair
  opened_lent wanted =
      let fits = lent.fits in
      let a = reduction_alike asked t w w' fits lent.fits' in
      let square = reduced-length n down w' ∙ scaled_down-length t ∙ fits.size in
      let made = ap (λ m. unpacked_q n m (reduced n down w).work q) a.matrix
      ∙ q_lent n (reduced n down w').matrix (reduced n down w).work (reduced n down w').work a.room a.room' a.norms q q' fits.order square
      (lent.for_q wanted) (lent.for_q' wanted) in
      ap₂ (λ x y. delimiting asked (n - 1) (λ v. state v 0) (pair x y)) (h_alike asked t w w' fits lent.fits')
      (wanted_same asked.wanted (q_of w) (q_of w') q q' wanted made)

  -- order 1, order 2, and all others
  one_lent : asked.wanted ≡ true → n ≡ 1 → (budget : ℕ) → (ran_of asked budget (pair t q) w).pair.q ≡ (ran_of asked budget (pair t q') w').pair.q
  unfolding ran_of
  one_lent wanted e budget = rw (eq-eqb n 1 e, wanted) (filled_same one q q' (lent.for_q wanted ∙ sym (lent.for_q' wanted)))

  two_lent : asked.wanted ≡ true → n ≡ 2 → (budget : ℕ) → (ran_of asked budget (pair t q) w).pair.q ≡ (ran_of asked budget (pair t q') w').pair.q
  unfolding ran_of order_two columns_in
  two_lent wanted e budget =
      let four : n * n ≡ 4 = rw e refl in
      rw (
        ne_eqb n 1 (λ f. omega arith),
        eq-eqb n 2 e,
        eq-eqb (length t) 4 (lent.fits.size ∙ four),
        wanted,
        eq-eqb (length q) 4 (lent.for_q wanted ∙ four),
        eq-eqb (length q') 4 (lent.for_q' wanted ∙ four),
      ) refl

  more_lent : asked.wanted ≡ true → (n ≡ 1 → ⊥) → (n ≡ 2 → ⊥) → (budget : ℕ)
      → (ran_of asked budget (pair t q) w).pair.q ≡ (ran_of asked budget (pair t q') w').pair.q
  unfolding ran_of
  more_lent wanted not_one not_two budget =
      rw (ne_eqb n 1 not_one, ne_eqb n 2 not_two) (ap (λ r. (answered budget (largest t) (run_from asked budget r)).pair.q) (opened_lent wanted))

  pub lent_not_felt : (budget : ℕ) → Unfelt asked (ran_of asked budget (pair t q) w) (ran_of asked budget (pair t q') w')
  lent_not_felt budget = record {
    same = ran_same asked.wanted asked.wanted asked budget t q q' w w' lent.fits lent.fits';
    q = λ wanted. by_order wanted (ℕ_discrete n 1) (ℕ_discrete n 2);
  }
    where
      by_order : asked.wanted ≡ true → Dec (n ≡ 1) → Dec (n ≡ 2) → (ran_of asked budget (pair t q) w).pair.q ≡ (ran_of asked budget (pair t q') w').pair.q
      by_order wanted (yes e) two = one_lent wanted e budget
      by_order wanted (no e) (yes f) = two_lent wanted f budget
      by_order wanted (no e) (no f) = more_lent wanted e f budget

-- ---- so each run is that in memory which holds +0 throughout

pub fits_fresh : {n tn wn : ℕ} → RunFits n tn wn → RunFits n tn (length (zeros (2 * n)))
fits_fresh {n} fits = record { some = fits.some; order = fits.order; size = fits.size; room = zeros-length (2 * n) }

module _ (asked : Setting) (budget : ℕ) (t q w : List Float) (fits : RunFits asked.order (length t) (length w)) where
  -- the answer and T, whatever is lent for Q
  pub fresh_same : Same (ran_of asked budget (pair t q) w) (fresh_ran asked budget t)
  fresh_same =
      ran_same asked.wanted asked.wanted asked budget t q (zeros (asked.order * asked.order)) w (zeros (2 * asked.order)) fits (fits_fresh fits)

  -- and Q, where it is wanted
  pub fresh_unfelt : (asked.wanted ≡ true → length q ≡ asked.order * asked.order) → Unfelt asked (ran_of asked budget (pair t q) w) (fresh_ran asked budget t)
  fresh_unfelt room =
      lent_not_felt asked t q (zeros (asked.order * asked.order)) w (zeros (2 * asked.order))
      (record { fits = fits; fits' = fits_fresh fits; for_q = room; for_q' = λ _. zeros-length (asked.order * asked.order) }) budget
