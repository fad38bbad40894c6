-- What lent memory held is not felt: two calls of the plain entry on one matrix, with lists and workspaces of the same lengths, answer the same, leave the same
-- where the matrix stood, and give the same eigenvalues, whatever the lists and the workspaces held. Assumes nothing.
use Rattle.std.specs.Prelude.{Err, Ok}
use Prim.Native.Nat.{ℕ}
use mathlib.Core.Bool.{cond}
use mathlib.Core.Path.{◌≡◌, refl, sym, ap, ◌∙◌}
use mathlib.Core.List.{List, []}
use lib.Dec.{eqb}
use lib.ListN.{length}
use lib.Ieee.{Float}
use Rattle.pass.specs.Pair.{pair}
use Rattle.pass.specs.Block.{block_at, eigvals_of}
use Rattle.refusal.specs.Refusal.{Checked, passed, if_passed}
use Rattle.refusal.proofs.ChecksInTurn.{refused_not_passed}
use Rattle.schur.specs.Run.{ran_of}
use Rattle.schur.proofs.Lent.{lent_not_felt}
use Rattle.schur.proofs.RunAnswers.{RunFits}
use Rattle.decomposition.proofs.Lent.{SameOutcome, judged_same}
use Rattle.eigenvalues.specs.Readers.{Read, left_by}
use Rattle.plain.specs.Plain.{Sized, plain_two, plain_budget, plain_asked, plain_ran, plain_run, plain_read, plain_left}
use Rattle.plain.specs.Plain.{InPlace, plain_begun, plain_placed_of, plain_finite_of, plain_of}
use Rattle.plain.proofs.Plainly.{given_sized, sizes_passed}

-- what two calls answer and leave: lists are the same where eigenvalues were given, else they are as they were
pub record SamePlain (x y : InPlace) : Type 0 where
  pub answer : x.answer ≡ y.answer
  pub t : x.t ≡ y.t
  pub values : x.answer ≡ passed → x.values ≡ y.values

-- a list that is given is what was read, whatever it held
given_values : (r : Read) → r.answer ≡ passed → (values : List Float) → (left_by r values).values ≡ r.values
unfolding left_by if_passed
given_values r h values = rw h refl

-- ---- once the arguments have passed

module _ {vn : ℕ} (n : ℕ) (m w w' : List Float) (sized : Sized n (length m) vn (length w)) (room : length w ≡ length w') where
  ran_lent : SameOutcome (plain_asked n) (plain_ran n m w) (plain_ran n m w')
  ran_lent =
      let asked = plain_asked n in
      let fits : RunFits n (length m) (length w) = record { some = sized.some; order = sized.order; size = sized.square; room = sized.room } in
      let fits' : RunFits n (length m) (length w') = record { some = sized.some; order = sized.order; size = sized.square; room = sym room ∙ sized.room } in
      let unfelt = lent_not_felt asked m [] [] w w' (record { fits = fits; fits' = fits'; for_q = λ e. cc; for_q' = λ e. cc }) plain_budget in
      judged_same asked (ran_of asked plain_budget (pair m []) w) (ran_of asked plain_budget (pair m []) w') w w' unfelt room

  run_lent : plain_run n (plain_ran n m w) ≡ plain_run n (plain_ran n m w')
  unfolding plain_run
  run_lent = let o = ran_lent in rw (o.answer, o.t) refl

  read_lent : plain_read n m w ≡ plain_read n m w'
  unfolding plain_read
  read_lent = ap (cond (eqb n 2) (plain_two (eigvals_of (block_at 2 0 m)))) run_lent

  left_lent : plain_left n m w ≡ plain_left n m w'
  unfolding plain_left
  left_lent = ap (cond (eqb n 2) m) ran_lent.t

  begun_lent : (values values' : List Float) → SamePlain (plain_begun passed n m values w) (plain_begun passed n m values' w')
  unfolding plain_begun left_by
  begun_lent values values' = record {
    answer = ap (λ r. r.answer) read_lent;
    t = left_lent;
    values = λ h.
        given_values (plain_read n m w) h values ∙ ap (λ r. r.values) read_lent
        ∙ sym (given_values (plain_read n m w') (sym (ap (λ r. r.answer) read_lent) ∙ h) values');
  }

-- what is refused before the run is the same refusal, and the matrix stands
by_checks : {vn : ℕ} (c : Checked) (n : ℕ) (m values values' w w' : List Float) → (c ≡ passed → Sized n (length m) vn (length w)) → length w ≡ length w'
    → SamePlain (plain_begun c n m values w) (plain_begun c n m values' w')
unfolding plain_begun
by_checks (Ok u) n m values values' w w' sized room = begun_lent n m w w' (sized refl) room values values'
by_checks (Err r) n m values values' w w' sized room = record { answer = refl; t = refl; values = λ h. absurd (refused_not_passed r h) }

-- ---- the three entries

module _ (n : ℕ) (m values values' w w' : List Float) (list : length values ≡ length values') (room : length w ≡ length w') where
  pub placed_lent : SamePlain (plain_placed_of n m values w) (plain_placed_of n m values' w')
  unfolding plain_placed_of
  placed_lent = rw (← list, ← room) (by_checks _ n m values values' w w' (given_sized n _ (length values) _ m) room)

  pub finite_lent : SamePlain (plain_finite_of n m values w) (plain_finite_of n m values' w')
  unfolding plain_finite_of
  finite_lent = rw (← list, ← room) (by_checks _ n m values values' w w' (sizes_passed n _ (length values) _) room)

  -- of a matrix that is kept: the answer, and the eigenvalues where they are given
  pub plain_lent : ((plain_of n m values w).answer ≡ (plain_of n m values' w').answer)
      × ((plain_of n m values w).answer ≡ passed → (plain_of n m values w).values ≡ (plain_of n m values' w').values)
  unfolding plain_of
  plain_lent = (placed_lent.answer, placed_lent.values)
