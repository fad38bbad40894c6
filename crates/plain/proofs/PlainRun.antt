-- The plain entry is the decomposition without Q, with the tolerance 2 ^ -52 and the budget 10,000, and the real reader's last check; at order 2 it makes no
-- run. So what is proved of 7 and 9 for the decomposition holds of the plain entry's 7 and 9. Assumes nothing.
use Rattle.std.specs.Prelude.{Err, None, Ok, Option, Some}
use Rattle.pass.specs.declared.block.Values.{Values}
use Prim.Native.Nat.{ℕ, ◌≤◌}
use mathlib.Core.Bool.{Bool, true, false, cond}
use mathlib.Core.Path.{◌≡◌, refl, sym, ap, ◌∙◌, subst}
use mathlib.Core.List.{List, []}
use native.Mathlib.Omega.{arith}
use borrow.Author.Tests.{eqb-true, ne_eqb}
use lib.Dec.{eqb}
use lib.ListN.{length}
use lib.Ieee.{Float, le, lt, of_bits}
use Rattle.loops.specs.Constants.{epsilon}
use Rattle.pass.specs.Pair.{pair}
use Rattle.pass.specs.Block.{block_at, eigvals_of}
use Rattle.refusal.specs.declared.refusal.Refusal.{Refusal}
use Rattle.refusal.specs.declared.refusal.Refusal.TheVariants.{WrongLength, ComplexEigenvalues}
use Rattle.refusal.specs.Refusal.{Checked, passed, without_place, told_of, checked_told}
use Rattle.refusal.specs.Checks.{length_check, given_checks}
use Rattle.refusal.proofs.ChecksInTurn.{next_passes, Only, only_next, only_refuse, only_at}
use Rattle.refusal.proofs.PassedChecks.{length_passes, matrices_passes, given_passed, only_length, only_given}
use Rattle.schur.specs.Run.{count_of}
use Rattle.decomposition.specs.Checks.{tolerance_fits, budget_fits, all_lengths}
use Rattle.decomposition.specs.Decomposition.{Decomposed, Outcome, decomposition_of, decomposed_told}
use Rattle.decomposition.proofs.CheckedArguments.{Sizes, right_passed, all_lent}
use Rattle.decomposition.proofs.Touched.{checks_of, run_judged}
use Rattle.decomposition.proofs.Count.{seven_reached, reached_seven}
use Rattle.eigenvalues.specs.Readers.{pair_check, left_by}
use Rattle.plain.specs.Plain.{plain_lengths, Sized, plain_two, plain_budget, plain_asked, plain_ran, complex_checked, plain_run, plain_read, plain_left}
use Rattle.plain.specs.Plain.{plain_begun, plain_placed_of, plain_of}
use Rattle.plain.proofs.InPlace.{checks}
use Rattle.plain.proofs.Plainly.{given_sized}

-- ---- all but the run comes to other numbers than 7 and 9

pub record Elsewhere (k : ℕ) : Type 0 where
  pub seven : k ≡ 7 → ⊥
  pub nine : k ≡ 9 → ⊥

abbrev AllElsewhere : Checked → Type 0
AllElsewhere c = Only (λ r. Elsewhere (told_of r).number) c

length_elsewhere : (has needs : ℕ) → AllElsewhere (length_check WrongLength has needs)
unfolding told_of
length_elsewhere has needs = only_length _ _ has needs (record { seven = λ e. omega arith; nine = λ e. omega arith })

lengths_elsewhere : (n mn vn wn : ℕ) → AllElsewhere (plain_lengths n mn vn wn)
unfolding plain_lengths
lengths_elsewhere n mn vn wn = only_next _ _ _ (length_elsewhere mn _) (only_next _ _ _ (length_elsewhere vn _) (length_elsewhere wn _))

checks_elsewhere : (lengths : Checked) (n : ℕ) (m : List Float) → AllElsewhere lengths → AllElsewhere (given_checks lengths n m)
unfolding told_of
checks_elsewhere lengths n m h =
    only_given _ _ _ _ (record { seven = λ e. omega arith; nine = λ e. omega arith }) (record { seven = λ e. omega arith; nine = λ e. omega arith }) h
    (λ _. record { seven = λ e. omega arith; nine = λ e. omega arith })

two_elsewhere : (v : Option Values) → AllElsewhere (plain_two v).answer
unfolding plain_two told_of
two_elsewhere None = record { seven = λ e. omega arith; nine = λ e. omega arith }
two_elsewhere (Some v) = only_at _ _ _ (λ _. record { seven = λ e. omega arith; nine = λ e. omega arith })

pair_elsewhere : (n : ℕ) (t : List Float) → AllElsewhere (pair_check n t)
unfolding pair_check told_of
pair_elsewhere n t = only_refuse _ _ ComplexEigenvalues (record { seven = λ e. omega arith; nine = λ e. omega arith })

-- such checks tell no 7 and no 9
told_elsewhere : {k : ℕ} (c : Checked) → AllElsewhere c → (checked_told c).number ≡ k → Elsewhere k
unfolding checked_told
told_elsewhere (Ok u) h e = record { seven = λ f. omega arith; nine = λ f. omega arith }
told_elsewhere (Err r) h e = subst Elsewhere e h

-- ---- the last check, of what the decomposition answers

-- of an accepted T it comes to 10 at most; else the refusal is the decomposition's
declined_there : {k : ℕ} (a : Decomposed) (n : ℕ) (t : List Float) → (Elsewhere k → ⊥) → (checked_told (complex_checked a n t)).number ≡ k
    → (decomposed_told a).number ≡ k
unfolding complex_checked checked_told decomposed_told
declined_there (Ok c) n t out e = absurd (out (told_elsewhere (pair_check n t) (pair_elsewhere n t) e))
declined_there (Err r) n t out e = e

declined_told : (a : Decomposed) (n : ℕ) (t : List Float) → 1 ≤ (decomposed_told a).number → checked_told (complex_checked a n t) ≡ decomposed_told a
unfolding complex_checked checked_told decomposed_told
declined_told (Ok c) n t l = absurd (omega arith)
declined_told (Err r) n t l = refl

-- ---- the checks of the decomposition pass where those of the plain entry do

near : tolerance_fits epsilon ≡ true
unfolding tolerance_fits le lt of_bits
near = refl

bound : budget_fits plain_budget ≡ true
unfolding budget_fits
bound = refl

-- what is lent for Q plays no part, and for T it is as much as the matrix
lengths_pass : {n mn vn wn : ℕ} → Sized n mn vn wn → all_lengths (plain_asked n) mn mn 0 wn ≡ passed
unfolding all_lengths
lengths_pass z = next_passes (matrices_passes (record { m = z.square; t = z.square; q = λ e. cc })) (length_passes _ z.room)

module _ (n : ℕ) (m values w : List Float) where
  -- what is lent for T plays no part: here it is the matrix
  abbrev decomposed : Outcome
  decomposed = decomposition_of (plain_asked n) plain_budget m (pair m []) w

  abbrev count : ℕ
  count = count_of (plain_asked n) m

  lent : all_lengths (plain_asked n) (length m) (length m) 0 (length w) ≡ passed → Sizes n (length m) (length m) (length w)
  lent = all_lent (plain_asked n) _ _ 0 _

  abbrev answer : Checked
  answer = (plain_of n m values w).answer

  pub plain_passed : checks n m values w ≡ passed → checks_of (plain_asked n) plain_budget m (pair m []) w ≡ passed
  plain_passed h =
      let g = given_passed _ n m h in
      let z = given_sized n _ _ _ m h in
      right_passed (record { some = g.some; order = g.order; lent = lengths_pass z; near = near; bound = bound; entries = g.entries })

  -- so the decomposition is what is said of the run
  ran_is : checks n m values w ≡ passed → plain_ran n m w ≡ decomposed
  ran_is h = sym (run_judged _ (plain_asked n) plain_budget m (pair m []) w (plain_passed h))

  by_checks : {c : Checked} → checks n m values w ≡ c → plain_placed_of n m values w ≡ plain_begun c n m values w
  unfolding plain_placed_of
  by_checks h = ap (λ c. plain_begun c n m values w) h

  plain_kept : {r : Refusal} → checks n m values w ≡ Err r → answer ≡ Err r
  unfolding plain_of plain_begun
  plain_kept h = ap (λ p. p.answer) (by_checks h)

  by_order : {b : Bool} → checks n m values w ≡ passed → eqb n 2 ≡ b
      → answer ≡ (cond b (plain_two (eigvals_of (block_at 2 0 m))) (plain_run n (plain_ran n m w))).answer
  unfolding plain_of plain_begun left_by plain_read
  by_order h k = ap (λ p. p.answer) (by_checks h) ∙ ap (λ b. (cond b (plain_two (eigvals_of (block_at 2 0 m))) (plain_run n (plain_ran n m w))).answer) k

  -- every order but 2
  pub plain_is : checks n m values w ≡ passed → eqb n 2 ≡ false → answer ≡ complex_checked decomposed.answer n decomposed.pair.t
  unfolding plain_run
  plain_is h k = by_order h k ∙ ap (λ o. (plain_run n o).answer) (ran_is h)

  -- in place the decomposition's T is left, NaN throughout where it has refused
  pub placed_is : checks n m values w ≡ passed → eqb n 2 ≡ false → (plain_placed_of n m values w).t ≡ decomposed.pair.t
  unfolding plain_begun plain_left
  placed_is h k = ap (λ p. p.t) (by_checks h) ∙ ap (λ b. cond b m (plain_ran n m w).pair.t) k ∙ ap (λ o. o.pair.t) (ran_is h)

  -- so 7 and 9 are the decomposition's
  pub plain_run_lem : (k : ℕ) → (Elsewhere k → ⊥) → (checked_told answer).number ≡ k
      → (checks n m values w ≡ passed) × ((decomposed_told decomposed.answer).number ≡ k)
  plain_run_lem k out e = go (checks n m values w) refl (eqb n 2) refl
    where
      number : {c : Checked} → answer ≡ c → (checked_told c).number ≡ k
      number h = ap (λ c. (checked_told c).number) (sym h) ∙ e

      go : (c : Checked) → checks n m values w ≡ c → (b : Bool) → eqb n 2 ≡ b
          → (checks n m values w ≡ passed) × ((decomposed_told decomposed.answer).number ≡ k)
      go (Err s) h b two =
          absurd (out (told_elsewhere _ (checks_elsewhere _ n m (lengths_elsewhere n _ _ _)) (number (plain_kept h ∙ sym h))))
      go (Ok u) h true two = absurd (out (told_elsewhere _ (two_elsewhere _) (number (by_order h two))))
      go (Ok u) h false two = (h, declined_there decomposed.answer n _ out (number (plain_is h two)))

  -- 7: only where the definition's count is 10,000 or more
  pub plain_reached : (checked_told answer).number ≡ 7 → plain_budget ≤ count
  plain_reached e =
      let a = plain_run_lem 7 (λ f. f.seven refl) e in
      seven_reached _ (plain_asked n) m (pair m []) w lent plain_budget (plain_passed a.0) a.1

  -- and whenever it is: order 2 counts none
  two_counts : eqb n 2 ≡ true → count ≡ 0
  unfolding count_of
  two_counts k = let e : n ≡ 2 = eqb-true n 2 k in rw (k, ne_eqb n 1 (λ q. omega arith))

  pub reached_plain : checks n m values w ≡ passed → plain_budget ≤ count → checked_told answer ≡ without_place 7
  reached_plain h l = go (eqb n 2) refl
    where
      go : (b : Bool) → eqb n 2 ≡ b → checked_told answer ≡ without_place 7
      go true k = absurd (omega (arith, two_counts k))
      go false k =
          let seven = reached_seven _ (plain_asked n) m (pair m []) w lent plain_budget (plain_passed h) l in
          let number = ap (λ x. x.number) seven in
          ap checked_told (plain_is h k) ∙ declined_told decomposed.answer n _ (omega arith) ∙ seven
