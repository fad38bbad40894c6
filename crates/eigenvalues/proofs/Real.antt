-- The real reader (document 00, demand 3): given a T that may be read, it answers the diagonal if every entry just below the diagonal is zero, and else
-- 'complex'; and each of the two then only. Assumes nothing.
use Rattle.std.specs.Prelude.{Err}
use Prim.Native.Nat.{ℕ, ◌+◌, ◌*◌, ◌<◌, ◌≤◌}
use mathlib.Core.Bool.{true, false, not}
use mathlib.Core.Path.{◌≡◌, sym, ap, subst, ◌∙◌}
use mathlib.Core.List.{List}
use native.Mathlib.Decide.{dec_lt}
use native.Mathlib.Omega.{arith}
use borrow.Author.Tests.{ltb-true, not-true, not-false}
use lib.ListN.{length}
use lib.Ieee.{Float}
use Rattle.loops.specs.First.{first}
use Rattle.loops.proofs.First.{first_named, some_none, some_named, none_some}
use Rattle.refusal.specs.declared.refusal.Refusal.{Refusal}
use Rattle.refusal.specs.declared.refusal.Refusal.TheVariants.{WrongLength, ComplexEigenvalues}
use Rattle.refusal.specs.Refusal.{Checked, passed, told_of, checked_told, refuse, refuse_at, if_passed}
use Rattle.refusal.specs.Checks.{length_check}
use Rattle.refusal.proofs.ChecksInTurn.{next_passed, next_passes, next_on, next_second, refuse_passed, refuse_refused, refuse_at_passed, Only, only_next}
use Rattle.refusal.proofs.ChecksInTurn.{only_at}
use Rattle.refusal.proofs.PassedChecks.{order_passes, length_passed, length_passes, given_passed, given_passes, only_length, only_given}
use Rattle.refusal.proofs.Numbers.{none_told, ten_told}
use Rattle.refusal.proofs.Shape.{nowhere_finite, finite_nowhere, nowhere_shape, shape_nowhere}
use Rattle.eigenvalues.specs.Blocks.{paired}
use Rattle.eigenvalues.specs.Readers.{shape_check, readable, any_paired, pair_check, real_checks, diagonal, Read, read, left_by, diagonal_by, real_lengths}
use Rattle.eigenvalues.specs.Readers.{real_read, diagonal_if_real}
use Rattle.eigenvalues.specs.Real.{Given, AllZeroBelow, OneNotZero, RealAnswer}
use Rattle.eigenvalues.proofs.BlockAnswers.{paired_last, paired_by, paired_inside}
use Rattle.eigenvalues.proofs.ReaderChecks.{readable_fit}

-- ---- some block of two stands exactly if some entry just below the diagonal is not zero

module _ (n : ℕ) (t : List Float) where
  zero_unpaired : AllZeroBelow n t → (k : ℕ) → k < n → paired n t k ≡ false
  zero_unpaired z k l = go (dec_lt (k + 1) n)
    where
      go : Dec (k + 1 < n) → paired n t k ≡ false
      go (yes h) = sym (paired_by n t k h) ∙ ap not (z k h)
      go (no h) = sym (paired_last n t k (omega arith))

  zero_none : AllZeroBelow n t → any_paired n t ≡ false
  unfolding any_paired
  zero_none z = none_some (paired n t) 0 n (omega arith) (λ k _ l. zero_unpaired z k l)

  none_zero : any_paired n t ≡ false → AllZeroBelow n t
  unfolding any_paired
  none_zero h k l = not-false _ (paired_by n t k l ∙ some_none (paired n t) 0 n k h (omega arith) (omega arith))

  nonzero_any : OneNotZero n t → any_paired n t ≡ true
  unfolding any_paired
  nonzero_any o = some_named (paired n t) 0 n o.k (omega arith) (omega arith) (sym (paired_by n t o.k o.inside) ∙ ap not o.nonzero)

  any_nonzero : any_paired n t ≡ true → OneNotZero n t
  unfolding any_paired
  any_nonzero h =
      let named = first_named (paired n t) n 0 (omega arith) (ltb-true _ n h) in
      let inside = paired_inside n t (first (paired n t) n) named in
      record { k = first (paired n t) n; inside = inside; nonzero = not-true _ (paired_by n t (first (paired n t) n) inside ∙ named) }

-- ---- what both readers check comes to 9 at most, so that 'complex', 10, is the real reader's own

readable_numbers : (lengths : Checked) (n : ℕ) (t : List Float) → Only (λ r. (told_of r).number ≤ 9) lengths
    → Only (λ r. (told_of r).number ≤ 9) (readable lengths n t)
unfolding readable shape_check told_of
readable_numbers lengths n t h = only_next _ _ _ (only_given _ _ _ _ (omega arith) (omega arith) h (λ _. omega arith)) (only_at _ _ _ (λ _. omega arith))

lengths_numbers : (n tn vn : ℕ) → Only (λ r. (told_of r).number ≤ 9) (real_lengths n tn vn)
unfolding real_lengths told_of
lengths_numbers n tn vn = only_next _ _ _ (only_length _ _ _ _ (omega arith)) (only_length _ _ _ _ (omega arith))

complex_own : (told_of ComplexEigenvalues).number ≤ 9 → ⊥
unfolding told_of
complex_own h = omega arith

-- ---- the reader

module _ (n : ℕ) (t values : List Float) where
  abbrev lengths : Checked
  lengths = real_lengths n (length t) (length values)

  abbrev answer : Checked
  answer = (real_read n t values).answer

  lengths_pass : length t ≡ n * n → length values ≡ n → lengths ≡ passed
  unfolding real_lengths
  lengths_pass square room = next_passes (length_passes _ square) (length_passes _ room)

  -- what both readers check passes exactly on a T that may be read
  given_readable : Given n t values → readable lengths n t ≡ passed
  unfolding readable shape_check refuse_at
  given_readable g =
      next_passes (given_passes (record {
        some = g.some;
        order = g.order;
        lent = lengths_pass g.square g.room;
        entries = finite_nowhere n t g.finite;
      }))
      (rw (shape_nowhere n t g.shape))

  readable_given : readable lengths n t ≡ passed → Given n t values
  unfolding readable shape_check real_lengths
  readable_given h =
      let a = next_passed _ _ h in
      let g = given_passed _ n t a.0 in
      let f = readable_fit n t (length_check WrongLength (length values) n) h in
      record {
        some = g.some;
        order = f.square.order;
        square = f.square.size;
        room = length_passed _ (length values) n f.room;
        finite = nowhere_finite n t f.square.order f.square.size g.entries;
        shape = nowhere_shape n t f.square.order f.square.size (refuse_at_passed _ _ a.1);
      }

  -- on such a T it answers one of two: passed, or 'complex'
  pub given_answer : Given n t values → answer ≡ pair_check n t
  unfolding real_read real_checks left_by
  given_answer g = next_on _ _ (given_readable g)

  -- the list by the answer
  passed_values : answer ≡ passed → (real_read n t values).values ≡ diagonal n t
  unfolding real_read left_by if_passed
  passed_values h = rw h

  refused_values : {r : Refusal} → answer ≡ Err r → (real_read n t values).values ≡ values
  unfolding real_read left_by if_passed
  refused_values h = rw h

  answers_real : Given n t values → AllZeroBelow n t → answer ≡ passed
  unfolding pair_check refuse
  answers_real g z = given_answer g ∙ ap (λ b. refuse b ComplexEigenvalues) (zero_none n t z)

  answers_complex : Given n t values → OneNotZero n t → answer ≡ Err ComplexEigenvalues
  unfolding pair_check refuse
  answers_complex g o = given_answer g ∙ ap (λ b. refuse b ComplexEigenvalues) (nonzero_any n t o)

  real_only : answer ≡ passed → Given n t values × AllZeroBelow n t
  unfolding real_read real_checks left_by pair_check
  real_only h = let a = next_passed _ _ h in (readable_given a.0, none_zero n t (refuse_passed _ _ a.1))

  complex_only : answer ≡ Err ComplexEigenvalues → Given n t values × OneNotZero n t
  unfolding real_read real_checks left_by pair_check
  complex_only h =
      let a = next_second _ _ _ (readable_numbers lengths n t (lengths_numbers n _ _)) complex_own h in
      (readable_given a.0, any_nonzero n t (refuse_refused _ _ a.1))

  pub real_answer : RealAnswer n t values answer (real_read n t values).values
  unfolding checked_told told_of
  real_answer = record {
    real = λ g z. (let h = answers_real g z in (ap (λ c. (checked_told c).number) h, passed_values h));
    complex = λ g o. (let h = answers_complex g o in (ap checked_told h, refused_values h));
    only_real = λ e. real_only (none_told e);
    only_complex = λ e. complex_only (ten_told e);
  }

  -- what `eigenvalues` promises
  pub real_held : (r : Checked) (after : List Float) → read r after ≡ real_read n t values → RealAnswer n t values r after
  real_held r after e = subst (λ (x : Read). RealAnswer n t values x.answer x.values) (sym e) real_answer

  -- ---- where entries and shape are not looked at

  -- 10 alone decides, if all that is lent has its length
  pub diagonal_fits : 1 ≤ n → n ≤ 64 → length t ≡ n * n → length values ≡ n → diagonal_if_real n t values ≡ diagonal_by (pair_check n t) n t values
  unfolding diagonal_if_real
  diagonal_fits some order square room =
      ap (λ c. diagonal_by c n t values) (next_on _ _ (order_passes some order) ∙ next_on _ _ (lengths_pass square room))

  -- so on a T that may be read the reader's answer is given
  pub given_diagonal : Given n t values → diagonal_if_real n t values ≡ real_read n t values
  unfolding real_read real_checks
  given_diagonal g =
      diagonal_fits g.some g.order g.square g.room ∙ sym (ap (λ c. diagonal_by c n t values) (next_on _ _ (given_readable g)))
