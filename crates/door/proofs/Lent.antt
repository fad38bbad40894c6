-- What lent bytes held is not felt: two calls on one matrix, with bytes of the same lengths lent for the results, answer the same and write the same, whatever
-- these held. Assumes nothing.
use Rattle.std.specs.Prelude.{Err, Ok}
use Rattle.refusal.specs.Refusal.{Checked, passed}
use Prim.Native.Nat.{ℕ}
use mathlib.Core.Bool.{true}
use mathlib.Core.Path.{◌≡◌, refl}
use mathlib.Core.List.{List}
use native.Mathlib.Omega.{arith}
use lib.ListN.{length}
use Rattle.refusal.specs.Refusal.{if_passed}
use Rattle.eigenvalues.specs.Readers.{Read}
use Rattle.answer.specs.Answer.{checked_number}
use Rattle.answer.proofs.Numbers.{refusal_large}
use Rattle.door.specs.declared.matrices.Request.{Request}
use Rattle.door.specs.Matrices.{Matrices, matrix_checks, written_matrices, ran_bytes, decomposed_from, decompose_bytes}
use Rattle.door.specs.Lists.{Listed, plain_from, plain_bytes}

-- ---- the decomposition: one answer, one T, and one Q where it is wanted

pub record SameBytes (r : Request) (x y : Matrices) : Type 0 where
  pub answer : x.answer ≡ y.answer
  pub t : x.t ≡ y.t
  pub q : r.wanted ≡ true → x.q ≡ y.q

module _ (r : Request) (m t t' q q' : List ℕ) (long_t : length t ≡ length t') (long_q : length q ≡ length q') where
  abbrev checks : Checked
  checks = matrix_checks r m (length t) (length q)

  checks_same : matrix_checks r m (length t') (length q') ≡ checks
  checks_same = rw (← long_t, ← long_q) refl

  written : (c : Checked) → c ≡ passed → SameBytes r (decomposed_from c (ran_bytes r m q) t q) (decomposed_from c (ran_bytes r m q') t' q')
  unfolding decomposed_from ran_bytes written_matrices
  written c h = rw h (record { answer = refl; t = refl; q = λ e. rw e refl })

  pub door_lent : checks ≡ passed → SameBytes r (decompose_bytes r m t q) (decompose_bytes r m t' q')
  unfolding decompose_bytes
  door_lent h = rw checks_same (written checks h)

  answer_by : (c : Checked) → (decomposed_from c (ran_bytes r m q) t q).answer ≡ (decomposed_from c (ran_bytes r m q') t' q').answer
  unfolding decomposed_from ran_bytes written_matrices
  answer_by (Ok u) = refl
  answer_by (Err x) = refl

  -- refused before the run, too
  pub door_answer : (decompose_bytes r m t q).answer ≡ (decompose_bytes r m t' q').answer
  unfolding decompose_bytes
  door_answer = rw checks_same (answer_by checks)

-- ---- the plain entry: one answer, and one list where eigenvalues are given, which is told by 0

pub record SameListed (x y : Listed) : Type 0 where
  pub answer : x.answer ≡ y.answer
  pub values : x.answer ≡ 0 → x.values ≡ y.values

given_same : (c : Checked) (x values values' : List ℕ) → checked_number c ≡ 0 → if_passed c x values ≡ if_passed c x values'
unfolding checked_number if_passed
given_same (Ok u) x values values' e = refl
given_same (Err r) x values values' e = absurd (omega (arith, refusal_large r))

from_same : (c : Checked) (r : Read) (values values' : List ℕ) → SameListed (plain_from c r values) (plain_from c r values')
unfolding plain_from
from_same (Ok u) r values values' = record { answer = refl; values = given_same r.answer _ values values' }
from_same (Err x) r values values' = record { answer = refl; values = λ e. absurd (omega (arith, refusal_large x)) }

pub plain_door_lent : (n : ℕ) (m values values' : List ℕ) → length values ≡ length values' → SameListed (plain_bytes n m values) (plain_bytes n m values')
unfolding plain_bytes
plain_door_lent n m values values' long = rw (← long) (from_same _ _ values values')
