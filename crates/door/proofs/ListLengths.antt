-- Where the first checks of an entry that gives lists have passed: the lengths. Where one has not: the same is answered by all its checks. Assumes nothing.
use Rattle.std.specs.Prelude.{Err}
use Rattle.refusal.specs.Refusal.{Checked, passed}
use Prim.Native.Nat.{ℕ, ◌*◌, ◌≤◌}
use native.Mathlib.Omega.{arith}
use mathlib.Core.Path.{◌≡◌, refl, sym, ap, ◌∙◌}
use mathlib.Core.List.{List}
use lib.ListN.{length, replicate, take}
use Rattle.loops.specs.Constants.{zero}
use Rattle.loops.specs.Place.{square_64}
use Rattle.matrix.specs.Vectors.{zeros}
use Rattle.refusal.specs.declared.refusal.Refusal.{Refusal}
use Rattle.refusal.specs.Refusal.{◌next◌, if_passed}
use Rattle.refusal.specs.Checks.{order_checks, given_checks, entry_checks}
use Rattle.refusal.proofs.ChecksInTurn.{in_turn, next_passed, next_refused}
use Rattle.refusal.proofs.PassedChecks.{length_passed, entries_passes, given_passed}
use Rattle.eigenvalues.specs.Readers.{readable, real_checks, complex_checks}
use Rattle.words.specs.Floats.{floats_of}
use Rattle.words.proofs.Between.{fresh_zeros, fresh_length}
use Rattle.door.specs.Lists.{ListEntry, Real, Complex, Plain}
use Rattle.door.specs.Inner.{ListRoomy, ListRooms, second_size}
use Rattle.answer.specs.Answer.{checked_number}
use Rattle.door.specs.Lists.{second_length, list_lengths, list_checks, complex_listed, real_bytes, complex_bytes, plain_from, plain_bytes, lists_bytes}

-- ---- in turn

-- in code: the checks that an entry makes first
pub list_turns : (e : ListEntry) (n : ℕ) (m : List ℕ) (rn jn : ℕ)
    → list_checks e n m rn jn ≡ (order_checks n next list_lengths e n (length m) rn jn next entry_checks n (floats_of m))
unfolding list_checks given_checks
list_turns e n m rn jn = refl

pub ruleset list_in_turn = (in_turn, list_turns)

-- ---- passed

pub record ListFit (e : ListEntry) (n mn rn jn : ℕ) : Type 0 where
  pub some : 1 ≤ n
  pub order : n ≤ 64
  pub small : n * n ≤ 4096
  pub lent : list_lengths e n mn rn jn ≡ passed
  pub matrix : mn ≡ 8 * (n * n)
  pub list : rn ≡ 8 * n
  pub second : second_length e n jn ≡ passed

pub list_fit : (e : ListEntry) (n : ℕ) (m : List ℕ) (rn jn : ℕ) → list_checks e n m rn jn ≡ passed → ListFit e n (length m) rn jn
unfolding list_checks list_lengths
list_fit e n m rn jn h =
    let g = given_passed _ n (floats_of m) h in
    let a = next_passed _ _ g.lent in
    let b = next_passed _ _ a.1 in
    record {
      some = g.some;
      order = g.order;
      small = square_64 n g.order;
      lent = g.lent;
      matrix = length_passed _ (length m) _ a.0;
      list = length_passed _ rn _ b.0;
      second = b.1;
    }

-- and the entries
pub list_entries : (e : ListEntry) (n : ℕ) (m : List ℕ) (rn jn : ℕ) → list_checks e n m rn jn ≡ passed → entry_checks n (floats_of m) ≡ passed
unfolding list_checks
list_entries e n m rn jn h = entries_passes n (floats_of m) (given_passed _ n (floats_of m) h).entries

-- the complex reader's second list
pub complex_second : (n jn : ℕ) → second_length Complex n jn ≡ passed → jn ≡ 8 * n
complex_second n jn h = length_passed _ jn _ h

-- the rooms of a call, cut from arrays of zeros: for the matrix, the list, and what stands beside it
pub fresh_rooms : {square side double second : ℕ} {e : ListEntry} {n : ℕ} {m re im : List ℕ} → ListRoomy square side double e n m re im
    → second ≡ second_size e n → second ≤ 2 * n
    → ListRooms e n m re im (take (n * n) (replicate square zero)) (take n (replicate side zero)) (take second (replicate double zero))
fresh_rooms {square} {side} {double} f e room = record {
  passed = f.passed;
  matrix = sym (fresh_length _ square f.matrix);
  list = sym (fresh_length _ side f.list);
  second = fresh_zeros _ double (omega (arith, f.second)) ∙ ap zeros e;
}

-- ---- refused: all that is lent is as it was

pub kept : {r : Refusal} (e : ListEntry) (n : ℕ) (m re im : List ℕ) (c : Checked) → list_checks e n m (length re) (length im) ≡ Err r → c ≡ Err r
    → complex_listed (checked_number c) re im ≡ lists_bytes e n m re im
unfolding lists_bytes list_checks list_lengths real_bytes real_checks complex_bytes complex_checks readable plain_bytes plain_from if_passed checked_number
kept Real n m re im c refused told = rw (told, next_refused _ _ (next_refused _ _ refused)) refl
kept Complex n m re im c refused told = rw (told, next_refused _ _ (next_refused _ _ refused)) refl
kept Plain n m re im c refused told = rw (told, refused) refl
