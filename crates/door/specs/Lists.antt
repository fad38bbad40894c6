-- The entries that give lists of eigenvalues, over bytes: the two readers of a T, and the plain entry of a matrix.
-- What each answers, and the bytes that it leaves, are the library's definitions on the floats whose patterns are
-- lent; lengths are those of the bytes. A refusal leaves every lent byte as it was.
use Rattle.refusal.specs.Refusal.{Checked, passed}
use Rattle.std.specs.Prelude.{ℕ, ◌*◌, List, length, Err, Ok}
use Rattle.loops.specs.Table.{table}
use Rattle.matrix.specs.Vectors.{zeros}
use Rattle.refusal.specs.declared.refusal.Refusal.TheVariants.{WrongLength}
use Rattle.refusal.specs.Refusal.{◌next◌, if_passed}
use Rattle.refusal.specs.Checks.{length_check, given_checks}
use Rattle.eigenvalues.specs.Blocks.{eigenvalue_at}
use Rattle.eigenvalues.specs.Readers.{real_checks, diagonal, complex_checks, Read}
use Rattle.plain.specs.Plain.{plain_read}
use Rattle.words.specs.Floats.{floats_of, bytes_of}
use Rattle.answer.specs.Answer.{refusal_number, checked_number}

-- the two readers of a T, and the plain entry of a matrix
pub data ListEntry : Type 0 where
  Real : ListEntry
  Complex : ListEntry
  Plain : ListEntry

-- ---- lengths: eight bytes for each number, and a second list for the complex reader alone

abbrev pub second_length : ListEntry → (n jn : ℕ) → Checked
second_length Real n jn = passed
second_length Complex n jn = length_check WrongLength jn (8 * n)
second_length Plain n jn = passed

-- T or the matrix, the list, the second list
unfoldable pub list_lengths : ListEntry → (n mn rn jn : ℕ) → Checked
list_lengths e n mn rn jn =
    length_check WrongLength mn (8 * (n * n)) next length_check WrongLength rn (8 * n) next second_length e n jn

-- 1, 2, 3 and 6, which each entry checks before anything else
unfoldable pub list_checks : ListEntry → (n : ℕ) → (m : List ℕ) → (rn jn : ℕ) → Checked
list_checks e n m rn jn = given_checks (list_lengths e n (length m) rn jn) n (floats_of m)

-- ---- the real reader

pub record Listed : Type 0 where
  pub answer : ℕ
  pub values : List ℕ

abbrev pub listed : (answer : ℕ) → (values : List ℕ) → Listed
listed answer values = record { answer = answer; values = values }

unfoldable pub real_bytes : (n : ℕ) → (t values : List ℕ) → Listed
real_bytes n t values =
    let c = real_checks (list_lengths Real n (length t) (length values) 0) n (floats_of t) in
    listed (checked_number c) (if_passed c (bytes_of (diagonal n (floats_of t))) values)

-- ---- the complex reader

pub record ComplexListed : Type 0 where
  pub answer : ℕ
  pub re : List ℕ
  pub im : List ℕ

abbrev pub complex_listed : (answer : ℕ) → (re im : List ℕ) → ComplexListed
complex_listed answer re im = record { answer = answer; re = re; im = im }

unfoldable pub complex_bytes : (n : ℕ) → (t re im : List ℕ) → ComplexListed
complex_bytes n t re im =
    let c = complex_checks (list_lengths Complex n (length t) (length re) (length im)) n (floats_of t) in
    complex_listed (checked_number c) (if_passed c (bytes_of (table n (λ k. (eigenvalue_at n (floats_of t) k).re))) re)
    (if_passed c (bytes_of (table n (λ k. (eigenvalue_at n (floats_of t) k).im))) im)

-- ---- the plain entry

unfoldable pub plain_from : Checked → Read → (values : List ℕ) → Listed
plain_from (Ok u) r values = listed (checked_number r.answer) (if_passed r.answer (bytes_of r.values) values)
plain_from (Err r) _ values = listed (refusal_number r) values

unfoldable pub plain_bytes : (n : ℕ) → (m values : List ℕ) → Listed
plain_bytes n m values =
    plain_from (list_checks Plain n m (length values) 0) (plain_read n (floats_of m) (zeros (2 * n))) values

-- ---- each by its name: the second list is the complex reader's alone, and any other leaves it as it was

abbrev pub one_list : Listed → (im : List ℕ) → ComplexListed
one_list x im = complex_listed x.answer x.values im

unfoldable pub lists_bytes : ListEntry → (n : ℕ) → (m re im : List ℕ) → ComplexListed
lists_bytes Real n m re im = one_list (real_bytes n m re) im
lists_bytes Complex n m re im = complex_bytes n m re im
lists_bytes Plain n m re im = one_list (plain_bytes n m re) im
