-- The real and the complex reader of a given T: what each answers, and what the lent lists hold afterwards.
use Rattle.std.specs.Prelude.{ℕ, ◌*◌, Bool, not, ◌&&◌, List, length, Float}
use Rattle.loops.specs.First.{some}
use Rattle.loops.specs.Place.{place}
use Rattle.loops.specs.Rounded.{◌!◌}
use Rattle.loops.specs.Table.{table}
use Rattle.scalar.specs.Class.{is_finite}
use Rattle.refusal.specs.declared.refusal.Refusal.TheVariants.{WrongLength, ResultNotFinite, ShapeSpoiled}
use Rattle.refusal.specs.declared.refusal.Refusal.TheVariants.{ComplexEigenvalues, BlockNotComplex}
use Rattle.refusal.specs.Refusal.{Checked, refuse, refuse_at, ◌next◌, if_passed}
use Rattle.refusal.specs.Search.{first_on_diagonal, first_spoiling}
use Rattle.refusal.specs.Checks.{order_checks, length_check, given_checks}
use Rattle.eigenvalues.specs.Blocks.{paired, not_complex, eigenvalue_at}

-- 9
unfoldable pub shape_check : ℕ → List Float → Checked
shape_check n t = refuse_at ShapeSpoiled (first_spoiling n t)

-- what both check, in the order of document 01's table; `lengths` are the checks of all that is lent
unfoldable pub readable : (lengths : Checked) → (n : ℕ) → (t : List Float) → Checked
readable lengths n t = given_checks lengths n t next shape_check n t

-- the same where the entries need no look, as those that are known to be finite: 6 is not checked
unfoldable pub finite_readable : (lengths : Checked) → (n : ℕ) → (t : List Float) → Checked
finite_readable lengths n t = order_checks n next lengths next shape_check n t

-- ---- the real reader

-- some block of two stands
unfoldable pub any_paired : ℕ → List Float → Bool
any_paired n t = some (paired n t) 0 n

-- 10
unfoldable pub pair_check : ℕ → List Float → Checked
pair_check n t = refuse (any_paired n t) ComplexEigenvalues

unfoldable pub real_checks : (lengths : Checked) → (n : ℕ) → (t : List Float) → Checked
real_checks lengths n t = readable lengths n t next pair_check n t

unfoldable pub diagonal : ℕ → List Float → List Float
diagonal n t = table n (λ k. t ! place n k k)

-- what is answered, and the list of eigenvalues
pub record Read : Type 0 where
  pub answer : Checked
  pub values : List Float

abbrev pub read : Checked → List Float → Read
read answer values = record { answer = answer; values = values }

-- what the lent list holds then: it is untouched where the answer is a refusal
unfoldable pub left_by : Read → List Float → Read
left_by r values = read r.answer (if_passed r.answer r.values values)

-- where the checks have come to c, the list is the diagonal
abbrev pub diagonal_by : Checked → ℕ → (t values : List Float) → Read
diagonal_by c n t values = left_by (read c (diagonal n t)) values

-- T, and one number for each row
unfoldable pub real_lengths : (n tn vn : ℕ) → Checked
real_lengths n tn vn = length_check WrongLength tn (n * n) next length_check WrongLength vn n

unfoldable pub real_read : ℕ → List Float → List Float → Read
real_read n t values = diagonal_by (real_checks (real_lengths n (length t) (length values)) n t) n t values

-- The same of entries that are known to be finite.
unfoldable pub real_finite_of : ℕ → (t values : List Float) → Read
real_finite_of n t values =
    diagonal_by (finite_readable (real_lengths n (length t) (length values)) n t next pair_check n t) n t values

-- And where the shape needs no look either, as that of an accepted T: 6 and 9 are not checked.
unfoldable pub diagonal_if_real : ℕ → List Float → List Float → Read
diagonal_if_real n t values =
    diagonal_by (order_checks n next real_lengths n (length t) (length values) next pair_check n t) n t values

-- ---- the complex reader

unfoldable pub not_finite_at : (n : ℕ) → (t : List Float) → (k : ℕ) → Bool
not_finite_at n t k = let e = eigenvalue_at n t k in not (is_finite e.re && is_finite e.im)

-- 11, and 8 last
unfoldable pub block_checks : ℕ → List Float → Checked
block_checks n t =
    refuse_at BlockNotComplex (first_on_diagonal (not_complex n t) n)
    next refuse_at ResultNotFinite (first_on_diagonal (not_finite_at n t) n)

unfoldable pub complex_checks : (lengths : Checked) → (n : ℕ) → (t : List Float) → Checked
complex_checks lengths n t = readable lengths n t next block_checks n t

-- what is answered, and the lists of real and of imaginary parts
pub record ComplexRead : Type 0 where
  pub answer : Checked
  pub re : List Float
  pub im : List Float

abbrev pub complexly : Checked → List Float → List Float → ComplexRead
complexly answer re im = record { answer = answer; re = re; im = im }

-- where the checks have come to c, the lists are those of the eigenvalues; they are untouched where c is a refusal
abbrev pub eigenvalues_by : Checked → ℕ → (t re im : List Float) → ComplexRead
eigenvalues_by c n t re im =
    complexly c (if_passed c (table n (λ k. (eigenvalue_at n t k).re)) re)
    (if_passed c (table n (λ k. (eigenvalue_at n t k).im)) im)

-- T, and two numbers for each row
unfoldable pub complex_lengths : (n tn re im : ℕ) → Checked
complex_lengths n tn re im =
    length_check WrongLength tn (n * n) next length_check WrongLength re n next length_check WrongLength im n

unfoldable pub complex_read : ℕ → List Float → List Float → List Float → ComplexRead
complex_read n t re im =
    eigenvalues_by (complex_checks (complex_lengths n (length t) (length re) (length im)) n t) n t re im

-- The same of entries that are known to be finite.
unfoldable pub complex_finite_of : ℕ → (t re im : List Float) → ComplexRead
complex_finite_of n t re im =
    eigenvalues_by (finite_readable (complex_lengths n (length t) (length re) (length im)) n t next block_checks n t)
    n t re im
