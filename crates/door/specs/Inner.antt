-- What the contracts of private functions name: the rooms of a call, and an entry that gives lists, on the floats in
-- between.
use Rattle.refusal.specs.Refusal.{Checked, passed}
use Rattle.std.specs.Prelude.{ℕ, ◌*◌, ◌^◌, ◌<◌, ◌≤◌, true, ◌≡◌, List, length, Float}
use Rattle.matrix.specs.Vectors.{zeros}
use Rattle.refusal.specs.Refusal.{if_passed}
use Rattle.decomposition.specs.Decomposition.{Decomposed}
use Rattle.answer.specs.Answer.{decomposed_number}
use Rattle.eigenvalues.specs.Readers.{real_finite_of, complex_finite_of}
use Rattle.plain.specs.Plain.{plain_finite_of}
use Rattle.words.specs.Floats.{floats_of, bytes_of}
use Rattle.door.specs.declared.matrices.Request.{Request}
use Rattle.door.specs.Matrices.{matrices, matrix_checks, ran_floats, ran_bytes}
use Rattle.door.specs.Lists.{ListEntry, Real, Complex, Plain, list_checks}

-- ---- the decomposition

-- a room of so many floats can be
abbrev pub IsRoom : ℕ → Type 0
IsRoom k = k * 8 < 2 ^ 63

-- the arguments have passed, and the floats fit their rooms: T and Q `room` numbers each, the workspace `work`
pub record MatrixRoomy (room work : ℕ) (r : Request) (m t q : List ℕ) : Type 0 where
  pub square : r.order * r.order ≤ room
  pub is_room : IsRoom room
  pub double : 2 * r.order ≤ work
  pub is_workspace : IsRoom work
  pub passed : matrix_checks r m (length t) (length q) ≡ passed

-- the arguments have passed, and the floats have their rooms: a for the matrix, c for Q, w for the workspace
pub record MatrixRooms (r : Request) (m t q : List ℕ) (a c w : List Float) : Type 0 where
  pub passed : matrix_checks r m (length t) (length q) ≡ passed
  pub matrix : length a ≡ r.order * r.order
  pub for_q : c ≡ zeros (r.order * r.order)
  pub workspace : w ≡ zeros (2 * r.order)

-- What is answered and written after the run; and the bytes hold T's floats, and Q's where it is wanted. No law says
-- that of every number that the logic has, so each function says it of what it wrote.
pub record MatricesDone (r : Request) (m q : List ℕ) (answer : Decomposed) (t' q' : List ℕ) : Type 0 where
  pub bytes : matrices (decomposed_number answer) t' q' ≡ ran_bytes r m q
  pub held_t : floats_of t' ≡ (ran_floats r m).pair.t
  pub held_q : r.wanted ≡ true → floats_of q' ≡ (ran_floats r m).pair.q

-- ---- the entries that give lists

-- the numbers that an entry needs beside its matrix and its list: imaginary parts, or a workspace
abbrev pub second_size : ListEntry → (n : ℕ) → ℕ
second_size Real n = n
second_size Complex n = n
second_size Plain n = 2 * n

-- the first checks have passed, and the floats fit their rooms: `square` numbers for the matrix, `side` for the list and
-- `double` beside it
pub record ListRoomy (square side double : ℕ) (e : ListEntry) (n : ℕ) (m re im : List ℕ) : Type 0 where
  pub matrix : n * n ≤ square
  pub for_matrix : IsRoom square
  pub list : n ≤ side
  pub for_list : IsRoom side
  pub second : 2 * n ≤ double
  pub for_second : IsRoom double
  pub passed : list_checks e n m (length re) (length im) ≡ passed

-- the first checks have passed, and the floats have their rooms: a for the matrix, x for the list, y beside it
pub record ListRooms (e : ListEntry) (n : ℕ) (m re im : List ℕ) (a x y : List Float) : Type 0 where
  pub passed : list_checks e n m (length re) (length im) ≡ passed
  pub matrix : length a ≡ n * n
  pub list : length x ≡ n
  pub second : y ≡ zeros (second_size e n)

-- what is answered, the list, and that second room
pub record Evaluated : Type 0 where
  pub answer : Checked
  pub x : List Float
  pub y : List Float

abbrev pub evaluated : Checked → (x y : List Float) → Evaluated
evaluated answer x y = record { answer = answer; x = x; y = y }

abbrev pub evaluated_by : ListEntry → (n : ℕ) → (a x y : List Float) → Evaluated
evaluated_by Real n a x y = let r = real_finite_of n a x in evaluated r.answer r.values y
evaluated_by Complex n a x y = let r = complex_finite_of n a x y in evaluated r.answer r.re r.im
evaluated_by Plain n a x y = let r = plain_finite_of n a x y in evaluated r.answer r.values r.work

-- the second list's bytes: the complex reader's alone
abbrev pub second_written : ListEntry → Checked → (y : List Float) → (im : List ℕ) → List ℕ
second_written Real c y im = im
second_written Complex c y im = if_passed c (bytes_of y) im
second_written Plain c y im = im
