-- The decomposition over bytes: what it answers, and the bytes that it leaves. It is the library's definition on the
-- floats whose patterns are lent; lengths are those of the bytes. A refusal before the run leaves every lent byte as
-- it was; what is written is the pattern of a float, 7FF8000000000000 for NaN.
use Rattle.refusal.specs.Refusal.{Checked}
use Rattle.std.specs.Prelude.{ℕ, ◌*◌, ◌<◌, Bool, true, cond, ◌≡◌, List, length, Err, Ok}
use Rattle.std.specs.Float.{binary64}
use Rattle.std.specs.Float.Ieee.{of_bits}
use Rattle.matrix.specs.Vectors.{zeros}
use Rattle.pass.specs.declared.setting.Setting.{Setting}
use Rattle.pass.specs.Setting.{setting}
use Rattle.pass.specs.Pair.{pair}
use Rattle.schur.specs.Run.{fresh_ran, count_of}
use Rattle.refusal.specs.Checks.{matrix_lengths}
use Rattle.refusal.specs.Shape.{AllFinite, QuasiTriangular}
use Rattle.decomposition.specs.Checks.{argument_checks}
use Rattle.decomposition.specs.Decomposition.{Settlement, decided, Outcome, decomposition_of}
use Rattle.words.specs.Floats.{floats_of, bytes_of}
use Rattle.door.specs.declared.matrices.Request.{Request}
use Rattle.answer.specs.Answer.{refusal_number, decomposed_number}

-- ---- what a host asks for; the tolerance is told as its pattern

abbrev pub request : (n : ℕ) → (wanted : Bool) → (tolerance budget : ℕ) → Request
request n wanted tolerance budget = record { order = n; wanted = wanted; tolerance = tolerance; budget = budget }

abbrev pub asked_by : Request → Setting
asked_by r = setting r.order r.wanted (of_bits binary64 r.tolerance)

-- ---- what is answered, and the bytes of T and Q

pub record Matrices : Type 0 where
  pub answer : ℕ
  pub t : List ℕ
  pub q : List ℕ

abbrev pub matrices : (answer : ℕ) → (t q : List ℕ) → Matrices
matrices answer t q = record { answer = answer; t = t; q = q }

-- 1 to 6; tn and qn are the lengths of what is lent for T and Q
unfoldable pub matrix_checks : Request → (m : List ℕ) → (tn qn : ℕ) → Checked
matrix_checks r m tn qn =
    argument_checks (matrix_lengths r.wanted (8 * (r.order * r.order)) (length m) tn qn)
    (asked_by r) r.budget (floats_of m)

-- T, and Q if it is wanted
unfoldable pub written_matrices : (wanted : Bool) → Settlement → (q : List ℕ) → Matrices
written_matrices wanted s q =
    matrices (decomposed_number s.answer) (bytes_of s.pair.t) (cond wanted (bytes_of s.pair.q) q)

-- after the run, accepted or refused: on floats, and in bytes
unfoldable pub ran_floats : Request → (m : List ℕ) → Settlement
ran_floats r m =
    let run = fresh_ran (asked_by r) r.budget (floats_of m) in
    decided (asked_by r) run.answer run.pair

unfoldable pub ran_bytes : Request → (m q : List ℕ) → Matrices
ran_bytes r m q = written_matrices r.wanted (ran_floats r m) q

-- refused before the run: every byte is as it was
unfoldable pub decomposed_from : Checked → (written : Matrices) → (t q : List ℕ) → Matrices
decomposed_from (Ok u) written t q = written
decomposed_from (Err r) written t q = matrices (refusal_number r) t q

unfoldable pub decompose_bytes : Request → (m t q : List ℕ) → Matrices
decompose_bytes r m t q = decomposed_from (matrix_checks r m (length t) (length q)) (ran_bytes r m q) t q

-- ---- an acceptance (document 00, demand 3): an answer below 2^32, which no refusal's number is

-- the library's answer on the floats of these bytes, lent zeros for T, Q and the workspace
abbrev pub library_of : Request → (m : List ℕ) → Outcome
library_of r m =
    let k = r.order * r.order in
    decomposition_of (asked_by r) r.budget (floats_of m) (pair (zeros k) (zeros k)) (zeros (2 * r.order))

-- The number is the definition's count of passes and lies below the budget. Of what t's bytes hold, every entry is
-- finite and the shape is quasi-triangular; of what q's hold, every entry is finite where Q is wanted.
pub record AcceptedBytes (r : Request) (m : List ℕ) (answer : ℕ) (t q : List ℕ) : Type 0 where
  pub accepted : (library_of r m).answer ≡ Ok answer
  pub counted : answer ≡ count_of (asked_by r) (floats_of m)
  pub below : answer < r.budget
  pub t_finite : AllFinite r.order (floats_of t)
  pub t_shape : QuasiTriangular r.order (floats_of t)
  pub q_finite : r.wanted ≡ true → AllFinite r.order (floats_of q)
