-- Document 01's items a to n, in its words: one table of calls with all that comes of each. That each comes true is one
-- statement, `marked` of proofs, which the checker evaluates. T, Q and the counts were computed by the plain model of
-- the Rust, oracle/src/model.rs; the refusals and what they leave behind are document 01's. A matrix lies column by
-- column.
use Rattle.std.specs.Prelude.{ℕ, ◌*◌, List, [], ◌∷◌, ◌++◌, length}
use Rattle.decomposition.specs.Known.{opened_decomposition}
use Rattle.eigenvalues.specs.Known.{opened_readers}
use Rattle.outcomes.specs.Call.{Call, Says, Answer, answer, copies, lent, refused, decomposes, reads, answer_of}
use Rattle.outcomes.specs.Call.{call_decompose, call_real, call_complex, says_passes, says_read, says_refused}

-- a call, and what is to come of it
pub record Line : Type 0 where
  pub call : Call
  pub answer : Answer

unfoldable pub line : Call → Says → List (List ℕ) → Line
line call says memory = record { call = call; answer = answer says memory }

-- ---- numbers, by their patterns

unfoldable pub one_bits : ℕ
one_bits = 0x3ff0_0000_0000_0000

unfoldable pub minus_one_bits : ℕ
minus_one_bits = 0xbff0_0000_0000_0000

unfoldable pub two_bits : ℕ
two_bits = 0x4000_0000_0000_0000

unfoldable pub four_bits : ℕ
four_bits = 0x4010_0000_0000_0000

unfoldable pub five : ℕ
five = 0x4014_0000_0000_0000

unfoldable pub minus_zero : ℕ
minus_zero = 0x8000_0000_0000_0000

unfoldable pub nan : ℕ
nan = 0x7ff8_0000_0000_0000

-- 2 ^ 700
unfoldable pub huge : ℕ
huge = 0x6bb0_0000_0000_0000

-- 2 ^ -52
unfoldable pub usual : ℕ
usual = 0x3cb0_0000_0000_0000

-- ---- matrices

unfoldable pub zeros : ℕ → List ℕ
zeros = copies 0

-- between two entries of the diagonal stand as many zeros as it has entries
unfoldable pub spaced : ℕ → List ℕ → List ℕ
spaced n [] = []
spaced n (x ∷ []) = x ∷ []
spaced n (x ∷ y ∷ l) = x ∷ zeros n ++ spaced n (y ∷ l)

unfoldable pub diagonal : List ℕ → List ℕ
diagonal l = spaced (length l) l

unfoldable pub identity : ℕ → List ℕ
identity n = diagonal (copies one_bits n)

-- rows (0 -1), (1 0)
unfoldable pub j_matrix : List ℕ
j_matrix = 0 ∷ one_bits ∷ minus_one_bits ∷ 0 ∷ []

-- J twice on the diagonal, with this number in row 0 of column 2
unfoldable pub twice : ℕ → List ℕ
twice x = 0 ∷ one_bits ∷ 0 ∷ 0 ∷ minus_one_bits ∷ 0 ∷ 0 ∷ 0 ∷ x ∷ 0 ∷ 0 ∷ one_bits ∷ 0 ∷ 0 ∷ minus_one_bits ∷ 0 ∷ []

-- J then 2 on the diagonal, with this number in row 0 of column 2
unfoldable pub then_two : ℕ → List ℕ
then_two x = 0 ∷ one_bits ∷ 0 ∷ minus_one_bits ∷ 0 ∷ 0 ∷ x ∷ 0 ∷ two_bits ∷ []

-- 1, 2, then J
unfoldable pub then_j : List ℕ
then_j = one_bits ∷ 0 ∷ 0 ∷ 0 ∷ 0 ∷ two_bits ∷ 0 ∷ 0 ∷ 0 ∷ 0 ∷ 0 ∷ one_bits ∷ 0 ∷ 0 ∷ minus_one_bits ∷ 0 ∷ []

-- both entries just below the diagonal 1, rest 0
unfoldable pub below : List ℕ
below = 0 ∷ one_bits ∷ 0 ∷ 0 ∷ 0 ∷ one_bits ∷ 0 ∷ 0 ∷ 0 ∷ []

-- ---- what the decomposition leaves behind it: T, Q and the workspace

-- an accepted one: the workspace is +0
unfoldable pub left : ℕ → List ℕ → List ℕ → List (List ℕ)
left n t q = t ∷ q ∷ zeros (2 * n) ∷ []

-- refused before the run
unfoldable pub untouched : ℕ → List (List ℕ)
untouched n = lent (n * n) ∷ lent (n * n) ∷ lent (2 * n) ∷ []

-- refused after it: 7, 8 and 9
unfoldable pub nans : ℕ → List (List ℕ)
nans n = left n (copies nan (n * n)) (copies nan (n * n))

-- ---- every definition that is computed with

unfoldable pub opened_marked : Unit {0}
unfolding opened_decomposition opened_readers copies lent refused decomposes reads answer_of
    line one_bits minus_one_bits two_bits four_bits five minus_zero nan huge usual zeros spaced diagonal identity
    j_matrix twice then_two then_j below left untouched nans
opened_marked = tt

-- ---- the items

-- order 1, entry 5: T 5, Q 1, passes 0
unfoldable pub a : List Line
a = line (call_decompose 1 usual 1 (five ∷ [])) (says_passes 0) (left 1 (five ∷ []) (one_bits ∷ [])) ∷ []

-- J: T is J; real reader 10; complex reader 0+1i, 0-1i
unfoldable pub b : List Line
b = line (call_decompose 2 usual 1 j_matrix) (says_passes 0) (left 2 j_matrix (identity 2))
    ∷ line (call_real 2 j_matrix) (says_refused 10 0 0) (lent 2 ∷ [])
    ∷ line (call_complex 2 j_matrix) says_read ((0 ∷ 0 ∷ []) ∷ (one_bits ∷ minus_one_bits ∷ []) ∷ []) ∷ []

-- order 3, zeros: T zeros, passes 0 at budget 1
unfoldable pub c : List Line
c = line (call_decompose 3 usual 1 (zeros 9)) (says_passes 0) (left 3 (zeros 9) (identity 3)) ∷ []

-- diagonal 1, 2, 4: eigenvalues 1, 2, 4, passes 0
unfoldable pub d : List Line
d = let values = one_bits ∷ two_bits ∷ four_bits ∷ [] in
    let t = diagonal values in
    line (call_decompose 3 usual 1 t) (says_passes 0) (left 3 t (identity 3)) ∷ line (call_real 3 t) says_read (values ∷ [])
    ∷ line (call_complex 3 t) says_read (values ∷ zeros 3 ∷ []) ∷ []

-- J then 2 on the diagonal: passes 0, accepted at budget 1
unfoldable pub e : List Line
e = line (call_decompose 3 usual 1 (then_two 0)) (says_passes 0)
    (left 3 (then_two minus_zero) (diagonal (one_bits ∷ one_bits ∷ minus_one_bits ∷ []))) ∷ []

-- J twice, order 4: budget 1 gives 7; budget 2 accepts, passes 1
unfoldable pub f : List Line
f = line (call_decompose 4 usual 1 (twice 0)) (says_refused 7 0 0) (nans 4)
    ∷ line (call_decompose 4 usual 2 (twice 0)) (says_passes 1)
    (left 4 (twice minus_zero) (diagonal (one_bits ∷ one_bits ∷ minus_one_bits ∷ minus_one_bits ∷ []))) ∷ []

-- diagonal 1, 2, then J: budget 1 gives 7 though the window has closed; budget 2 accepts, passes 1
unfoldable pub g : List Line
g = line (call_decompose 4 usual 1 then_j) (says_refused 7 0 0) (nans 4)
    ∷ line (call_decompose 4 usual 2 then_j) (says_passes 1) (left 4 then_j (identity 4)) ∷ []

-- order 3, NaN at row 2 column 1: 6 at 2 1
unfoldable pub h : List Line
h = line (call_decompose 3 usual 1 (0 ∷ 0 ∷ 0 ∷ 0 ∷ 0 ∷ nan ∷ 0 ∷ 0 ∷ 0 ∷ [])) (says_refused 6 2 1) (untouched 3) ∷ []

-- order 65 gives 2; order 0 gives 1
unfoldable pub i : List Line
i = line (call_decompose 65 usual 1 (zeros (65 * 65))) (says_refused 2 0 0) (untouched 65)
    ∷ line (call_decompose 0 usual 1 []) (says_refused 1 0 0) (untouched 0) ∷ []

-- tolerance 1 gives 4
unfoldable pub j : List Line
j = line (call_decompose 2 one_bits 1 j_matrix) (says_refused 4 0 0) (untouched 2) ∷ []

-- budget 0 gives 5
unfoldable pub k : List Line
k = line (call_decompose 2 usual 0 j_matrix) (says_refused 5 0 0) (untouched 2) ∷ []

-- rows (0 2^700), (2^700 0): 8 at 0 0
unfoldable pub l : List Line
l = line (call_decompose 2 usual 1 (0 ∷ huge ∷ huge ∷ 0 ∷ [])) (says_refused 8 0 0) (nans 2) ∷ []

-- rows (1 0), (2^700 1): T all zeros, accepted
unfoldable pub m : List Line
m = line (call_decompose 2 usual 1 (one_bits ∷ huge ∷ 0 ∷ one_bits ∷ [])) (says_passes 0)
    (left 2 (zeros 4) (0 ∷ 0 ∷ minus_zero ∷ 0 ∷ [])) ∷ []

-- reader, order 3, both entries below the diagonal 1, rest 0: 9 at 2 1
unfoldable pub n : List Line
n = line (call_real 3 below) (says_refused 9 2 1) (lent 3 ∷ []) ∷ line (call_complex 3 below) (says_refused 9 2 1) (lent 3 ∷ lent 3 ∷ [])
    ∷ []

-- ---- all of them

unfoldable pub marked_calls : List Line
marked_calls = a ++ b ++ c ++ d ++ e ++ f ++ g ++ h ++ i ++ j ++ k ++ l ++ m ++ n
