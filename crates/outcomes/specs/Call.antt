-- A call as a caller makes it, and all that comes of it: what is answered, and what the lent memory holds afterwards.
-- Every f64 is its pattern.
use Rattle.refusal.specs.Refusal.{Checked}
use Rattle.decomposition.specs.Decomposition.{Decomposed}
use Rattle.std.specs.Prelude.{ℕ, ◌*◌, true, List, [], ◌∷◌, Ok, Err}
use Rattle.std.specs.Float.Ieee.{of_bits}
use Rattle.std.specs.Float.{binary64}
use Rattle.loops.specs.Times.{times}
use Rattle.matrix.specs.Known.{numbers, shown}
use Rattle.pass.specs.Setting.{setting}
use Rattle.pass.specs.Pair.{pair}
use Rattle.refusal.specs.declared.refusal.Refusal.{Refusal}
use Rattle.refusal.specs.Refusal.{told_of}
use Rattle.decomposition.specs.Decomposition.{decomposition_of}
use Rattle.eigenvalues.specs.Readers.{real_read, complex_read}

-- ---- what is asked

pub data Call : Type 0 where
  -- the decomposition with Q: order, tolerance, budget, matrix
  call_decompose : (n tolerance budget : ℕ) → (m : List ℕ) → Call
  -- the real reader and the complex reader: order, T
  call_real : (n : ℕ) → (t : List ℕ) → Call
  call_complex : (n : ℕ) → (t : List ℕ) → Call

-- ---- what comes of it

pub data Says : Type 0 where
  -- the decomposition is accepted, with the counted passes
  says_passes : ℕ → Says
  -- T is read
  says_read : Says
  -- document 01's number, row, column
  says_refused : (number row col : ℕ) → Says

pub record Answer : Type 0 where
  pub says : Says
  -- what each lent list holds: T, Q and the workspace; the eigenvalues; or their real and their imaginary parts
  pub memory : List (List ℕ)

abbrev pub answer : Says → List (List ℕ) → Answer
answer s memory = record { says = s; memory = memory }

-- ---- lent memory

unfoldable pub copies : (x n : ℕ) → List ℕ
copies x n = times (λ _ l. x ∷ l) n []

-- all that is lent is full of ones
unfoldable pub lent : ℕ → List ℕ
lent = copies 0x3ff0_0000_0000_0000

-- ---- what comes of a call, by the definitions that the entries are proved equal to

unfoldable pub refused : Refusal → Says
refused r = let x = told_of r in says_refused x.number x.row x.col

unfoldable pub decomposes : Decomposed → Says
decomposes (Ok passes) = says_passes passes
decomposes (Err r) = refused r

unfoldable pub reads : Checked → Says
reads (Ok u) = says_read
reads (Err r) = refused r

unfoldable pub answer_of : Call → Answer
answer_of (call_decompose n tolerance budget m) =
    let asked = setting n true (of_bits binary64 tolerance) in
    let square = numbers (lent (n * n)) in
    let o = decomposition_of asked budget (numbers m) (pair square square) (numbers (lent (2 * n))) in
    answer (decomposes o.answer) (shown o.pair.t ∷ shown o.pair.q ∷ shown o.work ∷ [])
answer_of (call_real n t) =
    let r = real_read n (numbers t) (numbers (lent n)) in answer (reads r.answer) (shown r.values ∷ [])
answer_of (call_complex n t) =
    let r = complex_read n (numbers t) (numbers (lent n)) (numbers (lent n)) in
    answer (reads r.answer) (shown r.re ∷ shown r.im ∷ [])
