-- The text that `looproots` prints for an input, whatever its bytes are.
use Rattle.refusal.specs.Refusal.{Checked}
use Rattle.decomposition.specs.Decomposition.{Decomposed}
use Rattle.refusal.specs.declared.refusal.Refusal.{Refusal}
use Rattle.std.specs.Prelude.{ℕ, ◌*◌, true, List, ◌++◌, drop, Float, Err, Ok, Result}
use Prim.Native.Char.{code}
use Rattle.std.specs.Float.{binary64}
use Rattle.std.specs.Float.Ieee.{of_bits}
use Rattle.matrix.specs.Vectors.{zeros}
use Rattle.pass.specs.Setting.{setting}
use Rattle.pass.specs.Pair.{Pair, pair}
use Rattle.refusal.specs.Refusal.{told_of}
use Rattle.words.specs.Floats.{floats_of}
use Rattle.decomposition.specs.Decomposition.{Outcome, placed_of}
use Rattle.eigenvalues.specs.Readers.{complex_read}
use Rattle.header.specs.declared.Header.{Header}
use Rattle.header.specs.Record.{examined}
use Rattle.record.specs.Text.{ascii, refused_line, passes_line, matrix_lines, eigenvalue_lines}

-- what the complex reader has answered
unfoldable pub eigenvalues_text : ℕ → Checked → List Float → List Float → List ℕ
eigenvalues_text n (Ok u) re im = eigenvalue_lines n re im
eigenvalues_text n (Err r) re im = ascii "eigenvalues " ++ refused_line (told_of r)

-- it is asked of T
unfoldable pub read_text : ℕ → List Float → List ℕ
read_text n t = let x = complex_read n t (zeros n) (zeros n) in eigenvalues_text n x.answer x.re x.im

-- what the decomposition has answered, and left as T and Q
unfoldable pub decomposed_text : ℕ → Decomposed → Pair → List ℕ
decomposed_text n (Ok passes) p =
    passes_line n passes ++ matrix_lines (code "t") n p.t ++ matrix_lines (code "q") n p.q ++ read_text n p.t
decomposed_text n (Err r) p = refused_line (told_of r)

-- the decomposition that a header asks for, in place: T holds the matrix m, and Q and the workspace are +0 throughout
unfoldable pub decomposed : Header → (m : List Float) → Outcome
decomposed h m =
    let n = h.order in
    placed_of (setting n true (of_bits binary64 h.tolerance)) h.budget (pair m (zeros (n * n))) (zeros (2 * n))

-- and its text
unfoldable pub matrix_text : Header → (m : List Float) → List ℕ
matrix_text h m = let o = decomposed h m in decomposed_text h.order o.answer o.pair

-- it is asked of the entries, which lie behind the header's 20 bytes
unfoldable pub examined_text : Result Header Refusal → List ℕ → List ℕ
examined_text (Ok h) b = matrix_text h (floats_of (drop 20 b))
examined_text (Err r) b = refused_line (told_of r)

unfoldable pub text_of : List ℕ → List ℕ
text_of b = examined_text (examined b) b
