-- The lines of document 01's program, byte by byte: ASCII, numbers in decimal, patterns of floats in hexadecimal.
use Rattle.std.specs.Prelude.{ℕ, zero, suc, ◌*◌, ◌/◌, ◌%◌, cond, List, [], ◌∷◌, ◌++◌, ltb, Float}
use Prim.Native.Char.{code}
use Prim.Native.String as string
use Prim.Native.String.{String}
use Rattle.std.specs.Float.{binary64}
use Rattle.std.specs.Float.Ieee.{to_bits}
use Rattle.io.specs.Digits.{hex_digit_ascii, last_digits}
use Rattle.loops.specs.Rounded.{◌!◌}
use Rattle.refusal.specs.declared.refusal.Told.{Told}

-- the codes of a text's letters
unfoldable pub ascii : String → List ℕ
ascii string.[] = []
ascii (string.◌∷◌ c s) = code c ∷ ascii s

-- ---- numbers; `hex_digit_ascii` is the code of a digit and `last_digits b k n` the last k digits of n in base b, both
-- of the kit's `io`

-- the digits of n in base 10: the last k, or as many as there are
unfoldable pub decimal_in : (k n : ℕ) → List ℕ
decimal_in zero n = []
decimal_in (suc k) n = cond (ltb n 10) (hex_digit_ascii n ∷ []) (decimal_in k (n / 10) ++ hex_digit_ascii (n % 10) ∷ [])

-- a number of 64 bits has 20 at most
unfoldable pub decimal : ℕ → List ℕ
decimal n = decimal_in 20 n

-- a pattern of 64 bits: sixteen digits in base 16, the letters small
unfoldable pub hexadecimal : ℕ → List ℕ
hexadecimal w = last_digits 16 16 w

-- ---- words behind a space, and lines

abbrev pub number : ℕ → List ℕ
number n = 32 ∷ decimal n

abbrev pub pattern : ℕ → List ℕ
pattern w = 32 ∷ hexadecimal w

abbrev pub newline : List ℕ
newline = 10 ∷ []

-- refused NO ROW COL
unfoldable pub refused_line : Told → List ℕ
refused_line x = ascii "refused" ++ number x.number ++ number x.row ++ number x.col ++ newline

-- order N passes P
unfoldable pub passes_line : (n passes : ℕ) → List ℕ
passes_line n passes = ascii "order" ++ number n ++ ascii " passes" ++ number passes ++ newline

-- t ROW COL BITS, or q: what begins the line is given
unfoldable pub entry_line : (letter row col w : ℕ) → List ℕ
entry_line letter row col w = letter ∷ [] ++ number row ++ number col ++ pattern w ++ newline

-- e K BITS BITS: the real and the imaginary part of eigenvalue k
unfoldable pub eigenvalue_line : (k re im : ℕ) → List ℕ
eigenvalue_line k re im = ascii "e" ++ number k ++ pattern re ++ pattern im ++ newline

-- ---- several lines

-- line 0, line 1, .., line n - 1
unfoldable pub joined : (ℕ → List ℕ) → ℕ → List ℕ
joined line zero = []
joined line (suc n) = joined line n ++ line n

-- the matrix a of order n, column by column
unfoldable pub matrix_lines : (letter n : ℕ) → (a : List Float) → List ℕ
matrix_lines letter n a = joined (λ k. entry_line letter (k % n) (k / n) (to_bits binary64 (a ! k))) (n * n)

-- the eigenvalues by their real and imaginary parts
unfoldable pub eigenvalue_lines : ℕ → List Float → List Float → List ℕ
eigenvalue_lines n re im = joined (λ k. eigenvalue_line k (to_bits binary64 (re ! k)) (to_bits binary64 (im ! k))) n
