-- The floats whose patterns stand in a list of bytes, and the bytes of a list of floats. Every NaN pattern is read as
-- the one NaN, and that is written as 7FF8000000000000 (docs/EXCEPTIONS.md).
use Rattle.std.specs.Prelude.{ℕ, ◌*◌, ◌/◌, ◌%◌, List, length, Float}
use Rattle.std.specs.Float.{binary64}
use Rattle.std.specs.Float.Ieee.{of_bits, to_bits}
use Rattle.loops.specs.Rounded.{◌!◌}
use Rattle.loops.specs.Table.{table}
use Rattle.words.specs.Words.{le64, byte_of}

unfoldable pub floats_of : List ℕ → List Float
floats_of b = table (length b / 8) (λ k. of_bits binary64 (le64 b (8 * k)))

unfoldable pub bytes_of : List Float → List ℕ
bytes_of a = table (8 * length a) (λ i. byte_of (to_bits binary64 (a ! (i / 8))) (i % 8))
