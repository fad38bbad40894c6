-- What the contract of a private function names: the float whose pattern stands in eight bytes.
use Rattle.std.specs.Prelude.{ℕ, List, Float}
use Rattle.std.specs.Float.{binary64}
use Rattle.std.specs.Float.Ieee.{of_bits}
use Rattle.std.specs.Int.{w64, from_le_bytes}

unfoldable pub float_of : List ℕ → Float
float_of word = of_bits binary64 (from_le_bytes w64 word)
