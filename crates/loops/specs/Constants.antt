-- The numbers that the steps name, each by its bit pattern, as the code's literals are read.
use Rattle.std.specs.Prelude.{Float}
use Rattle.std.specs.Float.{binary64}
use Rattle.std.specs.Float.Ieee.{of_bits, neg}

-- 0.0, the positive zero
abbrev pub zero : Float
zero = of_bits binary64 0

abbrev pub one : Float
one = of_bits binary64 0x3ff0_0000_0000_0000

abbrev pub two : Float
two = of_bits binary64 0x4000_0000_0000_0000

abbrev pub half : Float
half = of_bits binary64 0x3fe0_0000_0000_0000

-- -1.0 and -2.0: a literal's minus sign is an operation
abbrev pub minus_one : Float
minus_one = neg one

abbrev pub minus_two : Float
minus_two = neg two

-- 2 ^ -52, the tolerance where none is named
abbrev pub epsilon : Float
epsilon = of_bits binary64 0x3cb0_0000_0000_0000
