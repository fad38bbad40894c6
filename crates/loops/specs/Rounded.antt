-- Arithmetic of f64 as the definitions write it. A circle stands for one operation of IEEE 754, rounded once to the
-- nearest value of binary64. Nothing is fused and nothing is reordered: a ⊗ b ⊕ c is a product, rounded, and then a
-- sum, rounded. Each name is an `abbrev`, so a goal shows the kit's own operation, and what the code computes meets it
-- with no law.
use Rattle.std.specs.Prelude.{ℕ, List, get_or, Float}
use Rattle.std.specs.Float.{nan, binary64}
use Rattle.std.specs.Float.Ieee.{add, sub, mul, div}

infixl 65 ◌⊕◌ ◌⊖◌
infixl 70 ◌⊗◌ ◌⊘◌
infixl 90 ◌!◌
abbrev pub ◌⊕◌ : Float → Float → Float
◌⊕◌ x y = add binary64 x y

abbrev pub ◌⊖◌ : Float → Float → Float
◌⊖◌ x y = sub binary64 x y

abbrev pub ◌⊗◌ : Float → Float → Float
◌⊗◌ x y = mul binary64 x y

abbrev pub ◌⊘◌ : Float → Float → Float
◌⊘◌ x y = div binary64 x y

-- the number at index i; past the end there is none, and this says NaN
abbrev pub ◌!◌ : List Float → ℕ → Float
◌!◌ t i = get_or t i nan
