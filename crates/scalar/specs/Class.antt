-- Which kind of value an f64 is.
use Rattle.std.specs.Prelude.{Bool, true, false, Float}
use Rattle.std.specs.Float.{nan, inf, fin}
use Rattle.std.specs.Float.Ieee.{eq}
use Rattle.loops.specs.Constants.{zero}

-- equal to 0, so true for -0 and false for NaN
abbrev pub is_zero : Float → Bool
is_zero x = eq x zero

-- neither NaN nor an infinity
unfoldable pub is_finite : Float → Bool
is_finite nan = false
is_finite (inf s) = false
is_finite (fin s m e) = true
