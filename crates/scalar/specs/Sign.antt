-- Sign and magnitude of an f64, as simba's `ComplexField` has them for f64 (docs/SUMS.md, section 1).
-- `signum` goes by the sign bit and `to_exp` by a comparison, so the two differ at -0.
use Rattle.std.specs.Prelude.{false, cond, Float}
use Rattle.std.specs.Float.{nan, inf, fin}
use Rattle.std.specs.Float.Ieee.{neg, le}
use Rattle.loops.specs.Constants.{zero, one, minus_one}
use Rattle.scalar.specs.declared.sign.Exp.{Exp}

-- the sign bit cleared
unfoldable pub modulus_of : Float → Float
modulus_of nan = nan
modulus_of (inf s) = inf false
modulus_of (fin s m e) = fin false m e

-- 1 with the sign bit of x, so -1 for -0; NaN has none
unfoldable pub signum_of : Float → Float
signum_of nan = nan
signum_of (inf s) = cond s minus_one one
signum_of (fin s m e) = cond s minus_one one

abbrev pub exp_of : Float → Float → Exp
exp_of m s = record { magnitude = m; sign = s }

-- x and 1 where x ≥ 0, else -x and -1: -0 keeps its minus sign and has the sign 1, and NaN has the sign -1
unfoldable pub to_exp_of : Float → Exp
to_exp_of x = cond (le zero x) (exp_of x one) (exp_of (neg x) minus_one)
