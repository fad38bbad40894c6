-- `door::matrices::tolerance_fits` meets its contract. Assumes nothing.
use mathlib.Core.Bool.{false}
use mathlib.Core.Path.{◌≡◌, refl, sym, ap, ◌∙◌}
use lib.Ieee.{nan, le, of_bits}
use Rattle.scalar.proofs.Patterns.{nan_pattern}
use Rattle.decomposition.specs.Checks.{tolerance_fits}
use Rattle.door.proofs.matrices.tolerance_fits.Goals as goal

outside : false ≡ tolerance_fits nan
unfolding tolerance_fits le of_bits
outside = refl

pub returns-then-tolerance-gt9218868437227405312 : goal.returns-then-tolerance-gt9218868437227405312
returns-then-tolerance-gt9218868437227405312 c = outside ∙ sym (ap tolerance_fits (nan_pattern _ c.if-tolerance-gt9218868437227405312.true))

pub returns : goal.returns
returns c = c.tolerance_fits.ensures ∙ ap tolerance_fits c.of_bits.ensures
