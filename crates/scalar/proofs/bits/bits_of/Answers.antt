-- `scalar::bits::bits_of` meets its contract: a NaN by the pattern that the logic writes for it, any other float by its own; and every f64
-- is what its pattern is read as (`both_ways`). Assumes nothing.
use Rattle.std.proofs.Common.{sym, ap, ◌∙◌}
use lib.Ieee.{to_bits, binary64}
use Rattle.loops.specs.Tests.{truth}
use Rattle.scalar.proofs.Patterns.{only_nan, to_bits-nan, both_ways}
use Rattle.scalar.proofs.bits.bits_of.Goals as goal

pub returns-then-is_nan : goal.returns-then-is_nan
returns-then-is_nan c =
    let both = both_ways c.args.x (truth c.well_formed.0.1) (sym (ap (to_bits binary64) (only_nan _ (sym c.if-is_nan.ensures.value)) ∙ to_bits-nan)) in
    record { value = both.0; result_value = both.1 }
