-- `scalar::root::sqrt` meets its contract. The tests go by the pattern, and x is what its pattern is read as (`back`). Assumes nothing.
use Rattle.std.proofs.Common.{◌<◌, ◌≢◌, ◌^◌, inl, inr, sym, refl, ap, ◌∙◌, arith}
use lib.Ieee.{binary64, to_bits}
use lib.Ieee.Bits.{to_bits-lt}
use Rattle.loops.specs.Tests.{truth}
use Rattle.scalar.specs.Root.{root_of}
use Rattle.scalar.proofs.Patterns.{back}
use Rattle.scalar.proofs.root.Special.{nan_root, own_root, root_zero, root_infinity, root_minus_zero, root_else}
use Rattle.scalar.proofs.root.sqrt.Goals as goal

-- NaN
pub returns-then-is_nan : goal.returns-then-is_nan
returns-then-is_nan c = c.not_a_number.ensures ∙ sym (nan_root _ (sym c.if-is_nan.ensures.value))

-- a positive finite number
pub returns-then-w-lt-INFINITY : goal.returns-then-w-lt-INFINITY
returns-then-w-lt-INFINITY c = c.positive.ensures ∙ ap root_of (sym (back _ _ (truth c.well_formed.0.1) refl))

-- the zeros and +infinity
pub returns-then-w : goal.returns-then-w
returns-then-w c =
    let h = truth c.well_formed.0.1 in elim c.if-w.either [
      | inl e ↦ own_root _ 0 h e root_zero
      | inr r ↦ elim r [
        | inl e ↦ own_root _ _ h e.1 root_infinity
        | inr e ↦ own_root _ _ h e.2 root_minus_zero
      ]
    ]

-- below 0
pub returns-else-w : goal.returns-else-w
returns-else-w c =
    let h = truth c.well_formed.0.1 in
    let d : to_bits binary64 c.args.x ≢ 2 ^ 63 = omega arith in
    let e : 0x7ff0_0000_0000_0000 < to_bits binary64 c.args.x = omega arith in
    c.not_a_number-else-w.ensures ∙ sym (root_else _ e d (to_bits-lt binary64 _ h)) ∙ ap root_of (sym (back _ _ h refl))
