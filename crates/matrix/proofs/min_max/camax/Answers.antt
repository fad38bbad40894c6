-- `matrix::min_max::camax` meets its contract. Assumes nothing.
use mathlib.Core.Path.{◌∙◌}
use Prim.Native.Nat.{◌+◌, ◌≤◌}
use native.Mathlib.Omega.{arith}
use native.Mathlib.Numerals.{add-one}
use lib.ListN.{length}
use borrow.Author.Tests.{eq-eqb, ne_eqb}
use Rattle.loops.specs.Times.{range_none, range_more, range_done}
use Rattle.matrix.specs.Vectors.{largest}
use Rattle.matrix.proofs.min_max.camax.Goals as goal

pub returns-in_default : goal.returns-in_default
unfolding largest
returns-in_default c = rw (eq-eqb _ _ c.in_default.ensures.cases)

pub loop-v-init : goal.loop-v-init
loop-v-init c = let h = c.in-Some.ensures.cases in rw (range_none, h.0, c.modulus-max.ensures)

pub loop-v-preserved : goal.loop-v-preserved
loop-v-preserved c =
    let h = c.in-Some.ensures.cases in
    let some : 1 ≤ c.loop-v.v-index + 1 = omega arith in
    rw (range_more, ← c.loop-v.invariant, c.simd_max-max.ensures, c.modulus.ensures, h.0, add-one)

pub returns : goal.returns
unfolding largest
returns c =
    let h = c.in-Some.ensures.cases in
    rw (ne_eqb (length c.args.t.now) 0 (omega arith))
    (c.loop-v.invariant ∙ range_done _ _ _ _ _ (omega arith) (omega arith) (omega arith))
