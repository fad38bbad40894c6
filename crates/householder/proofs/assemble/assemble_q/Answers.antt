-- `householder::assemble::assemble_q` meets its contract. Assumes nothing.
use mathlib.Core.Path.{◌≡◌, sym, ◌∙◌}
use native.Mathlib.Omega.{arith}
use Rattle.loops.specs.Down.{down, down_none, down_turn}
use Rattle.householder.specs.Assembled.{identity, with_axis, assembled}
use Rattle.householder.proofs.Empty.{assembled_empty}
use Rattle.std.proofs.lemmas.Grind.{common_steps}
use Rattle.householder.proofs.assemble.assemble_q.Goals.{Else-last-signs}
use Rattle.householder.proofs.assemble.assemble_q.Goals as goal

-- after the tests
passed : (c : Else-last-signs) → let x = c.args in
    assembled x.n x.m.now x.signs.now x.q.now ≡ down (with_axis x.n x.m.now x.signs.now) c.in-Some.last (identity x.n x.q.now)
unfolding assembled
passed c = grind (arith, common_steps)

pub returns-in_default : goal.returns-in_default
returns-in_default c = assembled_empty _ _ _ _ (grind (arith, common_steps))

pub loop-i-preserved : goal.loop-i-preserved
unfolding with_axis
loop-i-preserved c =
    let x = c.args in
    rw (c.reflect_with_sign.ensures, c.signum.ensures)
    (sym (down_turn (with_axis x.n x.m.now x.signs.now) c.loop-i.i c.loop-i.q (omega arith)) ∙ c.loop-i.invariant)

pub returns : goal.returns
returns c =
    let e : c.loop-i.i ≡ 0 = omega arith in
    sym (down_none _ _) ∙ rw e at c.loop-i.invariant ∙ rw c.fill_with_identity.ensures (sym (passed (goal.at.returns c).Else-last-signs))
