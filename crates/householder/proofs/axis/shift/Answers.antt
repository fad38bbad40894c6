-- `householder::axis::shift` meets its contract. Assumes nothing.
use mathlib.Core.Path.{refl, sym, ◌∙◌}
use Rattle.householder.proofs.Ways.{measured, axis_empty, axis_none, axis_made}
use Rattle.householder.proofs.axis.shift.Goals as goal

pub returns-then-column-eq0 : goal.returns-then-column-eq0
returns-then-column-eq0 c sum e = axis_empty _ _ c.if-column-eq0.true

pub returns-then-reflected : goal.returns-then-reflected
returns-then-reflected c sum e =
    let m = measured _ _ _ _ _ c.if-column-eq0.false e (rw (c.to_exp-exp.ensures, c.sqrt-root.ensures) (refl, refl)) in
    rw (c.if-reflected.true) (axis_made m (sym c.is_zero-reflected.ensures ∙ c.if-reflected.true))

pub returns-else-reflected : goal.returns-else-reflected
returns-else-reflected c sum e =
    let m = measured _ _ _ _ _ c.if-column-eq0.false e (rw (c.to_exp-exp.ensures, c.sqrt-root.ensures) (refl, refl)) in
    rw (c.if-reflected.false) (axis_none m (sym c.is_zero-reflected.ensures ∙ c.if-reflected.false))
