-- `pass::shift::step` meets its contract. Assumes nothing.
use borrow.Author.Tests.{not-true, not-false}
use Rattle.householder.specs.Axis.{axis_answer}
use Rattle.pass.proofs.Stepping.{step_none, step_made}
use Rattle.pass.proofs.shift.step.Goals as goal

pub returns-then-not-r : goal.returns-then-not-r
returns-then-not-r g c =
    let axis = c.reflection_axis_of_vector-r in
    step_none _ _ _ _ _ (axis_answer axis.new.column.0 axis.result.norm axis.result.reflected) axis.ensures
    (not-true axis.result.reflected c.if-not-r.true)

pub returns : goal.returns
returns g c =
    let axis = c.reflection_axis_of_vector-r in
    step_made _ _ _ _ _ (axis_answer axis.new.column.0 axis.result.norm axis.result.reflected) _ _ _ axis.ensures
    (not-false axis.result.reflected c.if-not-r.false)
    c.sweep.ensures c.rows_at.ensures c.reflect_at.ensures
