-- `door::matrices::check_arguments` meets its contract. Assumes nothing.
use native.Mathlib.Omega.{arith}
use mathlib.Core.Path.{sym, ◌∙◌}
use Rattle.loops.specs.Place.{square_64}
use Rattle.refusal.proofs.PassedChecks.{order_passed}
use Rattle.door.proofs.matrices.check_arguments.Goals as goal

pub overflow_mul-needs : goal.overflow_mul-needs
overflow_mul-needs c = omega (arith, square_64 _ (order_passed _ (sym c.check_order.ensures ∙ c.in_ok-check_order.was)).order)

pub overflow_mul-needs-2 : goal.overflow_mul-needs-2
overflow_mul-needs-2 c = omega (arith, square_64 _ (order_passed _ (sym c.check_order.ensures ∙ c.in_ok-check_order.was)).order)
