-- `plain::check_sizes` meets its contract. Assumes nothing.
use native.Mathlib.Omega.{arith}
use mathlib.Core.Path.{sym, ◌∙◌}
use Prim.Native.Nat.{◌≤◌}
use Rattle.loops.specs.Place.{square_64}
use Rattle.refusal.proofs.PassedChecks.{order_passed}
use Rattle.plain.proofs.check_sizes.Goals.{In_ok-check_order}
use Rattle.plain.proofs.check_sizes.Goals as goal

order : (c : In_ok-check_order) → c.args.n ≤ 64
order c = (order_passed _ (sym c.check_order.ensures ∙ c.in_ok-check_order.was)).order

pub overflow_mul-n : goal.overflow_mul-n
overflow_mul-n c = let small = order (goal.at.overflow_mul-n c).In_ok-check_order in omega (arith, square_64 c.args.n small)

pub overflow_mul-n-2 : goal.overflow_mul-n-2
overflow_mul-n-2 c = let small = order (goal.at.overflow_mul-n-2 c).In_ok-check_order in omega arith
