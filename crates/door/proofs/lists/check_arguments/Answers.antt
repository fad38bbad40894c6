-- `door::lists::check_arguments` meets its contract. Assumes nothing.
use mathlib.Core.Path.{sym, ◌∙◌}
use Rattle.refusal.proofs.PassedChecks.{order_passed}
use Rattle.door.proofs.lists.check_arguments.Goals as goal

pub check_lengths-requires : goal.check_lengths-requires
check_lengths-requires g c = (order_passed _ (sym c.check_order.ensures ∙ c.in_ok-check_order.was)).order
