-- `refusal::search::all_finite` meets its contract. Assumes nothing.
use Rattle.std.proofs.Common.{◌≡◌, ◌≤◌, take, nat_eq}
use Rattle.std.specs.List.{list_all}
use Rattle.scalar.specs.Class.{is_finite}
use Rattle.refusal.proofs.search.all_finite.Given as goal

abbrev pub invariant-loop-x : goal.invariant-loop-x
invariant-loop-x g l = (l.bad ≤ l.x-index) × (nat_eq l.bad 0 ≡ list_all (λ x. is_finite (g.F.Finite.value x)) (take l.x-index l.t))
