-- `refusal::search::first_entry_not_finite` meets its contract. Assumes nothing.
use Rattle.std.specs.Prelude.{map}
use Rattle.refusal.specs.Search.{not_finite}
use Rattle.refusal.proofs.Searching.{Searched}
use Rattle.refusal.proofs.search.first_entry_not_finite.Given as goal

abbrev pub invariant-loop-col : goal.invariant-loop-col
invariant-loop-col g l = Searched (not_finite l.n (map g.F.Finite.value l.t)) l.n l.col
