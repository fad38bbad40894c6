-- `refusal::search::first_spoiling` meets its contract. Assumes nothing.
use Rattle.refusal.specs.Search.{spoils}
use Rattle.refusal.proofs.Searching.{Searched}
use Rattle.refusal.proofs.search.first_spoiling.Given as goal

abbrev pub invariant-loop-col : goal.invariant-loop-col
invariant-loop-col l = Searched (spoils l.n l.t) l.n l.col
