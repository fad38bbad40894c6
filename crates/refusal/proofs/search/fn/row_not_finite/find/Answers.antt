-- The closure of `refusal::search::row_not_finite` meets its contract. Assumes nothing.
use Rattle.std.proofs.Common.{rules}
use Rattle.refusal.proofs.NotFinite.{looked}
use Rattle.refusal.proofs.search.fn.row_not_finite.find.Goals as goal

pub returns : goal.returns
returns g c = search (rules, looked)
