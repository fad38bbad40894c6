-- `refusal::search::first_spoiling` meets its contract. Assumes nothing.
use native.Mathlib.Omega.{arith}
use mathlib.Core.Path.{sym, ◌∙◌}
use lib.ListN.{length}
use Rattle.matrix.proofs.Fitting.{fits}
use Rattle.refusal.specs.Search.{first_spoiling}
use Rattle.refusal.proofs.Searching.{searched_none, searched_more, searched_here, searched_done, some_found, none_found}
use Rattle.refusal.proofs.search.first_spoiling.Goals.{Else-not-is_whole}
use Rattle.refusal.proofs.search.first_spoiling.Goals as goal

pub returns-then-not-is_whole : goal.returns-then-not-is_whole
unfolding first_spoiling
returns-then-not-is_whole c = rw (sym c.is_whole.ensures ∙ c.if-not-is_whole.true)

pub loop-col-init : goal.loop-col-init
loop-col-init c = searched_none _ _

pub row_spoiling-requires-clause-square : goal.row_spoiling-requires-clause-square
row_spoiling-requires-clause-square c =
    let x = c.args in
    let f = fits x.n (length x.t.now) x.n x.n (sym c.is_whole.ensures ∙ c.if-not-is_whole.false) in
    (f.order, f.size)

pub returns-in-Some : goal.returns-in-Some
unfolding first_spoiling
returns-in-Some c =
    let f = some_found c.in-Some.ensures in
    rw (sym c.is_whole.ensures ∙ c.if-not-is_whole.false) (searched_here c.loop-col.invariant (omega arith) f.0 f.1)

pub loop-col-preserved : goal.loop-col-preserved
loop-col-preserved c = searched_more c.loop-col.invariant (omega arith) (none_found c.in_default.ensures)

pub returns : goal.returns
unfolding first_spoiling
returns c = rw (sym c.is_whole.ensures ∙ c.if-not-is_whole.false) (searched_done c.loop-col.invariant (omega arith))
