-- `refusal::search::first_entry_not_finite` meets its contract. Assumes nothing.
use native.Mathlib.Omega.{arith}
use mathlib.Core.Path.{sym, ◌∙◌}
use lib.ListN.{length}
use Rattle.matrix.proofs.Fitting.{fits}
use Rattle.refusal.proofs.Searching.{searched_none, searched_more, searched_here, searched_done, some_found, none_found}
use Rattle.refusal.proofs.NotFinite.{short_none, finite_none, whole_place}
use Rattle.refusal.proofs.search.first_entry_not_finite.Goals.{then-not-is_whole-via-then-not-is_whole, then-not-is_whole-via-else-not-is_whole+then-all_finite}
use Rattle.refusal.proofs.search.first_entry_not_finite.Goals as goal

pub returns-then-not-is_whole : goal.returns-then-not-is_whole
returns-then-not-is_whole g c =
    let x = c.args in
    elim c.then-not-is_whole.branch [
      | then-not-is_whole-via-then-not-is_whole w ↦ short_none g.F.Finite.value x.n x.t.now (sym c.is_whole.ensures ∙ w.if-not-is_whole.true)
      | then-not-is_whole-via-else-not-is_whole+then-all_finite w ↦
          finite_none g.F.Finite.value x.n x.t.now (sym c.is_whole.ensures ∙ w.if-not-is_whole.false) (sym w.all_finite.ensures ∙ w.if-all_finite.true)
    ]

pub loop-col-init : goal.loop-col-init
loop-col-init g c = searched_none _ _

pub row_not_finite-requires-clause-square : goal.row_not_finite-requires-clause-square
row_not_finite-requires-clause-square g c =
    let x = c.args in
    let f = fits x.n (length x.t.now) x.n x.n (sym c.is_whole.ensures ∙ c.if-not-is_whole.false) in
    (f.order, f.size)

pub returns-in-Some : goal.returns-in-Some
returns-in-Some g c =
    let f = some_found c.in-Some.ensures in
    whole_place g.F.Finite.value c.args.n c.args.t.now (sym c.is_whole.ensures ∙ c.if-not-is_whole.false)
    (searched_here c.loop-col.invariant (omega arith) f.0 f.1)

pub loop-col-preserved : goal.loop-col-preserved
loop-col-preserved g c = searched_more c.loop-col.invariant (omega arith) (none_found c.in_default.ensures)

pub returns : goal.returns
returns g c =
    whole_place g.F.Finite.value c.args.n c.args.t.now (sym c.is_whole.ensures ∙ c.if-not-is_whole.false)
    (searched_done c.loop-col.invariant (omega arith))
