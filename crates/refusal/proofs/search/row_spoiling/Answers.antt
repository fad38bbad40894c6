-- `refusal::search::row_spoiling` meets its contract. Assumes nothing.
use native.Mathlib.Omega.{arith}
use mathlib.Core.Path.{sym, ap, ◌∙◌}
use Rattle.refusal.specs.Inner.{found}
use Rattle.refusal.proofs.Searching.{found_some, found_none}
use Rattle.refusal.proofs.Spoiling.{row_last, row_just, row_far}
use Rattle.refusal.proofs.search.row_spoiling.Goals as goal

pub returns-then-j-n : goal.returns-then-j-n
returns-then-j-n c = let x = c.args in found_none (omega (arith, row_last x.n x.t.now x.j (omega arith)))

pub returns-then-just_below_spoils : goal.returns-then-just_below_spoils
returns-then-just_below_spoils c =
    let x = c.args in
    let e = row_just x.n x.t.now x.j (omega arith) (sym c.just_below_spoils.ensures ∙ c.if-just_below_spoils.true) in
    found_some e (omega arith)

pub returns : goal.returns
returns c =
    let x = c.args in
    c.row_far_below.ensures ∙ ap (found x.n) (row_far x.n x.t.now x.j (omega arith) (sym c.just_below_spoils.ensures ∙ c.if-just_below_spoils.false))
