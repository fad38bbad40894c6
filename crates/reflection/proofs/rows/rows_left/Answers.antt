-- `reflection::rows::rows_left` meets its contract. Assumes nothing.
use mathlib.Core.Path.{◌∙◌}
use native.Mathlib.Omega.{arith}
use Rattle.reflection.proofs.RowTurn.{rows_more}
use Rattle.reflection.proofs.rows.rows_left.Goals as goal

-- the four, then the rest
pub returns : goal.returns
returns c =
    let x = c.args in
    c.rows_by_one-2.ensures ∙ rows_more x.a.now x.sign _ _ _ _ _ x.t.now _ (omega arith) (omega arith) (omega arith) (omega arith)
    (omega arith) c.four_rows.ensures

pub returns-then-to-from-lt4 : goal.returns-then-to-from-lt4
returns-then-to-from-lt4 c = c.rows_by_one.ensures
