-- `reflection::rows::put_eight` meets its contract. Assumes nothing.
use mathlib.Core.Path.{ap, ◌∙◌}
use Prim.Native.Nat.{◌+◌}
use Rattle.reflection.specs.Inner.{four_put}
use Rattle.reflection.proofs.rows.put_eight.Goals as goal

pub returns : goal.returns
returns c =
    let x = c.args in
    c.put_four-2.ensures ∙ ap (four_put x.factor x.w.lower x.sign (x.p + 4)) c.put_four.ensures
