-- `eigenvalues::readers::first_not_complex` meets its contract. Assumes nothing.
use native.Mathlib.Omega.{arith}
use mathlib.Core.Path.{refl}
use Rattle.std.proofs.Common.{rules, tests}
use Rattle.std.proofs.lemmas.Iterator.{YieldsList-from_range}
use Rattle.std.proofs.lemmas.Iterator.Search.{find_from_yields_List}
use Rattle.eigenvalues.specs.Blocks.{not_complex}
use Rattle.eigenvalues.proofs.DiagonalSearch.{find_range}
use Rattle.eigenvalues.proofs.readers.first_not_complex.Goals as goal

pub returns : goal.returns
returns c =
    let x = c.args in
    let test = not_complex x.n x.t.now in
    find_range test _ _ _
    (find_from_yields_List test _ _ c.find.result c.find.ensures.ran (YieldsList-from_range 0 x.n x.n refl (omega arith)) (λ k b q h. search (rules, tests)))
    (λ k p h. search (rules, tests)) c.map.ensures.cases
