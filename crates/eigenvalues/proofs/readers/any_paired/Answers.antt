-- `eigenvalues::readers::any_paired` meets its contract. Assumes nothing.
use native.Mathlib.Omega.{arith}
use mathlib.Core.Path.{refl, ◌∙◌}
use Rattle.std.proofs.Common.{rules, tests}
use Rattle.std.proofs.lemmas.Iterator.{YieldsList-from_range}
use Rattle.std.proofs.lemmas.Iterator.Search.{any_from_yields_List}
use Rattle.eigenvalues.specs.Blocks.{paired}
use Rattle.eigenvalues.specs.Readers.{any_paired}
use Rattle.eigenvalues.proofs.DiagonalSearch.{any_range}
use Rattle.eigenvalues.proofs.readers.any_paired.Goals as goal

pub returns : goal.returns
unfolding any_paired
returns c =
    let x = c.args in
    any_from_yields_List (paired x.n x.t.now) _ _ c.any.result c.any.ensures.ran (YieldsList-from_range 0 x.n x.n refl (omega arith)) (λ k b q h. search (rules, tests))
    ∙ any_range _ _
