-- `refusal::search::row_not_finite` meets its contract. Assumes nothing.
use Rattle.std.specs.Prelude.{map, true, false}
use Rattle.std.proofs.Common.{rules}
use Rattle.std.proofs.lemmas.Iterator.{first_from_Range}
use native.Mathlib.Omega.{arith}
use mathlib.Core.Path.{◌≡◌, refl}
use Rattle.refusal.specs.Search.{first_row, not_finite}
use Rattle.refusal.proofs.Searching.{range_found}
use Rattle.refusal.proofs.search.row_not_finite.Goals as goal

pub returns : goal.returns
unfolding first_row
returns g c =
    let x = c.args in
    let v = g.F.Finite.value in
    let found = first_from_Range _ _ _ c.find.result (λ k. not_finite x.n (map v x.t.now) k x.j ≡ true) (λ k. not_finite x.n (map v x.t.now) k x.j ≡ false)
    c.find.ensures.ran (λ k q h. search rules) (λ k q h. search rules) in
    range_found (omega arith) found (λ k l m. refl)
