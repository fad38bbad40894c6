-- `refusal::search::row_far_below` meets its contract. Assumes nothing.
use Rattle.std.specs.Prelude.{not, true, false}
use Rattle.std.proofs.Common.{rules}
use Rattle.std.proofs.lemmas.Iterator.{first_from_Range}
use native.Mathlib.Omega.{arith}
use Prim.Native.Nat.{◌+◌, ◌*◌}
use mathlib.Core.Path.{◌≡◌}
use Rattle.loops.specs.Rounded.{◌!◌}
use Rattle.scalar.specs.Class.{is_zero}
use Rattle.refusal.proofs.Searching.{range_found}
use Rattle.refusal.proofs.Spoiling.{spoils_far}
use Rattle.refusal.proofs.search.row_far_below.Goals as goal

pub returns : goal.returns
returns c =
    let x = c.args in
    let found = first_from_Range _ _ _ c.find.result (λ k. not (is_zero (x.t.now ! (x.j * x.n + k))) ≡ true) (λ k. not (is_zero (x.t.now ! (x.j * x.n + k))) ≡ false)
    c.find.ensures.ran (λ k q h. search rules) (λ k q h. search rules) in
    range_found (omega arith) found (λ k l m. spoils_far x.n x.t.now k x.j l)
