-- What an entry promises beside its equation, told of what it has answered and left: an accepted count lies below the budget, and an accepted T has the shape.
-- And what a refusal before the run leaves. Assumes nothing.
use Rattle.std.specs.Prelude.{Err}
use Prim.Native.Nat.{ℕ}
use mathlib.Core.Path.{◌≡◌, sym, ap, ◌∙◌}
use mathlib.Core.List.{List}
use lib.ListN.{length}
use lib.Ieee.{Float}
use Rattle.pass.specs.declared.setting.Setting.{Setting}
use Rattle.pass.specs.Pair.{Pair}
use Rattle.refusal.specs.declared.refusal.Refusal.{Refusal}
use Rattle.decomposition.specs.Decomposition.{Decomposed, outcome, decomposition_of, BelowBudget, Shaped}
use Rattle.decomposition.proofs.CheckedArguments.{all_lent}
use Rattle.decomposition.proofs.Count.{count_below}
use Rattle.decomposition.proofs.Shape.{shape_held}
use Rattle.decomposition.proofs.Touched.{checks_of, untouched}

pub promised : {r : Decomposed} {w' : List Float} (asked : Setting) (budget : ℕ) (m : List Float) (p : Pair) (w : List Float) (left : Pair)
    → outcome r left w' ≡ decomposition_of asked budget m p w → BelowBudget r budget × Shaped r asked.order left.t
promised {r} asked budget m p w left e =
    let answered = ap (λ o. o.answer) e in
    let lent = all_lent asked (length m) (length p.t) (length p.q) (length w) in
    (count_below _ asked m p w lent budget r answered, shape_held _ asked budget m p w lent r left.t answered (ap (λ o. o.pair.t) e))

-- refused before the run: nothing is touched
pub refused_first : {a : Decomposed} {r : Refusal} (asked : Setting) (budget : ℕ) (m : List Float) (p : Pair) (w : List Float)
    → checks_of asked budget m p w ≡ Err r → a ≡ Err r → outcome a p w ≡ decomposition_of asked budget m p w
refused_first asked budget m p w h e = ap (λ x. outcome x p w) e ∙ sym (untouched _ asked budget m p w h)
