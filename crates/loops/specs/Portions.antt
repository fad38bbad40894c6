-- A run that counts, made in portions. A portion of k makes k turns at most from where the run stands. It is parked
-- where all of them have counted, even if the run is done with the last; else the run has finished. Every division
-- into portions comes to one portion of all together.
use Rattle.std.specs.Prelude.{Bool, ℕ, ◌+◌}
use Rattle.std.proofs.Math.Bool.{cond}
use mathlib.Core.List.{List, [], ◌∷◌}
use Rattle.std.proofs.Math.Dec.{eqb}
use Rattle.loops.specs.Until.{until}

pub data Portioned (A : Type 0) : Type 0 where
  parked : A → Portioned A
  finished : A → Portioned A

unfoldable pub portion : {A : Type 0} → (done : A → Bool) → (turn : A → A) → (count : A → ℕ) → (k : ℕ) → A → Portioned A
portion done turn count k x = let y = until done turn k x in cond (eqb (count y) (count x + k)) (parked y) (finished y)

-- one after another, until one finishes or the last is used
unfoldable pub portions : {A : Type 0} → (done : A → Bool) → (turn : A → A) → (count : A → ℕ) → (ks : List ℕ) → A
    → Portioned A
portions done turn count [] x = parked x
portions done turn count (k ∷ ks) x =
    elim (portion done turn count k x) [ parked y ↦ portions done turn count ks y | finished y ↦ finished y ]

unfoldable pub together : List ℕ → ℕ
together [] = 0
together (k ∷ ks) = k + together ks
