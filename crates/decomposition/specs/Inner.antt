-- What the inner functions promise. Nothing outside this crate cites it.
use Rattle.std.specs.Prelude.{◌≡◌}
use Rattle.pass.specs.Pair.{Pair, pair}
use Rattle.refusal.specs.declared.refusal.Refusal.{Refusal}
use Rattle.refusal.specs.declared.refusal.Refusal.TheVariants as refusal
use Rattle.schur.specs.declared.run.Stopped.{Stopped}
use Rattle.schur.specs.declared.run.Stopped.TheVariants.{BudgetReached, Unfit}
use Rattle.decomposition.specs.declared.Matrices.{Matrices}

-- what a run that stopped is refused for, as `verdict` tells it
unfoldable pub refusal_of : Stopped → Refusal
refusal_of (BudgetReached window) = refusal.BudgetReached
refusal_of Unfit = refusal.WrongLength

-- T and Q
abbrev pub pair_of : Matrices → Pair
pair_of m = pair m.t.now m.q.now

-- m' works on the same T and Q as m, and the same is asked for
pub record Same (m m' : Matrices) : Type 0 where
  pub t : m'.t.ghost_name ≡ m.t.ghost_name
  pub q : m'.q.ghost_name ≡ m.q.ghost_name
  pub asked : m'.asked ≡ m.asked
