-- `schur::run::Progress::run` meets its contract. Assumes nothing.
use Prim.Native.Nat.{ℕ, ◌-◌}
use mathlib.Core.Path.{◌≡◌}
use Rattle.schur.specs.declared.run.Progress.{Progress}
use Rattle.schur.specs.Run.{run_from}
use Rattle.schur.specs.Inner.{Turnable, Same, stands}
use Rattle.schur.proofs.run.Progress.run.Given as goal

-- what is left to do, of a run that began at r₀, is the whole
pub record Going (r₀ : Progress) (budget left : ℕ) (r : Progress) : Type 0 where
  pub may : Turnable left r
  pub same : Same r₀ r
  pub rest : run_from r₀.asked left (stands r) ≡ run_from r₀.asked budget (stands r₀)

abbrev pub invariant-loop : goal.invariant-loop
invariant-loop l = Going l.fn.self l.budget (l.budget - l.counter) l.self
