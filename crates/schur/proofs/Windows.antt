-- The window of a run, after so many turns: it has closed, and is 0 0, or its start lies above its end, within T.
-- Assumes nothing.
use Rattle.std.specs.Prelude.{ℕ, ◌+◌, ◌-◌, List, refl, leb, Float}
use Rattle.std.proofs.Common.{arith}
use Rattle.loops.specs.Tests.{cond_both}
use Rattle.loops.proofs.Until.{until_hold}
use Rattle.window.specs.Window.{Standing, shut}
use Rattle.window.proofs.Standing.{delimited_stands, standing_below, standing_end}
use Rattle.pass.specs.declared.setting.Setting.{Setting}
use Rattle.schur.specs.Run.{Running, closed, delimiting, after, turn_two, turn_more, turn_of, run_from}
use Rattle.schur.specs.Run.{opened, opened_of, window_of}

module _ (asked : Setting) where
  abbrev In : Running → Type 0
  In r = Standing (asked.order - 1) r.state.window

  turn_in : (r : Running) → In r → In (turn_of asked r)
  unfolding turn_of turn_two turn_more after delimiting
  turn_in r h =
      let most = standing_end h in
      cond_both In (leb r.state.window.end (r.state.window.start + 1)) _ _
      (λ _. cond_both In (leb r.state.window.end 2) _ _ (λ _. shut refl)
      (λ _. standing_below (omega arith) (delimited_stands _ _ _ _)))
      (λ _. standing_below most (delimited_stands _ _ _ _))

  run_in : (budget : ℕ) (r : Running) → In r → In (run_from asked budget r)
  unfolding run_from
  run_in budget r h = until_hold In closed (turn_of asked) budget r turn_in h

  pub window_stands : (budget : ℕ) (t : List Float) → Standing (asked.order - 1) (window_of asked budget t)
  unfolding window_of opened_of opened delimiting
  window_stands budget t = run_in budget _ (delimited_stands _ _ _ _)
