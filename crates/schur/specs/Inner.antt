-- What the contracts of private functions name: which runs may be turned, and where the next turn stands. Nothing
-- here need be believed: the public contract cites `Run` alone.
use Rattle.std.specs.Prelude.{ℕ, ◌+◌, ◌*◌, ◌<◌, ◌≤◌, ◌≡◌, List, length, Float}
use Rattle.matrix.specs.Vectors.{largest}
use Rattle.window.specs.declared.Window.{Window}
use Rattle.pass.specs.declared.setting.Setting.{Setting}
use Rattle.pass.specs.Pair.{Pair, pair}
use Rattle.schur.specs.declared.run.Opening.{Opening}
use Rattle.schur.specs.declared.run.Progress.{Progress}
use Rattle.schur.specs.Run.{Running, running, opened}

-- T is a matrix of the order asked for, at most 64
pub record Square (asked : Setting) (t : List Float) : Type 0 where
  pub order : asked.order ≤ 64
  pub size : length t ≡ asked.order * asked.order

-- the window lies in that matrix
pub record Within (asked : Setting) (w : Window) : Type 0 where
  pub start : w.start ≤ w.end
  pub end : w.end < asked.order

-- T and Q of a run under way, and with them where it stands
abbrev pub matrices : Progress → Pair
matrices r = pair r.t.now r.q.now

abbrev pub stands : Progress → Running
stands r = running r.state (matrices r)

-- it may be turned, so many `turns` at most: the machine has room for their count
pub record Turnable (turns : ℕ) (r : Progress) : Type 0 where
  pub matrix : Square r.asked r.t.now
  pub window : Within r.asked r.state.window
  pub count : r.state.passes + turns ≤ 18446744073709551615

-- r' works on what r works on: the same T and Q, and the same is asked for
pub record Same (r r' : Progress) : Type 0 where
  pub t : r'.t.ghost_name ≡ r.t.ghost_name
  pub q : r'.q.ghost_name ≡ r.q.ghost_name
  pub asked : r'.asked ≡ r.asked

-- a turn from r, which is `whole` by definition, has come to r'; it counts one pass, or none
pub record Turned (r : Progress) (whole : Running) (r' : Progress) : Type 0 where
  pub is : stands r' ≡ whole
  pub same : Same r r'
  pub matrix : Square r'.asked r'.t.now
  pub window : Within r'.asked r'.state.window
  pub count : r'.state.passes ≤ r.state.passes + 1

-- a run has been opened on T and Q, p, with the workspace w: it stands at r, and T and Q are p'
pub record Begun (asked : Setting) (p : Pair) (w : List Float) (r : Opening) (p' : Pair) : Type 0 where
  pub is : running r.state p' ≡ opened asked p w
  pub amax : r.amax ≡ largest p.t
  pub window : Within asked r.state.window
  pub count : r.state.passes ≡ 0
