-- What a run answers, told of the state at which it stopped, and what its test of the arguments tells. Assumes nothing.
use Rattle.std.specs.Prelude.{Err, Ok}
use Prim.Native.Nat.{ℕ, ◌*◌, ◌≤◌}
use mathlib.Core.Bool.{Bool, true, false, cond}
use mathlib.Core.Logic.{◌≢◌}
use mathlib.Core.Path.{◌≡◌, sym, ap, ◌∙◌}
use borrow.Author.Tests.{eq-eqb, ne_eqb, leb-true, eqb-true}
use lib.Dec.{eqb}
use lib.Ieee.{Float}
use Rattle.matrix.specs.Vectors.{scaled}
use Rattle.matrix.proofs.Fitting.{fits, both}
use Rattle.schur.specs.declared.run.State.{State}
use Rattle.schur.specs.declared.run.Stopped.TheVariants.{BudgetReached}
use Rattle.pass.specs.Pair.{Pair, pair}
use Rattle.schur.specs.Run.{Running, running, left, answered, run_fits}

-- ---- by the count

-- the test at the state in hand
tested : (budget : ℕ) (amax : Float) (s : State) (p : Pair) (r : Running) (b : Bool) → running s p ≡ r → eqb s.passes budget ≡ b
    → cond b (left (Err (BudgetReached s.window)) p) (left (Ok s.passes) (pair (scaled amax p.t) p.q)) ≡ answered budget amax r
unfolding answered
tested budget amax s p r b e h =
    sym (ap (λ d. cond d (left (Err (BudgetReached s.window)) p) (left (Ok s.passes) (pair (scaled amax p.t) p.q))) h)
    ∙ ap (answered budget amax) e

pub answered_reached : (budget : ℕ) (amax : Float) (s : State) (p : Pair) (r : Running) → running s p ≡ r → s.passes ≡ budget
    → left (Err (BudgetReached s.window)) p ≡ answered budget amax r
answered_reached budget amax s p r e h = tested budget amax s p r true e (eq-eqb _ _ h)

pub answered_ended : (budget : ℕ) (amax : Float) (s : State) (p : Pair) (r : Running) → running s p ≡ r → s.passes ≢ budget
    → left (Ok s.passes) (pair (scaled amax p.t) p.q) ≡ answered budget amax r
answered_ended budget amax s p r e h = tested budget amax s p r false e (ne_eqb _ _ h)

-- ---- the test of the arguments

pub record RunFits (n tn wn : ℕ) : Type 0 where
  pub some : 1 ≤ n
  pub order : n ≤ 64
  pub size : tn ≡ n * n
  pub room : wn ≡ 2 * n

pub run_fitting : (n tn wn : ℕ) → run_fits n tn wn ≡ true → RunFits n tn wn
unfolding run_fits
run_fitting n tn wn h =
    let a = both _ _ h in
    let b = both _ _ a.1 in
    let f = fits n tn n n b.0 in
    record {
      some = leb-true _ _ a.0;
      order = f.order;
      size = f.size;
      room = eqb-true _ _ b.1;
    }
