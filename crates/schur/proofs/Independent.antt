-- T, the answer and the count do not depend on Q: not on whether it is wanted, and not on what is lent for it; nor on what the workspace held. Assumes
-- nothing.
use Rattle.std.specs.Prelude.{Err}
use Prim.Native.Nat.{ℕ, ◌+◌, ◌-◌}
use mathlib.Core.Bool.{Bool, true, false, cond}
use mathlib.Core.Path.{◌≡◌, refl, ap, ◌∙◌}
use mathlib.Core.List.{List}
use lib.Dec.{eqb, leb}
use lib.ListN.{length}
use lib.Ieee.{Float}
use Rattle.loops.proofs.Until.{until_both}
use Rattle.matrix.specs.Vectors.{largest, scaled}
use Rattle.hessenberg.specs.Reduced.{reduced}
use Rattle.hessenberg.specs.Unpacked.{unpacked_h}
use Rattle.hessenberg.proofs.Lent as reduction
use Rattle.hessenberg.proofs.Lent.{reduced_lent, h_lent}
use Rattle.window.specs.declared.Window.{Window}
use Rattle.pass.specs.declared.setting.Setting.{Setting}
use Rattle.pass.specs.Setting.{wanting}
use Rattle.pass.specs.Pair.{Pair, pair}
use Rattle.pass.specs.Pass.{pass_of}
use Rattle.pass.specs.Block.{split_at}
use Rattle.pass.proofs.Independent.{pass_of_t, split_at_t, order_two_t}
use Rattle.schur.specs.declared.run.State.{State}
use Rattle.schur.specs.Run.{Running, running, state, closed, delimiting, after, turn_two, turn_more, turn_of, run_from, scaled_down, reduced_pair, opened, Left}
use Rattle.schur.specs.declared.run.Stopped.TheVariants.{Unfit}
use Rattle.schur.specs.Run.{left, answered, run_fits, ran_of, run_of}
use Rattle.schur.proofs.Lengths.{scaled_down-length}
use Rattle.schur.proofs.RunAnswers.{RunFits, run_fitting}

-- In all that follows one setting is asked for, but that Q is wanted as b says, or as d does.

-- ---- the run: two runs stand alike if window, count and T are the same

pub record Alike (x y : Running) : Type 0 where
  pub state : x.state ≡ y.state
  pub t : x.pair.t ≡ y.pair.t

alike_cond : {x x' y y' : Running} (b : Bool) → Alike x y → Alike x' y' → Alike (cond b x x') (cond b y y')
alike_cond true h k = h
alike_cond false h k = k

delimiting_alike : (b d : Bool) (asked : Setting) (e : ℕ) (stands : Window → State) (p r : Pair) → p.t ≡ r.t
    → Alike (delimiting (wanting b asked) e stands p) (delimiting (wanting d asked) e stands r)
unfolding delimiting
delimiting_alike b d asked e stands p r h =
    let to : List Float → Running = λ t. delimiting asked e stands (pair t r.q) in
    record { state = ap (λ t. (to t).state) h; t = ap (λ t. (to t).pair.t) h }

after_alike : (b d : Bool) (asked : Setting) (e : ℕ) (s : State) (p r : Pair) → p.t ≡ r.t
    → Alike (after (wanting b asked) e s p) (after (wanting d asked) e s r)
unfolding after
after_alike b d asked e s p r h = delimiting_alike b d asked e (λ w. state w (s.passes + 1)) p r h

turn_two_alike : (b d : Bool) (asked : Setting) (s : State) (p r : Pair) → p.t ≡ r.t → Alike (turn_two (wanting b asked) s p) (turn_two (wanting d asked) s r)
unfolding turn_two
turn_two_alike b d asked s p r h =
    let k = s.window.start in
    let split = split_at_t b d asked k p r h in
    alike_cond (leb s.window.end 2) (record { state = refl; t = split })
    (after_alike b d asked (s.window.end - 2) s (split_at (wanting b asked) k p) (split_at (wanting d asked) k r) split)

turn_more_alike : (b d : Bool) (asked : Setting) (s : State) (p r : Pair) → p.t ≡ r.t → Alike (turn_more (wanting b asked) s p) (turn_more (wanting d asked) s r)
unfolding turn_more
turn_more_alike b d asked s p r h =
    after_alike b d asked s.window.end s (pass_of (wanting b asked) s.window p) (pass_of (wanting d asked) s.window r)
    (pass_of_t b d asked s.window p r h)

turn_from_alike : (b d : Bool) (asked : Setting) (s : State) (p r : Pair) → p.t ≡ r.t
    → Alike (turn_of (wanting b asked) (running s p)) (turn_of (wanting d asked) (running s r))
unfolding turn_of
turn_from_alike b d asked s p r h = alike_cond (leb s.window.end (s.window.start + 1)) (turn_two_alike b d asked s p r h) (turn_more_alike b d asked s p r h)

turn_of_alike : (b d : Bool) (asked : Setting) (x y : Running) → Alike x y → Alike (turn_of (wanting b asked) x) (turn_of (wanting d asked) y)
turn_of_alike b d asked x y a =
    let turned = turn_from_alike b d asked x.state x.pair y.pair a.t in
    let there = ap (λ s. turn_of (wanting d asked) (running s y.pair)) a.state in
    record { state = turned.state ∙ ap (λ r. r.state) there; t = turned.t ∙ ap (λ r. r.pair.t) there }

pub run_from_alike : (b d : Bool) (asked : Setting) (budget : ℕ) (x y : Running) → Alike x y
    → Alike (run_from (wanting b asked) budget x) (run_from (wanting d asked) budget y)
unfolding run_from closed
run_from_alike b d asked budget x y a =
    until_both Alike closed (turn_of (wanting b asked)) closed (turn_of (wanting d asked)) _ x y
    (λ u v k. ap (λ s. eqb s.window.start s.window.end) k.state)
    (turn_of_alike b d asked)
    a

-- one matrix, and two workspaces with room for its reduction
module _ (asked : Setting) (t w w' : List Float) (fits : RunFits asked.order (length t) (length w))
    (fits' : RunFits asked.order (length t) (length w')) where
  abbrev n : ℕ
  n = asked.order

  abbrev down : List Float
  down = scaled_down t

  pub reduction_alike : reduction.Alike n (n - 1) (reduced n down w) (reduced n down w')
  reduction_alike = reduced_lent n down w w' fits.room fits'.room fits.order (scaled_down-length t ∙ fits.size)

  pub h_alike : unpacked_h n (reduced n down w).work (reduced n down w).matrix ≡ unpacked_h n (reduced n down w').work (reduced n down w').matrix
  h_alike =
      let a = reduction_alike in
      ap (unpacked_h n (reduced n down w).work) a.matrix
      ∙ h_lent n (reduced n down w').matrix (reduced n down w).work (reduced n down w').work a.room a.room' a.norms

  pub opened_alike : (b d : Bool) (q q' : List Float) → Alike (opened (wanting b asked) (pair t q) w) (opened (wanting d asked) (pair t q') w')
  unfolding opened reduced_pair
  opened_alike b d q q' = delimiting_alike b d asked (n - 1) (λ v. state v 0) _ _ h_alike

-- ---- what is answered and left

pub record Same (x y : Left) : Type 0 where
  pub answer : x.answer ≡ y.answer
  pub t : x.pair.t ≡ y.pair.t

same_cond : {x x' y y' : Left} (b : Bool) → Same x y → Same x' y' → Same (cond b x x') (cond b y y')
same_cond true h k = h
same_cond false h k = k

-- the same state in hand, and then the other's
answered_from : (budget : ℕ) (amax : Float) (s : State) (p r : Pair) → p.t ≡ r.t
    → Same (answered budget amax (running s p)) (answered budget amax (running s r))
unfolding answered
answered_from budget amax s p r h = same_cond (eqb s.passes budget) (record { answer = refl; t = h }) (record { answer = refl; t = ap (scaled amax) h })

answered_same : (budget : ℕ) (amax : Float) (x y : Running) → Alike x y → Same (answered budget amax x) (answered budget amax y)
answered_same budget amax x y a =
    let here = answered_from budget amax x.state x.pair y.pair a.t in
    let there = ap (λ s. answered budget amax (running s y.pair)) a.state in
    record { answer = here.answer ∙ ap (λ r. r.answer) there; t = here.t ∙ ap (λ r. r.pair.t) there }

-- Two runs on one matrix, with one tolerance and budget: whether Q is wanted or not, and whatever is lent for it and for the workspace, they answer the same
-- (the count, or the window at which the budget was reached) and leave the same T.
pub ran_same : (b d : Bool) (asked : Setting) (budget : ℕ) (t q q' w w' : List Float) → RunFits asked.order (length t) (length w)
    → RunFits asked.order (length t) (length w') → Same (ran_of (wanting b asked) budget (pair t q) w) (ran_of (wanting d asked) budget (pair t q') w')
unfolding ran_of
ran_same b d asked budget t q q' w w' fits fits' =
    same_cond (eqb asked.order 1) (record { answer = refl; t = refl })
    (same_cond (eqb asked.order 2) (record { answer = refl; t = order_two_t b d asked (pair t q) (pair t q') refl })
    (answered_same budget (largest t) _ _ (run_from_alike b d asked budget _ _ (opened_alike asked t w w' fits fits' b d q q'))))

-- the same of the function itself, which tests what it is lent
pub q_not_felt : (b d : Bool) (asked : Setting) (budget : ℕ) (t q q' w : List Float)
    → Same (run_of (wanting b asked) budget (pair t q) w) (run_of (wanting d asked) budget (pair t q') w)
unfolding run_of
q_not_felt b d asked budget t q q' w = go (run_fits asked.order (length t) (length w)) refl
  where
    go : (x : Bool) → run_fits asked.order (length t) (length w) ≡ x
        → Same (cond x (ran_of (wanting b asked) budget (pair t q) w) (left (Err Unfit) (pair t q)))
        (cond x (ran_of (wanting d asked) budget (pair t q') w) (left (Err Unfit) (pair t q')))
    go true h = let fits = run_fitting _ _ _ h in ran_same b d asked budget t q q' w w fits fits
    go false h = record { answer = refl; t = refl }
