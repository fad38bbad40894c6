-- The run keeps the lengths of T and Q. Assumes nothing.
use Rattle.std.specs.Prelude.{Err, Ok}
use Prim.Native.Nat.{ℕ, ◌+◌, ◌-◌}
use mathlib.Core.Path.{◌≡◌, refl, ◌∙◌}
use mathlib.Core.List.{List}
use lib.Dec.{eqb, leb}
use lib.ListN.{length}
use lib.Ieee.{Float}
use Rattle.loops.specs.Constants.{one}
use Rattle.loops.specs.Tests.{cond_hold}
use Rattle.loops.proofs.Until.{until_hold}
use Rattle.scalar.specs.Class.{is_zero}
use Rattle.matrix.specs.Vectors.{largest, scaled, unscaled, filled}
use Rattle.matrix.proofs.Each.{each_to-length, filled-length}
use Rattle.hessenberg.specs.Reduced.{reduced}
use Rattle.hessenberg.specs.Unpacked.{unpacked_q}
use Rattle.hessenberg.proofs.Frames.{reduced-length, unpacked_h-length, unpacked_q-length}
use Rattle.window.specs.declared.Window.{Window}
use Rattle.window.specs.Window.{window}
use Rattle.window.proofs.Lengths.{delimit_of-length}
use Rattle.pass.specs.Pair.{Pair, pair, on_q}
use Rattle.pass.specs.Pass.{pass_of}
use Rattle.pass.specs.Block.{split_at, order_two}
use Rattle.pass.proofs.Lengths.{AsLong, same_long, then_long, on_q-length, pass_of_length, split_length, order_two_length}
use Rattle.pass.specs.declared.setting.Setting.{Setting}
use Rattle.schur.specs.declared.run.State.{State}
use Rattle.schur.specs.declared.run.Stopped.TheVariants.{BudgetReached}
use Rattle.schur.specs.Run.{Running, running, state, closed, delimiting, after, turn_two, turn_more, turn_of, run_from, scaled_down, reduced_pair, opened, Left}
use Rattle.schur.specs.Run.{left, answered, ran_of}

-- ---- one turn

delimiting_length : (asked : Setting) (e : ℕ) (stands : Window → State) (p : Pair) → AsLong p (delimiting asked e stands p).pair
unfolding delimiting
delimiting_length asked e stands p = record { t = delimit_of-length asked.order asked.tolerance e p.t; q = refl }

after_length : (asked : Setting) (e : ℕ) (s : State) (p : Pair) → AsLong p (after asked e s p).pair
unfolding after
after_length asked e s p = delimiting_length asked e _ p

turn_two_length : (asked : Setting) (s : State) (p : Pair) → AsLong p (turn_two asked s p).pair
unfolding turn_two
turn_two_length asked s p =
    let parted = split_at asked s.window.start p in
    let long = split_length asked s.window.start p in
    cond_hold (λ (r : Running). AsLong p r.pair) (leb s.window.end 2) (running (state (window 0 0) s.passes) parted)
    (after asked (s.window.end - 2) s parted) (λ _. long) (then_long long (after_length asked _ s parted))

turn_more_length : (asked : Setting) (s : State) (p : Pair) → AsLong p (turn_more asked s p).pair
unfolding turn_more
turn_more_length asked s p = then_long (pass_of_length asked s.window p) (after_length asked s.window.end s (pass_of asked s.window p))

turn_of_length : (asked : Setting) (r : Running) → AsLong r.pair (turn_of asked r).pair
unfolding turn_of
turn_of_length asked r =
    cond_hold (λ (x : Running). AsLong r.pair x.pair) (leb r.state.window.end (r.state.window.start + 1)) (turn_two asked r.state r.pair)
    (turn_more asked r.state r.pair) (λ _. turn_two_length asked r.state r.pair) (turn_more_length asked r.state r.pair)

run_from_length : (asked : Setting) (budget : ℕ) (r : Running) → AsLong r.pair (run_from asked budget r).pair
unfolding run_from
run_from_length asked budget r =
    until_hold (λ x. AsLong r.pair x.pair) closed (turn_of asked) _ r (λ x h. then_long h (turn_of_length asked x)) (same_long r.pair)

-- ---- before the first turn, and after the last

pub scaled_down-length : (t : List Float) → length (scaled_down t) ≡ length t
unfolding scaled_down unscaled
scaled_down-length t = cond_hold (λ s. length s ≡ length t) (is_zero (largest t)) t (unscaled (largest t) t) (λ _. refl) (each_to-length _ _ t)

reduced_pair_length : (asked : Setting) (p : Pair) (w : List Float) → AsLong p (reduced_pair asked p w)
unfolding reduced_pair
reduced_pair_length asked p w =
    let n = asked.order in
    let r = reduced n p.t w in
    record {
      t = unpacked_h-length n r.work r.matrix ∙ reduced-length n p.t w;
      q = on_q-length asked.wanted (unpacked_q n r.matrix r.work) p.q (unpacked_q-length n r.matrix r.work p.q);
    }

opened_length : (asked : Setting) (p : Pair) (w : List Float) → AsLong p (opened asked p w).pair
unfolding opened
opened_length asked p w =
    let down = pair (scaled_down p.t) p.q in
    then_long (record { t = scaled_down-length p.t; q = refl })
    (then_long (reduced_pair_length asked down w) (delimiting_length asked (asked.order - 1) (λ v. state v 0) (reduced_pair asked down w)))

answered_length : (budget : ℕ) (amax : Float) (r : Running) → AsLong r.pair (answered budget amax r).pair
unfolding answered scaled
answered_length budget amax r =
    cond_hold (λ (l : Left). AsLong r.pair l.pair) (eqb r.state.passes budget) (left (Err (BudgetReached r.state.window)) r.pair)
    (left (Ok r.state.passes) (pair (scaled amax r.pair.t) r.pair.q)) (λ _. same_long r.pair)
    (record { t = each_to-length _ _ r.pair.t; q = refl })

-- ---- every run

pub ran_length : (asked : Setting) (budget : ℕ) (p : Pair) (w : List Float) → AsLong p (ran_of asked budget p w).pair
unfolding ran_of
ran_length asked budget p w =
    let r = opened asked p w in
    let whole = answered budget (largest p.t) (run_from asked budget r) in
    cond_hold (λ (l : Left). AsLong p l.pair) (eqb asked.order 1) (left (Ok 0) (pair p.t (on_q asked.wanted (filled one) p.q))) _
    (λ _. record { t = refl; q = on_q-length asked.wanted (filled one) p.q (filled-length one p.q) })
    (cond_hold (λ (l : Left). AsLong p l.pair) (eqb asked.order 2) (left (Ok 0) (order_two asked p)) whole (λ _. order_two_length asked p)
    (then_long (then_long (opened_length asked p w) (run_from_length asked budget r)) (answered_length budget _ (run_from asked budget r))))
