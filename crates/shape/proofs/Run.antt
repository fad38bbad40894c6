-- A run in which no axis vanished: every turn keeps the shape from the window's end on, so where its window closes T has the shape, and a run that ends
-- short of its budget has closed its window. Assumes nothing.
use Rattle.std.specs.Prelude.{Ok}
use Prim.Native.Nat.{ℕ, ◌+◌, ◌-◌, ◌*◌, ◌<◌, ◌≤◌}
use mathlib.Core.Bool.{Bool, true, false}
use mathlib.Core.Path.{◌≡◌, refl, ap, ◌∙◌}
use mathlib.Core.List.{List}
use native.Mathlib.Decide.{dec_lt}
use native.Mathlib.Omega.{arith}
use borrow.Author.Tests.{leb-true, leb-false, le-leb, eqb-true, eqb-false, eq-eqb, ne_eqb}
use lib.Dec.{eqb, leb}
use lib.ListN.{length}
use lib.Ieee.{Float}
use Rattle.loops.proofs.First.{some_none}
use Rattle.loops.specs.Place.{place, in_square}
use Rattle.loops.specs.Tests.{cond_both}
use Rattle.loops.specs.Rounded.{◌⊗◌, ◌!◌}
use Rattle.loops.proofs.Until.{until_walk}
use Rattle.scalar.specs.Class.{is_zero, is_finite}
use Rattle.matrix.specs.Vectors.{largest, scaled, zeros}
use Rattle.matrix.proofs.Each.{each_to-at, zeros-length}
use Rattle.hessenberg.specs.Reduced.{reduced}
use Rattle.hessenberg.specs.Unpacked.{unpacked_h}
use Rattle.hessenberg.proofs.Frames.{reduced-length, reduced_work, unpacked_h-length, unpacked_h-zero}
use Rattle.pass.specs.declared.setting.Setting.{Setting}
use Rattle.pass.specs.Pair.{Pair, pair}
use Rattle.schur.specs.Run.{Running, closed, delimiting, turn_of, run_from, scaled_down, reduced_pair, opened, Left, answered, ran_of, fresh_ran, opened_of}
use Rattle.schur.proofs.Counting.{opened_none, run_counted}
use Rattle.schur.proofs.Lengths.{scaled_down-length}
use Rattle.refusal.specs.Shape.{QuasiTriangular}
use Rattle.shape.specs.Vanished.{turn_vanished, run_vanished, vanished}
use Rattle.shape.proofs.Zeros.{zero_is, either_keeps, times_keeps}
use Rattle.shape.proofs.Delimited.{ShapedFrom, delimit_sound}
use Rattle.shape.proofs.Split.{SoundAt, two_sound}
use Rattle.shape.proofs.Passed.{more_sound}

-- ---- one turn

turn_sound : (asked : Setting) (r : Running) → asked.order ≤ 64 → closed r ≡ false → turn_vanished asked r ≡ false → SoundAt asked.order r
    → SoundAt asked.order (turn_of asked r)
unfolding closed turn_of turn_vanished
turn_sound asked r small still none z =
    let w = r.state.window in
    let o = z.when_open (eqb-false w.start w.end still) in
    cond_both (SoundAt asked.order) (leb w.end (w.start + 1)) _ _
    (λ e. two_sound asked r.state r.pair small o (leb-true w.end (w.start + 1) e))
    (λ e. let more = leb-false w.end (w.start + 1) e in more_sound asked r.state r.pair small o (omega arith) (rw e at none))

-- ---- the first state

-- H is +0 two or more places below its diagonal, and has no row below the last
opened_shaped : (n : ℕ) (t w : List Float) → n ≤ 64 → 1 ≤ n → length t ≡ n * n → length w ≡ 2 * n
    → ShapedFrom n (n - 1) (unpacked_h n (reduced n t w).work (reduced n t w).matrix)
opened_shaped n t w small some size room =
    let kept : length (reduced n t w).matrix ≡ n * n = reduced-length n t w ∙ size in
    record {
      size = unpacked_h-length n _ _ ∙ kept;
      far = λ i j h l.
          ap is_zero (unpacked_h-zero n (reduced n t w).work (reduced n t w).matrix i j small kept (eq-eqb _ _ (reduced_work n t w ∙ room)) h l) ∙ zero_is;
      end = λ l. absurd (omega arith);
      near = λ k h l. absurd (omega arith);
    }

opened_sound : (asked : Setting) (p : Pair) (w : List Float) → asked.order ≤ 64 → 1 ≤ asked.order → length p.t ≡ asked.order * asked.order
    → length w ≡ 2 * asked.order → SoundAt asked.order (opened asked p w)
unfolding opened delimiting reduced_pair
opened_sound asked p w small some size room =
    let n = asked.order in
    delimit_sound n asked.tolerance (n - 1) _ small (omega arith) (opened_shaped n (scaled_down p.t) w small some (scaled_down-length p.t ∙ size) room)

-- ---- all turns

run_sound : (asked : Setting) (budget : ℕ) (r : Running) → asked.order ≤ 64 → run_vanished asked budget r ≡ false → SoundAt asked.order r
    → SoundAt asked.order (run_from asked budget r)
unfolding run_from run_vanished
run_sound asked budget r small none z =
    until_walk (λ _. SoundAt asked.order) closed (turn_of asked) budget r (λ m l d h. h)
    (λ m l d h. turn_sound asked _ small d (some_none (λ m. turn_vanished asked (run_from asked m r)) 0 budget m none (omega arith) l) h) z

-- ---- what is left of T

-- a multiple of T by a finite number has the shape too
scaled_shape : (n : ℕ) (a : Float) (t : List Float) → length t ≡ n * n → is_finite a ≡ true → QuasiTriangular n t → QuasiTriangular n (scaled a t)
unfolding scaled
scaled_shape n a t size finite z = record {
  far = λ i j h l. at i j h (omega arith) (z.far i j h l);
  near = λ k l. either_keeps _ _ _ _ (at (k + 1) k (omega arith) (omega arith)) (at (k + 2) (k + 1) l (omega arith)) (z.near k l);
}
  where
    at : (i j : ℕ) → i < n → j < n → is_zero (t ! place n i j) ≡ true → is_zero (scaled a t ! place n i j) ≡ true
    at i j h l e =
        let inside : place n i j < length t = omega (arith, size, in_square n i j h l) in
        ap is_zero (each_to-at (length t) (λ _ x. x ⊗ a) t (place n i j) inside (omega arith)) ∙ times_keeps (t ! place n i j) a finite e

-- orders 1 and 2 have no other
small_shape : (n : ℕ) (t : List Float) → n ≤ 2 → QuasiTriangular n t
small_shape n t l = record { far = λ i j h m. absurd (omega arith); near = λ k m. absurd (omega arith) }

-- a run that ends short of its budget has closed its window
answered_shape : {c : ℕ} (n budget : ℕ) (amax : Float) (r : Running) → is_finite amax ≡ true → SoundAt n r → (closed r ≡ false → r.state.passes ≡ budget)
    → (answered budget amax r).answer ≡ Ok c → QuasiTriangular n (answered budget amax r).pair.t
unfolding answered closed
answered_shape {c} n budget amax r finite z counted =
    let w = r.state.window in
    cond_both (λ (x : Left). x.answer ≡ Ok c → QuasiTriangular n x.pair.t) (eqb r.state.passes budget) _ _
    (λ _ e. let q : ◌≡◌ {A = ℕ} 0 1 = cc in absurd (omega arith))
    (λ short _. scaled_shape n amax r.pair.t z.size finite (go (closed r) refl short))
  where
    go : (b : Bool) → closed r ≡ b → eqb r.state.passes budget ≡ false → QuasiTriangular n r.pair.t
    go true h short = z.when_closed (eqb-true r.state.window.start r.state.window.end h)
    go false h short = absurd (eqb-false r.state.passes budget short (counted h))

-- A run on a matrix of finite entries that ended short of its budget, and in which no axis was nonzero with squares that vanished, has the shape.
pub ended_shape : {c : ℕ} (asked : Setting) (budget : ℕ) (t : List Float) → 1 ≤ asked.order → asked.order ≤ 64
    → length t ≡ asked.order * asked.order → is_finite (largest t) ≡ true
    → vanished asked budget t ≡ false → (fresh_ran asked budget t).answer ≡ Ok c → QuasiTriangular asked.order (fresh_ran asked budget t).pair.t
unfolding ran_of vanished opened_of
ended_shape {c} asked budget t some small size finite none = go (dec_lt asked.order 3)
  where
    memory : Pair
    memory = pair t (zeros (asked.order * asked.order))

    first : Running
    first = opened asked memory (zeros (2 * asked.order))

    go : Dec (asked.order < 3) → (fresh_ran asked budget t).answer ≡ Ok c → QuasiTriangular asked.order (fresh_ran asked budget t).pair.t
    go (yes l) = λ _. small_shape asked.order _ (omega arith)
    go (no l) =
        let n = asked.order in
        rw (ne_eqb n 1 (λ q. omega arith), ne_eqb n 2 (λ q. omega arith))
        (answered_shape n budget (largest t) (run_from asked budget first) finite
        (run_sound asked budget first small (rw (le-leb 3 n (omega arith)) at none)
        (opened_sound asked memory (zeros (2 * n)) small some size (zeros-length (2 * n))))
        (run_counted asked budget first (opened_none asked memory (zeros (2 * n)))))
