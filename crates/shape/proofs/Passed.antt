-- A pass in which no axis vanished: the bulge is made at the window's start, moves on step by step and is swept at its end, and no row below the window is
-- touched. So T is zero two or more places below its diagonal again, and has the shape from the window's end on, as before. Assumes nothing.
use Prim.Native.Nat.{ℕ, ◌+◌, ◌-◌, ◌<◌, ◌≤◌}
use mathlib.Core.Bool.{true, false}
use mathlib.Core.Path.{◌≡◌, refl, ap, ◌∙◌, subst}
use mathlib.Core.List.{List}
use native.Mathlib.Omega.{arith}
use borrow.Author.Tests.{le-leb, lt-leb, eq-eqb, ne_eqb}
use lib.Dec.{leb}
use lib.ListN.{length}
use lib.Ieee.{Float, nan}
use Rattle.loops.proofs.First.{some_none}
use Rattle.loops.specs.Place.{place}
use Rattle.loops.specs.Rounded.{◌!◌}
use Rattle.loops.specs.Table.{table-length, table_at}
use Rattle.loops.specs.Tests.{cond_hold}
use Rattle.loops.specs.Times.{range_walk}
use Rattle.scalar.specs.Class.{is_zero}
use Rattle.matrix.proofs.Fitting.{fitting}
use Rattle.window.specs.declared.Window.{Window}
use Rattle.pass.specs.declared.setting.Setting.{Setting}
use Rattle.pass.specs.Pair.{Pair}
use Rattle.pass.specs.Pass.{first_column, bulge, column_at, chased, closing, pass_here, pass_of}
use Rattle.schur.specs.declared.run.State.{State}
use Rattle.schur.specs.Run.{delimiting, after, turn_more}
use Rattle.shape.specs.Vanished.{too_small, pass_to, axis_column, pass_vanished}
use Rattle.shape.proofs.Zeros.{either_keeps}
use Rattle.shape.proofs.Delimited.{ShapedFrom, Open, delimit_sound}
use Rattle.shape.proofs.Split.{SoundAt}
use Rattle.shape.proofs.Bulge.{Chased, step_chased}

-- ---- a step

bulge-at : (n k rows : ℕ) (t : List Float) (m : ℕ) → m < rows → bulge n k rows t ! m ≡ t ! place n (k + m) (k - 1)
unfolding bulge
bulge-at n k rows t m h = table_at rows _ m nan h

bulge-length : (n k rows : ℕ) (t : List Float) → length (bulge n k rows t) ≡ rows
unfolding bulge
bulge-length n k rows t = table-length rows _

-- the column has three numbers; past the first step it is the bulge's
column_at-length : (n s k : ℕ) (first t : List Float) → length first ≡ 3 → length (column_at n s k first t) ≡ 3
unfolding column_at
column_at-length n s k first t h = cond_hold (λ c. length c ≡ 3) (leb k s) first (bulge n k 3 t) (λ _. h) (bulge-length n k 3 t)

column_holds : (n s k : ℕ) (first t : List Float) → s < k → (m : ℕ) → m < 3 → column_at n s k first t ! m ≡ t ! place n (k + m) (k - 1)
unfolding column_at
column_holds n s k first t l m h = rw (lt-leb k s l) (bulge-at n k 3 t m h)

-- ---- the pass

module _ (asked : Setting) (w : Window) (p : Pair) (o : Open asked.order w p.t) (three_rows : w.start + 2 ≤ w.end)
    (none : pass_vanished asked w p ≡ false) where
  abbrev n : ℕ
  n = asked.order

  abbrev s : ℕ
  s = w.start

  abbrev e : ℕ
  e = w.end

  abbrev first : List Float
  first = first_column n s e p.t

  first-length : length first ≡ 3
  unfolding first_column
  first-length = refl

  -- the axis of the step at k did not vanish
  no_axis : (k : ℕ) → s ≤ k → k < e → too_small (axis_column asked w p k) ≡ false
  unfolding pass_vanished
  no_axis k a b = some_none (λ k. too_small (axis_column asked w p k)) s e k none a b

  before : ℕ → Pair
  before = pass_to asked w p

  -- the step at k by three numbers
  chased_on : (k : ℕ) → s ≤ k → k < e - 1 → Chased n s e k p.t (before k).t → Chased n s e (k + 1) p.t (chased asked w first k (before k)).t
  unfolding chased before axis_column
  chased_on k a b z =
      let column = column_at n s k first (before k).t in
      let far : axis_column asked w p k ≡ column = rw (ne_eqb k (e - 1) (λ q. omega arith)) in
      let long : length column ≡ 3 = column_at-length n s k first (before k).t first-length in
      step_chased asked w k column p.t (before k) (omega arith) (λ l m h. column_holds n s k first (before k).t l m (omega arith))
      (rw far at (no_axis k a (omega arith))) z

  -- the last step, by two
  closed_off : Chased n s e (e - 1) p.t (before (e - 1)).t → Chased n s e (e - 1 + 1) p.t (closing asked w (before (e - 1))).t
  unfolding closing before axis_column
  closed_off z =
      let k = e - 1 in
      let column = bulge n k 2 (before k).t in
      let last : axis_column asked w p k ≡ column = rw (eq-eqb k k refl) in
      let long : length column ≡ 2 = bulge-length n k 2 (before k).t in
      step_chased asked w k column p.t (before k) (omega arith) (λ _ m h. bulge-at n k 2 (before k).t m (omega arith))
      (rw last at (no_axis k (omega arith) (omega arith))) z

  here_chased : Chased n s e e p.t (pass_here asked w p).t
  unfolding pass_here before pass_to
  here_chased =
      let z = o.shaped in
      let q : e - 1 + 1 ≡ e = omega arith in
      let begun : Chased n s e s p.t p.t = record { size = z.size; bulge = λ i j h l _. z.far i j h l; below = λ i j _ _. refl } in
      let walked = range_walk (λ k r. Chased n s e k p.t r.t) (chased asked w first) s (e - 1) p (omega arith) chased_on begun in
      subst (λ k. Chased n s e k p.t (pass_here asked w p).t) q (closed_off walked)

  pass_is_here : n ≤ 64 → pass_of asked w p ≡ pass_here asked w p
  unfolding pass_of
  pass_is_here small =
      rw (fitting n (length p.t) (e + 1) (e + 1) small o.shaped.size (omega arith) (omega arith), le-leb (s + 2) e three_rows)

  pub pass_shaped : n ≤ 64 → ShapedFrom n e (pass_of asked w p).t
  pass_shaped small =
      let z = o.shaped in
      let c = here_chased in
      let still : (i j : ℕ) → i < n → e < i → is_zero (p.t ! place n i j) ≡ true → is_zero ((pass_here asked w p).t ! place n i j) ≡ true =
      λ i j h l k. ap is_zero (c.below i j h l) ∙ k in
      rw (pass_is_here small) (record {
        size = c.size;
        far = λ i j h l. c.bulge i j h l (λ _ a _ b. omega arith);
        end = λ l. still (e + 1) e l (omega arith) (z.end l);
        near = λ k h l. either_keeps _ _ _ _ (still (k + 1) k (omega arith) (omega arith)) (still (k + 2) (k + 1) l (omega arith)) (z.near k h l);
      })

-- ---- the turn

pub more_sound : (asked : Setting) (s : State) (p : Pair) → asked.order ≤ 64 → Open asked.order s.window p.t
    → s.window.start + 2 ≤ s.window.end → pass_vanished asked s.window p ≡ false → SoundAt asked.order (turn_more asked s p)
unfolding turn_more after delimiting
more_sound asked s p small o l none =
    let w = s.window in
    delimit_sound asked.order asked.tolerance w.end (pass_of asked w p).t small o.room (pass_shaped asked w p o l none small)
