-- Of a run: in some step of one of its passes the axis was not zero throughout, and yet all its squares vanished
-- (document 00, demand 3). That is the third of the axis's ways, `way_too_small`: such a step does nothing, and may
-- leave a bulge unswept. Refusal 9 comes from no other run. The reduction has axes too. What they leave from the second
-- subdiagonal down is overwritten with +0, so nothing is asked of them here.
use Rattle.std.specs.Prelude.{ℕ, ◌+◌, ◌-◌, Bool, true, false, cond, not, ◌&&◌, List, eqb, leb, Float}
use Rattle.loops.specs.First.{some}
use Rattle.loops.specs.Times.{range}
use Rattle.matrix.specs.Sum.{bare}
use Rattle.householder.specs.Axis.{Way, way_reflected, way_all_zero, way_too_small, way_of}
use Rattle.window.specs.declared.Window.{Window}
use Rattle.pass.specs.declared.setting.Setting.{Setting}
use Rattle.pass.specs.Pair.{Pair}
use Rattle.pass.specs.Pass.{first_column, bulge, column_at, chased}
use Rattle.schur.specs.Run.{Running, run_from, opened_of}

-- ---- a column

unfoldable pub is_too_small : Way → Bool
is_too_small way_reflected = false
is_too_small way_all_zero = false
is_too_small way_too_small = true

-- some number of it is not zero, and all squares vanish
unfoldable pub too_small : List Float → Bool
too_small c = is_too_small (way_of bare c)

-- ---- a pass over the window w, of three rows or more

-- T and Q before its step at k
unfoldable pub pass_to : Setting → Window → Pair → (k : ℕ) → Pair
pass_to asked w p k =
    let first = first_column asked.order w.start w.end p.t in
    range (chased asked w first) w.start k p

-- the column whose axis that step uses: three numbers, and two at the last step
unfoldable pub axis_column : Setting → Window → Pair → (k : ℕ) → List Float
axis_column asked w p k =
    let n = asked.order in
    let first = first_column n w.start w.end p.t in
    let t = (pass_to asked w p k).t in
    cond (eqb k (w.end - 1)) (bulge n k 2 t) (column_at n w.start k first t)

-- in some step, from the window's start to the row above its end
unfoldable pub pass_vanished : Setting → Window → Pair → Bool
pass_vanished asked w p = some (λ k. too_small (axis_column asked w p k)) w.start w.end

-- ---- a run

-- in the turn from a state: a window of two or less has no pass
unfoldable pub turn_vanished : Setting → Running → Bool
turn_vanished asked r =
    let w = r.state.window in
    not (leb w.end (w.start + 1)) && pass_vanished asked w r.pair

-- in some turn from r on, at most `budget` of them
unfoldable pub run_vanished : Setting → (budget : ℕ) → Running → Bool
run_vanished asked budget r = some (λ m. turn_vanished asked (run_from asked m r)) 0 budget

-- orders 1 and 2 have no pass; what lent memory held is not felt, so this is of the matrix alone
unfoldable pub vanished : Setting → (budget : ℕ) → (t : List Float) → Bool
vanished asked budget t = leb 3 asked.order && run_vanished asked budget (opened_of asked t)
