-- T takes no notice of Q: from one T, whatever stands in Q and whether it is wanted, each step makes one T. Assumes nothing.
use Prim.Native.Nat.{ℕ, ◌+◌, ◌-◌}
use mathlib.Core.Bool.{Bool, true, false, cond, ◌&&◌}
use mathlib.Core.Path.{◌≡◌, ap, ◌∙◌}
use mathlib.Core.List.{List}
use lib.Dec.{eqb, leb}
use lib.ListN.{length}
use lib.Ieee.{Float}
use Rattle.loops.specs.Times.{range, range_both}
use Rattle.matrix.specs.Fits.{block_fits}
use Rattle.matrix.specs.Sum.{bare}
use Rattle.householder.specs.Axis.{axis_of}
use Rattle.window.specs.declared.Window.{Window}
use Rattle.pass.specs.declared.setting.Setting.{Setting}
use Rattle.pass.specs.Setting.{wanting}
use Rattle.pass.specs.Pair.{Pair, pair, on_q}
use Rattle.pass.specs.Pass.{first_column, bulge, column_at, swept_past, reflected_at, rows_at, step_at, chased, closing, pass_here, pass_of}
use Rattle.pass.specs.Block.{block_at, basis_of, turned_t, turned_q, split_at, columns_in, order_two}

-- In all that follows one setting is asked for, but that Q is wanted as b says, or as d does.

-- both answers of a test have one T in either pair
either : (x p y r : Pair) (b : Bool) → x.t ≡ y.t → p.t ≡ r.t → (cond b x p).t ≡ (cond b y r).t
either x p y r true h k = h
either x p y r false h k = k

reflected_at_t : (b d : Bool) (asked : Setting) (k rows : ℕ) (a : List Float) (p r : Pair) → p.t ≡ r.t
    → (reflected_at (wanting b asked) k rows a p).t ≡ (reflected_at (wanting d asked) k rows a r).t
unfolding reflected_at
reflected_at_t b d asked k rows a p r h = ap (λ t. (reflected_at asked k rows a (pair t r.q)).t) h

step_at_t : (b d : Bool) (asked : Setting) (w : Window) (k : ℕ) (c : List Float) (p r : Pair) → p.t ≡ r.t
    → (step_at (wanting b asked) w k c p).t ≡ (step_at (wanting d asked) w k c r).t
unfolding step_at
step_at_t b d asked w k c p r h =
    let x = axis_of bare c in
    let there : Pair → Pair = λ p. pair (swept_past asked.order w.start k (length c) x.norm p.t) p.q in
    let rows = rows_at k w.end in
    either (reflected_at (wanting b asked) k rows x.axis (there p)) p (reflected_at (wanting d asked) k rows x.axis (there r)) r x.reflected
    (reflected_at_t b d asked k rows x.axis (there p) (there r) (ap (swept_past asked.order w.start k (length c) x.norm) h)) h

chased_t : (b d : Bool) (asked : Setting) (w : Window) (first : List Float) (k : ℕ) (p r : Pair) → p.t ≡ r.t
    → (chased (wanting b asked) w first k p).t ≡ (chased (wanting d asked) w first k r).t
unfolding chased
chased_t b d asked w first k p r h =
    let column : List Float → List Float = column_at asked.order w.start k first in
    step_at_t b d asked w k (column p.t) p r h ∙ ap (λ t. (step_at (wanting d asked) w k (column t) r).t) h

closing_t : (b d : Bool) (asked : Setting) (w : Window) (p r : Pair) → p.t ≡ r.t → (closing (wanting b asked) w p).t ≡ (closing (wanting d asked) w r).t
unfolding closing
closing_t b d asked w p r h =
    let k = w.end - 1 in
    step_at_t b d asked w k (bulge asked.order k 2 p.t) p r h
    ∙ ap (λ t. (step_at (wanting d asked) w k (bulge asked.order k 2 t) r).t) h

pass_here_t : (b d : Bool) (asked : Setting) (w : Window) (p r : Pair) → p.t ≡ r.t → (pass_here (wanting b asked) w p).t ≡ (pass_here (wanting d asked) w r).t
unfolding pass_here
pass_here_t b d asked w p r h =
    let s = w.start in
    let e = w.end in
    let first : List Float → List Float = first_column asked.order s e in
    let steps : Bool → List Float → ℕ → Pair → Pair = λ wanted t. chased (wanting wanted asked) w (first t) in
    let swept = range_both (λ x y. x.t ≡ y.t) (steps b p.t) (steps d p.t) s (e - 1) p r (λ k x y. chased_t b d asked w (first p.t) k x y) h in
    closing_t b d asked w (range (steps b p.t) s (e - 1) p) (range (steps d p.t) s (e - 1) r) swept
    ∙ ap (λ t. (closing (wanting d asked) w (range (steps d t) s (e - 1) r)).t) h

pub pass_of_t : (b d : Bool) (asked : Setting) (w : Window) (p r : Pair) → p.t ≡ r.t → (pass_of (wanting b asked) w p).t ≡ (pass_of (wanting d asked) w r).t
unfolding pass_of
pass_of_t b d asked w p r h =
    let fits : List Float → Bool = λ t. block_fits asked.order (length t) (w.end + 1) (w.end + 1) && leb (w.start + 2) w.end in
    let there = pass_here (wanting d asked) w r in
    either (pass_here (wanting b asked) w p) p there r (fits p.t) (pass_here_t b d asked w p r h) h ∙ ap (λ t. (cond (fits t) there r).t) h

pub split_at_t : (b d : Bool) (asked : Setting) (k : ℕ) (p r : Pair) → p.t ≡ r.t → (split_at (wanting b asked) k p).t ≡ (split_at (wanting d asked) k r).t
unfolding split_at
split_at_t b d asked k p r h =
    let n = asked.order in
    let turned : Bool → Pair → Pair = λ wanted p.
    (let x = basis_of (block_at n k p.t) in pair (turned_t n k x p.t) (on_q wanted (turned_q n k x) p.q)) in
    either (turned b p) p (turned d r) r (block_fits n (length p.t) (k + 2) (k + 2)) (ap (λ t. turned_t n k (basis_of (block_at n k t)) t) h) h
    ∙ ap (λ t. (cond (block_fits n (length t) (k + 2) (k + 2)) (turned d r) r).t) h

pub order_two_t : (b d : Bool) (asked : Setting) (p r : Pair) → p.t ≡ r.t → (order_two (wanting b asked) p).t ≡ (order_two (wanting d asked) r).t
unfolding order_two
order_two_t b d asked p r h =
    let made : Bool → Pair → Pair = λ wanted p.
    (let x = basis_of (block_at 2 0 p.t) in pair (turned_t 2 0 x p.t) (on_q wanted (columns_in x) p.q)) in
    either (made b p) p (made d r) r (eqb (length p.t) 4) (ap (λ t. turned_t 2 0 (basis_of (block_at 2 0 t)) t) h) h
    ∙ ap (λ t. (cond (eqb (length t) 4) (made d r) r).t) h
