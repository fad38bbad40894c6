-- Which entries spoil the shape, by where they stand. Assumes nothing.
use Prim.Native.Nat.{ℕ, ◌+◌, ◌-◌, ◌<◌, ◌≤◌}
use mathlib.Core.Bool.{Bool, true, false, not, ◌&&◌}
use mathlib.Core.Path.{◌≡◌, refl, sym, ap, ◌∙◌}
use mathlib.Core.List.{List}
use native.Mathlib.Omega.{arith}
use borrow.Author.Tests.{le-leb, lt-leb, eq-eqb, ne_eqb}
use lib.Dec.{leb}
use lib.Ieee.{Float}
use Rattle.loops.specs.First.{first_from}
use Rattle.loops.proofs.First.{first_here, first_on, first_none, first_past}
use Rattle.loops.specs.Place.{place}
use Rattle.loops.specs.Rounded.{◌!◌}
use Rattle.scalar.specs.Class.{is_zero}
use Rattle.refusal.specs.Search.{first_row, spoils}

neither : (b : Bool) → b && false ≡ false
neither true = refl
neither false = refl

always : (b : Bool) → b && true ≡ b
always true = refl
always false = refl

-- on the diagonal and above it none does
pub spoils_above : (n : ℕ) (t : List Float) (i j : ℕ) → i ≤ j → spoils n t i j ≡ false
unfolding spoils
spoils_above n t i j h = rw (lt-leb (j + 2) i (omega arith), ne_eqb i (j + 1) (λ e. omega arith), neither)

-- just below it: one that is not 0, behind another such
pub spoils_just : (n : ℕ) (t : List Float) (j : ℕ) → spoils n t (j + 1) j ≡ not (is_zero (t ! place n (j + 1) j))
    && (leb 1 j && not (is_zero (t ! place n j (j - 1))))
unfolding spoils
spoils_just n t j = rw (lt-leb (j + 2) (j + 1) (omega arith), eq-eqb (j + 1) (j + 1) refl)

-- further below: each that is not 0
pub spoils_far : (n : ℕ) (t : List Float) (i j : ℕ) → j + 2 ≤ i → spoils n t i j ≡ not (is_zero (t ! place n i j))
unfolding spoils
spoils_far n t i j h = rw (le-leb (j + 2) i h, always)

-- ---- just below, as the tests go: the entry is 0; it is the first column's; it stands behind another

pub just_zero : (n : ℕ) (t : List Float) (j : ℕ) → is_zero (t ! place n (j + 1) j) ≡ true → false ≡ spoils n t (j + 1) j
just_zero n t j h = rw (spoils_just, h)

pub just_first : (n : ℕ) (t : List Float) (j : ℕ) → j ≡ 0 → false ≡ spoils n t (j + 1) j
just_first n t j h = rw (spoils_just, lt-leb 1 j (omega arith), neither)

pub just_behind : (n : ℕ) (t : List Float) (j : ℕ) → is_zero (t ! place n (j + 1) j) ≡ false → 1 ≤ j
    → not (is_zero (t ! place n j (j - 1))) ≡ spoils n t (j + 1) j
just_behind n t j h k = rw (spoils_just, h, le-leb 1 j k)

-- ---- the first row of column j that does: none of a column of one row; the one just below; else one further below

pub row_last : (n : ℕ) (t : List Float) (j : ℕ) → j + 1 ≡ n → n ≡ first_row (spoils n t) n j
unfolding first_row
row_last n t j e =
    sym (first_past _ n 0 n (omega arith) (omega arith) (λ i _ l. spoils_above n t i j (omega arith)) ∙ first_none _ n n (omega arith))

-- what is left to search below the diagonal is the whole
below : (n : ℕ) (t : List Float) (j : ℕ) → j + 1 < n → first_from (λ i. spoils n t i j) n (j + 1) ≡ first_row (spoils n t) n j
unfolding first_row
below n t j l = sym (first_past _ n 0 (j + 1) (omega arith) (omega arith) (λ i _ l. spoils_above n t i j (omega arith)))

pub row_just : (n : ℕ) (t : List Float) (j : ℕ) → j + 1 < n → spoils n t (j + 1) j ≡ true → j + 1 ≡ first_row (spoils n t) n j
row_just n t j l h = sym (first_here (λ i. spoils n t i j) n (j + 1) h) ∙ below n t j l

pub row_far : (n : ℕ) (t : List Float) (j : ℕ) → j + 1 < n → spoils n t (j + 1) j ≡ false
    → first_from (λ i. spoils n t i j) n (j + 2) ≡ first_row (spoils n t) n j
row_far n t j l h =
    let e : j + 1 + 1 ≡ j + 2 = omega arith in
    ap (first_from (λ i. spoils n t i j) n) (sym e) ∙ sym (first_on (λ i. spoils n t i j) n (j + 1) l h) ∙ below n t j l
