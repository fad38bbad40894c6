-- What the test at the head of a kernel tells, and when it holds.
use mathlib.Core.Path.{◌≡◌, refl, sym, ◌∙◌}
use mathlib.Core.Bool.{Bool, true, false, not, ◌&&◌, false≢true}
use Prim.Native.Nat.{ℕ, ◌+◌, ◌*◌, ◌<◌, ◌≤◌}
use native.Mathlib.Nat.{zero-add}
use native.Mathlib.Omega.{arith}
use borrow.Author.Tests.{leb-true, eqb-true, le-leb, eq-eqb, not-true, not-false}
use Rattle.loops.specs.Place.{square_64, in_square}
use Rattle.matrix.specs.Fits.{block_fits}

-- what `omega` reads of it
pub record Fits (n len r1 c1 : ℕ) : Type 0 where
  pub order : n ≤ 64
  pub size : len ≡ n * n
  pub small : n * n ≤ 4096
  pub in_rows : r1 ≤ n
  pub in_cols : c1 ≤ n

-- two tests that hold together
pub both : (a b : Bool) → a && b ≡ true → (a ≡ true) × (b ≡ true)
both true b h = (refl, h)
both false b h = absurd (false≢true h)

pub fits : (n len r1 c1 : ℕ) → block_fits n len r1 c1 ≡ true → Fits n len r1 c1
unfolding block_fits
fits n len r1 c1 h =
    let a = both _ _ h in
    let b = both _ _ a.1 in
    let d = both _ _ b.1 in
    let o = leb-true n 64 a.0 in
    record {
      order = o;
      size = eqb-true _ _ b.0;
      small = square_64 n o;
      in_rows = leb-true _ _ d.0;
      in_cols = leb-true _ _ d.1;
    }

-- and the other way
pub fitting : (n len r1 c1 : ℕ) → n ≤ 64 → len ≡ n * n → r1 ≤ n → c1 ≤ n → block_fits n len r1 c1 ≡ true
unfolding block_fits
fitting n len r1 c1 h k l m = rw (le-leb _ _ h, eq-eqb _ _ k, le-leb _ _ l, le-leb _ _ m)

-- at a call: after `if !block_fits(..) { return; }`, by what the call ensures and the test that failed or held
pub within : {r : Bool} (n len r1 c1 : ℕ) → r ≡ block_fits n len r1 c1 → not r ≡ false → Fits n len r1 c1
within {r} n len r1 c1 e h = fits n len r1 c1 (sym e ∙ not-false r h)

pub inside : {r b : Bool} → r ≡ b → not r ≡ false → b ≡ true
inside {r} e h = sym e ∙ not-false r h

pub outside : {r b : Bool} → r ≡ b → not r ≡ true → b ≡ false
outside {r} e h = sym e ∙ not-true r h

-- the same for a block of one place
pub record Spot (n len i j : ℕ) : Type 0 where
  pub size : len ≡ n * n
  pub below : j * n + i < n * n
  pub small : n * n ≤ 4096

pub spot : {r : Bool} (n len i j : ℕ) → r ≡ block_fits n len (i + 1) (j + 1) → not r ≡ false → Spot n len i j
spot n len i j e h =
    let f = within n len (i + 1) (j + 1) e h in
    record { size = f.size; below = in_square n i j (omega arith) (omega arith); small = f.small }

-- a call that asks for the columns, or the rows, from 0 on
pub from_column_0 : {r : Bool} (n len r1 c1 : ℕ) → r ≡ block_fits n len r1 (0 + c1) → r ≡ block_fits n len r1 c1
from_column_0 n len r1 c1 e = rw zero-add at e

pub from_row_0 : {r : Bool} (n len r1 c1 : ℕ) → r ≡ block_fits n len (0 + r1) c1 → r ≡ block_fits n len r1 c1
from_row_0 n len r1 c1 e = rw zero-add at e

-- what the checks of `entry` and `put` take
pub ruleset by_test = (spot, inside, outside)
