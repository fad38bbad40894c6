-- The window: the rows and columns, from `start` to `end`, that the next pass works on (document 01, step 5;
-- docs/SUMS.md, 7.6). T is a matrix of order n, eps the tolerance. An entry just below the diagonal is named by its row
-- i, 1 or more: it stands in column i - 1.
use Rattle.std.specs.Prelude.{◌≡◌, ◌<◌, ◌≤◌, ℕ, ◌+◌, ◌-◌, Bool, cond, not, ◌||◌, List, eqb, length, set, Float}
use Rattle.std.specs.Float.Ieee.{le}
use Rattle.loops.specs.Constants.{zero}
use Rattle.loops.specs.Place.{place}
use Rattle.loops.specs.Rounded.{◌⊕◌, ◌⊗◌, ◌!◌}
use Rattle.loops.specs.Until.{until}
use Rattle.scalar.specs.Class.{is_zero}
use Rattle.scalar.specs.Sign.{modulus_of}
use Rattle.matrix.specs.Fits.{block_fits}
use Rattle.window.specs.declared.Window.{Window}

abbrev pub window : (start end : ℕ) → Window
window s e = record { start = s; end = e }

-- the entry just below the diagonal in row i, and +0 put there
abbrev pub below : (n i : ℕ) → (t : List Float) → Float
below n i t = t ! place n i (i - 1)

abbrev pub decoupled : (n i : ℕ) → (t : List Float) → List Float
decoupled n i t = set t (place n i (i - 1)) zero

-- its magnitude is at most eps * eps, or at most eps times the sum of its two diagonal neighbours' magnitudes
unfoldable pub small : (n : ℕ) → (eps : Float) → (t : List Float) → (i : ℕ) → Bool
small n eps t i =
    let off = modulus_of (below n i t) in
    le off (eps ⊗ eps) || le off (eps ⊗ (modulus_of (t ! place n i i) ⊕ modulus_of (t ! place n (i - 1) (i - 1))))

-- ---- the end: from `end` upward, while the entry is small it becomes +0

-- how far the end has fallen, and T
pub record Falling : Type 0 where
  pub end : ℕ
  pub t : List Float

abbrev pub falling : ℕ → List Float → Falling
falling e t = record { end = e; t = t }

unfoldable pub stands : ℕ → Float → Falling → Bool
stands n eps f = not (small n eps f.t f.end)

unfoldable pub fall : ℕ → Falling → Falling
fall n f = falling (f.end - 1) (decoupled n f.end f.t)

-- row 0 has no entry below the diagonal: there the end stays
unfoldable pub end_from : (n : ℕ) → (eps : Float) → (end : ℕ) → (t : List Float) → Falling
end_from n eps e t = until (stands n eps) (fall n) e (falling e t)

-- ---- the start: from the row above the end upward, to the first entry that is zero or small

unfoldable pub cut : (n : ℕ) → (eps : Float) → (t : List Float) → (i : ℕ) → Bool
cut n eps t i = is_zero (below n i t) || small n eps t i

unfoldable pub start_from : (n : ℕ) → (eps : Float) → (end : ℕ) → (t : List Float) → ℕ
start_from n eps e t = until (cut n eps t) (λ i. i - 1) (e - 1) (e - 1)

-- ---- both

-- the window, and T
pub record Delimited : Type 0 where
  pub window : Window
  pub t : List Float

abbrev pub delimited : Window → List Float → Delimited
delimited w t = record { window = w; t = t }

-- What cuts the window off at its start becomes +0 too. A window that has closed is 0 0.
unfoldable pub delimit_here : (n : ℕ) → (eps : Float) → (end : ℕ) → (t : List Float) → Delimited
delimit_here n eps e t =
    let f = end_from n eps e t in
    let s = start_from n eps f.end f.t in
    delimited (window s f.end) (cond (eqb s 0) f.t (decoupled n s f.t))

-- the same for every e: where T has no row e nothing is done, and the window is closed
unfoldable pub delimit_of : (n : ℕ) → (eps : Float) → (end : ℕ) → (t : List Float) → Delimited
delimit_of n eps e t = cond (block_fits n (length t) (e + 1) (e + 1)) (delimit_here n eps e t) (delimited (window 0 0) t)

-- ---- where a window that was sought from row e upward can stand: it has closed, or its rows lie there

pub data Standing (e : ℕ) (w : Window) : Type 0 where
  shut : w ≡ window 0 0 → Standing e w
  still : w.start < w.end → w.end ≤ e → Standing e w
