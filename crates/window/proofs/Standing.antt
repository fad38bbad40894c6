-- A window that has closed is 0 0; any other has its start above its end, and that not below the row from which it was
-- sought. Assumes nothing.
use Rattle.std.specs.Prelude.{ℕ, ◌+◌, ◌-◌, ◌<◌, ◌≤◌, refl, Bool, true, false, cond, List, length, Float}
use Rattle.std.proofs.Common.{arith}
use Rattle.std.proofs.Math.Decide.{dec_lt}
use mathlib.Core.Path.{ap₂}
use Rattle.loops.proofs.Until.{until_hold}
use Rattle.matrix.specs.Fits.{block_fits}
use Rattle.window.specs.declared.Window.{Window}
use Rattle.window.specs.Window.{window, falling, stands, fall, end_from, cut, start_from}
use Rattle.window.specs.Window.{delimited, delimit_here, delimit_of, Standing, shut, still}

-- the end falls, and the start lies above it
end_most : (n : ℕ) (eps : Float) (e : ℕ) (t : List Float) → (end_from n eps e t).end ≤ e
unfolding end_from fall
end_most n eps e t =
    until_hold (λ f. f.end ≤ e) (stands n eps) (fall n) e (falling e t) (λ f h. omega arith) (omega arith)

start_most : (n : ℕ) (eps : Float) (e : ℕ) (t : List Float) → start_from n eps e t ≤ e - 1
unfolding start_from
start_most n eps e t =
    until_hold (λ i. i ≤ e - 1) (cut n eps t) (λ i. i - 1) (e - 1) (e - 1) (λ i h. omega arith) (omega arith)

between : (e s f : ℕ) → f ≤ e → s ≤ f - 1 → Standing e (window s f)
between e s f h k = go (dec_lt 0 f)
  where
    go : Dec (0 < f) → Standing e (window s f)
    go (yes l) = still (omega arith) h
    go (no l) = shut (ap₂ window (omega arith) (omega arith))

pub delimited_stands : (n : ℕ) (eps : Float) (e : ℕ) (t : List Float) → Standing e (delimit_of n eps e t).window
unfolding delimit_of delimit_here
delimited_stands n eps e t = go (block_fits n (length t) (e + 1) (e + 1))
  where
    go : (b : Bool) → Standing e (cond b (delimit_here n eps e t) (delimited (window 0 0) t)).window
    go true = between e _ _ (end_most n eps e t) (start_most n eps (end_from n eps e t).end (end_from n eps e t).t)
    go false = shut refl

-- sought from further below
pub standing_below : {e f : ℕ} {w : Window} → e ≤ f → Standing e w → Standing f w
standing_below h (shut z) = shut z
standing_below h (still l k) = still l (omega arith)

-- the end, which is 0 if it has closed
pub standing_end : {e : ℕ} {w : Window} → Standing e w → w.end ≤ e
standing_end (shut z) = rw z (omega arith)
standing_end (still l k) = k
