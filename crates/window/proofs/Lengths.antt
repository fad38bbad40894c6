-- Delimiting keeps the length of T. Assumes nothing.
use Prim.Native.Nat.{ℕ, ◌+◌}
use mathlib.Core.Path.{◌≡◌, refl, ◌∙◌}
use mathlib.Core.List.{List}
use lib.Dec.{eqb}
use lib.ListN.{length, length-set}
use lib.Ieee.{Float}
use Rattle.loops.specs.Tests.{cond_hold}
use Rattle.loops.proofs.Until.{until_hold}
use Rattle.matrix.specs.Fits.{block_fits}
use Rattle.window.specs.Window.{window, decoupled, Falling, falling, stands, fall, end_from, start_from, Delimited, delimited, delimit_here, delimit_of}

decoupled-length : (n i : ℕ) (t : List Float) → length (decoupled n i t) ≡ length t
decoupled-length n i t = simp length-set

fall-length : (n : ℕ) (f : Falling) → length (fall n f).t ≡ length f.t
unfolding fall
fall-length n f = decoupled-length n f.end f.t

end_from-length : (n : ℕ) (eps : Float) (e : ℕ) (t : List Float) → length (end_from n eps e t).t ≡ length t
unfolding end_from
end_from-length n eps e t = until_hold (λ f. length f.t ≡ length t) (stands n eps) (fall n) e (falling e t) (λ f h. fall-length n f ∙ h) refl

delimit_here-length : (n : ℕ) (eps : Float) (e : ℕ) (t : List Float) → length (delimit_here n eps e t).t ≡ length t
unfolding delimit_here
delimit_here-length n eps e t =
    let f = end_from n eps e t in
    let s = start_from n eps f.end f.t in
    let ended = end_from-length n eps e t in
    cond_hold (λ u. length u ≡ length t) (eqb s 0) f.t (decoupled n s f.t) (λ _. ended) (decoupled-length n s f.t ∙ ended)

pub delimit_of-length : (n : ℕ) (eps : Float) (e : ℕ) (t : List Float) → length (delimit_of n eps e t).t ≡ length t
unfolding delimit_of
delimit_of-length n eps e t =
    cond_hold (λ (d : Delimited). length d.t ≡ length t) (block_fits n (length t) (e + 1) (e + 1)) (delimit_here n eps e t) (delimited (window 0 0) t)
    (λ _. delimit_here-length n eps e t) refl
