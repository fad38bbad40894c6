-- What was copied to the front of a list stands there as it was. Assumes nothing.
use Prim.Native.Nat.{ℕ, ◌<◌, ◌≤◌}
use mathlib.Core.Path.{◌≡◌, refl, ◌∙◌}
use mathlib.Core.List.{List}
use native.Mathlib.Nat.{zero-add, sub-zero}
use native.Mathlib.Omega.{arith}
use borrow.Author.Tests.{le-leb, lt-leb}
use lib.Dec.{leb}
use lib.ListN.{length}
use lib.Seq.{ext_get_or}
use lib.Ieee.{Float, nan}
use Rattle.loops.specs.Part.{part, part_length, part_at}
use Rattle.loops.specs.Rounded.{◌!◌}
use Rattle.loops.specs.Tests.{cond_hold}
use Rattle.matrix.specs.Vectors.{each_to, copied}
use Rattle.matrix.proofs.Each.{each_to-length, each_to-at, rewriting_none, rewriting_done}

-- where there is room
pub copied_each : (c t : List Float) → length c ≤ length t → copied c t ≡ each_to (length c) (λ i _. c ! i) t
unfolding copied
copied_each c t h = rw (le-leb _ _ h)

-- where there is none
pub copied_not : (c t : List Float) → length t < length c → copied c t ≡ t
unfolding copied
copied_not c t h = rw (lt-leb _ _ h)

-- what the check of `copy_from` takes
pub ruleset copying = (rewriting_none, rewriting_done, copied_each, copied_not)

pub copied-length : (c t : List Float) → length (copied c t) ≡ length t
unfolding copied
copied-length c t = cond_hold (λ s. length s ≡ length t) (leb (length c) (length t)) _ t (λ _. each_to-length _ _ t) refl

pub copied_at : (c t : List Float) (i : ℕ) → i < length c → length c ≤ length t → copied c t ! i ≡ c ! i
copied_at c t i l h = rw (copied_each c t h) (each_to-at (length c) _ t i l h)

pub copied_front : (c t : List Float) → length c ≤ length t → part 0 (length c) (copied c t) ≡ c
copied_front c t h =
    let long = copied-length c t in
    let here : length (part 0 (length c) (copied c t)) ≡ length c = part_length 0 (length c) (copied c t) (omega arith) (omega arith) ∙ sub-zero (length c) in
    ext_get_or nan _ c here (λ i l. part_at 0 (length c) (copied c t) i nan (omega arith) ∙ rw zero-add (copied_at c t i (omega arith) h))

-- the same where the part's end is told in another way
pub copied_to : (c t : List Float) (m : ℕ) → length c ≡ m → m ≤ length t → part 0 m (copied c t) ≡ c
copied_to c t m e h = rw (← e) (copied_front c t (omega arith))

-- over a list of the same length
pub copied_whole : (c t : List Float) → length c ≡ length t → copied c t ≡ c
copied_whole c t e =
    let long = copied-length c t in
    ext_get_or nan (copied c t) c (omega arith) (λ i l. copied_at c t i (omega arith) (omega arith))
