-- Two lists of one length, read by two parts that move on by eight: a turn, and the sum of what is left (`Sum`). Assumes nothing.
use Prim.Native.Nat.{ℕ, ◌+◌, ◌-◌, ◌*◌, ◌/◌, ◌≤◌, ◌<◌}
use mathlib.Core.Path.{◌≡◌, refl, sym, ap, ◌∙◌}
use mathlib.Core.List.{List}
use native.Mathlib.Omega.{arith}
use lib.ListN.{length, drop, length-take, length-drop}
use lib.Seq.{take_all, get_or-drop, drop-drop}
use lib.Ieee.{Float}
use Rattle.loops.specs.Part.{part}
use Rattle.loops.specs.Rounded.{◌⊕◌}
use Rattle.loops.specs.Times.{times, times_same, range}
use Rattle.matrix.specs.Sum.{lane, lanes_summed, lanes}
use Rattle.matrix.specs.Vectors.{products, dot_of}
use Rattle.matrix.proofs.Sums.{lane_more, dot_of_is}

-- u and v are what is left of x and y after b blocks of eight
pub record Moved (x y u v : List Float) (b : ℕ) : Type 0 where
  pub same : length x ≡ length y
  pub alike : length v ≡ length u
  pub left : length u + b * 8 ≡ length x
  pub first : u ≡ drop (b * 8) x
  pub second : v ≡ drop (b * 8) y

-- before the first block
pub moved_none : {x y : List Float} → length x ≡ length y → Moved x y x y 0
moved_none h = record { same = h; alike = sym h; left = omega arith; first = refl; second = refl }

-- a term of the parts is a term of the lists
moved_term : {x y u v : List Float} {b : ℕ} → Moved x y u v b → (i : ℕ) → products u v i ≡ products x y (b * 8 + i)
moved_term m i = simp (m.first, m.second, get_or-drop)

-- an accumulator after one block more, at the code's b + 1
pub moved_lane : {x y u v : List Float} {b : ℕ} → Moved x y u v b → (l : ℕ) → lane (products x y) l (b + 1) ≡ lane (products x y) l b ⊕ products u v l
moved_lane m l = rw (lane_more, moved_term m l)

-- a list without its first eight, as `&u[8..]` is
rest : (x u : List Float) (b : ℕ) → u ≡ drop (b * 8) x → part 8 (length u) u ≡ drop ((b + 1) * 8) x
rest x u b h =
    let e : b * 8 + 8 ≡ (b + 1) * 8 = omega arith in
    take_all (length u - 8) (drop 8 u) (simp length-drop (omega arith)) ∙ rw (h, drop-drop, e)

-- the parts after one block more
pub moved_more : {x y u v : List Float} {b : ℕ} → Moved x y u v b → 8 ≤ length u → Moved x y (part 8 (length u) u) (part 8 (length v) v) (b + 1)
moved_more {x} {y} {u} {v} {b} m h = record {
  same = m.same;
  alike = simp (length-take, length-drop) (omega arith);
  left = simp (length-take, length-drop) (omega arith);
  first = rest x u b m.first;
  second = rest y v b m.second;
}

-- where no block is left, the terms of the parts are the ones that are added one by one
pub moved_done : {x y u v : List Float} {b : ℕ} → Moved x y u v b → (j : ℕ) (s : Float) → j ≡ length u → length u < 8 → s ≡ lanes_summed (products x y) b
    → times (λ i d. d ⊕ products u v i) j s ≡ dot_of x y
unfolding lanes range
moved_done {x} {y} {u} {v} {b} m j s k h q =
    let e : length x / 8 ≡ b = omega arith in
    let n : length x - b * 8 ≡ j = omega arith in
    rw (dot_of_is x y m.same, e, n, q) (times_same _ _ _ _ (λ i d _. ap (λ t. d ⊕ t) (moved_term m i)))
