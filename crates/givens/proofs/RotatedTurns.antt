-- One turn of each kernel's loop: the two numbers that are put are what the rule says. Assumes nothing.
use Prim.Native.Nat.{ℕ, ◌+◌, ◌*◌, ◌≤◌, ◌<◌}
use mathlib.Core.Path.{◌≡◌, refl, ap}
use mathlib.Core.Bool.{true, false}
use mathlib.Core.List.{List}
use native.Mathlib.Nat.{suc-mul}
use native.Mathlib.Numerals.{add-one}
use native.Mathlib.Omega.{arith}
use lib.Dec.{eqb}
use lib.ListN.{length, set}
use lib.Ieee.{Float, neg}
use borrow.Author.Tests.{eq-eqb, ne_eqb}
use Rattle.loops.specs.Place.{place, in_square}
use Rattle.loops.specs.Rounded.{◌⊕◌, ◌⊖◌, ◌⊗◌, ◌!◌}
use Rattle.matrix.specs.Entries.{in_block}
use Rattle.matrix.proofs.Turns.{unread_down, unread_across, down_two, across_two}
use Rattle.givens.specs.declared.Rotation.{Rotation}
use Rattle.givens.specs.Rotated.{turned_rows, turned_columns}

pub turn_down : (r : Rotation) (n i c0 j : ℕ) (t₀ t : List Float) → i + 2 ≤ n → c0 ≤ j → t ≡ in_block n i (i + 2) c0 j (turned_rows r n i t₀) t₀
    → set (set t (place n i j) ((t ! place n i j) ⊗ r.c ⊖ r.s ⊗ (t ! place n (i + 1) j))) (place n (i + 1) j)
    (r.s ⊗ (t ! place n i j) ⊕ (t ! place n (i + 1) j) ⊗ r.c)
    ≡ in_block n i (i + 2) c0 (j + 1) (turned_rows r n i t₀) t₀
unfolding turned_rows
turn_down r n i c0 j t₀ t h k e =
    let a = unread_down n i (i + 2) c0 j (turned_rows r n i t₀) t₀ t i h (omega arith) e in
    let b = unread_down n i (i + 2) c0 j (turned_rows r n i t₀) t₀ t (i + 1) h (omega arith) e in
    let here : eqb i i ≡ true = eq-eqb i i refl in
    let below : eqb (i + 1) i ≡ false = ne_eqb (i + 1) i (omega arith) in
    down_two n i c0 j (turned_rows r n i t₀) t₀ t _ _ h k e (rw (here, a, b)) (rw (below, a, b))

-- the place beside an entry, in the next column
pub record Beside (n i k : ℕ) : Type 0 where
  pub next : place n i k + n ≡ place n i (k + 1)
  pub below : place n i k + n < n * n

pub beside : (n i k : ℕ) → i < n → k + 2 ≤ n → Beside n i k
beside n i k h l =
    let e : (k + 1) * n ≡ k * n + n = omega (arith, suc-mul k n, ap (λ m. m * n) (add-one k)) in
    record { next = omega arith; below = omega (arith, in_square n i (k + 1) h (omega arith)) }

pub turn_across : (r : Rotation) (n i k : ℕ) (t₀ t : List Float) → length t₀ ≡ n * n → i < n → k + 2 ≤ n
    → t ≡ in_block n 0 i k (k + 2) (turned_columns r n k t₀) t₀
    → set (set t (place n i k) ((t ! place n i k) ⊗ r.c ⊕ r.s ⊗ (t ! (place n i k + n)))) (place n i k + n)
    (neg r.s ⊗ (t ! place n i k) ⊕ (t ! (place n i k + n)) ⊗ r.c)
    ≡ in_block n 0 (i + 1) k (k + 2) (turned_columns r n k t₀) t₀
unfolding turned_columns
turn_across r n i k t₀ t size h l e =
    let a = unread_across n 0 i k (k + 2) (turned_columns r n k t₀) t₀ t k h e in
    let b = unread_across n 0 i k (k + 2) (turned_columns r n k t₀) t₀ t (k + 1) h e in
    let here : eqb k k ≡ true = eq-eqb k k refl in
    let right : eqb (k + 1) k ≡ false = ne_eqb (k + 1) k (omega arith) in
    rw (beside n i k h l).next (across_two n i k (turned_columns r n k t₀) t₀ t _ _ size h l e (rw (here, a, b)) (rw (right, a, b)))
