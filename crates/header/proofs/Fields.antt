-- The fields of a header. Assumes nothing.
use Prim.Native.Nat.{ℕ, ◌+◌, ◌-◌, ◌≤◌}
use mathlib.Core.Path.{◌≡◌, ap, ◌∙◌}
use mathlib.Core.List.{List}
use native.Mathlib.Omega.{arith}
use native.Mathlib.Nat.{add-zero}
use lib.ListN.{take, drop}
use Rattle.std.specs.Int.{w16, w32, from_le_bytes}
use Rattle.std.proofs.lemmas.List.{drop-take, take-take}
use Rattle.words.proofs.Chunks.{piece}
use Rattle.header.specs.Record.{le16, le32}

-- a number out of its bytes, as std makes it
pub le16_bytes : (s : List ℕ) (at : ℕ) → from_le_bytes w16 (take 2 (drop at s)) ≡ le16 s at
unfolding le16
le16_bytes s at = rw (piece s at 2 0 (omega arith), piece s at 2 1 (omega arith), add-zero)

pub le32_bytes : (s : List ℕ) (at : ℕ) → from_le_bytes w32 (take 4 (drop at s)) ≡ le32 s at
unfolding le32 le16
le32_bytes s at =
    let a : at + 2 + 1 ≡ at + 3 = omega arith in
    rw (piece s at 4 0 (omega arith), piece s at 4 1 (omega arith), piece s at 4 2 (omega arith), piece s at 4 3 (omega arith), add-zero, a) (omega arith)

-- n bytes lie within the first m
pub front : (m : ℕ) (s : List ℕ) (at n : ℕ) → at + n ≤ m → take n (drop at (take m s)) ≡ take n (drop at s)
front m s at n h =
    let e : m ≡ at + (m - at) = omega arith in
    ap (λ k. take n (drop at (take k s))) e ∙ ap (take n) (drop-take at (m - at) s) ∙ take-take n (m - at) (drop at s) (omega arith)
