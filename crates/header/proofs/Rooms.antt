-- Rooms for order 32. Assumes nothing.
use Prim.Native.Nat.{ℕ, ◌*◌, ◌≤◌}
use native.Mathlib.Nat.{mul-le-mul}
use Rattle.refusal.proofs.ChecksInTurn.{in_turn}

pub square_32 : (n : ℕ) → n ≤ 32 → n * n ≤ 1024
square_32 n h = mul-le-mul h h

-- what the checks of a header stand on
pub ruleset checking = (in_turn, square_32)
