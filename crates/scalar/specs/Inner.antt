-- What the inner functions of the square root promise one another. Nothing outside this crate cites it.
use Rattle.std.specs.Prelude.{◌≡◌, ℕ, ◌+◌, ◌-◌, ◌*◌, ◌/◌, ◌%◌, ◌^◌, ◌<◌, ◌≤◌, cond, nat_lt}

-- the number that two words hold
abbrev pub value_of : (hi lo : ℕ) → ℕ
value_of hi lo = hi * 2 ^ 64 + lo

-- two words that hold v, the upper one below `bound`
pub record InTwo (v bound hi lo : ℕ) : Type 0 where
  pub value : value_of hi lo ≡ v
  pub high : hi < bound

-- a positive number below `bound`
pub record PositiveBelow (bound w : ℕ) : Type 0 where
  pub some : 0 < w
  pub below : w < bound

-- the number of smallest values, 2 ^ -1074, that the positive finite pattern w stands for
unfoldable pub units_of : ℕ → ℕ
units_of w = cond (nat_lt w (2 ^ 52)) w ((w % 2 ^ 52 + 2 ^ 52) * 2 ^ (w / 2 ^ 52 - 1))

-- That number is top * 4 ^ h / 2 ^ 62, with a top of 63 or 64 digits, and so X is top * 2 ^ 42.
pub record Placed (w top h : ℕ) : Type 0 where
  pub is : units_of w * 2 ^ 62 ≡ top * 2 ^ (2 * h)
  pub large : 2 ^ 62 ≤ top
  pub room : top + 2048 ≤ 2 ^ 64
  pub few : h < 1100

-- The number of w is so placed, and the pattern that the guess goes by is finite.
pub record Scaled (w top h like : ℕ) : Type 0 where
  pub placed : Placed w top h
  pub finite : like < 0x7ff0_0000_0000_0000
