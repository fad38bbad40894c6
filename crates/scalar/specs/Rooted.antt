-- What the root of a positive finite number is, in the words of document 01, over whole numbers alone.
-- Proved of the definition: the root of every such x is one (`root_is` of `proofs/Theorem.antt`), and nothing else is
-- (`root_one` of `proofs/Unique.antt`); a root of any value of the format is one too (`root_of-fits` of `Theorem`). For
-- a given X at most one R meets the inequalities (`near_one` of `proofs/root/Whole.antt`), and halves never tie
-- (`no_tie` there).
use Rattle.std.specs.Prelude.{ℕ, ◌+◌, ◌-◌, ◌*◌, ◌^◌, ◌<◌, ◌≤◌, false, T, Float}
use Rattle.std.specs.Float.{binary64}
use Rattle.std.specs.Float.Ieee.{fits}
use Rattle.std.specs.Float.Ieee.Exact.{HasValue}

-- R is the whole number nearest to the root of X: (2 * R - 1) ^ 2 < 4 * X < (2 * R + 1) ^ 2, divided by 4
pub record Near (big_x big_r : ℕ) : Type 0 where
  pub below : big_r * big_r < big_x + big_r
  pub above : big_x ≤ big_r * big_r + big_r

-- r is the root of x. `scale` is F + 589, so x is X * 2 ^ (2 * F) and r is R * 2 ^ F. `HasValue x false a c` says that
-- x is a / c.
pub record Rooted (x r : Float) : Type 0 where
  pub big_x : ℕ
  pub big_r : ℕ
  pub scale : ℕ
  pub from : HasValue x false (big_x * 2 ^ (2 * scale)) (2 ^ 1178)
  pub low : 2 ^ 104 ≤ big_x
  pub high : big_x < 2 ^ 106
  pub below : (2 * big_r - 1) * (2 * big_r - 1) < 4 * big_x
  pub above : 4 * big_x < (2 * big_r + 1) * (2 * big_r + 1)
  pub root : HasValue r false (big_r * 2 ^ scale) (2 ^ 589)
  -- R has 53 digits, and r is a value of the format
  pub least : 2 ^ 52 ≤ big_r
  pub most : big_r < 2 ^ 53
  pub holds : T (fits binary64 r)
