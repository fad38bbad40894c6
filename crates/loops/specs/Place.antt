-- Where the entries of a square matrix lie: column by column, so row i of column j of a matrix of order n stands at j *
-- n + i. A product of two variables is an unknown to `omega`. `placed` and `column` hand it the facts that an index, or
-- the bounds of a column's part, ask for; `place_one`, `apart` and `places`, in proofs, say that two places differ where
-- the row or the column does.
use Rattle.std.specs.Prelude.{◌≡◌, ℕ, suc, ◌+◌, ◌*◌, ◌<◌, ◌≤◌}
use Rattle.std.proofs.Common.{ap, add-one, mul-le-mul_right, mul-le-mul, suc-mul, arith}

-- row i of column j of a matrix of order n
abbrev pub place : (n i j : ℕ) → ℕ
place n i j = j * n + i

pub in_square : (n i j : ℕ) → i < n → j < n → j * n + i < n * n
in_square n i j hi hj =
    let h : suc j * n ≤ n * n = mul-le-mul_right n hj in
    omega (arith, suc-mul j n)

pub product_64 : (k n : ℕ) → k ≤ 64 → n ≤ 64 → k * n ≤ 4096
product_64 k n h l = mul-le-mul h l

pub square_64 : (n : ℕ) → n ≤ 64 → n * n ≤ 4096
square_64 n h = product_64 n n h h

-- all that an index of a matrix of order up to 64 asks
pub record Placed (n i j : ℕ) : Type 0 where
  pub below : j * n + i < n * n
  pub small : n * n ≤ 4096

pub placed : (n i j : ℕ) → n ≤ 64 → i < n → j < n → Placed n i j
placed n i j h hi hj = record { below = in_square n i j hi hj; small = square_64 n h }

-- all that the bounds of column k, or of a part of it, ask
pub record Column (n k : ℕ) : Type 0 where
  pub next : (k + 1) * n ≡ k * n + n
  pub ends : k * n + n ≤ n * n
  pub small : n * n ≤ 4096

pub column : (n k : ℕ) → n ≤ 64 → k < n → Column n k
column n k h hk = record {
  next = omega (arith, suc-mul k n, ap (λ m. m * n) (add-one k));
  ends = omega (arith, mul-le-mul_right {m = suc k} n hk, suc-mul k n);
  small = square_64 n h;
}

-- (i, j) lies in the rows from a to below b and the columns from c to below d
pub record Inside (a b c d i j : ℕ) : Type 0 where
  pub down : a ≤ i
  pub up : i < b
  pub right : c ≤ j
  pub left : j < d
