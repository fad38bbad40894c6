-- Whether a block of a square matrix lies in it: the one test at the head of every kernel.
use Rattle.std.specs.Prelude.{ℕ, ◌*◌, Bool, ◌&&◌, leb, eqb}

-- The rows below r1 and the columns below c1 lie in a matrix of order n, and len is the number of its entries. The
-- order is at most 64.
unfoldable pub block_fits : (n len r1 c1 : ℕ) → Bool
block_fits n len r1 c1 = leb n 64 && (eqb len (n * n) && (leb r1 n && leb c1 n))
