-- A number in two words: a square from halves. Assumes nothing.
use Rattle.std.proofs.Common.{◌≡◌, ℕ, ◌+◌, ◌*◌, ◌/◌, ◌%◌, ◌^◌, ◌<◌, ◌≤◌, mul-le-mul, arith}
use Rattle.scalar.specs.Inner.{value_of}

-- (a * 2 ^ 27 + c) ^ 2, in parts that stay within a word
pub squared : (a c : ℕ)
    → value_of (a * a / 1024 + a * c / 2 ^ 36) (a * c % 2 ^ 36 * 2 ^ 28) + c * c + a * a % 1024 * 2 ^ 54 ≡ (a * 2 ^ 27 + c) * (a * 2 ^ 27 + c)
squared a c = omega arith

-- the products stay within a word
pub record Halves (a c : ℕ) : Type 0 where
  pub high : a * a ≤ 2 ^ 52
  pub mixed : a * c ≤ 2 ^ 53
  pub low : c * c ≤ 2 ^ 54

pub halves : (r : ℕ) → r < 2 ^ 53 → Halves (r / 2 ^ 27) (r % 2 ^ 27)
halves r h =
    let a = r / 2 ^ 27 in
    let c = r % 2 ^ 27 in
    let p : a ≤ 2 ^ 26 = omega arith in
    let q : c ≤ 2 ^ 27 = omega arith in
    record { high = mul-le-mul p p; mixed = mul-le-mul p q; low = mul-le-mul q q }
