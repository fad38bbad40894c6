-- The digits of a number: those that `io` makes are those of the definition, and how many there are. Assumes nothing.
use Prim.Native.Nat.{ℕ, zero, suc, ◌-◌, ◌*◌, ◌/◌, ◌%◌, ◌^◌, ◌<◌, ◌≤◌}
use mathlib.Core.Path.{◌≡◌, refl, ap}
use mathlib.Core.Bool.{cond}
use mathlib.Core.List.{[], ◌∷◌, ◌++◌}
use native.Mathlib.Nat.{pow-suc, pow-le-pow_right}
use native.Mathlib.Decide.{dec_lt}
use native.Mathlib.Omega.{arith}
use borrow.Author.Tests.{lt-ltb, le-ltb}
use lib.ListN.{length, length-append}
use Rattle.io.specs.Digits.{hex_digit_ascii, last_digits, IsDigitCount}
use Rattle.record.specs.Text.{decimal_in, decimal, hexadecimal}

small : (k n : ℕ) → n < 10 → decimal_in (suc k) n ≡ hex_digit_ascii n ∷ []
unfolding decimal_in
small k n h = ap (λ b. cond b (hex_digit_ascii n ∷ []) (decimal_in k (n / 10) ++ hex_digit_ascii (n % 10) ∷ [])) (lt-ltb n 10 h)

large : (k n : ℕ) → 10 ≤ n → decimal_in (suc k) n ≡ decimal_in k (n / 10) ++ hex_digit_ascii (n % 10) ∷ []
unfolding decimal_in
large k n h = ap (λ b. cond b (hex_digit_ascii n ∷ []) (decimal_in k (n / 10) ++ hex_digit_ascii (n % 10) ∷ [])) (le-ltb n 10 h)

-- ---- how many

short : (f k n : ℕ) → 1 ≤ k → n < 10 ^ k → length (decimal_in f n) ≤ k
unfolding decimal_in
short zero k n a h = omega arith
short (suc f) zero n a h = absurd (omega arith)
short (suc f) (suc zero) n a h = rw (small f n (omega arith)) (omega arith)
short (suc f) (suc (suc k)) n a h = go (dec_lt n 10) (short f (suc k) (n / 10) (omega arith))
  where
    go : Dec (n < 10) → (n / 10 < 10 ^ suc k → length (decimal_in f (n / 10)) ≤ suc k) → length (decimal_in (suc f) n) ≤ suc (suc k)
    go (yes l) shorter = rw (small f n l) (omega arith)
    go (no l) shorter =
        let g : n < 10 ^ suc k * 10 = rw pow-suc at h in
        let m : length (decimal_in f (n / 10)) ≤ suc k = shorter (omega arith) in
        rw (large f n (omega arith)) (simp length-append (omega arith))

decimal_short : (k n : ℕ) → 1 ≤ k → n < 10 ^ k → length (decimal n) ≤ k
unfolding decimal
decimal_short k n a h = short 20 k n a h

-- any number of 64 bits, and any below the program's largest order
pub decimal_64 : (n : ℕ) → n < 2 ^ 64 → length (decimal n) ≤ 20
decimal_64 n h = decimal_short 20 n (omega arith) (omega arith)

pub decimal_32 : (n : ℕ) → n < 32 → length (decimal n) ≤ 2
decimal_32 n h = decimal_short 2 n (omega arith) (omega arith)

-- ---- which

one_power : (k : ℕ) → 1 ≤ 10 ^ k
one_power zero = omega arith
one_power (suc k) = rw pow-suc (omega (arith, one_power k))

fewest : (f k n : ℕ) → k ≤ f → IsDigitCount 10 1 n k → last_digits 10 k n ≡ decimal_in f n
fewest f zero n h w = absurd (omega arith)
fewest zero (suc k) n h w = absurd (omega arith)
fewest (suc f) (suc zero) n h w = let l : n < 10 = omega arith in let e : n % 10 ≡ n = omega arith in rw (small f n l, e)
fewest (suc f) (suc (suc k)) n h w =
    let g : n < 10 ^ suc k * 10 = rw pow-suc at w.1 in
    let e : suc (suc k) - 1 ≡ suc k = omega arith in
    let least : 10 ^ suc k ≤ n = rw e at (w.2 (omega arith)) in
    let least' : 10 ^ k * 10 ≤ n = rw pow-suc at least in
    let before : IsDigitCount 10 1 (n / 10) (suc k) = (omega arith, omega arith, λ _. let q : suc k - 1 ≡ k = omega arith in rw q (omega arith)) in
    rw (large f n (omega (arith, one_power k)), fewest f (suc k) (n / 10) (omega arith) before)

-- a number that fits so many digits has no more
few : (b least most n k : ℕ) → 0 < b → least ≤ most → n < b ^ most → IsDigitCount b least n k → k ≤ most
few b least most n k p h f w = go (dec_lt most k)
  where
    go : Dec (most < k) → k ≤ most
    go (yes l) = absurd (omega (arith, pow-le-pow_right {n = b} p {i = most} {j = k - 1} (omega arith), w.2 (omega arith)))
    go (no l) = omega arith

pub decimal_digits : (k n : ℕ) → n < 2 ^ 64 → IsDigitCount 10 1 n k → last_digits 10 k n ≡ decimal n
unfolding decimal
decimal_digits k n h w = fewest 20 k n (few 10 1 20 n k (omega arith) (omega arith) (omega arith) w) w

-- ---- patterns

digits_length : (b k n : ℕ) → length (last_digits b k n) ≡ k
digits_length b zero n = refl
digits_length b (suc k) n = simp length-append (omega (arith, digits_length b k (n / b)))

pub hexadecimal-length : (w : ℕ) → length (hexadecimal w) ≡ 16
unfolding hexadecimal
hexadecimal-length w = digits_length 16 16 w

pub hexadecimal_digits : (k w : ℕ) → w < 2 ^ 64 → IsDigitCount 16 16 w k → last_digits 16 k w ≡ hexadecimal w
unfolding hexadecimal
hexadecimal_digits k w h f =
    let e : k ≡ 16 = omega (arith, few 16 16 16 w k (omega arith) (omega arith) (omega arith) f) in
    ap (λ k. last_digits 16 k w) e
