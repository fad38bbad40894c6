-- Near 1 the pattern of the root is half way between the pattern and that of 1, rounded down. Assumes nothing.
use Rattle.std.proofs.Common.{◌≡◌, ℕ, zero, suc, ◌+◌, ◌-◌, ◌*◌, ◌/◌, ◌%◌, ◌^◌, ◌<◌, ◌≤◌, Bool, true, false, not, T}
use Rattle.std.proofs.Common.{leb, ◌⊎◌, sym, refl, ap, ◌∙◌, subst, inl, inr, mul-le-mul, arith, leb→le}
use lib.Dec.{nleb→lt}
use lib.Ieee.{binary64, of_bits}
use Rattle.scalar.specs.Root.{root_of}
use Rattle.scalar.specs.Rooted.{Near}
use Rattle.scalar.proofs.root.Units.{answer}
use Rattle.scalar.proofs.root.Steps.{placed_even, placed_odd}

-- the pattern of 1
abbrev pub one : ℕ
one = 0x3ff0_0000_0000_0000

-- With P for 2 ^ 52 or 2 ^ 53 the products stay short. Above 1: X = (P + k) * P with an even and with an odd k.
up_even : (P i : ℕ) → i * i < P → Near ((P + i * 2) * P) (P + i)
up_even P i s = record { below = omega arith; above = omega arith }

up_odd : (P i : ℕ) → i * i < P → Near ((P + (i * 2 + 1)) * P) (P + i)
up_odd P i s = record { below = omega arith; above = omega arith }

-- below 1: X = u * (u + j), with u + j for 2 ^ 53
down_even : (u c : ℕ) → c * c < u → Near (u * (u + c * 2)) (u + c)
down_even u c s = record { below = omega arith; above = omega arith }

down_odd : (u d : ℕ) → d * d < u → Near (u * (u + (d * 2 + 1))) (u + d)
down_odd u d s = record { below = omega arith; above = omega arith }

small_square : (i P : ℕ) → i ≤ 2 ^ 25 → 2 ^ 51 ≤ P → i * i < P
small_square i P h l = let s : i * i ≤ 2 ^ 25 * 2 ^ 25 = mul-le-mul h h in omega arith

even_or_odd : (k : ℕ) → (k ≡ k / 2 * 2) ⊎ (k ≡ k / 2 * 2 + 1)
even_or_odd k = go (k % 2) refl
  where
    one : (r : ℕ) → k % 2 ≡ suc r → k ≡ k / 2 * 2 + 1
    one r e = omega arith

    go : (r : ℕ) → k % 2 ≡ r → (k ≡ k / 2 * 2) ⊎ (k ≡ k / 2 * 2 + 1)
    go zero e = inl (omega arith)
    go (suc r) e = inr (one r e)

up : (k : ℕ) → k ≤ 2 ^ 26 → Near ((2 ^ 52 + k) * 2 ^ 52) (2 ^ 52 + k / 2)
up k h = go (even_or_odd k)
  where
    s : k / 2 * (k / 2) < 2 ^ 52
    s = small_square (k / 2) (2 ^ 52) (omega arith) (omega arith)

    go : (k ≡ k / 2 * 2) ⊎ (k ≡ k / 2 * 2 + 1) → Near ((2 ^ 52 + k) * 2 ^ 52) (2 ^ 52 + k / 2)
    go (inl e) = subst (λ (x : ℕ). Near ((2 ^ 52 + x) * 2 ^ 52) (2 ^ 52 + k / 2)) (sym e) (up_even (2 ^ 52) (k / 2) s)
    go (inr e) = subst (λ (x : ℕ). Near ((2 ^ 52 + x) * 2 ^ 52) (2 ^ 52 + k / 2)) (sym e) (up_odd (2 ^ 52) (k / 2) s)

-- u = 2 ^ 53 - j
down : (u j : ℕ) → u + j ≡ 2 ^ 53 → j ≤ 2 ^ 26 → Near (u * 2 ^ 53) (u + j / 2)
down u j f h = subst (λ (x : ℕ). Near (u * x) (u + j / 2)) f (go (even_or_odd j))
  where
    s : j / 2 * (j / 2) < u
    s = small_square (j / 2) u (omega arith) (omega arith)

    go : (j ≡ j / 2 * 2) ⊎ (j ≡ j / 2 * 2 + 1) → Near (u * (u + j)) (u + j / 2)
    go (inl e) = subst (λ (x : ℕ). Near (u * (u + x)) (u + j / 2)) (sym e) (down_even u (j / 2) s)
    go (inr e) = subst (λ (x : ℕ). Near (u * (u + x)) (u + j / 2)) (sym e) (down_odd u (j / 2) s)

-- ---- in patterns

bits_up : (w : ℕ) → one ≤ w → w ≤ one + 2 ^ 26 → of_bits binary64 ((w + one) / 2) ≡ root_of (of_bits binary64 w)
bits_up w a b =
    let k = w - one in
    let p = placed_even w 1022 (omega arith) (omega arith) (omega arith) refl in
    let t : (w % 2 ^ 52 + 2 ^ 52) * 1024 * 2 ^ 42 ≡ (2 ^ 52 + k) * 2 ^ 52 = omega arith in
    let e : (537 + 485) * 2 ^ 52 + (2 ^ 52 + k / 2) ≡ (w + one) / 2 = omega arith in
    ap (of_bits binary64) (sym e)
    ∙ (answer w ((w % 2 ^ 52 + 2 ^ 52) * 1024) 537 (2 ^ 52 + k / 2) (omega arith) (omega arith) p
    (subst (λ (x : ℕ). Near x (2 ^ 52 + k / 2)) (sym t) (up k (omega arith)))).is

bits_down : (w : ℕ) → w < one → one - 2 ^ 26 ≤ w → of_bits binary64 ((w + one) / 2) ≡ root_of (of_bits binary64 w)
bits_down w a b =
    let j = one - w in
    let u = w % 2 ^ 52 + 2 ^ 52 in
    let p = placed_odd w 1021 (omega arith) (omega arith) (omega arith) (λ z. omega arith) in
    let f : u + j ≡ 2 ^ 53 = omega arith in
    let t : u * 2048 * 2 ^ 42 ≡ u * 2 ^ 53 = omega arith in
    let e : (536 + 485) * 2 ^ 52 + (u + j / 2) ≡ (w + one) / 2 = omega arith in
    ap (of_bits binary64) (sym e)
    ∙ (answer w (u * 2048) 536 (u + j / 2) (omega arith) (omega arith) p (subst (λ (x : ℕ). Near x (u + j / 2)) (sym t) (down u j f (omega arith)))).is

pub bits_near : (w : ℕ) → one - 2 ^ 26 ≤ w → w ≤ one + 2 ^ 26 → of_bits binary64 ((w + one) / 2) ≡ root_of (of_bits binary64 w)
bits_near w a b = go (leb one w) (leb→le one w) (nleb→lt one w)
  where
    go : (t : Bool) → (T t → one ≤ w) → (T (not t) → w < one) → of_bits binary64 ((w + one) / 2) ≡ root_of (of_bits binary64 w)
    go true h k = bits_up w (h tt) b
    go false h k = bits_down w (k tt) a
