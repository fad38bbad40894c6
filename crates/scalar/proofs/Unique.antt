-- `Rooted` has one solution: whatever value of binary64 meets the words of the scope is `root_of`. Assumes nothing.
use Rattle.std.proofs.Common.{◌≡◌, ℕ, zero, suc, ◌+◌, ◌-◌, ◌*◌, ◌/◌, ◌^◌, ◌<◌, ◌≤◌, Bool, true, false, not, T, leb, ℤ}
use Rattle.std.proofs.Common.{sym, ap, ◌∙◌, subst, true≢false, lt_irrefl, mul_assoc, mul-le-mul_left, mul-pos}
use Rattle.std.proofs.Common.{zero-mul, mul_right_comm, mul-div_cancel, arith, leb→le, pow_pos, pow-add}
use native.Mathlib.Nat.{eq_of_mul-eq-mul_right}
use lib.Dec.{nleb→lt}
use lib.Ieee.{Float, nan, inf, fin, up, down, size, binary64, fits, to_bits, of_bits}
use lib.Ieee.Bits.{of_bits-to_bits}
use lib.Ieee.Fits.{down_pos}
use lib.Ieee.Exact.{HasValue}
use Rattle.scalar.specs.Root.{root_of}
use Rattle.scalar.specs.Rooted.{Near}
use Rattle.scalar.proofs.root.Whole.{near_one, from_words}
use Rattle.scalar.specs.Rooted.{Rooted}
use Rattle.scalar.proofs.Theorem.{root_is}

-- ---- two values of the format that are the same number

bits_of : (x : Float) (a : ℕ) → HasValue x false a (2 ^ 1074) → to_bits binary64 x ≡ 0 + (size a - 53) * 2 ^ 52 + a / 2 ^ (size a - 53)
unfolding to_bits
bits_of nan a v = absurd v
bits_of (inf s) a v = absurd v
bits_of (fin true m e) a v = absurd (true≢false v.0)
bits_of (fin false m e) a v =
    ap (λ (n : ℕ). 0 + (size n - 53) * 2 ^ 52 + n / 2 ^ (size n - 53)) (ap (λ (x : ℕ). x / down e) v.1 ∙ mul-div_cancel a (down_pos e))

value_one : (x y : Float) (a : ℕ) → T (fits binary64 x) → T (fits binary64 y) → HasValue x false a (2 ^ 1074) → HasValue y false a (2 ^ 1074) → x ≡ y
value_one x y a p q v w = sym (of_bits-to_bits binary64 x p) ∙ ap (of_bits binary64) (bits_of x a v ∙ sym (bits_of y a w)) ∙ of_bits-to_bits binary64 y q

in_smallest : (x : Float) (a : ℕ) → HasValue x false a (2 ^ 589) → HasValue x false (a * 2 ^ 485) (2 ^ 1074)
in_smallest nan a v = absurd v
in_smallest (inf s) a v = absurd v
in_smallest (fin s m e) a v = (
  v.0,
  ap (λ (x : ℕ). m * up e * x) (pow-add 2 589 485)
      ∙ sym (mul_assoc (m * up e) (2 ^ 589) (2 ^ 485))
      ∙ ap (λ (x : ℕ). x * 2 ^ 485) v.1
      ∙ mul_right_comm a (down e) (2 ^ 485),
)

-- ---- the same number scaled into the same range

same_value : (m : ℕ) (e : ℤ) (a b c : ℕ) → m * up e * c ≡ a * down e → m * up e * c ≡ b * down e → a ≡ b
same_value m e a b c v w = eq_of_mul-eq-mul_right (down e) (down_pos e) a b (sym v ∙ w)

exponents : (h d : ℕ) → 2 * (h + suc d) ≡ 2 * d + 2 + 2 * h
exponents h d = omega arith

too_large : (big_x Y p : ℕ) → big_x < 2 ^ 106 → 2 ^ 104 ≤ Y → 0 < p → big_x ≡ Y * (p * 4) → ⊥
too_large big_x Y p h l q e = let s : Y * 1 ≤ Y * p = mul-le-mul_left Y q in omega arith

not_higher : (big_x Y h d : ℕ) → big_x < 2 ^ 106 → 2 ^ 104 ≤ Y → big_x * 2 ^ (2 * h) ≡ Y * 2 ^ (2 * (h + suc d)) → ⊥
not_higher big_x Y h d a b e =
    too_large big_x Y (2 ^ (2 * d)) a b (pow_pos (2 * d))
    (eq_of_mul-eq-mul_right (2 ^ (2 * h)) (pow_pos (2 * h)) big_x (Y * (2 ^ (2 * d) * 4))
    (e ∙ ap (λ (x : ℕ). Y * x) (ap (λ (x : ℕ). 2 ^ x) (exponents h d) ∙ pow-add 2 (2 * d + 2) (2 * h) ∙ ap (λ (x : ℕ). x * 2 ^ (2 * h)) (pow-add 2 (2 * d) 2))
    ∙ sym (mul_assoc Y (2 ^ (2 * d) * 4) (2 ^ (2 * h)))))

at_most : (big_x Y h k : ℕ) → big_x < 2 ^ 106 → 2 ^ 104 ≤ Y → big_x * 2 ^ (2 * h) ≡ Y * 2 ^ (2 * k) → k ≤ h
at_most big_x Y h k a b e = go (leb k h) (leb→le k h) (nleb→lt k h)
  where
    go : (t : Bool) → (T t → k ≤ h) → (T (not t) → h < k) → k ≤ h
    go true p q = p tt
    go false p q =
        let l : h < k = q tt in
        let f : k ≡ h + suc (k - suc h) = omega arith in
        absurd (not_higher big_x Y h (k - suc h) a b (subst (λ (x : ℕ). big_x * 2 ^ (2 * h) ≡ Y * 2 ^ (2 * x)) f e))

two_orders : (h k : ℕ) → h ≤ k → k ≤ h → h ≡ k
two_orders h k a b = omega arith

-- ---- the theorem

same : (x r s : Float) (p : Rooted x r) (q : Rooted x s) → p.big_x * 2 ^ (2 * p.scale) ≡ q.big_x * 2 ^ (2 * q.scale) → r ≡ s
same x r s p q e =
    let f : p.scale ≡ q.scale = two_orders p.scale q.scale (at_most q.big_x p.big_x q.scale p.scale q.high p.low (sym e))
    (at_most p.big_x q.big_x p.scale q.scale p.high q.low e) in
    let g : p.big_x ≡ q.big_x = eq_of_mul-eq-mul_right (2 ^ (2 * q.scale)) (pow_pos (2 * q.scale)) p.big_x q.big_x
    (subst (λ (k : ℕ). p.big_x * 2 ^ (2 * k) ≡ q.big_x * 2 ^ (2 * q.scale)) f e) in
    let n : Near p.big_x p.big_r = from_words p.big_x p.big_r (omega (arith, p.least)) p.below p.above in
    let o : Near q.big_x q.big_r = from_words q.big_x q.big_r (omega (arith, q.least)) q.below q.above in
    let t : p.big_r ≡ q.big_r = near_one q.big_x p.big_r q.big_r (subst (λ (y : ℕ). Near y p.big_r) g n) o in
    let v : HasValue r false (q.big_r * 2 ^ q.scale) (2 ^ 589) =
    subst (λ (y : ℕ). HasValue r false (y * 2 ^ q.scale) (2 ^ 589)) t (subst (λ (k : ℕ). HasValue r false (p.big_r * 2 ^ k) (2 ^ 589)) f p.root) in
    value_one r s (q.big_r * 2 ^ q.scale * 2 ^ 485) p.holds q.holds (in_smallest r (q.big_r * 2 ^ q.scale) v)
    (in_smallest s (q.big_r * 2 ^ q.scale) q.root)

no_zero : (e : ℤ) (a c : ℕ) → 0 < a → zero * up e * c ≡ a * down e → ⊥
no_zero e a c p v = lt_irrefl 0 (subst (λ (x : ℕ). 0 < x) (sym v ∙ ap (λ (x : ℕ). x * c) (zero-mul (up e)) ∙ zero-mul c) (mul-pos p (down_pos e)))

pub root_one : (x r : Float) → T (fits binary64 x) → Rooted x r → r ≡ root_of x
root_one nan r t p = absurd p.from
root_one (inf s) r t p = absurd p.from
root_one (fin true m e) r t p = absurd (true≢false p.from.0)
root_one (fin false zero e) r t p =
    absurd (no_zero e (p.big_x * 2 ^ (2 * p.scale)) (2 ^ 1178) (mul-pos {m = p.big_x} (omega (arith, p.low)) (pow_pos (2 * p.scale))) p.from.1)
root_one (fin false (suc m) e) r t p =
    let q = root_is m e t in
    same (fin false (suc m) e) r (root_of (fin false (suc m) e)) p q
    (same_value (suc m) e (p.big_x * 2 ^ (2 * p.scale)) (q.big_x * 2 ^ (2 * q.scale)) (2 ^ 1178) p.from.1 q.from.1)
