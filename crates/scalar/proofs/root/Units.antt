-- From bit patterns to whole numbers of smallest values and back: what the root of a pattern is. Assumes nothing.
use Rattle.std.proofs.Common.{◌≡◌, ℕ, zero, suc, ◌+◌, ◌-◌, ◌*◌, ◌/◌, ◌%◌, ◌^◌, ◌<◌, ◌≤◌, Bool, true, false, cond, not}
use Rattle.std.proofs.Common.{T, eqb, ltb, leb, ℤ, pos, negsuc, sym, refl, ap, ◌∙◌, subst, true≢false, lt_of_lt_of_le}
use Rattle.std.proofs.Common.{lt_irrefl, mul-le-mul_right, mul-lt-mul_of_pos_right, mul-pos, lt_of_not-le, zero-mul}
use Rattle.std.proofs.Common.{mul-one, not-le_of_lt, mul-div_cancel, arith, ltb→lt, leb→le, nltb→le, pow_pos}
use Rattle.std.proofs.Common.{pow_mono, pow-add, le-ltb, lt-ltb, ne_eqb, le-leb}
use mathlib.Core.Bool.{false≢true}
use lib.Dec.{nleb→lt}
use lib.Count.{count_trailing_zeros}
use lib.Ieee.{Float, nan, inf, fin, up, down, minus, size, odd, binary64, of_bits, of_fields}
use lib.Ieee.Digits.{size-lt, size-le}
use lib.Ieee.Fits.{down_pos}
use lib.Ieee.Exact.{HasValue, odd_sign}
use borrow.Author.Tests.{lt-leb}
use Rattle.scalar.specs.Root.{scale_of, scaled_whole, units_root, root_of, whole_root}
use Rattle.scalar.specs.Rooted.{Near}
use Rattle.scalar.specs.Inner.{units_of, Placed}
use Rattle.scalar.proofs.root.Whole.{whole_root_is, near_low, near_high}

-- ---- the scaled number: n * 2 ^ 62 = top * 4 ^ h with a top of 63 or 64 digits

size_gt : (n j : ℕ) → 2 ^ j ≤ n → j < size n
size_gt n j h = lt_of_not-le (λ (g : size n ≤ j). not-le_of_lt (lt_of_lt_of_le (size-lt n) (pow_mono g)) h)

halves : (s h : ℕ) → 2 * h < s → s ≤ 2 * h + 2 → (s - 1) / 2 ≡ h
halves s h a b = omega arith

record Between (n P : ℕ) : Type 0 where
  pub lo : P ≤ n
  pub hi : n < P * 4

between : (n top P : ℕ) → n * 2 ^ 62 ≡ top * P → 2 ^ 62 ≤ top → top < 2 ^ 64 → 0 < P → Between n P
between n top P e a b p =
    let lo : 2 ^ 62 * P ≤ top * P = mul-le-mul_right P a in
    let hi : top * P < 2 ^ 64 * P = mul-lt-mul_of_pos_right b p in
    record { lo = omega arith; hi = omega arith }

pub scale_of_is : (n top h : ℕ) → n * 2 ^ 62 ≡ top * 2 ^ (2 * h) → 2 ^ 62 ≤ top → top < 2 ^ 64 → scale_of n ≡ h
unfolding scale_of
scale_of_is n top h e a b =
    let z = between n top (2 ^ (2 * h)) e a b (pow_pos (2 * h)) in
    halves (size n) h (size_gt n (2 * h) z.lo) (size-le n (2 * h + 2) (subst (λ (x : ℕ). n < x) (sym (pow-add 2 (2 * h) 2)) z.hi))

regroup : (n top P : ℕ) → n * 2 ^ 62 ≡ top * P → n * 2 ^ 104 ≡ top * 2 ^ 42 * P
regroup n top P e = omega arith

pub scaled_is : (n top h : ℕ) → n * 2 ^ 62 ≡ top * 2 ^ (2 * h) → 2 ^ 62 ≤ top → top < 2 ^ 64 → scaled_whole n ≡ top * 2 ^ 42
unfolding scaled_whole
scaled_is n top h e a b =
    ap (λ (x : ℕ). n * 2 ^ 104 / 2 ^ (2 * x)) (scale_of_is n top h e a b)
    ∙ ap (λ (x : ℕ). x / 2 ^ (2 * h)) (regroup n top (2 ^ (2 * h)) e)
    ∙ mul-div_cancel (top * 2 ^ 42) (pow_pos (2 * h))

pub units_root_is : (n top h big_r : ℕ) → n * 2 ^ 62 ≡ top * 2 ^ (2 * h) → 2 ^ 62 ≤ top → top < 2 ^ 64 → Near (top * 2 ^ 42) big_r → units_root n ≡ odd 53 false big_r h 589
unfolding units_root
units_root_is n top h big_r e a b r =
    let p : 0 < top * 2 ^ 42 = omega arith in
    let q : top * 2 ^ 42 < 2 ^ 106 = omega arith in
    ap (λ (x : ℕ). odd 53 false (whole_root (scaled_whole n)) x 589) (scale_of_is n top h e a b)
    ∙ ap (λ (x : ℕ). odd 53 false x h 589) (ap whole_root (scaled_is n top h e a b) ∙ whole_root_is (top * 2 ^ 42) big_r p q r)

-- ---- k - l, with as much added to both

minus_ge : (a b : ℕ) → b ≤ a → minus a b ≡ pos (a - b)
minus_ge a b h = ap (λ (t : Bool). cond t (pos (a - b)) (negsuc (b - suc a))) (le-leb b a h)

minus-lt : (a b : ℕ) → a < b → minus a b ≡ negsuc (b - suc a)
minus-lt a b h = ap (λ (t : Bool). cond t (pos (a - b)) (negsuc (b - suc a))) (lt-leb b a h)

pub minus_both : (a b d : ℕ) → minus (a + d) (b + d) ≡ minus a b
minus_both a b d = go (leb b a) (leb→le b a) (nleb→lt b a)
  where
    go : (t : Bool) → (T t → b ≤ a) → (T (not t) → a < b) → minus (a + d) (b + d) ≡ minus a b
    go true h k =
        let l : b ≤ a = h tt in
        let e : a + d - (b + d) ≡ a - b = omega arith in
        minus_ge (a + d) (b + d) (omega arith) ∙ ap pos e ∙ sym (minus_ge a b l)
    go false h k =
        let l : a < b = k tt in
        let e : b + d - suc (a + d) ≡ b - suc a = omega arith in
        minus-lt (a + d) (b + d) (omega arith) ∙ ap negsuc e ∙ sym (minus-lt a b l)

pub odd_both : (D : ℕ) (s : Bool) (q k l d : ℕ) → odd D s q (k + d) (l + d) ≡ odd D s q k l
unfolding odd
odd_both D s zero k l d = refl
odd_both D s (suc q) k l d =
    let t = count_trailing_zeros D (suc q) in
    let e : k + d + t ≡ k + t + d = omega arith in
    ap (λ (x : ℕ). fin s (suc q / 2 ^ t) (minus x (l + d))) e ∙ ap (λ (x : ℤ). fin s (suc q / 2 ^ t) x) (minus_both (k + t) l d)

-- ---- patterns: a value's digits q and its exponent j, counted from the smallest value

fields_are : (s s' : Bool) (x x' t t' : ℕ) → s ≡ s' → x ≡ x' → t ≡ t' → of_fields binary64 s x t ≡ of_fields binary64 s' x' t'
fields_are s s' x x' t t' p q r = cc

pub of_bits_normal : (q j : ℕ) → 2 ^ 52 ≤ q → q < 2 ^ 53 → j < 2046 → of_bits binary64 (j * 2 ^ 52 + q) ≡ odd 53 false q j 1074
unfolding of_bits of_fields
of_bits_normal q j a b c =
    let w = j * 2 ^ 52 + q in
    let x : w % 2 ^ 63 / 2 ^ 52 ≡ suc j = omega arith in
    let t : w % 2 ^ 52 ≡ q - 2 ^ 52 = omega arith in
    let f : suc j ≡ 2047 → ⊥ = λ e. omega arith in
    let y : 2 ^ 52 + (q - 2 ^ 52) ≡ q = omega arith in
    fields_are (leb (2 ^ 63) w) false (w % 2 ^ 63 / 2 ^ 52) (suc j) (w % 2 ^ 52) (q - 2 ^ 52) (lt-leb (2 ^ 63) w (omega arith)) x t
    ∙ ap (λ (u : Bool). cond u (cond (eqb (q - 2 ^ 52) 0) (inf false) nan) (odd 53 false (2 ^ 52 + (q - 2 ^ 52)) j 1074)) (ne_eqb (suc j) 2047 f)
    ∙ ap (λ (u : ℕ). odd 53 false u j 1074) y

pub of_bits_low : (q : ℕ) → q < 2 ^ 52 → of_bits binary64 q ≡ odd 53 false q 0 1074
unfolding of_bits of_fields
of_bits_low q a =
    let x : q % 2 ^ 63 / 2 ^ 52 ≡ 0 = omega arith in
    let t : q % 2 ^ 52 ≡ q = omega arith in
    fields_are (leb (2 ^ 63) q) false (q % 2 ^ 63 / 2 ^ 52) 0 (q % 2 ^ 52) q (lt-leb (2 ^ 63) q (omega arith)) x t

-- ---- the root of a value that is a number of smallest values

pub root_of_val : (x : Float) (a : ℕ) → HasValue x false a (2 ^ 1074) → 0 < a → root_of x ≡ units_root a
unfolding root_of
root_of_val nan a v h = absurd v
root_of_val (inf s) a v h = absurd v
root_of_val (fin true m e) a v h = absurd (true≢false v.0)
root_of_val (fin false zero e) a v h =
    absurd (lt_irrefl 0 (subst (λ (x : ℕ). 0 < x) (sym v.1 ∙ ap (λ (x : ℕ). x * 2 ^ 1074) (zero-mul (up e)) ∙ zero-mul (2 ^ 1074)) (mul-pos h (down_pos e))))
root_of_val (fin false (suc m) e) a v h = ap units_root (ap (λ (x : ℕ). x / down e) v.1 ∙ mul-div_cancel a (down_pos e))

pub root_of_neg : (x : Float) (a : ℕ) → HasValue x true a (2 ^ 1074) → 0 < a → root_of x ≡ nan
unfolding root_of
root_of_neg nan a v h = absurd v
root_of_neg (inf s) a v h = absurd v
root_of_neg (fin false m e) a v h = absurd (false≢true v.0)
root_of_neg (fin true zero e) a v h =
    absurd (lt_irrefl 0 (subst (λ (x : ℕ). 0 < x) (sym v.1 ∙ ap (λ (x : ℕ). x * 2 ^ 1074) (zero-mul (up e)) ∙ zero-mul (2 ^ 1074)) (mul-pos h (down_pos e))))
root_of_neg (fin true (suc m) e) a v h = refl

-- ---- a positive finite pattern as a number of smallest values

pub units_of_low : (w : ℕ) → w < 2 ^ 52 → units_of w ≡ w
unfolding units_of
units_of_low w h = ap (λ (t : Bool). cond t w ((w % 2 ^ 52 + 2 ^ 52) * 2 ^ (w / 2 ^ 52 - 1))) (lt-ltb w (2 ^ 52) h)

pub units_of_normal : (w : ℕ) → 2 ^ 52 ≤ w → units_of w ≡ (w % 2 ^ 52 + 2 ^ 52) * 2 ^ (w / 2 ^ 52 - 1)
unfolding units_of
units_of_normal w h = ap (λ (t : Bool). cond t w ((w % 2 ^ 52 + 2 ^ 52) * 2 ^ (w / 2 ^ 52 - 1))) (le-ltb w (2 ^ 52) h)

pub root_of_pattern : (w : ℕ) → 0 < w → w < 0x7ff0_0000_0000_0000 → root_of (of_bits binary64 w) ≡ units_root (units_of w)
root_of_pattern w p h = go (ltb w (2 ^ 52)) (ltb→lt w (2 ^ 52)) (nltb→le w (2 ^ 52))
  where
    go : (b : Bool) → (T b → w < 2 ^ 52) → (T (not b) → 2 ^ 52 ≤ w) → root_of (of_bits binary64 w) ≡ units_root (units_of w)
    go true a b =
        let l : w < 2 ^ 52 = a tt in
        ap root_of (of_bits_low w l)
        ∙ root_of_val (odd 53 false w 0 1074) (w * 2 ^ 0) (odd_sign 53 false w 0 1074) (omega arith)
        ∙ ap units_root (mul-one w ∙ sym (units_of_low w l))
    go false a b =
        let l : 2 ^ 52 ≤ w = b tt in
        let q = w % 2 ^ 52 + 2 ^ 52 in
        let j = w / 2 ^ 52 - 1 in
        let e : w ≡ j * 2 ^ 52 + q = omega arith in
        ap (λ (x : ℕ). root_of (of_bits binary64 x)) e
        ∙ ap root_of (of_bits_normal q j (omega arith) (omega arith) (omega arith))
        ∙ root_of_val (odd 53 false q j 1074) (q * 2 ^ j) (odd_sign 53 false q j 1074) (mul-pos {m = q} (omega arith) (pow_pos j))
        ∙ ap units_root (sym (units_of_normal w l))

-- ---- what the code hands back: R is a number of 53 digits, and this is the pattern of R * 2 ^ F

pub record Answer (w h big_r : ℕ) : Type 0 where
  pub is : of_bits binary64 ((h + 485) * 2 ^ 52 + big_r) ≡ root_of (of_bits binary64 w)
  pub low : 2 ^ 52 ≤ big_r
  pub high : big_r < 2 ^ 53

pub answer : (w top h big_r : ℕ) → 0 < w → w < 0x7ff0_0000_0000_0000 → Placed w top h → Near (top * 2 ^ 42) big_r → Answer w h big_r
answer w top h big_r p q s n =
    let large : 2 ^ 62 ≤ top = s.large in
    let room : top + 2048 ≤ 2 ^ 64 = s.room in
    let few : h < 1100 = s.few in
    let low : 2 ^ 52 ≤ big_r = near_low _ _ n (omega arith) in
    let high : big_r < 2 ^ 53 = near_high _ _ n (omega arith) in
    record {
      is = of_bits_normal big_r (h + 485) low high (omega arith)
          ∙ odd_both 53 false big_r h 589 485
          ∙ sym (root_of_pattern w p q ∙ units_root_is (units_of w) top h big_r s.is large (omega arith) n);
      low = low;
      high = high;
    }
