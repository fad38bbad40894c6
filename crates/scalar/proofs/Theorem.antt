-- What the root of a positive finite value of binary64 is, in the words of the scope. Assumes nothing.
use Rattle.std.proofs.Common.{◌≡◌, ℕ, zero, suc, ◌+◌, ◌-◌, ◌*◌, ◌/◌, ◌%◌, ◌^◌, ◌<◌, ◌≤◌, true, false, ◌&&◌, T, eqb}
use Rattle.std.proofs.Common.{ltb, leb, ℤ, pos, negsuc, sym, refl, ap, ◌∙◌, subst, le_trans, le_of_eq, lt_of_lt_of_le}
use Rattle.std.proofs.Common.{le_of_suc-le-suc, lt_of_le_of_lt, lt_irrefl, zero-lt-suc, mul_assoc, div-lt_iff_lt-mul}
use Rattle.std.proofs.Common.{lt_of_mul-lt-mul_right, mul-lt-mul_of_pos_right, mul-pos, lt_of_not-le}
use Rattle.std.proofs.Common.{le-div_iff_mul-le, mul-one, mul_right_comm, not-le_of_lt, mul-div_cancel, arith, ltb→lt}
use Rattle.std.proofs.Common.{leb→le, pow_pos, pow_mono, pow-add, shl_lt}
use lib.Pow.{pow-lt}
use lib.Ieee.{Float, nan, inf, fin, up, down, size, odd, binary64, fits}
use lib.Ieee.Digits.{size-lt, size-le, size_reaches}
use lib.Ieee.Fits.{and_l, and_r, down_pos, odd-fits, nan-fits, inf-fits}
use lib.Ieee.Exact.{HasValue, odd_sign}
use Rattle.scalar.specs.Root.{scale_of, scaled_whole, units_root, root_of, whole_root}
use Rattle.scalar.specs.Rooted.{Near, Rooted}
use Rattle.scalar.proofs.root.Whole.{whole_root_near, near_low, near_high, in_words}
use Rattle.scalar.proofs.root.Units.{odd_both}

-- ---- the digits of n

size_pos : (n : ℕ) → 0 < n → 0 < size n
size_pos n h = lt_of_not-le (λ (g : size n ≤ 0). not-le_of_lt (lt_of_lt_of_le (size-lt n) (pow_mono g)) h)

even_below : (s : ℕ) → 0 < s → 2 * ((s - 1) / 2) < s
even_below s h = omega arith

even_above : (s : ℕ) → s ≤ 2 * ((s - 1) / 2) + 2
even_above s = omega arith

scale_of_lo : (n : ℕ) → 0 < n → 2 ^ (2 * scale_of n) ≤ n
unfolding scale_of
scale_of_lo n h = size_reaches n (2 * ((size n - 1) / 2)) (even_below (size n) (size_pos n h))

scale_of_hi : (n : ℕ) → n < 2 ^ (2 * scale_of n) * 4
unfolding scale_of
scale_of_hi n = lt_of_lt_of_le (size-lt n) (le_trans (pow_mono (even_above (size n))) (le_of_eq (pow-add 2 (2 * ((size n - 1) / 2)) 2)))

times104 : (n P : ℕ) → P ≤ n → 2 ^ 104 * P ≤ n * 2 ^ 104
times104 n P h = omega arith

times106 : (n P : ℕ) → n < P * 4 → n * 2 ^ 104 < 2 ^ 106 * P
times106 n P h = omega arith

scaled_lo : (n : ℕ) → 0 < n → 2 ^ 104 ≤ scaled_whole n
unfolding scaled_whole
scaled_lo n h = (le-div_iff_mul-le (pow_pos (2 * scale_of n))).1 (times104 n (2 ^ (2 * scale_of n)) (scale_of_lo n h))

scaled_hi : (n : ℕ) → scaled_whole n < 2 ^ 106
unfolding scaled_whole
scaled_hi n = (div-lt_iff_lt-mul (pow_pos (2 * scale_of n))).1 (times106 n (2 ^ (2 * scale_of n)) (scale_of_hi n))

-- ---- n = m * 2 ^ j with an m of 53 digits: the scaled number is whole

few : (s j : ℕ) → 0 < s → s ≤ 53 + j → 2 * ((s - 1) / 2) ≤ 52 + j
few s j p h = omega arith

scale_of_few : (m j : ℕ) → 0 < m * 2 ^ j → m < 2 ^ 53 → 2 * scale_of (m * 2 ^ j) ≤ 52 + j
unfolding scale_of
scale_of_few m j p h = few (size (m * 2 ^ j)) j (size_pos (m * 2 ^ j) p) (size-le (m * 2 ^ j) (53 + j) (shl_lt 53 j h))

-- so many zeros are put to m, 52 at least
zeros : ℕ → ℕ → ℕ
zeros m j = j + 104 - 2 * scale_of (m * 2 ^ j)

zeros_sum : (h j : ℕ) → 2 * h ≤ 52 + j → j + 104 - 2 * h + 2 * h ≡ j + 104
zeros_sum h j l = omega arith

scaled_exact : (m j : ℕ) → 0 < m * 2 ^ j → m < 2 ^ 53 → scaled_whole (m * 2 ^ j) ≡ m * 2 ^ zeros m j
unfolding scaled_whole zeros
scaled_exact m j p l =
    let h = scale_of (m * 2 ^ j) in
    let t = j + 104 - 2 * h in
    let e : m * 2 ^ j * 2 ^ 104 ≡ m * 2 ^ t * 2 ^ (2 * h) =
    mul_assoc m (2 ^ j) (2 ^ 104) ∙ ap (λ (x : ℕ). m * x) (sym (pow-add 2 j 104) ∙ ap (λ (x : ℕ). 2 ^ x) (sym (zeros_sum h j (scale_of_few m j p l)))
    ∙ pow-add 2 t (2 * h)) ∙ sym (mul_assoc m (2 ^ t) (2 ^ (2 * h))) in
    ap (λ (x : ℕ). x / 2 ^ (2 * h)) e ∙ mul-div_cancel (m * 2 ^ t) (pow_pos (2 * h))

scaled_back : (m j : ℕ) → 0 < m * 2 ^ j → m < 2 ^ 53 → scaled_whole (m * 2 ^ j) * 2 ^ (2 * scale_of (m * 2 ^ j)) ≡ m * 2 ^ j * 2 ^ 104
unfolding zeros
scaled_back m j p l =
    let h = scale_of (m * 2 ^ j) in
    let t = j + 104 - 2 * h in
    ap (λ (x : ℕ). x * 2 ^ (2 * h)) (scaled_exact m j p l)
    ∙ mul_assoc m (2 ^ t) (2 ^ (2 * h))
    ∙ ap (λ (x : ℕ). m * x) (sym (pow-add 2 t (2 * h)) ∙ ap (λ (x : ℕ). 2 ^ x) (zeros_sum h j (scale_of_few m j p l)) ∙ pow-add 2 j 104)
    ∙ sym (mul_assoc m (2 ^ j) (2 ^ 104))

roomy : (big_x m t : ℕ) → m < 2 ^ 53 → big_x < 2 ^ 106 → big_x ≡ m * 2 ^ (52 + t) → big_x + 2 ^ 53 ≤ 2 ^ 106
roomy big_x m zero l h e = let f : big_x ≡ m * 2 ^ 52 = e in omega arith
roomy big_x m (suc t) l h e =
    let a : 52 + suc t ≡ t + 53 = omega arith in
    let f : big_x ≡ m * (2 ^ t * 2 ^ 53) = rw (a, pow-add 2 t 53) at e in
    omega arith

at_52 : (h j : ℕ) → 2 * h ≤ 52 + j → 52 + (j + 52 - 2 * h) ≡ j + 104 - 2 * h
at_52 h j l = omega arith

scaled_room : (m j : ℕ) → 0 < m * 2 ^ j → m < 2 ^ 53 → scaled_whole (m * 2 ^ j) + 2 ^ 53 ≤ 2 ^ 106
unfolding zeros
scaled_room m j p l =
    let h = scale_of (m * 2 ^ j) in
    roomy (scaled_whole (m * 2 ^ j)) m (j + 52 - 2 * h) l (scaled_hi (m * 2 ^ j)) (scaled_exact m j p l
    ∙ ap (λ (x : ℕ). m * 2 ^ x) (sym (at_52 h j (scale_of_few m j p l))))

-- ---- a value that fits is m * 2 ^ j smallest values

pow_le_back : (a l : ℕ) → 2 ^ a ≤ 2 ^ l → a ≤ l
pow_le_back a l h = le_of_suc-le-suc (lt_of_not-le (λ (g : suc l ≤ a). lt_irrefl (2 ^ l) (lt_of_lt_of_le (pow-lt g) h)))

rejoin : (a : ℕ) → suc a ≤ 1074 → 1074 - suc a + suc a ≡ 1074
rejoin a h = omega arith

in_units : (m : ℕ) (e : ℤ) → down e ≤ 2 ^ 1074 → (j : ℕ) × (m * up e * 2 ^ 1074 ≡ m * 2 ^ j * down e)
in_units m (pos a) h = (a + 1074, mul_assoc m (2 ^ a) (2 ^ 1074) ∙ ap (λ (x : ℕ). m * x) (sym (pow-add 2 a 1074)) ∙ sym (mul-one (m * 2 ^ (a + 1074))))
in_units m (negsuc a) h =
    let l : suc a ≤ 1074 = pow_le_back (suc a) 1074 h in (
      1074 - suc a,
      ap (λ (x : ℕ). x * 2 ^ 1074) (mul-one m)
          ∙ ap (λ (x : ℕ). m * x) (ap (λ (x : ℕ). 2 ^ x) (sym (rejoin a l)) ∙ pow-add 2 (1074 - suc a) (suc a))
          ∙ sym (mul_assoc m (2 ^ (1074 - suc a)) (2 ^ suc a)),
    )

-- the value is below 2 ^ 1024, so h is below 1050
bound_scale : (n : ℕ) → 0 < n → n < 2 ^ 2098 → scale_of n < 1050
bound_scale n p h = small (scale_of n) (pow_lt_back (2 * scale_of n) 2098 (lt_of_le_of_lt (scale_of_lo n p) h))
  where
    small : (x : ℕ) → 2 * x < 2098 → x < 1050
    small x l = omega arith

    pow_lt_back : (i k : ℕ) → 2 ^ i < 2 ^ k → i < k
    pow_lt_back i k l = lt_of_not-le (λ (g : k ≤ i). lt_irrefl (2 ^ i) (lt_of_lt_of_le l (pow_mono g)))

-- ---- the theorem, of a value that is m * 2 ^ j smallest values

exponent : (h : ℕ) → h < 1050 → 53 + (h + 485) ≤ 2098
exponent h l = omega arith

units_root_fits : (big_r h : ℕ) → big_r < 2 ^ 53 → h < 1050 → T (fits binary64 (odd 53 false big_r h 589))
units_root_fits big_r h l k =
    subst (λ (x : Float). T (fits binary64 x)) (odd_both 53 false big_r h 589 485)
    (odd-fits binary64 53 false big_r (h + 485) l (omega arith) (lt_of_lt_of_le (shl_lt 53 (h + 485) l) (pow_mono (exponent h k))))

rooted : (x : Float) (m j : ℕ) → 0 < m * 2 ^ j → m < 2 ^ 53 → m * 2 ^ j < 2 ^ 2098 → HasValue x false (m * 2 ^ j * 2 ^ 104) (2 ^ 1178)
    → Rooted x (units_root (m * 2 ^ j))
unfolding units_root
rooted x m j p l b v =
    let n = m * 2 ^ j in
    let big_x = scaled_whole n in
    let big_r = whole_root big_x in
    let lo : 2 ^ 104 ≤ big_x = scaled_lo n p in
    let hi : big_x < 2 ^ 106 = scaled_hi n in
    let near : Near big_x big_r = whole_root_near big_x (omega arith) hi in
    let least : 2 ^ 52 ≤ big_r = near_low big_x big_r near lo in
    let most : big_r < 2 ^ 53 = near_high big_x big_r near (scaled_room m j p l) in
    let words = in_words big_x big_r (omega arith) near in
    record {
      big_x = big_x;
      big_r = big_r;
      scale = scale_of n;
      from = subst (λ (a : ℕ). HasValue x false a (2 ^ 1178)) (sym (scaled_back m j p l)) v;
      low = lo;
      high = hi;
      below = words.0;
      above = words.1;
      root = odd_sign 53 false big_r (scale_of n) 589;
      least = least;
      most = most;
      holds = units_root_fits big_r (scale_of n) most (bound_scale n p b);
    }

-- ---- and of any that fits

finite_below : (m j : ℕ) (e : ℤ) → m * up e * 2 ^ 1074 ≡ m * 2 ^ j * down e → m * up e < 2 ^ 1024 * down e → m * 2 ^ j < 2 ^ 2098
finite_below m j e u h =
    lt_of_mul-lt-mul_right (down e)
    (subst (λ (x : ℕ). x < 2 ^ 2098 * down e) u
    (subst (λ (x : ℕ). m * up e * 2 ^ 1074 < x) (mul_right_comm (2 ^ 1024) (down e) (2 ^ 1074)) (mul-lt-mul_of_pos_right h (pow_pos 1074))))

pub root_is : (m : ℕ) (e : ℤ) → T (fits binary64 (fin false (suc m) e)) → Rooted (fin false (suc m) e) (root_of (fin false (suc m) e))
unfolding fits root_of
root_is m e t =
    let a = eqb (suc m % 2) 1 in
    let b = ltb (suc m) (2 ^ 53) in
    let c = leb (down e) (2 ^ 1074) in
    let d = ltb (suc m * up e) (2 ^ 1024 * down e) in
    let u = in_units (suc m) e (leb→le (down e) (2 ^ 1074) (and_r (a && b) c (and_l (a && b && c) d t))) in
    let l : suc m < 2 ^ 53 = ltb→lt (suc m) (2 ^ 53) (and_r a b (and_l (a && b) c (and_l (a && b && c) d t))) in
    let s = ltb→lt (suc m * up e) (2 ^ 1024 * down e) (and_r (a && b && c) d t) in
    let n = suc m * 2 ^ u.0 in
    let q : suc m * up e * 2 ^ 1074 / down e ≡ n = ap (λ (x : ℕ). x / down e) u.1 ∙ mul-div_cancel n (down_pos e) in
    let v : suc m * up e * 2 ^ 1178 ≡ n * 2 ^ 104 * down e =
    ap (λ (x : ℕ). suc m * up e * x) (pow-add 2 1074 104) ∙ sym (mul_assoc (suc m * up e) (2 ^ 1074) (2 ^ 104)) ∙ ap (λ (x : ℕ). x * 2 ^ 104) u.1
    ∙ mul_right_comm n (down e) (2 ^ 104) in
    subst (λ (x : ℕ). Rooted (fin false (suc m) e) (units_root x)) (sym q)
    (rooted (fin false (suc m) e) (suc m) u.0 (mul-pos (zero-lt-suc m) (pow_pos u.0)) l (finite_below (suc m) u.0 e u.1 s) (refl, v))

-- so the root of any value of the format is one
pub root_of-fits : (x : Float) → T (fits binary64 x) → T (fits binary64 (root_of x))
unfolding root_of fits
root_of-fits nan t = nan-fits binary64
root_of-fits (inf true) t = nan-fits binary64
root_of-fits (inf false) t = inf-fits binary64 false
root_of-fits (fin s zero e) t = t
root_of-fits (fin true (suc m) e) t = nan-fits binary64
root_of-fits (fin false (suc m) e) t = (root_is m e t).holds
