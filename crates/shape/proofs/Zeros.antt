-- Zeros that stay zeros: +0 put somewhere, a multiple of a zero, and of two entries at least one. Assumes nothing.
use Prim.Native.Nat.{ℕ, zero, suc, ◌*◌, ◌<◌}
use mathlib.Core.Bool.{Bool, true, false, beq, ◌||◌, false≢true}
use mathlib.Core.Path.{◌≡◌, refl, sym, ap, ◌∙◌}
use mathlib.Core.List.{List}
use native.Mathlib.Decide.{dec_lt}
use native.Mathlib.Omega.{arith}
use lib.ListN.{length, set, get_or-eq_default}
use lib.Seq.{get_or-set_same, get_or-set_other}
use lib.IntN.{ℤ}
use lib.Ieee.{Float, nan, inf, fin, binary64, of_bits, eq, mul, up, down, unlike}
use lib.Ieee.Fits.{up_pos, down_pos}
use lib.Pow.{pow_pos}
use Rattle.matrix.proofs.Fitting.{both}
use native.Mathlib.Nat.{mul-pos, zero-lt-suc, zero-mul}
use borrow.Author.Tests.{eqb-true}
use lib.Ieee.Exact.{HasValue, round_exact}
use Rattle.loops.specs.Rounded.{◌⊗◌, ◌!◌}
use Rattle.scalar.specs.Class.{is_zero, is_finite}
use Rattle.loops.specs.Constants.{zero as zero_f}

pub zero_is : is_zero zero_f ≡ true
unfolding eq of_bits
zero_is = refl

nan_is_not : is_zero nan ≡ false
unfolding eq
nan_is_not = refl

inf_is_not : (s : Bool) → is_zero (inf s) ≡ false
unfolding eq of_bits
inf_is_not s = refl

-- ---- of two at least one

pub either_first : (a b : Bool) → a ≡ true → (a || b) ≡ true
either_first a b h = rw h

pub either_second : (a b : Bool) → b ≡ true → (a || b) ≡ true
either_second true b h = refl
either_second false b h = h

pub either_keeps : (a b c d : Bool) → (a ≡ true → c ≡ true) → (b ≡ true → d ≡ true) → (a || b) ≡ true → (c || d) ≡ true
either_keeps true b c d f g h = either_first c d (f refl)
either_keeps false b c d f g h = either_second c d (g h)

-- ---- +0 put somewhere

pub put_there : (t : List Float) (p : ℕ) → p < length t → is_zero (set t p zero_f ! p) ≡ true
put_there t p l = ap is_zero (get_or-set_same t p zero_f nan l) ∙ zero_is

-- every zero is still one
pub put_keeps : (t : List Float) (p q : ℕ) → is_zero (t ! q) ≡ true → is_zero (set t p zero_f ! q) ≡ true
put_keeps t p q h = go (dec_lt q p) (dec_lt p q) (dec_lt p (length t))
  where
    other : (q ≡ p → ⊥) → is_zero (set t p zero_f ! q) ≡ true
    other d = ap is_zero (get_or-set_other t p q zero_f nan d) ∙ h

    go : Dec (q < p) → Dec (p < q) → Dec (p < length t) → is_zero (set t p zero_f ! q) ≡ true
    go (yes a) b c = other (λ e. omega arith)
    go (no a) (yes b) c = other (λ e. omega arith)
    go (no a) (no b) (yes c) = let e : q ≡ p = omega arith in rw e (put_there t p c)
    go (no a) (no b) (no c) = absurd (false≢true (sym nan_is_not ∙ sym (ap is_zero (get_or-eq_default t nan {n = q} (omega arith))) ∙ h))

-- ---- multiples of a zero

none_of : (m : ℕ) (e : ℤ) (c : ℕ) → 0 < c → m * up e * c ≡ 0 → m ≡ 0
none_of zero e c l h = refl
none_of (suc m) e c l h = absurd (omega (arith, h, mul-pos (mul-pos (zero-lt-suc m) (up_pos e)) l))

-- the value of a zero is 0
zero_value : (s : Bool) (m : ℕ) (e : ℤ) → is_zero (fin s m e) ≡ true → m ≡ 0
unfolding eq of_bits
zero_value s m e h =
    let q : m * up e * 1 ≡ 0 * 1 * down e = eqb-true _ _ (both _ _ h).0 in
    none_of m e 1 (omega arith) (q ∙ ap (λ x. x * down e) (zero-mul 1) ∙ zero-mul (down e))

value_zero : (x : Float) (s : Bool) (c : ℕ) → 0 < c → HasValue x s 0 c → is_zero x ≡ true
unfolding eq of_bits
value_zero nan s c l v = absurd v
value_zero (inf t) s c l v = absurd v
value_zero (fin t m e) s c l v =
    let q : m ≡ 0 = none_of m e c l (v.1 ∙ zero-mul (down e)) in
    rw (q, zero-mul (up e), zero-mul (down e)) (either_second (beq t false) true refl)

-- a zero times a number that is finite
pub times_keeps : (x y : Float) → is_finite y ≡ true → is_zero x ≡ true → is_zero (x ⊗ y) ≡ true
unfolding mul is_finite
times_keeps nan y h k = absurd (false≢true (sym nan_is_not ∙ k))
times_keeps (inf s) y h k = absurd (false≢true (sym (inf_is_not s) ∙ k))
times_keeps (fin s m e) nan h k = absurd (false≢true h)
times_keeps (fin s m e) (inf t) h k = absurd (false≢true h)
times_keeps (fin s m e) (fin t n d) h k =
    let q : m * up e * (n * up d) ≡ 0 = rw (zero_value s m e k, zero-mul) (zero-mul (n * up d)) in
    let c : 0 < down e * down d = mul-pos (down_pos e) (down_pos d) in
    let exact = round_exact binary64 (unlike s t) 0 (down e * down d) 0 0 c (pow_pos 53) (pow_pos 2098) (sym (zero-mul (down e * down d))) in
    rw q (value_zero _ (unlike s t) (down e * down d) c exact)
