-- Sign and magnitude by the pattern: the sign is its highest digit, and what is left without it is the magnitude's pattern. Assumes nothing.
use Rattle.std.proofs.Common.{◌≡◌, ℕ, zero, suc, ◌+◌, ◌*◌, ◌%◌, ◌^◌, ◌<◌, ◌≤◌, true, false, not, T, ℤ, refl, ap, ◌∙◌, true≢false, arith}
use lib.Ieee.{Float, nan, inf, fin, binary64, of_bits, to_bits, fits, is_nan, nan_bits}
use lib.Ieee.Bits.{nan_bits_is, of_bits-to_bits, to_bits-lt}
use Rattle.loops.specs.Tests.{falsity}
use Rattle.loops.specs.Constants.{one, minus_one}
use Rattle.scalar.specs.Sign.{modulus_of, signum_of}
use Rattle.scalar.proofs.Patterns.{only_nan}

no_nan_here : {A : Type 0} → is_nan nan ≡ false → A
unfolding is_nan
no_nan_here d = absurd (true≢false d)

-- what has the sign clear is below 2 ^ 63, since with the sign set it is still below 2 ^ 64
flipped : (m : ℕ) (e : ℤ) → T (fits binary64 (fin false m e)) → T (fits binary64 (fin true m e))
unfolding fits
flipped zero e t = t
flipped (suc m) e t = t

-- ---- NaN

pub own_sign : (x : Float) → is_nan x ≡ true → x ≡ signum_of x
unfolding signum_of
own_sign x e = let n = only_nan x e in rw n

pub own_modulus : (x : Float) → is_nan x ≡ true → x ≡ modulus_of x
unfolding modulus_of
own_modulus x e = let n = only_nan x e in rw n

-- ---- the sign

no_room : (a b : ℕ) → 2 ^ 63 + a + b < 2 ^ 63 → ⊥
no_room a b h = omega arith

pub sign_clear : (x : Float) → is_nan x ≡ false → to_bits binary64 x < 2 ^ 63 → one ≡ signum_of x
unfolding to_bits signum_of
sign_clear nan d h = no_nan_here d
sign_clear (inf true) d h = absurd (no_room 0x7ff0_0000_0000_0000 0 h)
sign_clear (inf false) d h = refl
sign_clear (fin true m e) d h = absurd (no_room _ _ h)
sign_clear (fin false m e) d h = refl

no_two : (a b : ℕ) → 2 ^ 63 ≤ 0 + a + b → 2 ^ 63 + a + b < 2 * 2 ^ 63 → ⊥
no_two a b h k = omega arith

pub sign_set : (x : Float) → T (fits binary64 x) → is_nan x ≡ false → 2 ^ 63 ≤ to_bits binary64 x → minus_one ≡ signum_of x
unfolding to_bits signum_of
sign_set nan t d h = no_nan_here d
sign_set (inf true) t d h = refl
sign_set (inf false) t d h = absurd (no_two 0x7ff0_0000_0000_0000 0 h (omega arith))
sign_set (fin true m e) t d h = refl
sign_set (fin false m e) t d h = absurd (no_two _ _ h (to_bits-lt binary64 (fin true m e) (flipped m e t)))

-- ---- the magnitude

pub modulus_fits : (x : Float) → T (fits binary64 x) → T (fits binary64 (modulus_of x))
unfolding fits modulus_of
modulus_fits nan t = tt
modulus_fits (inf s) t = tt
modulus_fits (fin s zero e) t = t
modulus_fits (fin s (suc m) e) t = t

set_off : (a b : ℕ) → 2 ^ 63 + a + b < 2 * 2 ^ 63 → (2 ^ 63 + a + b) % 2 ^ 63 ≡ 0 + a + b
set_off a b h = omega arith

stays : (a b : ℕ) → 2 ^ 63 + a + b < 2 * 2 ^ 63 → (0 + a + b) % 2 ^ 63 ≡ 0 + a + b
stays a b h = omega arith

-- the pattern without its highest digit
cut : (x : Float) → T (fits binary64 x) → is_nan x ≡ false → to_bits binary64 x % 2 ^ 63 ≡ to_bits binary64 (modulus_of x)
unfolding to_bits modulus_of
cut nan t d = no_nan_here d
cut (inf true) t d = refl
cut (inf false) t d = refl
cut (fin true m e) t d = set_off _ _ (to_bits-lt binary64 (fin true m e) t)
cut (fin false m e) t d = stays _ _ (to_bits-lt binary64 (fin true m e) (flipped m e t))

pub modulus_back : (x : Float) → T (fits binary64 x) → is_nan x ≡ false → of_bits binary64 (to_bits binary64 x % 2 ^ 63) ≡ modulus_of x
modulus_back x t d = ap (of_bits binary64) (cut x t d) ∙ of_bits-to_bits binary64 (modulus_of x) (modulus_fits x t)

no_nan : (x : Float) → is_nan x ≡ false → is_nan (modulus_of x) ≡ false
unfolding is_nan modulus_of
no_nan nan d = no_nan_here d
no_nan (inf s) d = refl
no_nan (fin s m e) d = refl

pub modulus_pattern : (x : Float) → T (fits binary64 x) → is_nan x ≡ false → T (not (nan_bits binary64 (to_bits binary64 x % 2 ^ 63)))
modulus_pattern x t d = falsity (nan_bits_is binary64 (to_bits binary64 x % 2 ^ 63) ∙ ap is_nan (modulus_back x t d) ∙ no_nan x d)

-- ---- what the checks of `signum` and `modulus` take

pub ruleset by_sign = (own_sign, sign_clear, sign_set)

pub ruleset by_pattern = (own_modulus, modulus_back, modulus_pattern)
