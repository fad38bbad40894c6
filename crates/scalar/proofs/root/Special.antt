-- The root of each pattern that is not positive and finite. Assumes nothing.
use Rattle.std.proofs.Common.{◌≡◌, ℕ, zero, suc, ◌+◌, ◌*◌, ◌/◌, ◌%◌, ◌^◌, ◌<◌, ◌≤◌, Bool, true, false, cond, not, T}
use Rattle.std.proofs.Common.{eqb, leb, ◌≢◌, sym, refl, ap, ◌∙◌, mul-pos, arith, leb→le, pow_pos, le-leb}
use lib.Dec.{nleb→lt}
use lib.Ieee.{Float, nan, inf, odd, binary64, of_bits, of_fields, to_bits, fits, is_nan, nan_bits}
use lib.Ieee.Exact.{odd_sign}
use Rattle.scalar.specs.Root.{root_of, root_bits}
use Rattle.scalar.proofs.Patterns.{only_nan, read_nan, nan_pattern, to_bits-nan, back}
use Rattle.scalar.proofs.root.Units.{root_of_neg}

-- ---- NaN

root_nan : root_of nan ≡ nan
unfolding root_of
root_nan = refl

-- a NaN pattern gives the pattern that NaN is written by
pub nan_bits_root : (w : ℕ) → T (nan_bits binary64 w) → root_bits w ≡ 0x7ff8_0000_0000_0000
unfolding root_bits
nan_bits_root w t = ap (λ x. to_bits binary64 (root_of x)) (read_nan w t) ∙ ap (to_bits binary64) root_nan ∙ to_bits-nan

pub bits_root : (w : ℕ) → to_bits binary64 (root_of (of_bits binary64 w)) ≡ root_bits w
unfolding root_bits
bits_root w = refl

-- what the check of `sqrt_bits` takes
pub ruleset in_bits = (bits_root, nan_bits_root)

pub nan_root : (x : Float) → is_nan x ≡ true → root_of x ≡ nan
nan_root x e = ap root_of (only_nan x e) ∙ root_nan

-- ---- the patterns that are their own roots

pub own_root : (x : Float) (w : ℕ) → T (fits binary64 x) → to_bits binary64 x ≡ w → root_of (of_bits binary64 w) ≡ of_bits binary64 w → x ≡ root_of x
own_root x w h e r = let b = back x w h e in b ∙ sym r ∙ ap root_of (sym b)

pub root_zero : root_of (of_bits binary64 0) ≡ of_bits binary64 0
unfolding root_of of_bits
root_zero = refl

pub root_minus_zero : root_of (of_bits binary64 (2 ^ 63)) ≡ of_bits binary64 (2 ^ 63)
unfolding root_of of_bits
root_minus_zero = refl

pub root_infinity : root_of (of_bits binary64 0x7ff0_0000_0000_0000) ≡ of_bits binary64 0x7ff0_0000_0000_0000
unfolding root_of of_bits
root_infinity = refl

-- ---- below zero

negative_fields : (f t : ℕ) → 0 < f + t → root_of (of_fields binary64 true f t) ≡ nan
unfolding of_fields
negative_fields zero t h = root_of_neg (odd 53 true t 0 1074) (t * 2 ^ 0) (odd_sign 53 true t 0 1074) (omega arith)
negative_fields (suc f) t h = go (eqb (suc f) 2047) (eqb t 0)
  where
    go : (a b : Bool) → root_of (cond a (cond b (inf true) nan) (odd 53 true (2 ^ 52 + t) f 1074)) ≡ nan
    go true true = unfold root_of in refl
    go true false = unfold root_of in refl
    go false b = root_of_neg (odd 53 true (2 ^ 52 + t) f 1074) ((2 ^ 52 + t) * 2 ^ f) (odd_sign 53 true (2 ^ 52 + t) f 1074)
        (mul-pos {m = 2 ^ 52 + t} (omega arith) (pow_pos f))

negative : (w : ℕ) → 2 ^ 63 < w → w < 2 ^ 64 → root_of (of_bits binary64 w) ≡ nan
unfolding of_bits
negative w a b =
    ap (λ (s : Bool). root_of (of_fields binary64 s (w % 2 ^ 63 / 2 ^ 52) (w % 2 ^ 52))) (le-leb (2 ^ 63) w (omega arith))
    ∙ negative_fields (w % 2 ^ 63 / 2 ^ 52) (w % 2 ^ 52) (omega arith)

pub root_else : (w : ℕ) → 0x7ff0_0000_0000_0000 < w → w ≢ 2 ^ 63 → w < 2 ^ 64 → root_of (of_bits binary64 w) ≡ nan
root_else w a b c = go (leb (2 ^ 63) w) (leb→le (2 ^ 63) w) (nleb→lt (2 ^ 63) w)
  where
    go : (t : Bool) → (T t → 2 ^ 63 ≤ w) → (T (not t) → w < 2 ^ 63) → root_of (of_bits binary64 w) ≡ nan
    go true h k = let l : 2 ^ 63 ≤ w = h tt in negative w (omega arith) c
    go false h k = let l : w < 2 ^ 63 = k tt in ap root_of (nan_pattern w (omega arith)) ∙ root_nan
