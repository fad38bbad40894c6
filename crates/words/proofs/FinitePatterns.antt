-- Which patterns are of finite floats, by the test that the code makes. Assumes nothing.
use Prim.Native.Nat.{ℕ, zero, suc, ◌+◌, ◌/◌, ◌%◌, ◌^◌, ◌≤◌, ◌<◌}
use mathlib.Core.Path.{◌≡◌, refl, sym, ap, ◌∙◌}
use mathlib.Core.Bool.{Bool, true, false, not, cond}
use native.Mathlib.Decide.{dec_lt}
use native.Mathlib.Omega.{arith}
use borrow.Author.Tests.{eq-eqb, ne_eqb, lt-ltb, le-ltb}
use lib.Dec.{eqb, ltb, leb}
use lib.Ieee.{Float, nan, inf, prec, low, binary64, hid, odd, of_fields, of_bits}
use Rattle.scalar.specs.Class.{is_finite}

-- a number made of digits is finite
odd_finite : (d : ℕ) (s : Bool) (q k l : ℕ) → is_finite (odd d s q k l) ≡ true
unfolding odd is_finite
odd_finite d s zero k l = refl
odd_finite d s (suc q) k l = refl

-- the two tests that `of_fields` makes: the exponent's field is all ones; the digits' field is 0
by_field : (a b s : Bool) (x : Float) → is_finite x ≡ true → is_finite (cond a (cond b (inf s) nan) x) ≡ not a
unfolding is_finite
by_field true true s x h = refl
by_field true false s x h = refl
by_field false b s x h = h

fields_finite : (s : Bool) (x t : ℕ) → is_finite (of_fields binary64 s x t) ≡ not (eqb x 2047)
unfolding of_fields
fields_finite s zero t = odd_finite (prec binary64) s t 0 (low binary64)
fields_finite s (suc x) t = by_field (eqb (suc x) 2047) (eqb t 0) s _ (odd_finite (prec binary64) s (hid binary64 + t) x (low binary64))

-- the exponent's eleven bits are all ones from 7FF0000000000000 on
all_ones : (r : ℕ) → r < 2 ^ 63 → not (eqb (r / 2 ^ 52) 2047) ≡ ltb r 0x7ff0_0000_0000_0000
all_ones r h = go (dec_lt r 0x7ff0_0000_0000_0000)
  where
    go : Dec (r < 0x7ff0_0000_0000_0000) → not (eqb (r / 2 ^ 52) 2047) ≡ ltb r 0x7ff0_0000_0000_0000
    go (yes l) = ap not (ne_eqb (r / 2 ^ 52) 2047 (λ e. omega arith)) ∙ sym (lt-ltb _ _ l)
    go (no l) = ap not (eq-eqb (r / 2 ^ 52) 2047 (omega arith)) ∙ sym (le-ltb r 0x7ff0_0000_0000_0000 (omega arith))

pub pattern_finite : (w : ℕ) → is_finite (of_bits binary64 w) ≡ ltb (w % 2 ^ 63) 0x7ff0_0000_0000_0000
unfolding of_bits
pattern_finite w = fields_finite (leb (2 ^ 63) w) (w % 2 ^ 63 / 2 ^ 52) (w % 2 ^ 52) ∙ all_ones (w % 2 ^ 63) (omega arith)

-- whatever test tells the patterns apart there
pub finite_by : (w : ℕ) (test : Bool) → (test ≡ true → w % 2 ^ 63 < 0x7ff0_0000_0000_0000) → (test ≡ false → 0x7ff0_0000_0000_0000 ≤ w % 2 ^ 63)
    → test ≡ is_finite (of_bits binary64 w)
finite_by w true below above = sym (pattern_finite w ∙ lt-ltb _ _ (below refl))
finite_by w false below above = sym (pattern_finite w ∙ le-ltb _ _ (above refl))
