-- The axis by its ways, told of the numbers that a routine has in hand. Assumes nothing.
use mathlib.Core.Path.{◌≡◌, refl, sym, ap, ◌∙◌}
use mathlib.Core.Logic.{◌≢◌}
use Prim.Native.Nat.{ℕ, zero, suc, ◌<◌}
use mathlib.Core.Bool.{Bool, true, false, cond, ◌&&◌, false≢true}
use mathlib.Core.List.{List}
use native.Mathlib.Decide.{dec_lt}
use native.Mathlib.Omega.{arith}
use borrow.Author.Tests.{eq-eqb, ne_eqb}
use lib.Dec.{eqb}
use lib.ListN.{length, set, length-set}
use lib.Ieee.{Float, neg}
use Rattle.loops.specs.Constants.{two}
use Rattle.loops.specs.Constants.{zero as zero_f}
use Rattle.loops.specs.Rounded.{◌⊕◌, ◌⊗◌, ◌!◌}
use Rattle.loops.specs.Times.{times}
use Rattle.scalar.specs.Root.{root_of}
use Rattle.scalar.specs.Sign.{to_exp_of}
use Rattle.scalar.specs.Class.{is_zero}
use Rattle.matrix.specs.Sum.{Order}
use Rattle.matrix.specs.Vectors.{norm_squared, norm_of, unscaled, normalized}
use Rattle.matrix.proofs.Each.{each_to-length}
use Rattle.householder.specs.Axis.{axis_answer, signed_norm, factor_of, shifted, Way, way_reflected, way_all_zero}
use Rattle.householder.specs.Axis.{way_too_small, all_zero, way_of, in_way, axis_of}

-- a column without a number
pub axis_empty : (sum : Order) (c : List Float) → length c ≡ 0 → axis_answer c zero_f false ≡ axis_of sum c
unfolding axis_of
axis_empty sum c h = rw (eq-eqb _ _ h)

-- "all zero" and "too small" are told alike
alike : (sum : Order) (c : List Float) (b : Bool) → in_way sum c (cond b way_all_zero way_too_small) ≡ axis_answer (shifted sum c) (signed_norm sum c) false
unfolding in_way
alike sum c true = refl
alike sum c false = refl

-- a column with a number, by whether its factor is zero
axis_by : (sum : Order) (c : List Float) (b : Bool) → length c ≢ 0 → is_zero (factor_of sum c) ≡ b
    → axis_of sum c ≡ in_way sum c (cond b (cond (all_zero c) way_all_zero way_too_small) way_reflected)
unfolding axis_of way_of
axis_by sum c b h z =
    let here : axis_of sum c ≡ in_way sum c (way_of sum c) = rw (ne_eqb _ _ h) in
    let way : way_of sum c ≡ cond b (cond (all_zero c) way_all_zero way_too_small) way_reflected = ap (λ b. cond b (cond (all_zero c) way_all_zero way_too_small) way_reflected) z in
    here ∙ ap (in_way sum c) way

-- x is the signed norm, and f the factor, of a column with a number
pub record Measured (sum : Order) (c : List Float) (x f : Float) : Type 0 where
  pub some : length c ≢ 0
  pub norm : x ≡ signed_norm sum c
  pub factor : f ≡ factor_of sum c

-- as the routine `shift` makes them, of the sum of the squares and the first number
pub measured : (sum : Order) (c : List Float) (sq x f : Float) → length c ≢ 0 → sq ≡ norm_squared sum c
    → (x ≡ (to_exp_of (c ! 0)).sign ⊗ root_of sq) × (f ≡ (sq ⊕ (to_exp_of (c ! 0)).magnitude ⊗ root_of sq) ⊗ two) → Measured sum c x f
unfolding signed_norm factor_of norm_of
measured sum c sq x f h a m = record { some = h; norm = m.0 ∙ rw a; factor = m.1 ∙ rw a }

-- no reflection: the factor is zero
pub axis_none : {sum : Order} {c : List Float} {x f : Float} → Measured sum c x f → is_zero f ≡ true → axis_answer (set c 0 ((c ! 0) ⊕ x)) x false ≡ axis_of sum c
unfolding shifted
axis_none {sum} {c} {x} {f} m z = sym (axis_by sum c true m.some (rw (← m.factor) z) ∙ alike sum c (all_zero c) ∙ rw m.norm)

-- a reflection: the factor is not zero
pub axis_made : {sum : Order} {c : List Float} {x f : Float} → Measured sum c x f → is_zero f ≡ false
    → axis_answer (normalized sum (unscaled (root_of f) (set c 0 ((c ! 0) ⊕ x)))) (neg x) true ≡ axis_of sum c
unfolding shifted in_way
axis_made {sum} {c} {x} {f} m z = sym (axis_by sum c false m.some (rw (← m.factor) z) ∙ rw (m.norm, m.factor))

-- ---- the axis is as long as its column

shifted-length : (sum : Order) (c : List Float) → length (shifted sum c) ≡ length c
unfolding shifted
shifted-length sum c = simp length-set

in_way-length : (sum : Order) (c : List Float) (w : Way) → length (in_way sum c w).axis ≡ length c
unfolding in_way normalized unscaled
in_way-length sum c way_reflected = each_to-length _ _ _ ∙ each_to-length _ _ _ ∙ shifted-length sum c
in_way-length sum c way_all_zero = shifted-length sum c
in_way-length sum c way_too_small = shifted-length sum c

pub axis_length : (sum : Order) (c : List Float) → length (axis_of sum c).axis ≡ length c
unfolding axis_of
axis_length sum c = go (eqb (length c) 0)
  where
    go : (b : Bool) → length (cond b (axis_answer c zero_f false) (in_way sum c (way_of sum c))).axis ≡ length c
    go true = refl
    go false = in_way-length sum c (way_of sum c)

-- ---- a column that is zero throughout

zeros_to : (c : List Float) (n i : ℕ) → times (λ i b. b && is_zero (c ! i)) n true ≡ true → i < n → is_zero (c ! i) ≡ true
unfolding times
zeros_to c zero i h l = absurd (omega arith)
zeros_to c (suc n) i h l = go (dec_lt i n) (times (λ i b. b && is_zero (c ! i)) n true) refl (zeros_to c n i) h
  where
    go : Dec (i < n) → (b : Bool) → times (λ i b. b && is_zero (c ! i)) n true ≡ b
        → (times (λ i b. b && is_zero (c ! i)) n true ≡ true → i < n → is_zero (c ! i) ≡ true) → b && is_zero (c ! n) ≡ true → is_zero (c ! i) ≡ true
    go d false e later k = absurd (false≢true k)
    go (yes m) true e later k = later e m
    go (no m) true e later k = let q : i ≡ n = omega arith in rw q k

-- the way "all zero" says so
pub way_zero : (sum : Order) (c : List Float) (i : ℕ) → way_of sum c ≡ way_all_zero → i < length c → is_zero (c ! i) ≡ true
unfolding way_of all_zero
way_zero sum c i e l = zeros_to c (length c) i (go (is_zero (factor_of sum c)) (all_zero c) e) l
  where
    go : (f z : Bool) → cond f (cond z way_all_zero way_too_small) way_reflected ≡ way_all_zero → z ≡ true
    go true true h = refl
    go true false h = cc
    go false z h = cc

-- a column with a number is told by its way
pub axis_way : (sum : Order) (c : List Float) → 0 < length c → axis_of sum c ≡ in_way sum c (way_of sum c)
unfolding axis_of
axis_way sum c l = rw (ne_eqb (length c) 0 (λ e. omega arith))
