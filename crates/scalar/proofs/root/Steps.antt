-- What the loops and tests of the root's functions come to, in plain numbers: digit by digit, a subnormal number lifted, a normal one placed.
-- Assumes nothing.
use Rattle.std.proofs.Common.{◌≡◌, ℕ, zero, suc, ◌+◌, ◌-◌, ◌*◌, ◌/◌, ◌%◌, ◌^◌, ◌<◌, ◌≤◌, ◌≢◌, sym, refl, ap, ◌∙◌}
use Rattle.std.proofs.Common.{subst, lt_of_lt_of_le, mul-le-mul, arith, pow_mono, pow-add}
use Rattle.scalar.specs.Rooted.{Near}
use Rattle.scalar.specs.Inner.{Placed}
use Rattle.scalar.proofs.root.Units.{units_of_low, units_of_normal}

-- ---- digit by digit: after k digits the whole part of S * 4 ^ k / 2 ^ 64 is root * root + rem
pub record Digits (S left rem root k : ℕ) : Type 0 where
  pub few : k ≤ 53
  pub small : left < 2 ^ 64
  pub rest : rem ≤ 2 * root
  pub short : root < 2 ^ k
  pub bound : root < 2 ^ 53
  pub is : S * 4 ^ k ≡ (root * root + rem) * 2 ^ 64 + left

pub digits_none : (S : ℕ) → S < 2 ^ 64 → Digits S S 0 0 0
digits_none S h = record { few = omega arith; small = h; rest = omega arith; short = omega arith; bound = omega arith; is = omega arith }

bound_of : (k r : ℕ) → k ≤ 53 → r < 2 ^ k → r < 2 ^ 53
bound_of k r h l = lt_of_lt_of_le l (pow_mono h)

-- a turn takes two digits of S into the root's square and what is left of it
turn : (S left rem root k root' rem' : ℕ) → Digits S left rem root k → k < 53 → root' ≤ root * 2 + 1 → rem' ≤ 2 * root'
    → root' * root' + rem' ≡ (root * root + rem) * 4 + left / 2 ^ 62
    → Digits S (left % 2 ^ 62 * 4) rem' root' (k + 1)
turn S left rem root k root' rem' d h b r q =
    let e : 2 ^ (k + 1) ≡ 2 ^ k * 2 = pow-add 2 k 1 in
    let f : 4 ^ (k + 1) ≡ 4 ^ k * 4 = pow-add 4 k 1 in
    let s : root' < 2 ^ (k + 1) = omega arith in
    let i : S * 4 ^ k ≡ (root * root + rem) * 2 ^ 64 + left = d.is in
    record { few = omega arith; small = omega arith; rest = r; short = s; bound = bound_of (k + 1) root' (omega arith) s; is = rw f (omega arith) }

pub digits_one : (S left rem root k : ℕ) → Digits S left rem root k → k < 53 → root * 4 + 1 ≤ rem * 4 + left / 2 ^ 62
    → Digits S (left % 2 ^ 62 * 4) (rem * 4 + left / 2 ^ 62 - (root * 4 + 1)) (root * 2 + 1) (k + 1)
digits_one S left rem root k d h t =
    turn S left rem root k (root * 2 + 1) (rem * 4 + left / 2 ^ 62 - (root * 4 + 1)) d h (omega arith) (omega arith) (omega arith)

pub digits_zero : (S left rem root k : ℕ) → Digits S left rem root k → k < 53 → rem * 4 + left / 2 ^ 62 < root * 4 + 1
    → Digits S (left % 2 ^ 62 * 4) (rem * 4 + left / 2 ^ 62) (root * 2) (k + 1)
digits_zero S left rem root k d h t = turn S left rem root k (root * 2) (rem * 4 + left / 2 ^ 62) d h (omega arith) (omega arith) (omega arith)

whole_part : (S A left : ℕ) → left < 2 ^ 64 → S * 4 ^ 53 ≡ A * 2 ^ 64 + left → S * 2 ^ 42 ≡ A
whole_part S A left h e = omega arith

pub digits_all : (S left rem root k : ℕ) → Digits S left rem root k → 53 ≤ k → S * 2 ^ 42 ≡ root * root + rem
digits_all S left rem root k d h =
    let e : k ≡ 53 = omega arith in
    whole_part S (root * root + rem) left d.small (subst (λ (x : ℕ). S * 4 ^ x ≡ (root * root + rem) * 2 ^ 64 + left) e d.is)

-- ---- the nearest, from the whole part and what is left
pub rest_up : (big_x root rem : ℕ) → big_x ≡ root * root + rem → rem ≤ 2 * root → root < rem → Near big_x (root + 1)
rest_up big_x root rem e h l = record { below = omega arith; above = omega arith }

pub rest_down : (big_x root rem : ℕ) → 0 < big_x → big_x ≡ root * root + rem → rem ≤ root → Near big_x root
rest_down big_x zero rem p e l = let z : rem ≡ 0 = omega arith in let x : big_x ≡ 0 = omega arith in record { below = omega arith; above = omega arith }
rest_down big_x (suc root) rem p e l = record { below = omega arith; above = omega arith }

-- ---- below the normal numbers
pub record Lift (w top h : ℕ) : Type 0 where
  pub is : w * 2 ^ 62 ≡ top * 2 ^ (2 * h)
  pub some : 0 < top
  pub tens : top % 1024 ≡ 0
  pub room : top + 2048 ≤ 2 ^ 64
  pub few : h ≤ 26

pub lift_none : (w : ℕ) → 0 < w → w < 2 ^ 52 → Lift w (w * 1024) 26
lift_none w p h = record { is = omega arith; some = omega arith; tens = omega arith; room = omega arith; few = omega arith }

pub lift_left : (w top h : ℕ) → 0 < w → Lift w top h → top < 2 ^ 62 → 1 ≤ h
lift_left w top zero p l s = let e : w * 2 ^ 62 ≡ top * 2 ^ (2 * 0) = l.is in omega arith
lift_left w top (suc h) p l s = omega arith

pub lift_more : (w top h : ℕ) → 0 < w → Lift w top h → top < 2 ^ 62 → Lift w (top * 4) (h - 1)
lift_more w top zero p l s = let z : 1 ≤ 0 = lift_left w top zero p l s in absurd (no z)
  where
    no : 1 ≤ 0 → ⊥
    no h = omega arith
lift_more w top (suc h) p l s =
    let a : 2 * suc h ≡ 2 * h + 2 = omega arith in
    let b : suc h - 1 ≡ h = omega arith in
    let e : w * 2 ^ 62 ≡ top * (2 ^ (2 * h) * 4) = rw (a, pow-add 2 (2 * h) 2) at l.is in
    record { is = rw b (omega arith); some = omega arith; tens = omega arith; room = omega arith; few = omega arith }

pub lift_all : (w top h : ℕ) → w < 2 ^ 52 → Lift w top h → 2 ^ 62 ≤ top → Placed w top h
lift_all w top h q l s = record { is = rw (units_of_low w q) l.is; large = s; room = l.room; few = omega arith }

-- ---- a normal number
pub placed_even : (w k : ℕ) → w < 0x7ff0_0000_0000_0000 → 2 ^ 52 ≤ w → k ≡ w / 2 ^ 52 - 1 → k % 2 ≡ 0 → Placed w ((w % 2 ^ 52 + 2 ^ 52) * 1024) (k / 2 + 26)
placed_even w k u v e z =
    let q = w % 2 ^ 52 + 2 ^ 52 in
    let a : 2 * (k / 2 + 26) ≡ k + 52 = omega arith in
    let b : q * 2 ^ k * 2 ^ 62 ≡ q * 1024 * (2 ^ k * 2 ^ 52) = omega arith in
    record { is = rw (units_of_normal w v, a, pow-add 2 k 52, ← e) b; large = omega arith; room = omega arith; few = omega arith }

pub placed_odd : (w k : ℕ) → w < 0x7ff0_0000_0000_0000 → 2 ^ 52 ≤ w → k ≡ w / 2 ^ 52 - 1 → k % 2 ≢ 0 → Placed w ((w % 2 ^ 52 + 2 ^ 52) * 2048) (k / 2 + 26)
placed_odd w k u v e z =
    let q = w % 2 ^ 52 + 2 ^ 52 in
    let a : 2 * (k / 2 + 26) + 1 ≡ k + 52 = omega arith in
    let p : 2 ^ (2 * (k / 2 + 26)) * 2 ≡ 2 ^ k * 2 ^ 52 = sym (pow-add 2 (2 * (k / 2 + 26)) 1) ∙ ap (λ (x : ℕ). 2 ^ x) a ∙ pow-add 2 k 52 in
    let b : q * 2 ^ k * 2 ^ 62 ≡ q * 1024 * (2 ^ k * 2 ^ 52) = omega arith in
    let c : q * 1024 * (2 ^ (2 * (k / 2 + 26)) * 2) ≡ q * 2048 * 2 ^ (2 * (k / 2 + 26)) = omega arith in
    record { is = rw (units_of_normal w v, ← e) (b ∙ ap (λ (x : ℕ). q * 1024 * x) (sym p) ∙ c); large = omega arith; room = omega arith; few = omega arith }

-- either way, with no branch
pub placed_both : (w k : ℕ) → w < 0x7ff0_0000_0000_0000 → 2 ^ 52 ≤ w → k ≡ w / 2 ^ 52 - 1
    → Placed w ((w % 2 ^ 52 + 2 ^ 52) * (k % 2 * 1024 + 1024)) (k / 2 + 26)
placed_both w k u v e = go (k % 2) refl
  where
    go : (b : ℕ) → k % 2 ≡ b → Placed w ((w % 2 ^ 52 + 2 ^ 52) * (k % 2 * 1024 + 1024)) (k / 2 + 26)
    go zero z =
        let t : 1024 ≡ k % 2 * 1024 + 1024 = omega arith in
        subst (λ (x : ℕ). Placed w ((w % 2 ^ 52 + 2 ^ 52) * x) (k / 2 + 26)) t (placed_even w k u v e z)
    go (suc b) z =
        let t : 2048 ≡ k % 2 * 1024 + 1024 = omega arith in
        let n : k % 2 ≡ 0 → ⊥ = λ y. omega arith in
        subst (λ (x : ℕ). Placed w ((w % 2 ^ 52 + 2 ^ 52) * x) (k / 2 + 26)) t (placed_odd w k u v e n)

pub room_both : (q k : ℕ) → q < 2 ^ 53 → q * (k % 2 * 1024 + 1024) < 2 ^ 64
room_both q k h =
    let a : q ≤ 2 ^ 53 - 1 = omega arith in
    let t : k % 2 * 1024 + 1024 ≤ 2048 = omega arith in
    let p : q * (k % 2 * 1024 + 1024) ≤ (2 ^ 53 - 1) * 2048 = mul-le-mul a t in
    omega arith

-- ---- what the checks of `digits`, `lifted` and `scaled` take

pub ruleset by_digits = (digits_none, digits_all, rest_up, rest_down)

pub ruleset lifting = (lift_none, lift_left, lift_all)

pub ruleset placing = (placed_both, room_both)
