-- The whole-number root: what `floor_root` and `whole_root` are, and that the inequalities have one solution. Assumes nothing.
use Rattle.std.proofs.Common.{◌≡◌, ℕ, zero, suc, ◌+◌, ◌-◌, ◌*◌, ◌/◌, ◌^◌, ◌<◌, ◌≤◌, Bool, true, false, cond, not, T}
use Rattle.std.proofs.Common.{ltb, leb, ◌≢◌, ◌⊎◌, sym, subst, inl, inr, mul-le-mul_right, mul-le-mul, eq-or-lt_of_le}
use Rattle.std.proofs.Common.{arith, ltb→lt, leb→le, nltb→le}
use native.Mathlib.Nat.{pow-succ'}
use lib.Dec.{nleb→lt}
use Rattle.scalar.specs.Root.{floor_root, whole_root}
use Rattle.scalar.specs.Rooted.{Near}

record Floor (big_x r : ℕ) : Type 0 where
  pub within : r * r ≤ big_x
  pub beyond : big_x < (r + 1) * (r + 1)

-- ---- the root by digits

step : (big_x a : ℕ) (b : Bool) → (T b → (a * 2 + 1) * (a * 2 + 1) ≤ big_x) → (T (not b) → big_x < (a * 2 + 1) * (a * 2 + 1)) → Floor (big_x / 4) a
    → Floor big_x (cond b (a * 2 + 1) (a * 2))
step big_x a true h k f = record { within = h tt; beyond = omega arith }
step big_x a false h k f = record { within = omega arith; beyond = k tt }

quarter : (k big_x : ℕ) → big_x < 4 ^ suc k → big_x / 4 < 4 ^ k
quarter k big_x h = let e : 4 ^ suc k ≡ 4 * 4 ^ k = pow-succ' 4 k in omega arith

floor_root_is : (k big_x : ℕ) → big_x < 4 ^ k → Floor big_x (floor_root k big_x)
unfolding floor_root
floor_root_is zero big_x h = let z : big_x ≡ 0 = omega arith in record { within = omega arith; beyond = omega arith }
floor_root_is (suc k) big_x h =
    let a = floor_root k (big_x / 4) in
    step big_x a (leb ((a * 2 + 1) * (a * 2 + 1)) big_x) (leb→le _ _) (nleb→lt _ _) (floor_root_is k (big_x / 4) (quarter k big_x h))

-- ---- the nearest

nearer : (big_x r : ℕ) (b : Bool) → 0 < big_x → (T b → r * r + r < big_x) → (T (not b) → big_x ≤ r * r + r) → Floor big_x r → Near big_x (cond b (r + 1) r)
nearer big_x zero true z h k f = let l : 0 < big_x = h tt in record { below = omega arith; above = omega arith }
nearer big_x (suc r) true z h k f = let l : suc r * suc r + suc r < big_x = h tt in record { below = omega arith; above = omega arith }
nearer big_x zero false z h k f = let l : big_x ≤ 0 = k tt in record { below = omega arith; above = omega arith }
nearer big_x (suc r) false z h k f = let l : big_x ≤ suc r * suc r + suc r = k tt in record { below = omega arith; above = l }

pub whole_root_near : (big_x : ℕ) → 0 < big_x → big_x < 2 ^ 106 → Near big_x (whole_root big_x)
unfolding whole_root
whole_root_near big_x z h =
    let r = floor_root 53 big_x in
    nearer big_x r (ltb (r * r + r) big_x) z (ltb→lt _ _) (nltb→le _ _) (floor_root_is 53 big_x h)

-- ---- there is one such number

not_two : (big_x big_r d : ℕ) → Near big_x big_r → Near big_x (big_r + suc d) → ⊥
not_two big_x big_r d p q = omega arith

below_ge : (big_x big_r S : ℕ) → Near big_x big_r → Near big_x S → big_r ≤ S → big_r ≡ S
below_ge big_x big_r S p q h = go (eq-or-lt_of_le h)
  where
    go : (big_r ≡ S) ⊎ (big_r < S) → big_r ≡ S
    go (inl e) = e
    go (inr l) =
        let e : S ≡ big_r + suc (S - suc big_r) = omega arith in
        absurd (not_two big_x big_r (S - suc big_r) p (subst (Near big_x) e q))

pub near_one : (big_x big_r S : ℕ) → Near big_x big_r → Near big_x S → big_r ≡ S
near_one big_x big_r S p q = go (leb big_r S) (leb→le big_r S) (nleb→lt big_r S)
  where
    go : (b : Bool) → (T b → big_r ≤ S) → (T (not b) → S < big_r) → big_r ≡ S
    go true a b = below_ge big_x big_r S p q (a tt)
    go false a b = let l : S < big_r = b tt in sym (below_ge big_x S big_r q p (omega arith))

-- so the root is whatever passes the test
pub whole_root_is : (big_x big_r : ℕ) → 0 < big_x → big_x < 2 ^ 106 → Near big_x big_r → whole_root big_x ≡ big_r
whole_root_is big_x big_r z h n = near_one big_x (whole_root big_x) big_r (whole_root_near big_x z h) n

-- ---- its size

pub near_low : (big_x big_r : ℕ) → Near big_x big_r → 2 ^ 104 ≤ big_x → 2 ^ 52 ≤ big_r
near_low big_x big_r n h = go (leb (2 ^ 52) big_r) (leb→le (2 ^ 52) big_r) (nleb→lt (2 ^ 52) big_r)
  where
    no : big_r < 2 ^ 52 → ⊥
    no l =
        let a : big_r ≤ 2 ^ 52 - 1 = omega arith in
        let b : big_r + 1 ≤ 2 ^ 52 = omega arith in
        let p : big_r * (big_r + 1) ≤ (2 ^ 52 - 1) * 2 ^ 52 = mul-le-mul a b in
        omega arith

    go : (b : Bool) → (T b → 2 ^ 52 ≤ big_r) → (T (not b) → big_r < 2 ^ 52) → 2 ^ 52 ≤ big_r
    go true a b = a tt
    go false a b = absurd (no (b tt))

pub near_high : (big_x big_r : ℕ) → Near big_x big_r → big_x + 2 ^ 53 ≤ 2 ^ 106 → big_r < 2 ^ 53
near_high big_x big_r n h = go (leb (2 ^ 53) big_r) (leb→le (2 ^ 53) big_r) (nleb→lt (2 ^ 53) big_r)
  where
    no : 2 ^ 53 ≤ big_r → ⊥
    no l =
        let p : 2 ^ 53 * big_r ≤ big_r * big_r = mul-le-mul_right big_r l in
        omega arith

    go : (b : Bool) → (T b → 2 ^ 53 ≤ big_r) → (T (not b) → big_r < 2 ^ 53) → big_r < 2 ^ 53
    go true a b = absurd (no (a tt))
    go false a b = b tt

-- ---- in the words of the scope

pub in_words : (big_x big_r : ℕ) → 0 < big_r → Near big_x big_r → ((2 * big_r - 1) * (2 * big_r - 1) < 4 * big_x) × (4 * big_x < (2 * big_r + 1) * (2 * big_r + 1))
in_words big_x zero h n = absurd (zero_no h)
  where
    zero_no : 0 < 0 → ⊥
    zero_no l = omega arith
in_words big_x (suc big_r) h n = let e : 2 * suc big_r - 1 ≡ 2 * big_r + 1 = omega arith in (rw e (omega arith), omega arith)

pub from_words : (big_x big_r : ℕ) → 0 < big_r → (2 * big_r - 1) * (2 * big_r - 1) < 4 * big_x → 4 * big_x < (2 * big_r + 1) * (2 * big_r + 1) → Near big_x big_r
from_words big_x zero h p q = absurd (zero_no h)
  where
    zero_no : 0 < 0 → ⊥
    zero_no l = omega arith
from_words big_x (suc big_r) h p q =
    let e : 2 * suc big_r - 1 ≡ 2 * big_r + 1 = omega arith in
    let p' : (2 * big_r + 1) * (2 * big_r + 1) < 4 * big_x = rw e at p in
    record { below = omega arith; above = omega arith }

-- halves never tie
pub no_tie : (big_x big_r : ℕ) → 4 * big_x ≢ (2 * big_r + 1) * (2 * big_r + 1)
no_tie big_x big_r e = omega arith
