-- The laws of `First` of specs.
use Rattle.std.specs.Prelude.{◌≡◌, refl, Bool, true, false, ℕ, zero, suc, ◌+◌, ◌-◌, ◌<◌, ◌≤◌}
use Rattle.std.proofs.Common.{sym, ap, ◌∙◌, arith, ltb-false, le-ltb}
use Rattle.std.proofs.Math.Decide.{dec_lt}
use Rattle.loops.specs.Until.{until}
use Rattle.loops.proofs.Until.{until_out, until_stop, until_turn}
use Rattle.loops.specs.First.{first_from, some}

-- ---- a loop: here it is; not here; there is none

pub first_here : (test : ℕ → Bool) (n k : ℕ) → test k ≡ true → first_from test n k ≡ k
unfolding first_from
first_here test n k h = until_stop test _ (n - k) k h

pub first_on : (test : ℕ → Bool) (n k : ℕ) → k < n → test k ≡ false → first_from test n k ≡ first_from test n (k + 1)
unfolding first_from
first_on test n k l h =
    let e : n - k - 1 ≡ n - (k + 1) = omega arith in
    until_turn test _ (n - k) k (omega arith) h ∙ ap (λ m. until test (λ i. i + 1) m (k + 1)) e

pub first_none : (test : ℕ → Bool) (n k : ℕ) → n ≤ k → first_from test n k ≡ k
unfolding first_from
first_none test n k l =
    let e : n - k ≡ 0 = omega arith in
    ap (λ m. until test (λ i. i + 1) m k) e ∙ until_out test _ k

-- ---- what is found

-- by induction over what is left to search
from : (P : ℕ → ℕ → Type 0) (test : ℕ → Bool) (n : ℕ) → ((k : ℕ) → k < n → test k ≡ true → P k k)
    → ((k m : ℕ) → k < n → test k ≡ false → P (k + 1) m → P k m)
    → P n n → (left k : ℕ) → left + k ≡ n → P k (first_from test n k)
from P test n here on none zero k e = let q : k ≡ n = omega arith in rw (first_none test n k (omega arith), q) none
from P test n here on none (suc left) k e = go (test k) refl (from P test n here on none left (k + 1) (omega arith))
  where
    go : (b : Bool) → test k ≡ b → P (k + 1) (first_from test n (k + 1)) → P k (first_from test n k)
    go true h later = rw (first_here test n k h) (here k (omega arith) h)
    go false h later = rw (first_on test n k (omega arith) h) (on k _ (omega arith) h later)

pub first_within : (test : ℕ → Bool) (n k : ℕ) → k ≤ n → first_from test n k ≤ n
first_within test n k l = from (λ k m. k ≤ n → m ≤ n) test n (λ k l h a. a) (λ k m l h r a. r (omega arith)) (λ a. a)
    (n - k) k (omega arith) l

-- the test names it
pub first_named : (test : ℕ → Bool) (n k : ℕ) → k ≤ n → first_from test n k < n → test (first_from test n k) ≡ true
first_named test n k l = from (λ _ m. m < n → test m ≡ true) test n (λ k l h _. h) (λ k m l h r. r)
    (λ a. absurd (omega arith)) (n - k) k (omega arith)

-- and none before it
pub first_others : (test : ℕ → Bool) (n k : ℕ) → k ≤ n → (i : ℕ) → k ≤ i → i < first_from test n k → test i ≡ false
first_others test n k l =
    from (λ k m. (i : ℕ) → k ≤ i → i < m → test i ≡ false) test n (λ k l h i a b. absurd (omega arith))
    (λ k m l h r i a b. go k m h r i a b (dec_lt k i))
    (λ i a b. absurd (omega arith)) (n - k) k (omega arith)
  where
    go : (k m : ℕ) → test k ≡ false → ((i : ℕ) → k + 1 ≤ i → i < m → test i ≡ false) → (i : ℕ) → k ≤ i → i < m
        → Dec (k < i) → test i ≡ false
    go k m h r i a b (yes d) = r i (omega arith) b
    go k m h r i a b (no d) = let e : i ≡ k = omega arith in ap test e ∙ h

-- numbers that the test does not name are passed over
pub first_past : (test : ℕ → Bool) (n k e : ℕ) → k ≤ e → e ≤ n → ((i : ℕ) → k ≤ i → i < e → test i ≡ false)
    → first_from test n k ≡ first_from test n e
first_past test n k e l m none = go (e - k) k (omega arith) none
  where
    go : (left k : ℕ) → left + k ≡ e → ((i : ℕ) → k ≤ i → i < e → test i ≡ false)
        → first_from test n k ≡ first_from test n e
    go zero k h none = let q : k ≡ e = omega arith in rw q
    go (suc left) k h none = first_on test n k (omega arith) (none k (omega arith) (omega arith))
        ∙ go left (k + 1) (omega arith) (λ i a. none i (omega arith))

-- two tests that say the same find the same
pub first_same : (test other : ℕ → Bool) (n k : ℕ) → k ≤ n → ((i : ℕ) → i < n → test i ≡ other i)
    → first_from test n k ≡ first_from other n k
first_same test other n k l same =
    from (λ k m. m ≡ first_from other n k) test n
    (λ k l h. sym (first_here other n k (sym (same k l) ∙ h)))
    (λ k m l h r. r ∙ sym (first_on other n k l (sym (same k l) ∙ h)))
    (sym (first_none other n n (omega arith))) (n - k) k (omega arith)

-- ---- whether there is one

-- it names none, and so not i
pub some_none : (test : ℕ → Bool) (a b i : ℕ) → some test a b ≡ false → a ≤ i → i < b → test i ≡ false
some_none test a b i h l m = first_others test b a (omega arith) i l (omega (arith, ltb-false (first_from test b a) b h))

-- it names i, and so some
pub some_named : (test : ℕ → Bool) (a b i : ℕ) → a ≤ i → i < b → test i ≡ true → some test a b ≡ true
some_named test a b i l m h = go (some test a b) refl
  where
    go : (d : Bool) → some test a b ≡ d → d ≡ true
    go true e = refl
    go false e = sym (some_none test a b i e l m) ∙ h

-- it names none of them, and so not some
pub none_some : (test : ℕ → Bool) (a b : ℕ) → a ≤ b → ((i : ℕ) → a ≤ i → i < b → test i ≡ false) → some test a b ≡ false
none_some test a b l none =
    le-ltb _ b (omega (arith, first_past test b a b l (omega arith) none, first_none test b b (omega arith)))
