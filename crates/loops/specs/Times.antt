-- A counted loop as a function. `times f n a` is a after turns 0, 1, .., n - 1, where turn i takes the state x to f i
-- x. `range f a b s` is `for i in a..b`: s after turns a, a + 1, .., b - 1, and s itself where b ≤ a. A loop's
-- invariant says that the state is `times f i` (or `range f a i`) of the state at the start: `_none` begins it, `_more`
-- keeps it, `_done` ends it. What a loop does to all it runs over is `_hold`, and `_walk` where that depends on the
-- turn; what it leaves alone, `_frame`; what one turn put somewhere, `_at`. Two portions one after the other are
-- `_portions`.
use Rattle.std.specs.Prelude.{◌≡◌, refl, ◌≢◌, List, ℕ, zero, suc, ◌+◌, ◌-◌, ◌<◌, ◌≤◌, max, length, get_or}
use Rattle.std.proofs.Common.{sym, ap, ◌∙◌, add-zero, add-one, arith}
use Rattle.std.proofs.Math.Decide.{dec_lt}

unfoldable pub times : {A : Type 0} → (ℕ → A → A) → ℕ → A → A
times f zero a = a
times f (suc n) a = f n (times f n a)

-- before the first turn
pub times_none : {A : Type 0} (f : ℕ → A → A) (a : A) → times f 0 a ≡ a
unfolding times
times_none f a = refl

-- one more turn, at the code's i + 1
pub times_more : {A : Type 0} (f : ℕ → A → A) (i : ℕ) (a : A) → times f (i + 1) a ≡ f i (times f i a)
unfolding times
times_more f i a = rw add-one

-- where the loop's test has failed at i, all n turns are done
pub times_done : {A : Type 0} (f : ℕ → A → A) (i n : ℕ) (a : A) → i ≤ n → n ≤ i → times f i a ≡ times f n a
times_done f i n a h k = let e : i ≡ n = omega arith in rw e

-- what each turn keeps, the whole keeps
pub times_hold : {A : Type 0} (P : A → Type 0) (f : ℕ → A → A) (n : ℕ) (a : A)
    → ((i : ℕ) (x : A) → i < n → P x → P (f i x)) → P a → P (times f n a)
unfolding times
times_hold P f zero a keep h = h
times_hold P f (suc n) a keep h =
    keep n (times f n a) (omega arith) (times_hold P f n a (λ i x l. keep i x (omega arith)) h)

-- turns that keep the length of a list
pub times-length : {A : Type 0} (f : ℕ → List A → List A) (n : ℕ) (t : List A)
    → ((i : ℕ) (s : List A) → length (f i s) ≡ length s) → length (times f n t) ≡ length t
times-length f n t keep = times_hold (λ s. length s ≡ length t) f n t (λ i s l e. keep i s ∙ e) refl

-- the frame: a place that each turn leaves alone
pub times_frame : {A : Type 0} (f : ℕ → List A → List A) (n : ℕ) (t : List A) (p : ℕ) (d : A)
    → ((i : ℕ) (s : List A) → i < n → get_or (f i s) p d ≡ get_or s p d) → get_or (times f n t) p d ≡ get_or t p d
times_frame f n t p d keep = times_hold (λ s. get_or s p d ≡ get_or t p d) f n t (λ i s l e. keep i s l ∙ e) refl

-- a place that only turn j touches holds what turn j puts there
pub times_at : {A : Type 0} (f : ℕ → List A → List A) (n : ℕ) (t : List A) (j p : ℕ) (d : A) → j < n
    → ((i : ℕ) (s : List A) → i < n → i ≢ j → get_or (f i s) p d ≡ get_or s p d)
    → get_or (times f n t) p d ≡ get_or (f j (times f j t)) p d
unfolding times
times_at f zero t j p d h keep = absurd (omega arith)
times_at f (suc n) t j p d h keep = go (dec_lt j n) (λ l. times_at f n t j p d l (λ i s k. keep i s (omega arith)))
  where
    go : Dec (j < n) → (j < n → get_or (times f n t) p d ≡ get_or (f j (times f j t)) p d)
        → get_or (f n (times f n t)) p d ≡ get_or (f j (times f j t)) p d
    go (yes l) r = keep n (times f n t) (omega arith) (omega arith) ∙ r l
    go (no l) r = let e : n ≡ j = omega arith in rw e

-- turns that do the same
pub times_same : {A : Type 0} (f g : ℕ → A → A) (n : ℕ) (a : A) → ((i : ℕ) (x : A) → i < n → f i x ≡ g i x)
    → times f n a ≡ times g n a
unfolding times
times_same f g zero a same = refl
times_same f g (suc n) a same =
    ap (f n) (times_same f g n a (λ i x l. same i x (omega arith))) ∙ same n (times g n a) (omega arith)

-- two loops side by side: what each pair of turns keeps between their states, the whole keeps
pub times_both : {A B : Type 0} (R : A → B → Type 0) (f : ℕ → A → A) (g : ℕ → B → B) (n : ℕ) (a : A) (b : B)
    → ((i : ℕ) (x : A) (y : B) → R x y → R (f i x) (g i y)) → R a b → R (times f n a) (times g n b)
unfolding times
times_both R f g zero a b keep h = h
times_both R f g (suc n) a b keep h = keep n (times f n a) (times g n b) (times_both R f g n a b keep h)

-- ---- `for i in a..b`

unfoldable pub range : {A : Type 0} → (ℕ → A → A) → (a b : ℕ) → A → A
range f a b s = times (λ k. f (a + k)) (b - a) s

pub range_none : {A : Type 0} (f : ℕ → A → A) (a : ℕ) (s : A) → range f a a s ≡ s
unfolding range times
range_none f a s = let h : a - a ≡ 0 = omega arith in rw h

pub range_more : {A : Type 0} (f : ℕ → A → A) (a j : ℕ) (s : A) → a ≤ j → range f a (j + 1) s ≡ f j (range f a j s)
unfolding range times
range_more f a j s h =
    let e : j + 1 - a ≡ suc (j - a) = omega arith in
    let g : a + (j - a) ≡ j = omega arith in
    rw (e, g)

pub range_done : {A : Type 0} (f : ℕ → A → A) (a b j : ℕ) (s : A) → a ≤ j → j ≤ max a b → b ≤ j
    → range f a j s ≡ range f a b s
unfolding range
range_done f a b j s h k l = let e : j - a ≡ b - a = omega arith in rw e

pub range_hold : {A : Type 0} (P : A → Type 0) (f : ℕ → A → A) (a b : ℕ) (s : A)
    → ((i : ℕ) (x : A) → a ≤ i → i < b → P x → P (f i x)) → P s → P (range f a b s)
unfolding range
range_hold P f a b s keep h =
    times_hold P (λ k. f (a + k)) (b - a) s (λ k x l. keep (a + k) x (omega arith) (omega arith)) h

-- what each turn takes from i to i + 1, the whole takes from a to b
pub range_walk : {A : Type 0} (P : ℕ → A → Type 0) (f : ℕ → A → A) (a b : ℕ) (s : A) → a ≤ b
    → ((i : ℕ) → a ≤ i → i < b → P i (range f a i s) → P (i + 1) (f i (range f a i s))) → P a s → P b (range f a b s)
range_walk P f a b s l step h = go (b - a) b (omega arith) (omega arith)
  where
    go : (k i : ℕ) → i ≡ a + k → i ≤ b → P i (range f a i s)
    go zero i e m = let q : i ≡ a = omega arith in rw (q, range_none f a s) h
    go (suc k) i e m =
        let q : i ≡ a + k + 1 = omega arith in
        rw (q, range_more f a (a + k) s (omega arith))
        (step (a + k) (omega arith) (omega arith) (go k (a + k) refl (omega arith)))

pub range_length : {A : Type 0} (f : ℕ → List A → List A) (a b : ℕ) (t : List A)
    → ((i : ℕ) (s : List A) → length (f i s) ≡ length s) → length (range f a b t) ≡ length t
unfolding range
range_length f a b t keep = times-length (λ k. f (a + k)) (b - a) t (λ k. keep (a + k))

pub range_frame : {A : Type 0} (f : ℕ → List A → List A) (a b : ℕ) (t : List A) (p : ℕ) (d : A)
    → ((i : ℕ) (s : List A) → a ≤ i → i < b → get_or (f i s) p d ≡ get_or s p d)
    → get_or (range f a b t) p d ≡ get_or t p d
unfolding range
range_frame f a b t p d keep =
    times_frame (λ k. f (a + k)) (b - a) t p d (λ k s l. keep (a + k) s (omega arith) (omega arith))

pub range_at : {A : Type 0} (f : ℕ → List A → List A) (a b : ℕ) (t : List A) (j p : ℕ) (d : A) → a ≤ j → j < b
    → ((i : ℕ) (s : List A) → a ≤ i → i < b → i ≢ j → get_or (f i s) p d ≡ get_or s p d)
    → get_or (range f a b t) p d ≡ get_or (f j (range f a j t)) p d
unfolding range
range_at f a b t j p d h k keep =
    let e : a + (j - a) ≡ j = omega arith in
    rw e at (times_at (λ k. f (a + k)) (b - a) t (j - a) p d (omega arith)
    (λ i s u v. keep (a + i) s (omega arith) (omega arith) (omega arith)))

pub range_same : {A : Type 0} (f g : ℕ → A → A) (a b : ℕ) (s : A) → ((i : ℕ) (x : A) → a ≤ i → i < b → f i x ≡ g i x)
    → range f a b s ≡ range g a b s
unfolding range
range_same f g a b s same =
    times_same (λ k. f (a + k)) (λ k. g (a + k)) (b - a) s (λ k x l. same (a + k) x (omega arith) (omega arith))

pub range_both : {A B : Type 0} (R : A → B → Type 0) (f : ℕ → A → A) (g : ℕ → B → B) (a b : ℕ) (s : A) (u : B)
    → ((i : ℕ) (x : A) (y : B) → R x y → R (f i x) (g i y)) → R s u → R (range f a b s) (range g a b u)
unfolding range
range_both R f g a b s u keep h = times_both R (λ k. f (a + k)) (λ k. g (a + k)) (b - a) s u (λ k. keep (a + k)) h

-- in two portions: what the first leaves, the second takes up
pub range_portions : {A : Type 0} (f : ℕ → A → A) (a b k : ℕ) (s : A) → a ≤ b
    → range f b (b + k) (range f a b s) ≡ range f a (b + k) s
range_portions f a b zero s h = rw add-zero (range_none f b (range f a b s))
range_portions f a b (suc k) s h =
    let e : b + suc k ≡ b + k + 1 = omega arith in
    rw e (range_more f b (b + k) (range f a b s) (omega arith) ∙ ap (f (b + k)) (range_portions f a b k s h)
    ∙ sym (range_more f a (b + k) s (omega arith)))

-- ---- a few turns

pub range-one : {A : Type 0} (f : ℕ → A → A) (a : ℕ) (s : A) → range f a (a + 1) s ≡ f a s
range-one f a s = range_more f a a s (omega arith) ∙ ap (f a) (range_none f a s)

pub range_two : {A : Type 0} (f : ℕ → A → A) (a : ℕ) (s : A) → range f a (a + 2) s ≡ f (a + 1) (f a s)
range_two f a s = let e : a + 2 ≡ a + 1 + 1 = omega arith in
    rw e (range_more f a (a + 1) s (omega arith) ∙ ap (f (a + 1)) (range-one f a s))

pub range_three : {A : Type 0} (f : ℕ → A → A) (a : ℕ) (s : A) → range f a (a + 3) s ≡ f (a + 2) (f (a + 1) (f a s))
range_three f a s = let e : a + 3 ≡ a + 2 + 1 = omega arith in
    rw e (range_more f a (a + 2) s (omega arith) ∙ ap (f (a + 2)) (range_two f a s))
