-- The laws of `Until` of specs.
use Rattle.std.specs.Prelude.{◌≡◌, refl, Bool, true, false, ℕ, zero, suc, ◌+◌, ◌-◌, ◌<◌, ◌≤◌}
use Rattle.std.proofs.Common.{sym, ap, ◌∙◌, zero-add, suc-add, arith}
use Rattle.std.proofs.lemmas.Bool.{false≢true}
use Rattle.loops.specs.Until.{until}

-- the fuel is used up
pub until_out : {A : Type 0} (done : A → Bool) (f : A → A) (a : A) → until done f 0 a ≡ a
unfolding until
until_out done f a = refl

-- it stops here, whatever fuel is left
pub until_stop : {A : Type 0} (done : A → Bool) (f : A → A) (n : ℕ) (a : A) → done a ≡ true → until done f n a ≡ a
unfolding until
until_stop done f zero a h = refl
until_stop done f (suc n) a h = rw (until, h)

step : {A : Type 0} (done : A → Bool) (f : A → A) (m : ℕ) (a : A) → done a ≡ false
    → until done f (suc m) a ≡ until done f m (f a)
unfolding until
step done f m a h = rw (until, h)

-- one turn, at the code's n - 1
pub until_turn : {A : Type 0} (done : A → Bool) (f : A → A) (n : ℕ) (a : A) → 0 < n → done a ≡ false
    → until done f n a ≡ until done f (n - 1) (f a)
until_turn done f n a p h =
    let e : n ≡ suc (n - 1) = omega arith in
    ap (λ k. until done f k a) e ∙ step done f (n - 1) a h

-- what each turn keeps, the whole keeps
pub until_hold : {A : Type 0} (P : A → Type 0) (done : A → Bool) (f : A → A) (n : ℕ) (a : A) → ((x : A) → P x → P (f x))
    → P a → P (until done f n a)
unfolding until
until_hold P done f zero a keep h = h
until_hold P done f (suc n) a keep h = go (done a) (until_hold P done f n (f a) keep (keep a h))
  where
    go : (b : Bool) → P (until done f n (f a)) → P (elim b [ true ↦ a | false ↦ until done f n (f a) ])
    go true k = h
    go false k = k

-- two loops side by side that stop together: what each pair of turns keeps between their states, the whole keeps
pub until_both : {A B : Type 0} (R : A → B → Type 0) (done : A → Bool) (f : A → A) (over : B → Bool) (g : B
    → B) (n : ℕ) (a : A) (b : B)
    → ((x : A) (y : B) → R x y → done x ≡ over y) → ((x : A) (y : B) → R x y → R (f x) (g y)) → R a b
    → R (until done f n a) (until over g n b)
unfolding until
until_both R done f over g zero a b same keep h = h
until_both R done f over g (suc n) a b same keep h =
    go (done a) (over b) (same a b h) (until_both R done f over g n (f a) (g b) same keep (keep a b h))
  where
    go : (x y : Bool) → x ≡ y → R (until done f n (f a)) (until over g n (g b))
        → R (elim x [ true ↦ a | false ↦ until done f n (f a) ]) (elim y [ true ↦ b | false ↦ until over g n (g b) ])
    go true true e k = h
    go true false e k = absurd (false≢true (sym e))
    go false true e k = absurd (false≢true e)
    go false false e k = k

-- fuel used in two portions: what the first leaves, the second takes up
pub until_portions : {A : Type 0} (done : A → Bool) (f : A → A) (m n : ℕ) (a : A)
    → until done f (m + n) a ≡ until done f n (until done f m a)
until_portions done f zero n a = rw zero-add (ap (until done f n) (sym (until_out done f a)))
until_portions done f (suc m) n a = rw suc-add (go (done a) refl (until_portions done f m n (f a)))
  where
    go : (b : Bool) → done a ≡ b → until done f (m + n) (f a) ≡ until done f n (until done f m (f a))
        → until done f (suc (m + n)) a ≡ until done f n (until done f (suc m) a)
    go true h later = until_stop done f (suc (m + n)) a h
        ∙ sym (ap (until done f n) (until_stop done f (suc m) a h) ∙ until_stop done f n a h)
    go false h later = step done f (m + n) a h ∙ later ∙ sym (ap (until done f n) (step done f m a h))

-- what grows by 1 at most in each turn grows by n at most
pub until_count : {A : Type 0} (size : A → ℕ) (done : A → Bool) (f : A → A) (n : ℕ) (a : A)
    → ((x : A) → size (f x) ≤ size x + 1) → size (until done f n a) ≤ size a + n
unfolding until
until_count size done f zero a grow = omega arith
until_count size done f (suc n) a grow = go (done a) (until_count size done f n (f a) grow) (grow a)
  where
    go : (b : Bool) → size (until done f n (f a)) ≤ size (f a) + n → size (f a) ≤ size a + 1
        → size (elim b [ true ↦ a | false ↦ until done f n (f a) ]) ≤ size a + suc n
    go true h k = omega arith
    go false h k = omega arith

-- What holds after m turns, told turn by turn: the next turn is taken where it is not done, and else all stays as it
-- is.
pub until_walk : {A : Type 0} (P : ℕ → A → Type 0) (done : A → Bool) (f : A → A) (n : ℕ) (a : A)
    → ((m : ℕ) → m < n → done (until done f m a) ≡ true → P m (until done f m a) → P (m + 1) (until done f m a))
    → ((m : ℕ) → m < n → done (until done f m a) ≡ false → P m (until done f m a) → P (m + 1) (f (until done f m a)))
    → P 0 a → P n (until done f n a)
until_walk P done f n a stay on h = go n (omega arith)
  where
    next : (m : ℕ) (b : Bool) → m < n → done (until done f m a) ≡ b → P m (until done f m a)
        → P (m + 1) (until done f (m + 1) a)
    next m true l e k = rw (until_portions done f m 1 a, until_stop done f 1 (until done f m a) e) (stay m l e k)
    next m false l e k = rw (
      until_portions done f m 1 a,
      step done f 0 (until done f m a) e,
      until_out done f (f (until done f m a)),
    ) (on m l e k)

    go : (m : ℕ) → m ≤ n → P m (until done f m a)
    go zero l = rw (until_out done f a) h
    go (suc m) l = let e : suc m ≡ m + 1 = omega arith in
        rw e (next m (done (until done f m a)) (omega arith) refl (go m (omega arith)))
