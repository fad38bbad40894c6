-- A loop that counts down as a function: `down f n s` is s after turns n - 1, n - 2, .., 0, where turn i takes the
-- state x to f i x. It is `while 0 < k { k = k - 1; .. }`, begun at k = n. What is left to do at k is `down f k`, so a
-- loop's invariant says that `down f k` of the state as it is equals `down f n` of the state at the start.
use Rattle.std.specs.Prelude.{◌≡◌, refl, List, ℕ, zero, suc, ◌-◌, ◌<◌, length, get_or}
use Rattle.std.proofs.Common.{ap, ◌∙◌, arith}

unfoldable pub down : {A : Type 0} → (ℕ → A → A) → ℕ → A → A
down f zero s = s
down f (suc n) s = down f n (f n s)

-- nothing is left to do
pub down_none : {A : Type 0} (f : ℕ → A → A) (s : A) → down f 0 s ≡ s
unfolding down
down_none f s = refl

-- the next turn, at the code's k - 1
pub down_turn : {A : Type 0} (f : ℕ → A → A) (k : ℕ) (s : A) → 0 < k → down f k s ≡ down f (k - 1) (f (k - 1) s)
unfolding down
down_turn f k s h = let e : k ≡ suc (k - 1) = omega arith in ap (λ n. down f n s) e

-- what each turn keeps, the whole keeps
pub down_hold : {A : Type 0} (P : A → Type 0) (f : ℕ → A → A) (n : ℕ) (s : A)
    → ((i : ℕ) (x : A) → i < n → P x → P (f i x)) → P s → P (down f n s)
unfolding down
down_hold P f zero s keep h = h
down_hold P f (suc n) s keep h = down_hold P f n (f n s) (λ i x l. keep i x (omega arith)) (keep n s (omega arith) h)

pub down-length : {A : Type 0} (f : ℕ → List A → List A) (n : ℕ) (t : List A)
    → ((i : ℕ) (s : List A) → length (f i s) ≡ length s) → length (down f n t) ≡ length t
down-length f n t keep = down_hold (λ s. length s ≡ length t) f n t (λ i s h e. keep i s ∙ e) refl

-- the frame: a place that each turn leaves alone
pub down_frame : {A : Type 0} (f : ℕ → List A → List A) (n : ℕ) (t : List A) (p : ℕ) (d : A)
    → ((i : ℕ) (s : List A) → i < n → get_or (f i s) p d ≡ get_or s p d) → get_or (down f n t) p d ≡ get_or t p d
down_frame f n t p d keep = down_hold (λ s. get_or s p d ≡ get_or t p d) f n t (λ i s h e. keep i s h ∙ e) refl

-- two loops whose turns are the same
pub down_same : {A : Type 0} (f g : ℕ → A → A) (n : ℕ) (s : A) → ((i : ℕ) (x : A) → i < n → f i x ≡ g i x)
    → down f n s ≡ down g n s
unfolding down
down_same f g zero s same = refl
down_same f g (suc n) s same =
    ap (down f n) (same n s (omega arith)) ∙ down_same f g n (g n s) (λ i x l. same i x (omega arith))
