-- A list told place by place: `table n f` holds f 0, f 1, .., f (n - 1). What a loop writes into a lent list of n
-- places is one, whatever stood there.
use Rattle.std.specs.Prelude.{◌≡◌, refl, List, [], ◌∷◌, ◌++◌, ℕ, zero, suc, ◌+◌, ◌<◌, length, get_or}
use Rattle.std.proofs.Common.{sym, ap, ◌∙◌, arith, length-append, get_or-append-add, ext_get_or}
use Rattle.std.proofs.Math.Decide.{dec_lt}
use Rattle.std.proofs.Math.ListN.{get_or-append}

unfoldable pub table : {A : Type 0} → ℕ → (ℕ → A) → List A
table zero f = []
table (suc n) f = table n f ++ f n ∷ []

pub table-length : {A : Type 0} (n : ℕ) (f : ℕ → A) → length (table n f) ≡ n
unfolding table
table-length zero f = refl
table-length (suc n) f = simp length-append (omega (arith, table-length n f))

pub table_at : {A : Type 0} (n : ℕ) (f : ℕ → A) (i : ℕ) (d : A) → i < n → get_or (table n f) i d ≡ f i
unfolding table
table_at zero f i d h = absurd (omega arith)
table_at (suc n) f i d h = go (dec_lt i n) (table_at n f i d)
  where
    go : Dec (i < n) → (i < n → get_or (table n f) i d ≡ f i) → get_or (table n f ++ f n ∷ []) i d ≡ f i
    go (yes l) before = get_or-append (table n f) _ d i (omega (arith, table-length n f)) ∙ before l
    go (no l) before =
        let e : i ≡ length (table n f) + 0 = omega (arith, table-length n f) in
        let q : n ≡ i = omega arith in
        ap (λ k. get_or (table n f ++ f n ∷ []) k d) e ∙ get_or-append-add (table n f) (f n ∷ []) 0 d ∙ ap f q

-- a list that holds that
pub table_of : {A : Type 0} (n : ℕ) (f : ℕ → A) (t : List A) (d : A) → length t ≡ n
    → ((i : ℕ) → i < n → get_or t i d ≡ f i) → t ≡ table n f
table_of n f t d e h = ext_get_or d t (table n f) (e ∙ sym (table-length n f)) (λ i l. h i (omega arith)
    ∙ sym (table_at n f i d (omega arith)))

-- a list is the table of what it holds
pub table_self : {A : Type 0} (t : List A) (d : A) → table (length t) (λ i. get_or t i d) ≡ t
table_self t d = sym (table_of (length t) _ t d refl (λ i l. refl))
