-- A part of a list, and a part rewritten: what `&t[a..e]` holds, and what `f(&mut t[a..e])` leaves of t.
use Rattle.std.specs.Prelude.{◌≡◌, List, ◌++◌, ℕ, ◌+◌, ◌-◌, ◌≤◌, ◌<◌, length, get_or, take, drop}
use Rattle.std.proofs.Common.{ap, ◌∙◌, arith, length-append, length-take}
use Rattle.std.proofs.Common.{length-drop, get_or-append-add, get_or-take, get_or-drop, take_at, drop_at}
use Rattle.std.proofs.Math.ListN.{get_or-append}

abbrev pub part : {A : Type 0} → (a e : ℕ) → List A → List A
part a e t = take (e - a) (drop a t)

-- in the very form in which a part that was lent comes back
unfoldable pub on_part : {A : Type 0} → (List A → List A) → (a e : ℕ) → List A → List A
on_part f a e t = take a t ++ (f (take (e - a) (drop a t)) ++ drop (e - a) (drop a t))

pub part_length : {A : Type 0} (a e : ℕ) (t : List A) → a ≤ e → e ≤ length t → length (part a e t) ≡ e - a
part_length a e t h k = simp (length-take, length-drop) (omega arith)

pub part_at : {A : Type 0} (a e : ℕ) (t : List A) (i : ℕ) (d : A) → i < e - a
    → get_or (part a e t) i d ≡ get_or t (a + i) d
part_at a e t i d h = get_or-take (e - a) (drop a t) i d h ∙ get_or-drop a t i d

pub on_part-length : {A : Type 0} (f : List A → List A) (a e : ℕ) (t : List A) → a ≤ e → e ≤ length t
    → ((s : List A) → length (f s) ≡ length s) → length (on_part f a e t) ≡ length t
unfolding on_part
on_part-length f a e t h k keep = simp (length-append, keep, length-take, length-drop) (omega arith)

-- the part that was rewritten, taken out again
pub on_part-part : {A : Type 0} (f : List A → List A) (a e : ℕ) (t : List A) → a ≤ e → e ≤ length t
    → length (f (part a e t)) ≡ e - a → part a e (on_part f a e t) ≡ f (part a e t)
unfolding on_part
on_part-part f a e t h k m =
    rw (drop_at (take a t) (f (part a e t) ++ drop (e - a) (drop a t)) a (simp length-take (omega arith)))
    (take_at (f (part a e t)) (drop (e - a) (drop a t)) (e - a) m)

-- ---- the places before the part, in it and after it

past : {A : Type 0} (xs ys : List A) (p : ℕ) (d : A) → length xs ≤ p
    → get_or (xs ++ ys) p d ≡ get_or ys (p - length xs) d
past xs ys p d h =
    let e : p ≡ length xs + (p - length xs) = omega arith in
    ap (λ k. get_or (xs ++ ys) k d) e ∙ get_or-append-add xs ys (p - length xs) d

taken : {A : Type 0} (a : ℕ) (t : List A) → a ≤ length t → length (take a t) ≡ a
taken a t h = simp length-take (omega arith)

pub on_part_before : {A : Type 0} (f : List A → List A) (a e : ℕ) (t : List A) (p : ℕ) (d : A) → a ≤ length t → p < a
    → get_or (on_part f a e t) p d ≡ get_or t p d
unfolding on_part
on_part_before f a e t p d k l = get_or-append (take a t) _ d p (omega (arith, taken a t k)) ∙ get_or-take a t p d l

pub on_part_within : {A : Type 0} (f : List A → List A) (a e : ℕ) (t : List A) (i : ℕ) (d : A) → a ≤ e → e ≤ length t
    → ((s : List A) → length (f s) ≡ length s) → i < e - a
    → get_or (on_part f a e t) (a + i) d ≡ get_or (f (part a e t)) i d
unfolding on_part
on_part_within f a e t i d h k keep l =
    let n = taken a t (omega arith) in
    let m : length (f (part a e t)) ≡ e - a = keep (part a e t) ∙ part_length a e t h k in
    let j : a + i - length (take a t) ≡ i = omega arith in
    past (take a t) _ (a + i) d (omega arith)
    ∙ ap (λ x. get_or (f (part a e t) ++ drop (e - a) (drop a t)) x d) j
    ∙ get_or-append (f (part a e t)) _ d i (omega arith)

pub on_part_after : {A : Type 0} (f : List A → List A) (a e : ℕ) (t : List A) (p : ℕ) (d : A) → a ≤ e → e ≤ length t
    → ((s : List A) → length (f s) ≡ length s) → e ≤ p
    → get_or (on_part f a e t) p d ≡ get_or t p d
unfolding on_part
on_part_after f a e t p d h k keep l =
    let n = taken a t (omega arith) in
    let m : length (f (part a e t)) ≡ e - a = keep (part a e t) ∙ part_length a e t h k in
    let q : p - length (take a t) - length (f (part a e t)) ≡ p - e = omega arith in
    let r : a + (e - a + (p - e)) ≡ p = omega arith in
    past (take a t) _ p d (omega arith)
    ∙ past (f (part a e t)) _ (p - length (take a t)) d (omega arith)
    ∙ ap (λ x. get_or (drop (e - a) (drop a t)) x d) q
    ∙ get_or-drop (e - a) (drop a t) (p - e) d
    ∙ get_or-drop a t (e - a + (p - e)) d
    ∙ ap (λ x. get_or t x d) r
