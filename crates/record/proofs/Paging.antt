-- Text put on a page, piece by piece. Assumes nothing.
use Prim.Native.Nat.{ℕ, suc, ◌+◌, ◌<◌, ◌≤◌}
use mathlib.Core.Path.{◌≡◌, refl, sym, ap, subst, ◌∙◌}
use mathlib.Core.List.{List, [], ◌∷◌, ◌++◌}
use native.Mathlib.Nat.{add-zero, zero-add}
use native.Mathlib.Numerals.{add-one}
use native.Mathlib.Omega.{arith}
use borrow.Author.Tests.{le-leb, lt-leb}
use lib.ListN.{length, get_or, take, drop, set, length-append, length-set}
use lib.Seq.{length-take-le, take-length, take-suc, sets, sets-eq, length-sets}
use borrow.Rule.Slice.PartMut.{put_mid}
use Rattle.std.proofs.lemmas.Slice.{put_mid-paste}
use Rattle.io.specs.Counts.{IsPrefixLen}
use Rattle.record.specs.declared.page.Page.{Page as LentPage}
use Rattle.record.specs.Page.{Page, page, printed, more, Put}
use Rattle.record.specs.Lent.{on, Puts}

sets-append : (l : List ℕ) (i : ℕ) (s t : List ℕ) → sets l i (s ++ t) ≡ sets (sets l i s) (i + length s) t
sets-append l i [] t = rw add-zero
sets-append l i (a ∷ s) t = let e : i + suc (length s) ≡ suc i + length s = omega arith in sets-append (set l i a) (suc i) s t ∙ rw e

-- two pieces, one behind the other
more-append : (s t : List ℕ) (p : Page) → more (s ++ t) p ≡ more t (more s p)
unfolding more
more-append s t p =
    let e : p.at + length (s ++ t) ≡ p.at + length s + length t = simp length-append (omega arith) in
    rw (e, sets-append p.text p.at s t)

-- ---- by what calls have left

-- nothing
pub none_put : (p : Page) → Put [] 0 p p
unfolding more
none_put p = record { text = rw add-zero; end = omega arith }

-- a wider bound
pub put_within : {s : List ℕ} {k most : ℕ} {p q : Page} → k ≤ most → Put s k p q → Put s most p q
put_within h x = record { text = x.text; end = omega arith }

-- two pieces
pub both_put : {a b : List ℕ} {j k : ℕ} {p q r : Page} → Put a j p q → Put b k q r → Put (a ++ b) (j + k) p r
both_put {a} {b} {p = p} x y = record { text = y.text ∙ ap (more b) x.text ∙ sym (more-append a b p); end = omega arith }

-- the five of a line
pub line_put : {a b c d e : List ℕ} {i j k l m most : ℕ} {p q r s t u : Page} → Put a i p q → Put b j q r → Put c k r s → Put d l s t → Put e m t u
    → i + j + k + l + m ≤ most
    → Put (a ++ b ++ c ++ d ++ e) most p u
line_put v w x y z h = put_within h (both_put (both_put (both_put (both_put v w) x) y) z)

-- ---- on one lent slice

pub none_puts : (p : LentPage) → Puts [] 0 p p
none_puts p = record { same_slice = refl; size = refl; put = none_put (on p) }

-- one byte
pub byte_puts : {p q : LentPage} (b : ℕ) → q.text.ghost_name ≡ p.text.ghost_name → q.text.now ≡ set p.text.now p.at b → q.at ≡ p.at + 1
    → Puts (b ∷ []) 1 p q
unfolding more
byte_puts {p} {q} b same text at = record {
  same_slice = same;
  size = ap length text ∙ simp length-set;
  put = record { text = rw (text, at) refl; end = omega arith };
}

-- a piece that is copied: the part of the text that it takes holds it then
pub piece_puts : {p q : LentPage} {s part : List ℕ} {k : ℕ} → p.at + length s ≤ length p.text.now → q.text.ghost_name ≡ p.text.ghost_name
    → q.text.now ≡ put_mid p.at k p.text.now part → part ≡ s → k ≡ length s → q.at ≡ p.at + length s → Puts s (length s) p q
unfolding more
piece_puts {p} {q} {s} {part} {k} room same text copied size at =
    let whole : put_mid p.at k p.text.now part ≡ sets p.text.now p.at s =
    put_mid-paste p.at k p.text.now part s (length s) copied (sym size) refl
    ∙ rw (take-length s, sets-eq s p.text.now p.at room) in
    record {
      same_slice = same;
      size = ap length (text ∙ whole) ∙ length-sets p.text.now p.at s;
      put = record { text = rw (text ∙ whole, at) refl; end = omega arith };
    }

-- the same text in other words, and a wider bound
pub puts_as : {s t : List ℕ} {most : ℕ} {p q : LentPage} → s ≡ t → Puts s most p q → Puts t most p q
puts_as {most = most} {p} {q} e = subst (λ s. Puts s most p q) e

pub puts_within : {s : List ℕ} {k most : ℕ} {p q : LentPage} → k ≤ most → Puts s k p q → Puts s most p q
puts_within h x = record { same_slice = x.same_slice; size = x.size; put = put_within h x.put }

-- two pieces
pub both_puts : {a b : List ℕ} {j k : ℕ} {p q r : LentPage} → Puts a j p q → Puts b k q r → Puts (a ++ b) (j + k) p r
both_puts x y = record { same_slice = y.same_slice ∙ x.same_slice; size = y.size ∙ x.size; put = both_put x.put y.put }

-- the five of a line
pub line_puts : {a b c d e : List ℕ} {i j k l m most : ℕ} {p q r s t u : LentPage} → Puts a i p q → Puts b j q r → Puts c k r s → Puts d l s t → Puts e m t u
    → i + j + k + l + m ≤ most
    → Puts (a ++ b ++ c ++ d ++ e) most p u
line_puts v w x y z h = puts_within h (both_puts (both_puts (both_puts (both_puts v w) x) y) z)

-- i of the bytes of s, and one more
pub bytes_puts : (s : List ℕ) {i : ℕ} {p q r : LentPage} → Puts (take i s) i p q → i < length s → Puts (get_or s i 0 ∷ []) 1 q r → Puts (take (i + 1) s) (i + 1) p r
bytes_puts s {i} x h y = puts_as (rw (add-one, take-suc s i 0 h)) (both_puts x y)

-- ---- the whole text

pub all_printed : {p : Page} {s lent : List ℕ} → 65536 ≤ length lent → Put s 65536 (page 0 lent) p → p ≡ printed s lent
unfolding more printed
all_printed {s = s} {lent} h x =
    let at = ap (λ q. q.at) x.text in
    let put : sets lent 0 s ≡ s ++ drop (length s) lent = sets-eq s lent 0 (omega arith) ∙ ap (λ k. s ++ drop k lent) (zero-add (length s)) in
    x.text ∙ rw (le-leb _ _ h, zero-add, put)

-- by the page that was made of what was lent, and the page that is left
pub printed_by : {p q : LentPage} {s lent text : List ℕ} {n : ℕ} → 65536 ≤ length lent → on p ≡ page 0 lent → Puts s 65536 p q → n ≡ q.at
    → text ≡ q.text.now
    → page n text ≡ printed s lent
printed_by h empty x at text = rw (at, text) (all_printed h (rw empty at x.put))

pub prefix_by : {p q : LentPage} {s lent text : List ℕ} {n : ℕ} → 65536 ≤ length lent → on p ≡ page 0 lent → Puts s 65536 p q → n ≡ q.at
    → text ≡ q.text.now
    → IsPrefixLen n text
prefix_by {q = q} {lent = lent} h empty x at text =
    let start = ap (λ r. r.at) empty in
    let long = ap (λ r. length r.text) empty in
    let few : q.at ≤ length q.text.now = omega (arith, x.put.end, x.size) in
    rw (at, text) (few, sym (length-take-le _ _ few))

pub none_printed : (s lent : List ℕ) → length lent < 65536 → page 0 lent ≡ printed s lent
unfolding printed
none_printed s lent h = rw (lt-leb _ _ h)
