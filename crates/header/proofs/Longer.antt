-- The program reads one byte more than the longest record has, and no further. What an input is examined to be is what its first 8213 bytes are. Assumes
-- nothing.
use Rattle.std.specs.Prelude.{Ok}
use Prim.Native.Nat.{ℕ, ◌+◌, ◌*◌, ◌<◌, ◌≤◌}
use mathlib.Core.Path.{◌≡◌, refl, sym, ap, ◌∙◌}
use mathlib.Core.Bool.{Bool, true, false}
use mathlib.Core.List.{List}
use native.Mathlib.Omega.{arith}
use borrow.Author.Tests.{eqb-true, ltb-false, lt-ltb, le-ltb}
use lib.Dec.{eqb, ltb}
use lib.ListN.{length, take}
use lib.Seq.{length-take-le}
use Rattle.std.specs.Int.{w16, w32, w64, from_le_bytes}
use Rattle.refusal.specs.Refusal.{refuse, ◌next◌}
use Rattle.words.specs.Words.{le64}
use Rattle.words.proofs.Chunks.{le64_bytes}
use Rattle.header.specs.declared.Header.{Header}
use Rattle.header.specs.Record.{le16, le32, header_of, header_checks, record_checks, examined}
use Rattle.header.proofs.Fields.{le16_bytes, le32_bytes, front}
use Rattle.header.proofs.Rooms.{square_32}
use Rattle.header.proofs.FitHeader.{fit_header}

-- ---- the header of the first n bytes

module _ (n : ℕ) (s : List ℕ) where
  le16-take : (at : ℕ) → at + 2 ≤ n → le16 (take n s) at ≡ le16 s at
  le16-take at h = sym (le16_bytes (take n s) at) ∙ ap (from_le_bytes w16) (front n s at 2 h) ∙ le16_bytes s at

  le32-take : (at : ℕ) → at + 4 ≤ n → le32 (take n s) at ≡ le32 s at
  le32-take at h = sym (le32_bytes (take n s) at) ∙ ap (from_le_bytes w32) (front n s at 4 h) ∙ le32_bytes s at

  le64-take : (at : ℕ) → at + 8 ≤ n → le64 (take n s) at ≡ le64 s at
  le64-take at h = sym (le64_bytes (take n s) at) ∙ ap (from_le_bytes w64) (front n s at 8 h) ∙ le64_bytes s at

  header_take : 20 ≤ n → header_of (take n s) ≡ header_of s
  unfolding header_of
  header_take h =
      rw (le32-take 0 (omega arith), le16-take 4 (omega arith), le16-take 6 (omega arith), le32-take 8 (omega arith), le64-take 12 (omega arith))

-- ---- its checks, of two inputs that are longer than every record

long_alike : (h : Header) (x y : ℕ) → 8212 < x → 8212 < y → header_checks h x ≡ header_checks h y
unfolding header_checks refuse ◌next◌
long_alike h x y a b = go _ refl _ refl _ refl _ refl
  where
    go : (k : Bool) → eqb h.kind 1 ≡ k → (z : Bool) → eqb h.order 0 ≡ z → (l : Bool) → ltb 32 h.order ≡ l → (d : Bool)
        → eqb h.length (16 + 8 * (h.order * h.order)) ≡ d
        → header_checks h x ≡ header_checks h y
    go false e z f l g d i = rw e
    go true e true f l g d i = rw (e, f)
    go true e false f true g d i = rw (e, f, g)
    go true e false f false g false i = rw (e, f, g, i)
    go true e false f false g true i =
        let small = square_32 h.order (ltb-false 32 h.order g) in
        let size = eqb-true h.length (16 + 8 * (h.order * h.order)) i in
        rw (
          e,
          f,
          g,
          i,
          le-ltb x (4 + h.length) (omega arith),
          lt-ltb (4 + h.length) x (omega arith),
          le-ltb y (4 + h.length) (omega arith),
          lt-ltb (4 + h.length) y (omega arith),
        )

-- ---- all of it

checks_alike : (b : List ℕ) → 8213 < length b → record_checks (take 8213 b) ≡ record_checks b
unfolding record_checks refuse ◌next◌
checks_alike b h =
    let size = length-take-le 8213 b (omega arith) in
    rw (size, header_take 8213 b (omega arith), le-ltb (length b) 20 (omega arith)) (long_alike (header_of b) 8213 (length b) (omega arith) (omega arith))

pub longer_examined : (b : List ℕ) → 8213 < length b → examined (take 8213 b) ≡ examined b
unfolding examined
longer_examined b h = rw (checks_alike b h, header_take 8213 b (omega arith))

pub longer_unfit : {h : Header} (b : List ℕ) → 8213 < length b → examined b ≡ Ok h → ⊥
longer_unfit {h} b l e =
    let fit = fit_header b e in
    omega (arith, square_32 h.order fit.order)
