-- The bytes of a list of floats, one float after another; and what was written is read back. Assumes nothing.
use Prim.Native.Nat.{ℕ, zero, suc, ◌+◌, ◌-◌, ◌*◌, ◌/◌, ◌%◌, ◌<◌, ◌≤◌}
use mathlib.Core.Path.{◌≡◌, refl, sym, ap, ◌∙◌}
use mathlib.Core.List.{List, [], ◌∷◌}
use native.Mathlib.Decide.{dec_lt}
use native.Mathlib.Omega.{arith}
use lib.Dec.{T}
use lib.ListN.{length, get_or, take, drop, get_or-append}
use lib.Seq.{ext_get_or}
use lib.Ieee.{Float, nan, binary64, fits, of_bits, to_bits}
use lib.Ieee.Bits.{of_bits-to_bits, to_bits-lt}
use Rattle.std.specs.Int.{w64, from_le_bytes, to_le_bytes}
use Rattle.std.specs.List.{flat_map}
use Rattle.std.proofs.Common.{get_or-append-add}
use Rattle.std.proofs.lemmas.List.{drop-drop, take_all}
use Rattle.std.proofs.lemmas.Nat.{from_le_bytes-to_le_bytes_8}
use Rattle.loops.specs.Rounded.{◌!◌}
use Rattle.loops.specs.Table.{table-length, table_of}
use Rattle.words.specs.Words.{byte_of}
use Rattle.words.specs.Floats.{floats_of, bytes_of}
use Rattle.words.proofs.Chunks.{le64_bytes, floats_of-length, floats_of-at}

-- of one float
abbrev pub bytes : Float → List ℕ
bytes x = to_le_bytes w64 (to_bits binary64 x)

byte_at : (w i : ℕ) → i < 8 → get_or (to_le_bytes w64 w) i 0 ≡ byte_of w i
unfolding byte_of
byte_at w zero l = omega arith
byte_at w (suc zero) l = omega arith
byte_at w (suc (suc zero)) l = omega arith
byte_at w (suc (suc (suc zero))) l = omega arith
byte_at w (suc (suc (suc (suc zero)))) l = omega arith
byte_at w (suc (suc (suc (suc (suc zero))))) l = omega arith
byte_at w (suc (suc (suc (suc (suc (suc zero)))))) l = omega arith
byte_at w (suc (suc (suc (suc (suc (suc (suc zero))))))) l = omega arith
byte_at w (suc (suc (suc (suc (suc (suc (suc (suc i)))))))) l = absurd (omega arith)

-- ---- all of them, and the word of each

flat-length : (a : List Float) → length (flat_map bytes a) ≡ 8 * length a
flat-length [] = refl
flat-length (x ∷ a) = omega (arith, flat-length a)

flat_byte : (a : List Float) (i : ℕ) → i < 8 * length a → get_or (flat_map bytes a) i 0 ≡ byte_of (to_bits binary64 (a ! (i / 8))) (i % 8)
flat_byte [] i l = absurd (omega arith)
flat_byte (x ∷ a) i l = go (dec_lt i 8) (flat_byte a (i - 8))
  where
    go : Dec (i < 8) → (i - 8 < 8 * length a → get_or (flat_map bytes a) (i - 8) 0 ≡ byte_of (to_bits binary64 (a ! ((i - 8) / 8))) ((i - 8) % 8))
        → get_or (flat_map bytes (x ∷ a)) i 0 ≡ byte_of (to_bits binary64 ((x ∷ a) ! (i / 8))) (i % 8)
    go (yes h) rest =
        let q : i / 8 ≡ 0 = omega arith in
        let r : i % 8 ≡ i = omega arith in
        get_or-append (bytes x) (flat_map bytes a) 0 i h ∙ rw (q, r) (byte_at (to_bits binary64 x) i h)
    go (no h) rest =
        let e : i ≡ 8 + (i - 8) = omega arith in
        let q : i / 8 ≡ suc ((i - 8) / 8) = omega arith in
        let r : i % 8 ≡ (i - 8) % 8 = omega arith in
        ap (λ m. get_or (flat_map bytes (x ∷ a)) m 0) e ∙ get_or-append-add (bytes x) (flat_map bytes a) (i - 8) 0 ∙ rest (omega arith) ∙ rw (q, r)

pub bytes_flat : (a : List Float) → flat_map bytes a ≡ bytes_of a
unfolding bytes_of
bytes_flat a = table_of (8 * length a) _ (flat_map bytes a) 0 (flat-length a) (flat_byte a)

pub bytes_of-length : (a : List Float) → length (bytes_of a) ≡ 8 * length a
unfolding bytes_of
bytes_of-length a = table-length (8 * length a) _

pub bytes_of-at : (a : List Float) (k j : ℕ) → k < length a → j < 8 → get_or (bytes_of a) (8 * k + j) 0 ≡ byte_of (to_bits binary64 (a ! k)) j
bytes_of-at a k j h l =
    let q : (8 * k + j) / 8 ≡ k = omega arith in
    let r : (8 * k + j) % 8 ≡ j = omega arith in
    ap (λ b. get_or b (8 * k + j) 0) (sym (bytes_flat a)) ∙ flat_byte a (8 * k + j) (omega arith) ∙ rw (q, r)

flat_word : (a : List Float) (k : ℕ) → k < length a → take 8 (drop (8 * k) (flat_map bytes a)) ≡ bytes (a ! k)
flat_word [] k l = absurd (omega arith)
flat_word (x ∷ a) zero l = refl
flat_word (x ∷ a) (suc k) l =
    let all = flat_map bytes (x ∷ a) in
    let e : 8 * suc k ≡ 8 + 8 * k = omega arith in
    ap (take 8) (ap (λ m. drop m all) e ∙ sym (drop-drop (8 * k) 8 all)) ∙ flat_word a k (omega arith)

-- all are written
pub all_written : (a : List Float) (b : List ℕ) (k : ℕ) → take (8 * k) b ≡ flat_map bytes (take k a) → length a ≤ k → length b ≡ 8 * length a → b ≡ bytes_of a
all_written a b k h l e = sym (take_all (8 * k) b (omega arith)) ∙ h ∙ ap (flat_map bytes) (take_all k a l) ∙ bytes_flat a

-- ---- floats of binary64 that are written and read again are the same

pub floats_back : (a : List Float) → ((k : ℕ) → k < length a → T (fits binary64 (a ! k))) → floats_of (bytes_of a) ≡ a
floats_back a fit =
    rw (← bytes_flat a)
    (ext_get_or nan (floats_of (flat_map bytes a)) a
    (floats_of-length (flat_map bytes a) ∙ omega (arith, flat-length a))
    (λ k l. at k (omega (arith, floats_of-length (flat_map bytes a), flat-length a))))
  where
    at : (k : ℕ) → k < length a → floats_of (flat_map bytes a) ! k ≡ a ! k
    at k l =
        floats_of-at (flat_map bytes a) k (omega (arith, flat-length a))
        ∙ ap (of_bits binary64)
        (sym (le64_bytes (flat_map bytes a) (8 * k))
        ∙ ap (from_le_bytes w64) (flat_word a k l)
        ∙ from_le_bytes-to_le_bytes_8 _ (to_bits-lt binary64 (a ! k) (fit k l)))
        ∙ of_bits-to_bits binary64 (a ! k) (fit k l)
