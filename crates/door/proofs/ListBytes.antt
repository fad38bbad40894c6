-- What an entry that gives lists answers over bytes, and the bytes that it leaves, told of the pieces that the code has in hand. Assumes nothing.
use Rattle.std.specs.Prelude.{Err, Ok}
use Rattle.refusal.specs.Refusal.{Checked, passed}
use Prim.Native.Nat.{ℕ, ◌*◌, ◌≤◌}
use mathlib.Core.Path.{◌≡◌, refl, ap, ◌∙◌}
use mathlib.Core.List.{List}
use lib.ListN.{length}
use lib.Ieee.{Float}
use Rattle.matrix.proofs.Each.{zeros-length}
use Rattle.matrix.specs.Vectors.{zeros}
use Rattle.refusal.specs.Refusal.{◌next◌, if_passed}
use Rattle.refusal.specs.Checks.{order_checks}
use Rattle.refusal.proofs.ChecksInTurn.{next_passes}
use Rattle.refusal.proofs.PassedChecks.{order_passes, length_passes}
use Rattle.eigenvalues.specs.Readers.{real_lengths, complex_lengths, real_read, complex_read}
use Rattle.eigenvalues.specs.Readers.{left_by}
use Rattle.eigenvalues.proofs.KnownFinite.{real_finite, complex_finite}
use Rattle.plain.specs.Plain.{plain_lengths, plain_begun, plain_finite_of}
use Rattle.words.specs.Floats.{floats_of, bytes_of}
use Rattle.words.proofs.Between.{floats_length}
use Rattle.door.specs.Lists.{ListEntry, Real, Complex, Plain}
use Rattle.answer.specs.Answer.{checked_number}
use Rattle.door.specs.Inner.{second_size, evaluated, evaluated_by, second_written}
use Rattle.door.specs.Lists.{list_lengths, list_checks, complex_listed, real_bytes, complex_bytes, plain_from, plain_bytes, lists_bytes}
use Rattle.door.proofs.ListLengths.{list_fit, list_entries}

-- what is written where all checks have passed: of a list that was read then
written : (c : Checked) (x y : List Float) (z : List ℕ) → if_passed c (bytes_of (if_passed c x y)) z ≡ if_passed c (bytes_of x) z
unfolding if_passed
written (Ok u) x y z = refl
written (Err r) x y z = refl

-- ---- the library's tests of the lengths pass too

real_sized : (n : ℕ) {an xn : ℕ} → an ≡ n * n → xn ≡ n → real_lengths n an xn ≡ passed
unfolding real_lengths
real_sized n square list = next_passes (length_passes _ square) (length_passes _ list)

complex_sized : (n : ℕ) {an xn yn : ℕ} → an ≡ n * n → xn ≡ n → yn ≡ n → complex_lengths n an xn yn ≡ passed
unfolding complex_lengths
complex_sized n square list second = next_passes (length_passes _ square) (next_passes (length_passes _ list) (length_passes _ second))

plain_sized : (n : ℕ) {an xn yn : ℕ} → 1 ≤ n → n ≤ 64 → an ≡ n * n → xn ≡ n → yn ≡ 2 * n → (order_checks n next plain_lengths n an xn yn) ≡ passed
unfolding plain_lengths
plain_sized n some order square list second =
    next_passes (order_passes some order) (next_passes (length_passes _ square) (next_passes (length_passes _ list) (length_passes _ second)))

-- ---- what was evaluated is what is written

-- the floats of the bytes in the matrix's place
pub list_read : (e : ListEntry) (n : ℕ) (m re im re' im' : List ℕ) (x x' y y' : List Float) (c : Checked)
    → list_checks e n m (length re) (length im) ≡ passed → length x ≡ n → y ≡ zeros (second_size e n)
    → evaluated c x' y' ≡ evaluated_by e n (floats_of m) x y → re' ≡ if_passed c (bytes_of x') re → im' ≡ second_written e c y' im
    → complex_listed (checked_number c) re' im' ≡ lists_bytes e n m re im
unfolding lists_bytes real_bytes complex_bytes plain_bytes plain_from real_read complex_read plain_finite_of plain_begun left_by list_lengths
    checked_number if_passed list_checks
list_read Real n m re im re' im' x x' y y' c passed list zero run left_re left_im =
    let f = list_fit Real n m (length re) (length im) passed in
    let size = real_sized n (floats_length m (n * n) f.matrix) list in
    let whole = run ∙ ap (λ r. evaluated r.answer r.values y) (real_finite n (floats_of m) x (list_entries Real n m (length re) (length im) passed)) in
    rw (left_re, left_im, ap (λ r. r.x) whole, ap (λ r. r.answer) whole, size, f.lent, written)
list_read Complex n m re im re' im' x x' y y' c passed list zero run left_re left_im =
    let f = list_fit Complex n m (length re) (length im) passed in
    let size = complex_sized n (floats_length m (n * n) f.matrix) list (ap length zero ∙ zeros-length n) in
    let whole =
    run ∙ ap (λ r. evaluated r.answer r.re r.im) (complex_finite n (floats_of m) x y (list_entries Complex n m (length re) (length im) passed)) in
    rw (left_re, left_im, ap (λ r. r.x) whole, ap (λ r. r.y) whole, ap (λ r. r.answer) whole, size, f.lent) (simp written)
list_read Plain n m re im re' im' x x' y y' c passed list zero run left_re left_im =
    let f = list_fit Plain n m (length re) (length im) passed in
    let size = plain_sized n f.some f.order (floats_length m (n * n) f.matrix) list (ap length zero ∙ zeros-length (2 * n)) in
    rw (left_re, left_im, ap (λ r. r.x) run, ap (λ r. r.answer) run, size, passed, zero, written)
