-- What the decomposition answers over bytes, and the bytes that it leaves, told of the pieces that the code has in hand. Assumes nothing.
use Rattle.std.specs.Prelude.{Err}
use Rattle.refusal.specs.Refusal.{passed}
use Rattle.schur.specs.Run.{Ran}
use Prim.Native.Nat.{ℕ, ◌*◌, ◌<◌}
use mathlib.Core.Path.{◌≡◌, refl, ap, ◌∙◌}
use mathlib.Core.Bool.{true, cond}
use mathlib.Core.List.{List}
use native.Mathlib.Omega.{arith}
use lib.ListN.{length}
use lib.Ieee.{Float}
use Rattle.matrix.specs.Vectors.{zeros}
use Rattle.pass.specs.declared.setting.Setting.{Setting}
use Rattle.pass.specs.Pair.{Pair, pair}
use Rattle.schur.specs.Run.{Left, left, run_fits, ran_of, run_of}
use Rattle.refusal.specs.declared.refusal.Refusal.{Refusal}
use Rattle.decomposition.specs.Decomposition.{Decomposed, Settlement, decided}
use Rattle.words.specs.Floats.{floats_of, bytes_of}
use Rattle.door.specs.declared.matrices.Request.{Request}
use Rattle.answer.specs.Answer.{decomposed_number}
use Rattle.answer.proofs.Numbers.{refusal_large}
use Rattle.door.specs.Matrices.{asked_by, matrices, matrix_checks, written_matrices, ran_floats, ran_bytes, decomposed_from, decompose_bytes, AcceptedBytes}
use Rattle.door.specs.Inner.{MatricesDone}
use Rattle.door.proofs.Decomposition.{accepted_bytes}

-- after the run
pub ran : (r : Request) (m : List ℕ) (asked : Setting) (a c w : List Float) (came : Ran) (p : Pair) (s : Settlement) (t' q q' : List ℕ)
    → asked ≡ asked_by r → a ≡ floats_of m → c ≡ zeros (r.order * r.order) → w ≡ zeros (2 * r.order) → run_fits r.order (length a) (length w) ≡ true
    → left came p ≡ run_of asked r.budget (pair a c) w → s ≡ decided asked came p
    → t' ≡ bytes_of s.pair.t → q' ≡ cond r.wanted (bytes_of s.pair.q) q
    → floats_of t' ≡ s.pair.t → (r.wanted ≡ true → floats_of q' ≡ s.pair.q)
    → MatricesDone r m q s.answer t' q'
unfolding ran_floats ran_bytes written_matrices run_of
ran r m asked a c w came p s t' q q' same read_a zero_c zero_w fits run end left_t left_q held_t held_q =
    let there : run_fits r.order (length (floats_of m)) (length (zeros (2 * r.order))) ≡ true = rw (read_a, zero_w) at fits in
    let whole = ran_of (asked_by r) r.budget (pair (floats_of m) (zeros (r.order * r.order))) (zeros (2 * r.order)) in
    let here : left came p ≡ whole = run ∙ rw (same, read_a, zero_c, zero_w) (rw there) in
    let decides : Setting → Left → Settlement = λ x l. decided x l.answer l.pair in
    let settles : s ≡ ran_floats r m = end ∙ ap (decides asked) here ∙ ap (λ x. decides x whole) same in
    record {
      bytes = rw (left_t, left_q) (ap (λ s. written_matrices r.wanted s q) settles);
      held_t = held_t ∙ ap (λ (s : Settlement). s.pair.t) settles;
      held_q = λ e. held_q e ∙ ap (λ (s : Settlement). s.pair.q) settles;
    }

-- ---- all of it, with what an acceptance promises

pub decompose_kept : {x : Refusal} (r : Request) (m t q : List ℕ) (d : Decomposed) → matrix_checks r m (length t) (length q) ≡ Err x → d ≡ Err x
    → let answer = decomposed_number d in
    (matrices answer t q ≡ decompose_bytes r m t q) × (answer < 0x1_0000_0000 → AcceptedBytes r m answer t q)
unfolding decompose_bytes decomposed_from decomposed_number
decompose_kept {x} r m t q d refused told = rw told (rw refused refl, λ l. absurd (omega (arith, refusal_large x)))

pub decompose_ran : (r : Request) (m t q : List ℕ) {d : Decomposed} {t' q' : List ℕ} → matrix_checks r m (length t) (length q) ≡ passed
    → MatricesDone r m q d t' q'
    → let answer = decomposed_number d in
    (matrices answer t' q' ≡ decompose_bytes r m t q) × (answer < 0x1_0000_0000 → AcceptedBytes r m answer t' q')
unfolding decompose_bytes decomposed_from
decompose_ran r m t q passed run = (rw passed run.bytes, accepted_bytes r m t q passed run)
