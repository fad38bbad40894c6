-- The door and the library: where the checks on the bytes pass, what the door answers and writes is what `decomposition_of` answers and leaves on the floats
-- of these bytes. So what the library's theorems say of an acceptance holds at the door (document 00, demand 3). Assumes nothing.
use Rattle.std.specs.Prelude.{Ok}
use Rattle.refusal.specs.Refusal.{Checked, passed}
use Prim.Native.Nat.{ℕ, ◌*◌, ◌<◌}
use mathlib.Core.Path.{◌≡◌, sym, ap, subst, ◌∙◌}
use mathlib.Core.List.{List}
use native.Mathlib.Omega.{arith}
use lib.ListN.{length}
use lib.Ieee.{Float}
use Rattle.matrix.proofs.Each.{zeros-length}
use Rattle.matrix.specs.Vectors.{zeros}
use Rattle.refusal.specs.declared.refusal.Refusal.TheVariants.{WrongLength}
use Rattle.refusal.specs.Shape.{AllFinite, QuasiTriangular}
use Rattle.refusal.proofs.ChecksInTurn.{next_passes}
use Rattle.refusal.proofs.PassedChecks.{length_passes, matrices_passes}
use Rattle.pass.specs.declared.setting.Setting.{Setting}
use Rattle.pass.specs.Pair.{Pair, pair}
use Rattle.decomposition.specs.Checks.{all_lengths}
use Rattle.decomposition.specs.Decomposition.{Decomposed, Outcome, Settlement, settlement, judged}
use Rattle.decomposition.proofs.CheckedArguments.{Sizes, Right, all_right, all_lent, passed_judged}
use Rattle.decomposition.proofs.Count.{accepted_count}
use Rattle.decomposition.proofs.Shape.{accepted_finite, accepted_q_finite, accepted_shape}
use Rattle.words.specs.Floats.{floats_of}
use Rattle.words.proofs.Between.{floats_length}
use Rattle.answer.specs.Answer.{decomposed_number}
use Rattle.answer.proofs.Numbers.{accepted_number, count_small}
use Rattle.door.specs.declared.matrices.Request.{Request}
use Rattle.door.specs.Matrices.{asked_by, Matrices, matrix_checks, written_matrices, ran_floats, ran_bytes, decomposed_from, decompose_bytes, library_of}
use Rattle.door.specs.Matrices.{AcceptedBytes}
use Rattle.door.specs.Inner.{MatricesDone}
use Rattle.door.proofs.MatrixLengths.{matrix_fit}

module _ (r : Request) (m t q : List ℕ) (through : matrix_checks r m (length t) (length q) ≡ passed) where
  abbrev n : ℕ
  n = r.order

  abbrev asked : Setting
  asked = asked_by r

  abbrev a : List Float
  a = floats_of m

  -- zeros are lent for T and Q, and for the workspace
  abbrev p : Pair
  p = pair (zeros (n * n)) (zeros (n * n))

  abbrev w : List Float
  w = zeros (2 * n)

  abbrev lengths : Checked
  lengths = all_lengths asked (length a) (length p.t) (length p.q) (length w)

  lent : lengths ≡ passed → Sizes n (length a) (length p.t) (length w)
  lent = all_lent asked (length a) (length p.t) (length p.q) (length w)

  -- ---- the library's checks pass on the floats

  lengths_pass : lengths ≡ passed
  unfolding all_lengths
  lengths_pass =
      let square = zeros-length (n * n) in
      next_passes (matrices_passes (record { m = floats_length m _ (matrix_fit r m _ _ through).matrix; t = square; q = λ _. square }))
      (length_passes WrongLength (zeros-length (2 * n)))

  right : Right lengths asked r.budget a
  unfolding matrix_checks
  right =
      let x = all_right _ _ _ _ through in
      record { some = x.some; order = x.order; lent = lengths_pass; near = x.near; bound = x.bound; entries = x.entries }

  -- ---- so the run is the library's

  library_ran : settlement (library_of r m).answer (library_of r m).pair ≡ ran_floats r m
  unfolding ran_floats judged
  library_ran = ap (λ (o : Outcome). settlement o.answer o.pair) (passed_judged lengths asked r.budget a p w right)

  -- the number of its answer, the bytes of its T, and of its Q where that is wanted
  pub door_decomposition : decompose_bytes r m t q ≡ written_matrices r.wanted (settlement (library_of r m).answer (library_of r m).pair) q
  unfolding decompose_bytes decomposed_from ran_bytes
  door_decomposition = rw through (ap (λ s. written_matrices r.wanted s q) (sym library_ran))

  -- ---- acceptances

  -- the library's are told by a number below 2^32, the count
  pub door_accepted : {c : ℕ} → (library_of r m).answer ≡ Ok c → ((decompose_bytes r m t q).answer ≡ c) × (c < 0x1_0000_0000)
  unfolding written_matrices decomposed_number
  door_accepted e =
      let told : (decompose_bytes r m t q).answer ≡ decomposed_number (library_of r m).answer = ap (λ (x : Matrices). x.answer) door_decomposition in
      (told ∙ ap decomposed_number e, count_small r.budget right.bound (accepted_count lengths asked a p w lent r.budget e).1)

  -- and such a number is an acceptance
  pub accepted_bytes : {d : Decomposed} {t' q' : List ℕ} → MatricesDone r m q d t' q' → decomposed_number d < 0x1_0000_0000
      → AcceptedBytes r m (decomposed_number d) t' q'
  unfolding ran_bytes written_matrices
  accepted_bytes {d} run l =
      let told : decomposed_number d ≡ decomposed_number (ran_floats r m).answer = ap (λ (x : Matrices). x.answer) run.bytes in
      let came = ap (λ (s : Settlement). s.answer) library_ran in
      let e : (library_of r m).answer ≡ Ok (decomposed_number d) = came ∙ accepted_number _ (omega (arith, told)) ∙ ap Ok (sym told) in
      let count = accepted_count lengths asked a p w lent r.budget e in
      let in_t = ap (λ (s : Settlement). s.pair.t) library_ran ∙ sym run.held_t in
      record {
        accepted = e;
        counted = count.0;
        below = count.1;
        t_finite = subst (AllFinite n) in_t (accepted_finite lengths asked r.budget a p w lent e);
        t_shape = subst (QuasiTriangular n) in_t (accepted_shape lengths asked r.budget a p w lent e);
        q_finite = λ k.
            subst (AllFinite n) (ap (λ (s : Settlement). s.pair.q) library_ran ∙ sym (run.held_q k))
            (accepted_q_finite lengths asked r.budget a p w lent k e (zeros-length (n * n)));
      }
