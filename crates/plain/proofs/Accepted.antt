-- An accepted T may be read, so the real reader meets no refusal there but 10. Assumes nothing.
use Rattle.std.specs.Prelude.{Ok}
use Prim.Native.Nat.{ℕ}
use mathlib.Core.Path.{◌≡◌}
use mathlib.Core.List.{List}
use lib.ListN.{length}
use lib.Ieee.{Float}
use Rattle.pass.specs.declared.setting.Setting.{Setting}
use Rattle.pass.specs.Pair.{Pair}
use Rattle.decomposition.specs.Decomposition.{Outcome, decomposition_of}
use Rattle.decomposition.proofs.CheckedArguments.{all_right, all_lent}
use Rattle.decomposition.proofs.Touched.{accepted_passed, t_square}
use Rattle.decomposition.proofs.Shape.{accepted_finite, accepted_shape}
use Rattle.eigenvalues.specs.Readers.{pair_check, real_read}
use Rattle.eigenvalues.specs.Real.{Given}
use Rattle.eigenvalues.proofs.Real.{given_answer}

module _ (asked : Setting) (budget : ℕ) (m : List Float) (p : Pair) (w values : List Float) where
  abbrev n : ℕ
  n = asked.order

  abbrev decomposed : Outcome
  decomposed = decomposition_of asked budget m p w

  pub accepted_given : {c : ℕ} → decomposed.answer ≡ Ok c → length values ≡ n → Given n decomposed.pair.t values
  accepted_given e l =
      let h = accepted_passed _ asked budget m p w e in
      let r = all_right _ _ _ _ h in
      let lent = all_lent asked (length m) (length p.t) (length p.q) (length w) in
      record {
        some = r.some;
        order = r.order;
        square = t_square _ asked budget m p w lent h;
        room = l;
        finite = accepted_finite _ asked budget m p w lent e;
        shape = accepted_shape _ asked budget m p w lent e;
      }

  -- so no other refusal is met there
  pub accepted_read : {c : ℕ} → decomposed.answer ≡ Ok c → length values ≡ n
      → (real_read n decomposed.pair.t values).answer ≡ pair_check n decomposed.pair.t
  accepted_read e l = given_answer n decomposed.pair.t values (accepted_given e l)
