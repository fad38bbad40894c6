-- An answer below 2^32 is a count, and no other is: a refusal's number is at least 2^32, and a count lies below a budget. Assumes nothing.
use Rattle.std.specs.Prelude.{Err, Ok}
use Rattle.decomposition.specs.Decomposition.{Decomposed}
use Prim.Native.Nat.{ℕ, ◌≤◌, ◌<◌}
use mathlib.Core.Bool.{true}
use mathlib.Core.Path.{◌≡◌, refl}
use native.Mathlib.Omega.{arith}
use Rattle.refusal.specs.declared.refusal.Refusal.{Refusal}
use Rattle.refusal.proofs.Numbers.{told_range}
use Rattle.decomposition.specs.Checks.{budget_fits}
use Rattle.decomposition.proofs.CheckedArguments.{most_budget}
use Rattle.answer.specs.Answer.{packed, refusal_number, decomposed_number}

pub refusal_large : (r : Refusal) → 0x1_0000_0000 ≤ refusal_number r
unfolding refusal_number packed
refusal_large r = omega (arith, (told_range r).0, (told_range r).1)

-- so what is told below is accepted, and it is the count
pub accepted_number : (d : Decomposed) → decomposed_number d < 0x1_0000_0000 → d ≡ Ok (decomposed_number d)
unfolding decomposed_number
accepted_number (Ok c) h = refl
accepted_number (Err r) h = absurd (omega (arith, refusal_large r))

-- and what is accepted is told below: a budget is 1,000,000 at most
pub count_small : {c : ℕ} (budget : ℕ) → budget_fits budget ≡ true → c < budget → c < 0x1_0000_0000
count_small budget fits below = omega (arith, most_budget budget fits)
