-- The three entries, one by another. A matrix that is kept is a copy worked on in place; where the entries are finite it makes no difference that they are
-- not looked at; and what a refusal before the run leaves. Assumes nothing.
use Rattle.std.specs.Prelude.{Err, Ok}
use Prim.Native.Nat.{ℕ}
use mathlib.Core.Path.{◌≡◌, refl, sym, ap, ◌∙◌}
use mathlib.Core.List.{List}
use lib.ListN.{length}
use lib.Ieee.{Float}
use Rattle.refusal.specs.declared.refusal.Refusal.{Refusal}
use Rattle.refusal.specs.Refusal.{Checked, passed, ◌next◌}
use Rattle.refusal.specs.Checks.{order_checks, entry_checks, given_checks}
use Rattle.refusal.proofs.ChecksInTurn.{next_assoc}
use Rattle.plain.specs.Plain.{plain_lengths, in_place, plain_begun, plain_placed_of, plain_finite_of, kept, plain_of}

-- a check that passes adds nothing behind others
next_nothing : (c d : Checked) → d ≡ passed → (c next d) ≡ c
unfolding ◌next◌
next_nothing (Ok u) d h = h
next_nothing (Err r) d h = refl

module _ (n : ℕ) (m values w : List Float) where
  abbrev pub lengths : Checked
  lengths = plain_lengths n (length m) (length values) (length w)

  -- all that the plain entry checks before the run
  abbrev pub checks : Checked
  checks = given_checks lengths n m

  -- a copy, and the entry in place
  pub copied_in_place : plain_of n m values w ≡ kept (plain_placed_of n m values w)
  unfolding plain_of
  copied_in_place = refl

  -- entries that pass
  pub finite_in_place : entry_checks n m ≡ passed → plain_finite_of n m values w ≡ plain_placed_of n m values w
  unfolding plain_finite_of plain_placed_of given_checks
  finite_in_place h =
      ap (λ c. plain_begun c n m values w) (sym (next_nothing (order_checks n next lengths) (entry_checks n m) h)
      ∙ next_assoc (order_checks n) lengths (entry_checks n m))

  -- refused before the run: that refusal is answered, and nothing is touched
  pub untouched : {r : Refusal} → checks ≡ Err r → plain_placed_of n m values w ≡ in_place (Err r) m values w
  unfolding plain_placed_of plain_begun
  untouched h = rw h

  pub finite_untouched : {r : Refusal} → (order_checks n next lengths) ≡ Err r → plain_finite_of n m values w ≡ in_place (Err r) m values w
  unfolding plain_finite_of plain_begun
  finite_untouched h = rw h
