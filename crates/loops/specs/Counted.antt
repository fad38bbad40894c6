-- A run is a loop with fuel, `until done turn budget first`, whose state has a count: a turn counts 1, and only the
-- one that ends the run may go uncounted. What follows from that alone holds for every run that counts: `Counted` of
-- proofs says, once, how its count and its budget go together.
use Rattle.std.specs.Prelude.{◌≡◌, Bool, false, ℕ, ◌+◌, ◌≤◌}

pub record Counted {A : Type 0} (done : A → Bool) (turn : A → A) (count : A → ℕ) : Type 0 where
  pub least : (x : A) → count x ≤ count (turn x)
  pub most : (x : A) → count (turn x) ≤ count x + 1
  pub going : (x : A) → done (turn x) ≡ false → count (turn x) ≡ count x + 1
