-- The laws of `Place` of specs.
use Rattle.std.specs.Prelude.{◌≡◌, ℕ, suc, ◌*◌, ◌<◌, ◌≢◌}
use Rattle.std.proofs.Common.{ap, mul-le-mul_right, suc-mul, arith}
use Rattle.std.proofs.Math.Decide.{dec_lt}
use Rattle.loops.specs.Place.{Inside, place}

-- a place of an earlier column lies before one of a later
later : (n i j i' j' : ℕ) → i < n → j < j' → place n i j < place n i' j'
later n i j i' j' h k = omega (arith, mul-le-mul_right {m = suc j} n k, suc-mul j n)

-- a place has one row and one column
pub place_one : (n i j i' j' : ℕ) → i < n → i' < n → place n i j ≡ place n i' j' → (i ≡ i') × (j ≡ j')
place_one n i j i' j' h k e = go (dec_lt j j') (dec_lt j' j)
  where
    go : Dec (j < j') → Dec (j' < j) → (i ≡ i') × (j ≡ j')
    go (yes a) d = omega (arith, later n i j i' j' h a)
    go (no a) (yes b) = omega (arith, later n i' j' i j k b)
    go (no a) (no b) = let q : j ≡ j' = omega arith in omega (arith, ap (λ m. m * n) q)

-- a place outside a block is none of its places
pub apart : {a b c d i j : ℕ} (n i' j' : ℕ) → i < n → i' < n → (Inside a b c d i j → ⊥) → Inside a b c d i' j'
    → place n i j ≢ place n i' j'
apart {i = i} {j = j} n i' j' h k out at e =
    let q = place_one n i j i' j' h k e in
    out (omega arith)

-- two places that differ in the row or in the column
pub places : (n i j i' j' : ℕ) → i < n → i' < n → (i ≡ i' → j ≡ j' → ⊥) → place n i j ≢ place n i' j'
places n i j i' j' h k out e = let q = place_one n i j i' j' h k e in out q.0 q.1
