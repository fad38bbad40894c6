-- The largest magnitude of finite numbers is finite. Assumes nothing.
use Prim.Native.Nat.{ℕ, ◌<◌}
use mathlib.Core.Bool.{true}
use mathlib.Core.Path.{◌≡◌, refl, ◌∙◌}
use mathlib.Core.List.{List}
use native.Mathlib.Omega.{arith}
use borrow.Author.Tests.{eqb-false}
use lib.Dec.{eqb}
use lib.ListN.{length}
use lib.Ieee.{Float, nan, inf, fin, le, of_bits}
use Rattle.loops.specs.Rounded.{◌!◌}
use Rattle.loops.specs.Tests.{cond_hold, cond_both}
use Rattle.loops.specs.Times.{range_hold}
use Rattle.scalar.specs.Class.{is_finite}
use Rattle.scalar.specs.Sign.{modulus_of}
use Rattle.matrix.specs.Vectors.{larger, largest}

modulus_finite : (x : Float) → is_finite (modulus_of x) ≡ is_finite x
unfolding is_finite modulus_of
modulus_finite nan = refl
modulus_finite (inf s) = refl
modulus_finite (fin s m e) = refl

pub largest_finite : (t : List Float) → ((i : ℕ) → i < length t → is_finite (t ! i) ≡ true) → is_finite (largest t) ≡ true
unfolding largest is_finite of_bits
largest_finite t h =
    let magnitude : (i : ℕ) → i < length t → is_finite (modulus_of (t ! i)) ≡ true = λ i l. modulus_finite (t ! i) ∙ h i l in
    cond_both (λ x. is_finite x ≡ true) (eqb (length t) 0) _ _ (λ _. refl)
    (λ some. range_hold (λ a. is_finite a ≡ true) (λ i a. larger a (modulus_of (t ! i))) 1 (length t) (modulus_of (t ! 0))
    (λ i a l m finite. cond_hold (λ x. is_finite x ≡ true) (le (modulus_of (t ! i)) a) a (modulus_of (t ! i)) (λ _. finite) (magnitude i m))
    (magnitude 0 (let q = eqb-false (length t) 0 some in omega arith)))
