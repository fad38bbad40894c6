-- A test's outcome as a fact. The code's branches hand a proof `b ≡ true` or `b ≡ false`; many laws ask for `T b` or `T
-- (not b)`. What owning an f64 x tells is such an equation too: `truth c.good.0.1 : T (fits binary64 x)`.
use Rattle.std.specs.Prelude.{◌≡◌, refl, Bool, true, false, not, cond, T}
use Rattle.std.proofs.Common.{sym, subst}

pub truth : {b : Bool} → b ≡ true → T b
truth e = subst T (sym e) tt

pub falsity : {b : Bool} → b ≡ false → T (not b)
falsity e = subst (λ b. T (not b)) (sym e) tt

-- what holds of both answers of a test holds of its answer; of the first it need hold only where the test does
pub cond_hold : {A : Type 0} (P : A → Type 0) (b : Bool) (x y : A) → (b ≡ true → P x) → P y → P (cond b x y)
cond_hold P true x y h k = h refl
cond_hold P false x y h k = k

-- the same, each where it is taken
pub cond_both : {A : Type 0} (P : A → Type 0) (b : Bool) (x y : A) → (b ≡ true → P x) → (b ≡ false → P y)
    → P (cond b x y)
cond_both P true x y h k = h refl
cond_both P false x y h k = k refl
