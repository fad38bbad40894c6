-- One contract, one answer. A contract of this library gives the answer and every lent buffer at exit, as one record,
-- by an equation with a definition of the inputs. Whatever two answers it allows are then the same.
use Rattle.std.specs.Prelude.{◌≡◌}
use Rattle.std.proofs.Common.{sym, ◌∙◌}

-- what such a contract allows
abbrev pub Allows : {A : Type 0} → A → A → Type 0
Allows defined answer = answer ≡ defined

pub one_answer : {A : Type 0} (defined x y : A) → Allows defined x → Allows defined y → x ≡ y
one_answer defined x y h k = h ∙ sym k
