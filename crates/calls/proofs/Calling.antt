-- What each entry comes to, stated of the pieces that the code has in hand. Assumes nothing.
use Rattle.refusal.specs.Refusal.{Checked}
use Rattle.decomposition.specs.Decomposition.{Decomposed}
use Prim.Native.Nat.{◌<◌}
use native.Mathlib.Omega.{arith}
use mathlib.Core.Bool.{Bool}
use mathlib.Core.Path.{◌≡◌, refl, ap}
use mathlib.Core.List.{List, [], ◌∷◌}
use lib.ListN.{length, set}
use lib.Ieee.{Float}
use Rattle.scalar.specs.Root.{root_of}
use Rattle.loops.specs.Rounded.{◌!◌}
use Rattle.pass.specs.Setting.{setting}
use Rattle.pass.specs.Pair.{pair}
use Rattle.decomposition.specs.Decomposition.{outcome, decomposition_of}
use Rattle.eigenvalues.specs.Readers.{read, real_read, complexly, complex_read}
use Rattle.plain.specs.Plain.{plain, plain_of}
use Rattle.calls.specs.declared.Entry.TheVariants.{Real, Complex, Plain}
use Rattle.calls.specs.Call.{Answer}
use Rattle.calls.specs.declared.Call.{Call}
use Rattle.calls.specs.Call.{came, decomposed_answer, checked_answer, with_or_without_q, rooted, by_entry, call_of}

module _ (c : Call) (m x y z : List Float) (r : Answer) where
  pub decomposition_came : (wanted : Bool) (d : Decomposed) (x' y' z' : List Float)
      → outcome d (pair x' y') z' ≡ decomposition_of (setting c.order wanted c.tolerance) c.budget m (pair x y) z → r ≡ decomposed_answer d
      → came r x' y' z' ≡ with_or_without_q wanted c m x y z
  unfolding with_or_without_q
  decomposition_came wanted d x' y' z' h k = rw k (ap (λ o. came (decomposed_answer o.answer) o.pair.t o.pair.q o.work) h)

  module _ (h : Checked) (k : r ≡ checked_answer h) where
    pub real_came : (x' : List Float) → c.entry ≡ Real → read h x' ≡ real_read c.order m x → came r x' y z ≡ call_of c m x y z
    unfolding by_entry
    real_came x' e p = rw (e, k) (ap (λ o. came (checked_answer o.answer) o.values y z) p)

    pub complex_came : (x' y' : List Float) → c.entry ≡ Complex → complexly h x' y' ≡ complex_read c.order m x y → came r x' y' z ≡ call_of c m x y z
    unfolding by_entry
    complex_came x' y' e p = rw (e, k) (ap (λ o. came (checked_answer o.answer) o.re o.im z) p)

    pub plain_came : (x' y' : List Float) → c.entry ≡ Plain → plain h x' y' ≡ plain_of c.order m x y → came r x' y' z ≡ call_of c m x y z
    unfolding by_entry
    plain_came x' y' e p = rw (e, k) (ap (λ o. came (checked_answer o.answer) o.values o.work z) p)

-- ---- the root, by the lengths that the code tests

pub none_given : (m x : List Float) → length m ≡ 0 → x ≡ rooted m x
unfolding rooted
none_given [] x h = refl
none_given (a ∷ m) x h = absurd (omega arith)

pub none_lent : (m x : List Float) → length x ≡ 0 → x ≡ rooted m x
unfolding rooted
none_lent [] x h = refl
none_lent (a ∷ m) [] h = refl
none_lent (a ∷ m) (b ∷ x) h = absurd (omega arith)

pub root_put : (m x : List Float) → 0 < length m → set x 0 (root_of (m ! 0)) ≡ rooted m x
unfolding rooted
root_put [] x h = absurd (omega arith)
root_put (a ∷ m) x h = refl

pub ruleset root_by_lengths = (none_given, none_lent, root_put)
