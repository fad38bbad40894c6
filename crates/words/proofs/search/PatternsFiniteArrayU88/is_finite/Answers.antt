-- `words::search::PatternsFiniteArrayU88::is_finite` meets its contract. Assumes nothing.
use native.Mathlib.Omega.{arith}
use mathlib.Core.Path.{ap, ◌∙◌}
use borrow.Author.Tests.{ltb-true, ltb-false}
use lib.Ieee.{binary64, of_bits}
use Rattle.scalar.specs.Class.{is_finite}
use Rattle.words.specs.Inner.{float_of}
use Rattle.words.proofs.FinitePatterns.{finite_by}
use Rattle.words.proofs.search.PatternsFiniteArrayU88.is_finite.Goals as goal

pub returns : goal.returns
unfolding float_of
returns c =
    finite_by c.from_le_bytes.result _ (λ h. omega (arith, ltb-true)) (λ h. omega (arith, ltb-false)) ∙ ap (λ w. is_finite (of_bits binary64 w)) c.from_le_bytes.ensures
