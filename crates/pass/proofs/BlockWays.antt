-- The rotation of a block that is not triangular, told its eigenvalues. Assumes nothing.
use mathlib.Core.Path.{◌≡◌, sym, ap, ◌∙◌}
use mathlib.Core.Bool.{false, cond}
use Rattle.std.specs.Prelude.{Option, None}
use Rattle.scalar.specs.Class.{is_zero}
use Rattle.pass.specs.declared.block.Block.{Block}
use Rattle.pass.specs.declared.block.Values.{Values}
use Rattle.pass.specs.Block.{eigvals_of, basis_by, basis_of}

-- the entry below the diagonal is not zero, so the eigenvalues decide
basis_by_lem : (b : Block) (e : Option Values) → is_zero b.h10 ≡ false → e ≡ eigvals_of b → basis_of b ≡ basis_by b e
unfolding basis_of
basis_by_lem b e h k = ap (λ z. cond z None (basis_by b (eigvals_of b))) h ∙ ap (basis_by b) (sym k)
