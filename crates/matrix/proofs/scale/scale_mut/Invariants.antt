-- `matrix::scale::scale_mut` meets its contract. Assumes nothing.
use lib.ListN.{length}
use Rattle.loops.specs.Rounded.{◌⊗◌}
use Rattle.matrix.proofs.Each.{Rewriting}
use Rattle.matrix.proofs.scale.scale_mut.Given as goal

abbrev pub invariant-loop-v : goal.invariant-loop-v
invariant-loop-v l = Rewriting (length l.initial.t) (λ _ e. e ⊗ l.x) l.initial.t l.v-index l.t
