-- `hessenberg::unpack_h` meets its contract. Assumes nothing.
use Rattle.matrix.proofs.Walks.{Down}
use Rattle.hessenberg.specs.Unpacked.{of_h}
use Rattle.hessenberg.proofs.unpack_h.Given as goal

-- the first j columns have been unpacked
abbrev pub invariant-loop-j : goal.invariant-loop-j
invariant-loop-j l = Down l.n 0 l.n 0 l.last (of_h l.n l.work) l.initial.hess l.j l.hess
