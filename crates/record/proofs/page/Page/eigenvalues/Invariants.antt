-- `record::page::Page::eigenvalues` meets its contract. Assumes nothing.
use lib.Ieee.{binary64, to_bits}
use Rattle.loops.specs.Rounded.{◌!◌}
use Rattle.record.specs.Text.{eigenvalue_line}
use Rattle.record.proofs.LineLoop.{Listing}
use Rattle.record.proofs.page.Page.eigenvalues.Given as goal

abbrev pub invariant-loop-k : goal.invariant-loop-k
invariant-loop-k l = Listing (λ k. eigenvalue_line k (to_bits binary64 (l.re ! k)) (to_bits binary64 (l.im ! k))) 39 l.n l.initial.self l.k l.self
