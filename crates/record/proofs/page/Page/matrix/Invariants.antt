-- `record::page::Page::matrix` meets its contract. Assumes nothing.
use Prim.Native.Nat.{◌*◌, ◌/◌, ◌%◌}
use lib.Ieee.{binary64, to_bits}
use Rattle.loops.specs.Rounded.{◌!◌}
use Rattle.record.specs.Text.{entry_line}
use Rattle.record.proofs.LineLoop.{Listing}
use Rattle.record.proofs.page.Page.matrix.Given as goal

abbrev pub invariant-loop-k : goal.invariant-loop-k
invariant-loop-k l = Listing (λ k. entry_line l.letter (k % l.n) (k / l.n) (to_bits binary64 (l.a ! k))) 25 (l.n * l.n) l.initial.self l.k l.self
