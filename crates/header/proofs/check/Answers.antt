-- `header::check` meets its contract: the last two answers rewrite by the checks that have passed, and by the one that fails. Assumes nothing.
use native.Mathlib.Omega.{arith}
use borrow.Author.Tests.{eq-eqb, ne_eqb, lt-ltb, le-ltb}
use Prim.Native.Nat.{◌+◌, ◌*◌}
use Rattle.refusal.specs.Refusal.{refuse, ◌next◌}
use Rattle.header.specs.Record.{header_checks}
use Rattle.header.proofs.check.Goals as goal

pub returns-then-bytes-h : goal.returns-then-bytes-h
unfolding header_checks refuse ◌next◌
returns-then-bytes-h c =
    let h = c.args.h in
    rw (
      eq-eqb h.kind 1 (omega arith),
      ne_eqb h.order 0 c.if-h-eq0.false,
      le-ltb 32 h.order (omega arith),
      eq-eqb h.length (16 + 8 * (h.order * h.order)) (omega arith),
      lt-ltb _ _ c.if-bytes-h.true,
    )

pub returns-then-h-bytes : goal.returns-then-h-bytes
unfolding header_checks refuse ◌next◌
returns-then-h-bytes c =
    let h = c.args.h in
    rw (
      eq-eqb h.kind 1 (omega arith),
      ne_eqb h.order 0 c.if-h-eq0.false,
      le-ltb 32 h.order (omega arith),
      eq-eqb h.length (16 + 8 * (h.order * h.order)) (omega arith),
      le-ltb c.args.bytes (4 + h.length) (omega arith),
      lt-ltb _ _ c.if-h-bytes.true,
    )
