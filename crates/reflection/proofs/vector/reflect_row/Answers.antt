-- `reflection::vector::reflect_row` meets its contract. Assumes nothing.
use mathlib.Core.Path.{◌≡◌}
use native.Mathlib.Omega.{arith}
use lib.ListN.{length, length-set}
use Rattle.std.proofs.Common.{rules}
use Rattle.reflection.proofs.RowLoops.{putting_begun, putting_more}
use Rattle.reflection.proofs.RowTurn.{read_turn}
use Rattle.reflection.proofs.vector.reflect_row.Goals as goal

pub loop-j-init : goal.loop-j-init
loop-j-init g c = putting_begun (search rules) (omega arith)

pub loop-j-preserved : goal.loop-j-preserved
loop-j-preserved g c =
    let e : g.row.N ≡ length c.args.a.now.0 = search rules in
    putting_more c.loop-j.invariant (omega arith) (simp length-set (omega arith))
    (λ h. rw (c.at-p.ensures.is, c.dot-w.ensures, c.across-u.ensures, e) (read_turn _ _ _ _ _ _ _ _ (omega arith) (omega arith) h))
