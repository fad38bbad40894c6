-- `words::floats::encode` meets its contract. That each float is a value of the format is told by its type. Assumes nothing.
use Prim.Native.Nat.{◌*◌}
use native.Mathlib.Omega.{arith}
use mathlib.Core.Path.{◌≡◌, ap, ◌∙◌}
use borrow.Author.Tests.{eq-eqb}
use lib.ListN.{length}
use Rattle.words.specs.Floats.{floats_of, bytes_of}
use Rattle.words.proofs.Bytes.{all_written, floats_back}
use Rattle.words.proofs.floats.encode.Goals.{After-loop-k}
use Rattle.words.proofs.floats.encode.Goals as goal

wrote : (c : After-loop-k) → c.loop-k.b ≡ bytes_of c.args.a.now
wrote c = all_written c.args.a.now _ c.loop-k.k c.loop-k.invariant (omega arith) (omega arith)

pub returns-clause-b_after : goal.returns-clause-b_after
returns-clause-b_after c = let x = c.args in rw (eq-eqb (length x.b.now) (8 * length x.a.now) (omega arith)) (wrote c)

pub returns-clause-read_back : goal.returns-clause-read_back
returns-clause-read_back c e = ap floats_of (wrote c) ∙ floats_back c.args.a.now (λ k l. c.type_inv.a k)
