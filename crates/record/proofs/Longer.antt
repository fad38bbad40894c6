-- The program reads one byte more than the longest record has, and no further. Of a longer input it would print the same: the text of an input is that of
-- its first 8213 bytes. Assumes nothing.
use Rattle.std.specs.Prelude.{Err, Ok, Result}
use Rattle.header.specs.declared.Header.{Header}
use Rattle.refusal.specs.declared.refusal.Refusal.{Refusal}
use Prim.Native.Nat.{ℕ, ◌<◌}
use mathlib.Core.Path.{◌≡◌, refl, ap}
use mathlib.Core.List.{List}
use native.Mathlib.Decide.{dec_lt}
use native.Mathlib.Omega.{arith}
use lib.ListN.{length, take}
use lib.Seq.{take_all}
use Rattle.header.specs.Record.{examined}
use Rattle.header.proofs.Longer.{longer_examined, longer_unfit}
use Rattle.record.specs.Answer.{examined_text, text_of}

pub longer_same : (b : List ℕ) → text_of (take 8213 b) ≡ text_of b
unfolding text_of examined_text
longer_same b = go (dec_lt 8213 (length b))
  where
    unfit : (x : Result Header Refusal) → 8213 < length b → examined b ≡ x → text_of (take 8213 b) ≡ text_of b
    unfit (Ok h) l e = absurd (longer_unfit b l e)
    unfit (Err r) l e = rw (longer_examined b l, e)

    go : Dec (8213 < length b) → text_of (take 8213 b) ≡ text_of b
    go (yes l) = unfit _ l refl
    go (no l) = ap text_of (take_all 8213 b (omega arith))
