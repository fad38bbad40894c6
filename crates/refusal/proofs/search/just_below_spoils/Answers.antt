-- `refusal::search::just_below_spoils` meets its contract. Assumes nothing.
use Prim.Native.Nat.{ℕ, ◌+◌, ◌-◌, ◌*◌, ◌<◌, ◌≤◌}
use native.Mathlib.Omega.{arith}
use mathlib.Core.Bool.{Bool, not}
use mathlib.Core.List.{List}
use mathlib.Core.Path.{◌≡◌, sym, ap, ◌∙◌}
use lib.ListN.{length}
use lib.Ieee.{Float}
use Rattle.loops.specs.Place.{place}
use Rattle.loops.specs.Rounded.{◌!◌}
use Rattle.scalar.specs.Class.{is_zero}
use Rattle.matrix.specs.Entries.{entry_of}
use Rattle.matrix.proofs.Kernels.{entry_of_there}
use Rattle.refusal.proofs.Spoiling.{just_zero, just_first, just_behind}
use Rattle.refusal.proofs.search.just_below_spoils.Goals.{then-j-eq0-via-then-j-eq0, then-j-eq0-via-else-j-eq0+then-is_zero}
use Rattle.refusal.proofs.search.just_below_spoils.Goals as goal

-- what a test reads
tested : {r : Bool} {e : Float} (n i j : ℕ) (t : List Float) → n ≤ 64 → length t ≡ n * n → i < n → j < n → r ≡ is_zero e → e ≡ entry_of n i j t
    → r ≡ is_zero (t ! place n i j)
tested n i j t o s k l h e = h ∙ ap is_zero (e ∙ entry_of_there n i j t o s k l)

pub returns-then-j-eq0 : goal.returns-then-j-eq0
returns-then-j-eq0 c =
    let x = c.args in
    elim c.then-j-eq0.branch [
      | then-j-eq0-via-then-j-eq0 w ↦ just_first x.n x.t.now x.j w.if-j-eq0.true
      | then-j-eq0-via-else-j-eq0+then-is_zero w ↦
          just_zero x.n x.t.now x.j
          (sym (tested x.n (x.j + 1) x.j x.t.now (omega arith) (omega arith) (omega arith) (omega arith) w.is_zero.ensures w.entry.ensures)
          ∙ w.if-is_zero.true)
    ]

pub returns : goal.returns
returns c =
    let x = c.args in
    let above = tested x.n (x.j + 1) x.j x.t.now (omega arith) (omega arith) (omega arith) (omega arith) c.is_zero.ensures c.entry.ensures in
    let before = tested x.n x.j (x.j - 1) x.t.now (omega arith) (omega arith) (omega arith) (omega arith) c.is_zero-2.ensures c.entry-2.ensures in
    ap not before ∙ just_behind x.n x.t.now x.j (sym above ∙ c.if-is_zero.false) (omega arith)
