-- `door::lists::on_floats` meets its contract. Assumes nothing.
use Rattle.refusal.specs.Refusal.{passed}
use native.Mathlib.Omega.{arith}
use mathlib.Core.Path.{◌≡◌, ap, ◌∙◌}
use mathlib.Core.List.{List}
use Prim.Native.Nat.{ℕ, ◌*◌}
use lib.ListN.{length}
use lib.Ieee.{Float}
use Rattle.matrix.proofs.Each.{zeros-length}
use Rattle.matrix.specs.Vectors.{zeros}
use Rattle.words.proofs.Between.{decoded}
use Rattle.door.specs.Lists.{ListEntry, Complex, second_length}
use Rattle.door.specs.Inner.{second_size, evaluated_by}
use Rattle.door.proofs.ListLengths.{list_fit, complex_second}
use Rattle.door.proofs.ListBytes.{list_read}
use Rattle.door.proofs.lists.on_floats.Goals as goal

pub write_list-requires : goal.write_list-requires
write_list-requires g c = let fit = list_fit _ _ c.args.m.now _ _ c.requires.passed in omega (arith, fit.list)

-- the complex reader's second list, whose room has n numbers
pair_sized : {e : ListEntry} (n jn : ℕ) (y : List Float) → e ≡ Complex → second_length e n jn ≡ passed → y ≡ zeros (second_size e n) → jn ≡ 8 * length y
pair_sized n jn y h lent zero =
    let long : length y ≡ n = ap length (rw h at zero) ∙ zeros-length n in
    omega (arith, complex_second n jn (rw h at lent))

pub write_second-requires : goal.write_second-requires
write_second-requires g c =
    let fit = list_fit _ _ c.args.m.now _ _ c.requires.passed in
    λ e. omega (arith, pair_sized c.args.n _ c.args.y.now e fit.second c.requires.second)

pub returns : goal.returns
returns g c =
    let x = c.args in
    let pre = c.requires in
    let fit = list_fit _ _ x.m.now _ _ pre.passed in
    let floats = decoded x.m.now x.a.now _ fit.matrix pre.matrix c.decode.ensures in
    list_read _ x.n x.m.now x.re.now x.im.now _ _ x.x.now _ x.y.now _ _ pre.passed pre.list pre.second
    (c.evaluate-checked.ensures ∙ ap (λ a. evaluated_by _ x.n a x.x.now x.y.now) floats)
    c.write_list.ensures c.write_second.ensures
