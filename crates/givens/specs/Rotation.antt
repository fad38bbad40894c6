-- A rotation is a pair of numbers, cosine and sine (document 01, step 3; docs/SUMS.md, 5.1 to 5.4).
use Rattle.std.specs.Prelude.{cond, Float, None, Option, Some}
use Rattle.std.specs.Option.{unwrap_or}
use Rattle.std.specs.Float.Ieee.{neg, lt}
use Rattle.loops.specs.Constants.{zero, one}
use Rattle.loops.specs.Rounded.{◌⊕◌, ◌⊗◌, ◌⊘◌}
use Rattle.scalar.specs.Root.{root_of}
use Rattle.scalar.specs.Sign.{to_exp_of}
use Rattle.scalar.specs.Class.{is_zero}
use Rattle.givens.specs.declared.Rotation.{Rotation}
use Rattle.givens.specs.declared.Turn.{Turn}

abbrev pub rotation : Float → Float → Rotation
rotation c s = record { c = c; s = s }

-- a rotation with the norm of the pair that it was made from
abbrev pub turn : Rotation → Float → Turn
turn r norm = record { rotation = r; norm = norm }

-- the rotation that does nothing
abbrev pub identity_of : Rotation
identity_of = rotation one zero

-- the rotation the other way: the sine negated
abbrev pub inverse_of : Rotation → Rotation
inverse_of r = rotation r.c (neg r.s)

-- the length of a pair (x, y), the first by its magnitude
abbrev pub length_of : Float → Float → Float
length_of x y = let m = (to_exp_of x).magnitude in root_of (m ⊗ m ⊕ y ⊗ y)

-- the same with the sign of x
abbrev pub signed_length : Float → Float → Float
signed_length x y = (to_exp_of x).sign ⊗ length_of x y

-- made from its cosine and sine, not yet normalized: none where the length is not above eps, a NaN among them
unfoldable pub try_new : Float → Float → Float → Option Turn
try_new x y eps =
    cond (lt eps (length_of x y))
    (Some (turn (rotation ((to_exp_of x).magnitude ⊘ length_of x y) (y ⊘ signed_length x y)) (signed_length x y)))
    None

-- the same, and in place of none the rotation that does nothing, with the norm 0
unfoldable pub new_of : Float → Float → Turn
new_of x y = unwrap_or (try_new x y zero) (turn identity_of zero)

-- the rotation that takes (x, y) to (norm, 0): none where y is zero. A length of 0 is divided by all the same.
unfoldable pub cancel_y : Float → Float → Option Turn
cancel_y x y =
    cond (is_zero y) None
    (Some (turn (rotation ((to_exp_of x).magnitude ⊘ length_of x y) (neg y ⊘ signed_length x y)) (signed_length x y)))
