-- T and Q, on which every step of the run works. Where Q is not wanted it is left alone, and T takes no notice of it.
use Rattle.std.specs.Prelude.{Bool, cond, List, Float}

pub record Pair : Type 0 where
  pub t : List Float
  pub q : List Float

abbrev pub pair : List Float → List Float → Pair
pair t q = record { t = t; q = q }

abbrev pub on_q : Bool → (List Float → List Float) → List Float → List Float
on_q wanted f q = cond wanted (f q) q
