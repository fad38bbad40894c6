-- A call by its entry: what is answered, and what the three lent slices hold afterwards. Each entry is the library's
-- definition of it; a slice that it does not have stays as it was.
use Rattle.refusal.specs.Refusal.{Checked}
use Rattle.decomposition.specs.Decomposition.{Decomposed}
use Rattle.std.specs.Prelude.{ℕ, Bool, true, false, List, [], ◌∷◌, set, Float, Option, Some, None, Result, Err, Ok}
use Rattle.scalar.specs.Root.{root_of}
use Rattle.pass.specs.Setting.{setting}
use Rattle.pass.specs.Pair.{pair}
use Rattle.refusal.specs.declared.refusal.Refusal.{Refusal}
use Rattle.decomposition.specs.Decomposition.{decomposition_of}
use Rattle.eigenvalues.specs.Readers.{real_read, complex_read}
use Rattle.plain.specs.Plain.{plain_of}
use Rattle.calls.specs.declared.Entry.{Entry}
use Rattle.calls.specs.declared.Entry.TheVariants.{WithQ, WithoutQ, Real, Complex, Plain, Root}
use Rattle.calls.specs.declared.Call.{Call}

-- the passes of an accepted decomposition, none where any other entry gave its values, or a refusal
abbrev pub Answer : Type 0
Answer = Result (Option ℕ) Refusal

pub record Came : Type 0 where
  pub answer : Answer
  pub x : List Float
  pub y : List Float
  pub z : List Float

abbrev pub came : Answer → (x y z : List Float) → Came
came answer x y z = record { answer = answer; x = x; y = y; z = z }

unfoldable pub decomposed_answer : Decomposed → Answer
decomposed_answer (Ok passes) = Ok (Some passes)
decomposed_answer (Err r) = Err r

unfoldable pub checked_answer : Checked → Answer
checked_answer (Ok u) = Ok None
checked_answer (Err r) = Err r

unfoldable pub with_or_without_q : (wanted : Bool) → Call → (m x y z : List Float) → Came
with_or_without_q wanted c m x y z =
    let o = decomposition_of (setting c.order wanted c.tolerance) c.budget m (pair x y) z in
    came (decomposed_answer o.answer) o.pair.t o.pair.q o.work

-- the root of the first number in the first place
unfoldable pub rooted : (m x : List Float) → List Float
rooted [] x = x
rooted (a ∷ m) x = set x 0 (root_of a)

-- m is the matrix, T or the number whose root is asked for
unfoldable pub by_entry : Entry → Call → (m x y z : List Float) → Came
by_entry WithQ c m x y z = with_or_without_q true c m x y z
by_entry WithoutQ c m x y z = with_or_without_q false c m x y z
by_entry Real c m x y z = let r = real_read c.order m x in came (checked_answer r.answer) r.values y z
by_entry Complex c m x y z = let r = complex_read c.order m x y in came (checked_answer r.answer) r.re r.im z
by_entry Plain c m x y z = let r = plain_of c.order m x y in came (checked_answer r.answer) r.values r.work z
by_entry Root c m x y z = came (Ok None) (rooted m x) y z

abbrev pub call_of : Call → (m x y z : List Float) → Came
call_of c = by_entry c.entry c
