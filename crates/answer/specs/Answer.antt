-- An answer as one number of 64 bits: below 2^32 it is an acceptance; else it is a refusal, its number times 2^32,
-- the row times 2^16 and the column. Of each the lowest 16 bits are told: a number is at most 14, a row or a column
-- that is told lies below 64, so nothing is lost.
use Rattle.refusal.specs.Refusal.{Checked}
use Rattle.decomposition.specs.Decomposition.{Decomposed}
use Rattle.std.specs.Prelude.{ℕ, ◌+◌, ◌*◌, ◌%◌, Err, Ok}
use Rattle.refusal.specs.declared.refusal.Told.{Told}
use Rattle.refusal.specs.declared.refusal.Refusal.{Refusal}
use Rattle.refusal.specs.Refusal.{told_of}

unfoldable pub packed : Told → ℕ
packed x = x.number % 0x1_0000 * 0x1_0000_0000 + x.row % 0x1_0000 * 0x1_0000 + x.col % 0x1_0000

unfoldable pub refusal_number : Refusal → ℕ
refusal_number r = packed (told_of r)

-- of a reader or the plain entry: 0 where the eigenvalues were written
unfoldable pub checked_number : Checked → ℕ
checked_number (Ok u) = 0
checked_number (Err r) = refusal_number r

-- of the decomposition: the counted passes
unfoldable pub decomposed_number : Decomposed → ℕ
decomposed_number (Ok passes) = passes
decomposed_number (Err r) = refusal_number r
