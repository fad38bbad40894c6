-- A page: lent bytes with text in them, and the place behind the text.
use Rattle.std.specs.Prelude.{ℕ, ◌+◌, ◌≤◌, ◌≡◌, cond, List, ◌++◌, leb, length, drop}
use Rattle.std.proofs.lemmas.List.Edits.{sets}

pub record Page : Type 0 where
  pub at : ℕ
  pub text : List ℕ

abbrev pub page : ℕ → List ℕ → Page
page at text = record { at = at; text = text }

-- s stands at the front of what was lent, and its length is answered; where less than 64 KiB were lent, which every
-- text fits in, nothing is touched
unfoldable pub printed : List ℕ → List ℕ → Page
printed s lent = cond (leb 65536 (length lent)) (page (length s) (s ++ drop (length s) lent)) (page 0 lent)

-- ---- for the contracts of private functions

-- s is put behind the text
unfoldable pub more : List ℕ → Page → Page
more s p = page (p.at + length s) (sets p.text p.at s)

-- what a function that puts s leaves: s stands behind the text, and the text ends at most so many bytes further on
pub record Put (s : List ℕ) (most : ℕ) (before after : Page) : Type 0 where
  pub text : after ≡ more s before
  pub end : after.at ≤ before.at + most
