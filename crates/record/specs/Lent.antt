-- For the contracts of private functions: what they ask of all that they are lent, and what they leave of a page. Room for the text that they put, an
-- order that the program takes, and lists as long as that order makes them.
use Rattle.std.specs.Prelude.{ℕ, ◌+◌, ◌*◌, ◌≤◌, ◌≡◌, List, length, Float}
use Rattle.matrix.specs.Vectors.{zeros}
use Rattle.pass.specs.Pair.{Pair}
use Rattle.record.specs.declared.page.Page.{Page as LentPage}
use Rattle.record.specs.Page.{Page, page, Put}

-- the page that a lent slice is
abbrev pub on : LentPage → Page
on p = page p.at p.text.now

-- room for so many bytes
abbrev pub HasRoom : ℕ → LentPage → Type 0
HasRoom k p = p.at + k ≤ length p.text.now

-- what a function that puts s leaves: the slice is the same and as long, and s stands behind the text
pub record Puts (s : List ℕ) (most : ℕ) (before after : LentPage) : Type 0 where
  pub same_slice : after.text.ghost_name ≡ before.text.ghost_name
  pub size : length after.text.now ≡ length before.text.now
  pub put : Put s most (on before) (on after)

-- a matrix, and room for its lines
pub record MatrixLent (n : ℕ) (p : LentPage) (a : List Float) : Type 0 where
  pub room : HasRoom 25600 p
  pub order : n ≤ 32
  pub square : length a ≡ n * n

-- eigenvalues by their parts, and room for so many bytes
pub record EigenvaluesLent (n most : ℕ) (p : LentPage) (re im : List Float) : Type 0 where
  pub room : HasRoom most p
  pub order : n ≤ 32
  pub reals : length re ≡ n
  pub imaginaries : length im ≡ n

-- T and Q, and room for a whole text
pub record PairLent (n : ℕ) (p : LentPage) (x : Pair) : Type 0 where
  pub room : HasRoom 65536 p
  pub order : n ≤ 32
  pub square_t : length x.t ≡ n * n
  pub square_q : length x.q ≡ n * n

-- the bytes of the entries, and room for a decomposition of them
pub record RoomsLent (n : ℕ) (entries : List ℕ) (t q work : List Float) : Type 0 where
  pub whole : length entries ≡ 8 * (n * n)
  pub square_t : length t ≡ n * n
  pub zero_q : q ≡ zeros (n * n)
  pub zero_work : work ≡ zeros (2 * n)

-- the bytes of the entries, and room for a whole text
pub record RecordLent (n : ℕ) (p : LentPage) (entries : List ℕ) : Type 0 where
  pub room : HasRoom 65536 p
  pub order : n ≤ 32
  pub whole : length entries ≡ 8 * (n * n)
