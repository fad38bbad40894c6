-- Reading until the room is full, the input ends, or a read fails: what one read comes to, told what it answers, and
-- what all of them make of the room.
use Rattle.std.specs.Prelude.{ℕ, zero, suc, ◌+◌, ◌-◌, ◌<◌, ◌≤◌, min, ◌≡◌}
use Rattle.std.specs.Prelude.{cond, List, [], ◌∷◌, ltb, length, take, drop, Ok, Err, Some, None}
use Rattle.std.proofs.Math.Seq.{paste}
use Rattle.std.specs.declared.result.Result.{Result}
use Rattle.std.specs.declared.option.Option.{Option}
use Rattle.std.specs.declared.io.Error.{Error}

-- ---- one read: it answers an error where it failed, 0 at the end of the input, else how many bytes came, which may
-- be fewer than there is room for

-- `done` bytes were there before, and there was room for `room` more: how many are there then; none is told at the
-- end of the input, and the error where the read failed
unfoldable pub after_read : (done room : ℕ) → Result ℕ Error → Result (Option ℕ) Error
after_read done room (Err e) = Err e
after_read done room (Ok zero) = Ok None
after_read done room (Ok (suc k)) = Ok (Some (done + min (suc k) room))

-- what a read answered, and what then stood in the piece of 4096 bytes that reads bring their bytes in
pub record Read : Type 0 where
  pub got : Result ℕ Error
  pub piece : List ℕ
  pub size : length piece ≡ 4096

-- the first n bytes of a piece put into the room behind `done` bytes: what stands before and behind them stays
unfoldable pub put_behind : (done : ℕ) (buf piece : List ℕ) (n : ℕ) → List ℕ
put_behind done buf piece n = paste buf done piece n

-- ---- all reads

-- an answer, and the bytes that lie in the room then; or there is room still, and one more read to make
pub data Outcome : Type 0 where
  over : Result ℕ Error → List ℕ → Outcome
  unfinished : Outcome

-- how many bytes a read may bring: as many as there is room for, and no more than a piece
abbrev pub asked : (done : ℕ) → List ℕ → ℕ
asked done buf = min (length buf - done) 4096

-- what a read comes to in a room that holds `done` bytes: those that came are put behind them, and the rest of the
-- reads follow; or it was the last
abbrev pub onward : (ℕ → List ℕ → Outcome) → (piece : List ℕ) → (done : ℕ) → List ℕ → Result (Option ℕ) Error
    → Outcome
onward rest piece done buf (Ok (Some more)) = rest more (put_behind done buf piece (more - done))
onward rest piece done buf (Ok None) = over (Ok done) buf
onward rest piece done buf (Err e) = over (Err e) buf

-- reads, one after another, into a room that holds `done` bytes: until it is full, or the input ends, or one fails
unfoldable pub fill_of : List Read → (done : ℕ) → List ℕ → Outcome
fill_of [] done buf = cond (ltb done (length buf)) unfinished (over (Ok done) buf)
fill_of (x ∷ rest) done buf =
    cond (ltb done (length buf))
    (onward (fill_of rest) x.piece done buf (after_read done (asked done buf) x.got))
    (over (Ok done) buf)

-- there are reads that make this answer of the room, and leave these bytes in it
pub record Filling (entry : List ℕ) (r : Result ℕ Error) (exit : List ℕ) : Type 0 where
  pub reads : List Read
  pub made : fill_of reads 0 entry ≡ over r exit

-- ---- what follows from it, whatever the reads were (`kept`, proofs/Filling.antt)

-- the answer, told that so many bytes lie in a room for `room`: a read fails only while there is room
abbrev pub Tells : Result ℕ Error → (count room : ℕ) → Type 0
Tells (Ok k) count room = k ≡ count
Tells (Err e) count room = count < room

-- of a room that held `done` bytes: these stay, so many lie there now, and what lay behind them lies there still
pub record Kept (done : ℕ) (buf : List ℕ) (r : Result ℕ Error) (exit : List ℕ) : Type 0 where
  pub count : ℕ
  pub tells : Tells r count (length buf)
  pub least : done ≤ count
  pub most : count ≤ length buf
  pub size : length exit ≡ length buf
  pub front : take done exit ≡ take done buf
  pub behind : drop count exit ≡ drop count buf
