-- What `fill` keeps while it reads. Assumes nothing.
use Rattle.std.proofs.Common.{◌≡◌, ℕ, ◌-◌, ◌<◌, ◌≤◌, List, [], ◌∷◌, ◌++◌, length, take, drop, refl, sym, ap, ◌∙◌, arith}
use Rattle.std.proofs.Math.Seq.{length_front}
use Rattle.std.specs.declared.result.Result.{Result}
use Rattle.std.specs.declared.io.Error.{Error}
use Rattle.std.specs.Prelude.{Ok, Err, Some, None}
use Rattle.std.specs.declared.option.Option.{Option}
use Rattle.reading.specs.Reading.{Read, asked, after_read, put_behind, fill_of, Filling}
use Rattle.reading.proofs.Arriving.{Came, came}
use Rattle.reading.proofs.Filling.{full, on_more, on_end, on_broken}

-- whatever reads are still to come: with those made before them, they make of the room as it was what they make of it
-- now
pub record Going (entry buf piece : List ℕ) (done : ℕ) : Type 0 where
  pub size : length buf ≡ length entry
  pub lent : length piece ≡ 4096
  pub upto : done ≤ length buf
  pub reads : (rest : List Read) → (all : List Read) × (fill_of all 0 entry ≡ fill_of rest done buf)

-- no room is left
pub filled : {entry buf piece : List ℕ} {done : ℕ} → Going entry buf piece done → length buf ≤ done → Filling entry (Ok done) buf
filled {buf = buf} {done = done} going h = let all = going.reads [] in record { reads = all.0; made = all.1 ∙ full [] done buf h }

-- a read that was lent `room` bytes, and what its answer came to
module _ (buf : List ℕ) (done room : ℕ) (got : Result ℕ Error) {y : Result (Option ℕ) Error} (space : done < length buf) (lent : room ≡ asked done buf)
    (told : y ≡ after_read done room got) where
  pub arrived : {more : ℕ} → y ≡ Ok (Some more) → Came done room more
  arrived e = came done room got _ (omega arith) (sym e ∙ told)

  decided : after_read done (asked done buf) got ≡ y
  decided = sym (told ∙ ap (λ k. after_read done k got) lent)

  -- and what it brought at the front of the piece
  module _ {entry piece : List ℕ} (going : Going entry buf piece done) (new : List ℕ) (front : length new ≡ length (take room piece)) where
    abbrev left : List ℕ
    left = new ++ drop room piece

    pub left_size : length left ≡ 4096
    left_size = length_front piece new room front ∙ going.lent

    abbrev made : Read
    made = record { got = got; piece = left; size = left_size }

    pub again : {more : ℕ} {next : List ℕ} → y ≡ Ok (Some more) → next ≡ put_behind done buf left (more - done) → length next ≡ length buf
        → Going entry next left more
    again {more} {next} e put same =
        let some : Came done room more = arrived e in
        record {
          size = omega (arith, same, going.size);
          lent = left_size;
          upto = omega (arith, some, same);
          reads = λ rest.
              let all = going.reads (made ∷ rest) in
              (all.0, all.1 ∙ on_more made rest done buf space more _ next (decided ∙ e) put refl);
        }

    pub ending : y ≡ Ok None → Filling entry (Ok done) buf
    ending e =
        let all = going.reads (made ∷ []) in
        record { reads = all.0; made = all.1 ∙ on_end made [] done buf space (decided ∙ e) }

    pub failing : {why : Error} → y ≡ Err why → Filling entry (Err why) buf
    failing e =
        let all = going.reads (made ∷ []) in
        record { reads = all.0; made = all.1 ∙ on_broken made [] done buf space (decided ∙ e) }

-- what the check of `fill` takes
pub ruleset going = (arrived, left_size, filled)
