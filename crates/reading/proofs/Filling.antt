-- What reads make of a room, one after another, and what they leave of it. Assumes nothing.
use Rattle.std.proofs.Common.{ℕ, ◌+◌, ◌-◌, ◌<◌, ◌≤◌, ◌≡◌, refl, ap, subst, sym, ◌∙◌, Bool, true, false, List, [], ◌∷◌, length, take, drop, arith}
use borrow.Author.Tests.{ltb-true, ltb-false, lt-ltb, le-ltb}
use lib.Dec.{ltb}
use lib.ListN.{replicate, length-replicate}
use lib.Seq.{paste, length-paste, take-paste, drop-paste, take-take, take_at, drop-drop, length-take-le}
use Rattle.std.specs.Prelude.{Ok, Err, Some, None}
use Rattle.std.specs.declared.option.Option.{Option}
use Rattle.std.specs.declared.result.Result.{Result}
use Rattle.std.specs.declared.io.Error.{Error}
use Rattle.reading.specs.Reading.{Read, over, unfinished, asked, onward, after_read, put_behind, fill_of, Filling, Tells, Kept}
use Rattle.reading.proofs.Arriving.{Came, came}

-- ---- one read more

-- no room is left
pub full : (reads : List Read) (done : ℕ) (buf : List ℕ) → length buf ≤ done → fill_of reads done buf ≡ over (Ok done) buf
unfolding fill_of
full [] done buf h = rw (le-ltb done (length buf) h)
full (x ∷ rest) done buf h = rw (le-ltb done (length buf) h)

-- there is room, and no read is left
short : (done : ℕ) (buf : List ℕ) → done < length buf → fill_of [] done buf ≡ unfinished
unfolding fill_of
short done buf h = rw (lt-ltb done (length buf) h)

-- while there is room a read decides
module _ (x : Read) (rest : List Read) (done : ℕ) (buf : List ℕ) (room : done < length buf) where
  decides : fill_of (x ∷ rest) done buf ≡ onward (fill_of rest) x.piece done buf (after_read done (asked done buf) x.got)
  unfolding fill_of
  decides = rw (lt-ltb done (length buf) room)

  by : {y : Result (Option ℕ) Error} → after_read done (asked done buf) x.got ≡ y → fill_of (x ∷ rest) done buf ≡ onward (fill_of rest) x.piece done buf y
  by e = decides ∙ ap (onward (fill_of rest) x.piece done buf) e

  pub on_more : (more n : ℕ) (next : List ℕ) → after_read done (asked done buf) x.got ≡ Ok (Some more) → next ≡ put_behind done buf x.piece n → n ≡ more - done
      → fill_of (x ∷ rest) done buf ≡ fill_of rest more next
  on_more more n next e put all = by e ∙ ap (fill_of rest more) (sym (put ∙ ap (put_behind done buf x.piece) all))

  pub on_end : after_read done (asked done buf) x.got ≡ Ok None → fill_of (x ∷ rest) done buf ≡ over (Ok done) buf
  on_end e = by e

  pub on_broken : {why : Error} → after_read done (asked done buf) x.got ≡ Err why → fill_of (x ∷ rest) done buf ≡ over (Err why) buf
  on_broken e = by e

-- ---- what is left of the room

-- no more came
stays : (done : ℕ) (buf : List ℕ) (r r' : Result ℕ Error) (exit : List ℕ) → done ≤ length buf → Tells r done (length buf) → over r buf ≡ over r' exit
    → Kept done buf r' exit
stays done buf r r' exit h told e =
    let answer : r ≡ r' = cc in
    let bytes : buf ≡ exit = cc in
    subst (λ s. Kept done buf s exit) answer (subst (Kept done buf r) bytes
    (record { count = done; tells = told; least = omega arith; most = h; size = refl; front = refl; behind = refl }))

-- n bytes were put behind those that were there
module _ (done : ℕ) (buf piece : List ℕ) (n : ℕ) (room : done + n ≤ length buf) (enough : n ≤ length piece) where
  through : {r : Result ℕ Error} {exit : List ℕ} → Kept (done + n) (put_behind done buf piece n) r exit → Kept done buf r exit
  unfolding put_behind
  through {r} {exit} k =
      let same : length (paste buf done piece n) ≡ length buf = length-paste buf done piece n room enough in
      let fits : done ≤ length buf = omega arith in
      let m = k.count - (done + n) in
      let e : k.count ≡ done + n + m = omega (arith, k.least) in
      record {
        count = k.count;
        tells = subst (Tells r k.count) same k.tells;
        least = omega (arith, k.least);
        most = omega (arith, k.most, same);
        size = k.size ∙ same;
        front = sym (take-take done (done + n) exit (omega arith)) ∙ ap (take done) (k.front ∙ take-paste buf done piece n fits enough)
            ∙ take_at (take done buf) (take n piece) done (length-take-le done buf fits);
        behind = k.behind ∙ ap (λ j. drop j (paste buf done piece n)) e ∙ sym (drop-drop m (done + n) (paste buf done piece n))
            ∙ ap (drop m) (drop-paste buf done piece n fits enough) ∙ drop-drop m (done + n) buf ∙ ap (λ j. drop j buf) (sym e);
      }

-- by cases: is there room, and what did the read come to; `later`: so it is with the reads behind it
module _ (x : Read) (rest : List Read) (done : ℕ) (buf : List ℕ) (upto : done ≤ length buf) {r : Result ℕ Error} {exit : List ℕ}
    (later : (more : ℕ) (next : List ℕ) → more ≤ length next → fill_of rest more next ≡ over r exit → Kept more next r exit) where
  decided : done < length buf → (y : Result (Option ℕ) Error) → after_read done (asked done buf) x.got ≡ y → onward (fill_of rest) x.piece done buf y ≡ over r exit
      → Kept done buf r exit
  unfolding put_behind
  decided room (Ok (Some more)) d e =
      let some : Came done (asked done buf) more = came _ _ _ _ (omega arith) (sym d) in
      let n = more - done in
      let inside : done + n ≤ length buf = omega (arith, some) in
      let enough : n ≤ length x.piece = omega (arith, some, x.size) in
      let next = put_behind done buf x.piece n in
      let same : length next ≡ length buf = length-paste buf done x.piece n inside enough in
      let all : more ≡ done + n = omega (arith, some) in
      through done buf x.piece n inside enough (subst (λ k. Kept k next r exit) all (later more next (omega (arith, some, same)) e))
  decided room (Ok None) d e = stays done buf (Ok done) r exit upto refl e
  decided room (Err why) d e = stays done buf (Err why) r exit upto room e

  on_read : (b : Bool) → ltb done (length buf) ≡ b → fill_of (x ∷ rest) done buf ≡ over r exit → Kept done buf r exit
  on_read true t e =
      let room = ltb-true done (length buf) t in
      decided room (after_read done (asked done buf) x.got) refl (sym (decides x rest done buf room) ∙ e)
  on_read false t e = stays done buf (Ok done) r exit upto refl (sym (full (x ∷ rest) done buf (ltb-false done (length buf) t)) ∙ e)

on_none : (done : ℕ) (buf : List ℕ) → done ≤ length buf → {r : Result ℕ Error} {exit : List ℕ} → (b : Bool) → ltb done (length buf) ≡ b
    → fill_of [] done buf ≡ over r exit → Kept done buf r exit
on_none done buf upto true t e =
    let never : unfinished ≡ over _ _ = sym (short done buf (ltb-true done (length buf) t)) ∙ e in
    absurd (let x : ◌≡◌ {A = ℕ} 0 1 = cc in omega arith)
on_none done buf upto {r} {exit} false t e = stays done buf (Ok done) r exit upto refl (sym (full [] done buf (ltb-false done (length buf) t)) ∙ e)

pub kept_from : (reads : List Read) (done : ℕ) (buf : List ℕ) {r : Result ℕ Error} {exit : List ℕ} → done ≤ length buf → fill_of reads done buf ≡ over r exit
    → Kept done buf r exit
kept_from [] done buf upto e = on_none done buf upto (ltb done (length buf)) refl e
kept_from (x ∷ rest) done buf upto e = on_read x rest done buf upto (λ more next. kept_from rest more next) (ltb done (length buf)) refl e

pub kept : {entry exit : List ℕ} {r : Result ℕ Error} → Filling entry r exit → Kept 0 entry r exit
kept f = kept_from f.reads 0 _ (omega arith) f.made

-- so many bytes are within
pub within : {entry exit : List ℕ} {r : Result ℕ Error} {k : ℕ} → Filling entry r exit → r ≡ Ok k → k ≤ length exit
within {entry} {exit} {r} {k} f e =
    let all = kept f in
    let told : k ≡ all.count = subst (λ s. Tells s all.count (length entry)) e all.tells in
    omega (arith, told, all.most, all.size)

-- ---- how far it goes

-- the same reads, the same answer and the same bytes
pub one_filling : {entry exit exit' : List ℕ} {r r' : Result ℕ Error} (f : Filling entry r exit) (g : Filling entry r' exit') → f.reads ≡ g.reads
    → (r ≡ r') × (exit ≡ exit')
one_filling {entry} {exit} {exit'} {r} {r'} f g e =
    let same : over r exit ≡ over r' exit' = sym f.made ∙ ap (λ x. fill_of x 0 entry) e ∙ g.made in
    (cc, cc)

-- and no further: the reads are not tied to calls that were made. A function that reads nothing and tells 0 bytes would meet the contract
-- too, by a read at the end of the input that nobody made
at_end : Read
at_end = record { got = Ok 0; piece = replicate 4096 0; size = length-replicate {A = ℕ} 4096 0 }

by_room : (entry : List ℕ) (b : Bool) → ltb 0 (length entry) ≡ b → Filling entry (Ok 0) entry
unfolding after_read at_end
by_room entry true t = record { reads = at_end ∷ []; made = on_end at_end [] 0 entry (ltb-true 0 (length entry) t) refl }
by_room entry false t = record { reads = []; made = full [] 0 entry (ltb-false 0 (length entry) t) }

pub read_nothing : (entry : List ℕ) → Filling entry (Ok 0) entry
read_nothing entry = by_room entry (ltb 0 (length entry)) refl
