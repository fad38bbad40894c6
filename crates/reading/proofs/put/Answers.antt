-- The part that is written holds the first n bytes of the piece then.
use Rattle.std.proofs.Common.{sym, ◌∙◌, take, arith}
use Rattle.std.proofs.Math.Seq.{length-take-le, take-take}
use Rattle.std.proofs.lemmas.Slice.{put_mid-paste}
use Rattle.reading.specs.Reading.{put_behind}
use Rattle.reading.proofs.put.Goals as goal

pub returns : goal.returns
unfolding put_behind
returns c =
    let n = c.args.n in
    let piece = c.args.piece.now in
    let size = length-take-le n piece (omega arith) in
    put_mid-paste c.args.done _ c.args.buf.now c.copy_from_slice.new.self (take n piece) n c.copy_from_slice.ensures.after (omega arith) (sym size)
    ∙ simp (take-take n n piece (omega arith))
