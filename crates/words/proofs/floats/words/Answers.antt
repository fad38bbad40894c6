-- `words::floats::words` meets its contract. Assumes nothing.
use Rattle.std.specs.Prelude.{map}
use mathlib.Core.Path.{ap, ◌∙◌}
use Rattle.words.specs.Inner.{float_of}
use Rattle.words.proofs.Chunks.{words_floats}
use Rattle.words.proofs.floats.words.Goals as goal

pub returns-clause-floats : goal.returns-clause-floats
returns-clause-floats c = ap (map float_of) c.as_chunks.ensures.front ∙ words_floats c.args.b.now
