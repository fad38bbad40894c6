-- `words::search::first_not_finite` meets its contract. Assumes nothing.
use mathlib.Core.Path.{ap, ◌∙◌}
use Rattle.refusal.specs.Search.{first_not_finite}
use Rattle.words.proofs.search.first_not_finite.Goals as goal

pub returns : goal.returns
returns c = c.first_entry_not_finite.ensures ∙ ap (first_not_finite c.args.n) c.words.ensures.floats
