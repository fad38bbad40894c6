-- What was read lies within the room for it.
use Rattle.std.proofs.Common.{◌≡◌, ℕ, Ok, Err, sym, ap}
use Rattle.std.specs.Result.{MatchResult, IsErrAnd}
use Rattle.std.specs.declared.result.Result.{Result}
use Rattle.std.proofs.Math.Seq.{length-take-le}
use Rattle.reading.proofs.Filling.{within}
use Rattle.looproots.proofs.answer.Goals as goal

-- an Ok passes through `map_err`
passed : {E E' : Type 0} (r : Result ℕ E) (y : Result ℕ E') (P : E → E' → Type 0) (k : ℕ) → MatchResult r (λ x. y ≡ Ok x) (λ e. IsErrAnd y (P e))
    → y ≡ Ok k → r ≡ Ok k
passed (Ok x) y P k m w = let e : x ≡ k = cc in ap Ok e
passed (Err e) y P k m w = absurd (rw w at m)

pub slice_bounds-input-end : goal.slice_bounds-input-end
slice_bounds-input-end c = within c.fill.ensures (passed _ _ _ _ c.map_err.ensures.cases c.in_ok-k.was)

pub slice_bounds-answer-end : goal.slice_bounds-answer-end
slice_bounds-answer-end c = sym (length-take-le _ _ (within c.fill.ensures (passed _ _ _ _ c.map_err.ensures.cases c.in_ok-k.was)))
