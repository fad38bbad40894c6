-- `record::page::Page::input` meets its contract. Assumes nothing.
use Rattle.std.specs.Prelude.{Ok, Result}
use Rattle.refusal.specs.declared.refusal.Refusal.{Refusal}
use Prim.Native.Nat.{ℕ, ◌-◌}
use mathlib.Core.Path.{◌≡◌, sym, ap, ◌∙◌}
use mathlib.Core.List.{List}
use native.Mathlib.Omega.{arith}
use lib.ListN.{length, take, drop, length-drop}
use lib.Seq.{take_all}
use Rattle.header.specs.declared.Header.{Header}
use Rattle.header.specs.Record.{examined}
use Rattle.header.proofs.FitHeader.{FitHeader, fit_header}
use Rattle.record.specs.Answer.{examined_text, text_of}
use Rattle.record.proofs.Paging.{puts_as, puts_within}
use Rattle.record.proofs.page.Page.input.Goals as goal

-- a record without fault is as long as its order says
fit : {x : Result Header Refusal} {h : Header} (b : List ℕ) → x ≡ examined b → x ≡ Ok h → FitHeader h (length b)
fit b e f = fit_header _ (sym e ∙ f)

-- all that lies behind a header
entries : (b : List ℕ) → take (length b - 20) (drop 20 b) ≡ drop 20 b
entries b = take_all (length b - 20) (drop 20 b) (omega (arith, length-drop 20 b))

-- the text by what was found of the header
text_by : {x : Result Header Refusal} (b : List ℕ) → x ≡ examined b → examined_text x b ≡ text_of b
unfolding text_of
text_by b e = ap (λ x. examined_text x b) e

pub passed-requires : goal.passed-requires
passed-requires c =
    let b = c.args.input.now in
    let f = fit b c.examine.ensures c.in-Ok.is in
    record { room = omega arith; order = f.order; whole = rw (entries b) (omega (arith, length-drop 20 b)) }

pub returns-in-Err : goal.returns-in-Err
unfolding examined_text
returns-in-Err c = puts_as (text_by _ (sym c.in-Err.is ∙ c.examine.ensures)) (puts_within (omega arith) c.refused.ensures)

pub returns-in-Ok : goal.returns-in-Ok
unfolding examined_text
returns-in-Ok c = puts_as (text_by _ (sym c.in-Ok.is ∙ c.examine.ensures)) (rw entries at c.passed.ensures)

pub slice_bounds-passed-start : goal.slice_bounds-passed-start
slice_bounds-passed-start c = omega (arith, fit c.args.input.now c.examine.ensures c.in-Ok.is)

pub slice_bounds-passed-count : goal.slice_bounds-passed-count
slice_bounds-passed-count c = omega (arith, fit c.args.input.now c.examine.ensures c.in-Ok.is)
