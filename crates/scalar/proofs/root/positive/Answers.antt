-- `scalar::root::positive` meets its contract. Near 1 by the pattern alone; else each way out has an R that is nearest to the root of X,
-- and R's pattern is the answer's (`answer`). Assumes nothing.
use Rattle.std.proofs.Common.{◌∙◌, arith}
use Rattle.loops.specs.Tests.{truth}
use Rattle.scalar.proofs.Patterns.{no_pattern, back}
use Rattle.scalar.proofs.root.Units.{Answer, answer}
use Rattle.scalar.proofs.root.NearOne.{bits_near}
use Rattle.scalar.proofs.root.positive.Goals.{After-beside, After-digits}
use Rattle.scalar.proofs.root.positive.Goals as goal

pub float_from_bits-result : goal.float_from_bits-result
float_from_bits-result c = no_pattern _ (omega arith)

pub returns-then-w-2 : goal.returns-then-w-2
returns-then-w-2 c = bits_near _ (omega arith) (omega arith)

-- the guess itself: its pattern is b + r
pub returns-then-nearest : goal.returns-then-nearest
returns-then-nearest c =
    let p = c.scaled-top.ensures.placed in
    let h = c.in-Some-1-to-9007199254740991.ensures in
    let k = c.in-Some-1-to-9007199254740991.is in
    let j = c.in-Some-1-to-9007199254740991.r-is in
    back c.guess-x.result _ (truth c.guess-x.type_inv) (omega arith)
    ∙ (answer _ _ _ _ c.requires.some c.requires.below p (c.nearest.ensures c.if-nearest.true)).is

-- what `beside` found
found : (c : After-beside)
    → Answer c.args.w c.scaled-top.result.h c.beside.result
found c =
    answer _ _ _ _ c.requires.some c.requires.below c.scaled-top.ensures.placed c.beside.ensures

pub float_from_bits-result-2 : goal.float_from_bits-result-2
float_from_bits-result-2 c =
    no_pattern _ (omega (arith, (found c).high, c.scaled-top.ensures.placed.few))

pub returns : goal.returns
returns c = (found c).is

-- what `digits` found
made : (c : After-digits)
    → Answer c.args.w c.scaled-top.result.h c.digits.result
made c =
    answer _ _ _ _ c.requires.some c.requires.below c.scaled-top.ensures.placed c.digits.ensures

pub float_from_bits-result-3 : goal.float_from_bits-result-3
float_from_bits-result-3 c = no_pattern _ (omega (arith, (made c).high, c.scaled-top.ensures.placed.few))

pub returns-2 : goal.returns-2
returns-2 c = (made c).is
