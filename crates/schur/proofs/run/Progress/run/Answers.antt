-- `schur::run::Progress::run` meets its contract. Assumes nothing.
use native.Mathlib.Omega.{arith}
use Prim.Native.Nat.{◌+◌, ◌-◌}
use mathlib.Core.Bool.{true, false}
use mathlib.Core.Path.{◌≡◌, refl, sym, ap, ◌∙◌}
use borrow.Author.Tests.{eq-eqb, ne_eqb}
use Rattle.loops.proofs.Until.{until_out, until_stop, until_turn}
use Rattle.schur.specs.Run.{closed, turn_of, run_from}
use Rattle.schur.specs.Inner.{stands}
use Rattle.schur.proofs.run.Progress.run.Goals as goal

pub loop-init : goal.loop-init
loop-init c =
    let r = c.args.self.now in
    let all : c.args.budget - 0 ≡ c.args.budget = omega arith in
    record { may = omega arith; same = record { t = refl; q = refl; asked = refl }; rest = ap (λ k. run_from r.asked k (stands r)) all }

-- the window has closed
pub returns-then-start-end-clause-run : goal.returns-then-start-end-clause-run
unfolding run_from closed
returns-then-start-end-clause-run c =
    let stop : closed (stands c.loop.self) ≡ true = eq-eqb _ _ c.if-start-end.true in
    sym (until_stop _ _ _ _ stop) ∙ c.loop.invariant.rest

pub turn-requires : goal.turn-requires
turn-requires c = omega arith

pub loop-preserved : goal.loop-preserved
unfolding run_from closed
loop-preserved c =
    let inv = c.loop.invariant in
    let asked = c.args.self.now.asked in
    let still : closed (stands c.loop.self) ≡ false = ne_eqb _ _ c.if-start-end.false in
    let next : c.args.budget - (c.loop.counter + 1) ≡ c.args.budget - c.loop.counter - 1 = omega arith in
    let turned : stands c.turn.new.self ≡ turn_of asked (stands c.loop.self) = rw inv.same.asked at c.turn.ensures.is in
    let again = ap (run_from asked (c.args.budget - c.loop.counter - 1)) turned in
    record {
      may = omega arith;
      same = record {
        t = c.turn.ensures.same.t ∙ inv.same.t;
        q = c.turn.ensures.same.q ∙ inv.same.q;
        asked = c.turn.ensures.same.asked ∙ inv.same.asked;
      };
      rest = rw next (again ∙ sym (until_turn _ _ _ _ (omega arith) still) ∙ inv.rest);
    }

-- the budget is used up
pub returns-clause-run : goal.returns-clause-run
unfolding run_from
returns-clause-run c =
    let r = c.args.self.now in
    let none : c.args.budget - c.loop.counter ≡ 0 = omega arith in
    sym (ap (λ k. run_from r.asked k (stands c.loop.self)) none ∙ until_out _ _ _) ∙ c.loop.invariant.rest
