-- `report::turn::run_turn` meets its contract. Assumes nothing.
use native.Mathlib.Omega.{arith}
use mathlib.Core.Path.{sym, ◌∙◌}
use Rattle.report.proofs.Turns.{said, turn-over, ran, run-within}
use Rattle.report.proofs.turn.run_turn.Goals as goal

pub returns-then-report-eq0 : goal.returns-then-report-eq0
returns-then-report-eq0 c =
    said (turn-over _ _ _ (c.requires) c.if-report-eq0.true) c.nothing.ensures.0 (c.say.ensures _)

pub stand-requires : goal.stand-requires
stand-requires c =
    let w = run-within _ _ _ _ _ _ (sym c.run-ran.ensures.answer ∙ c.in-Ok.is) in
    (omega (arith, w, c.budget.ensures.1), omega (arith, c.if-report-eq0.false))

pub returns-in-Ok : goal.returns-in-Ok
returns-in-Ok c =
    ran _ _ _ (c.requires) c.if-report-eq0.false c.budget.ensures.0 c.run-ran.ensures.answer c.run-ran.ensures.machine
    c.run-ran.ensures.memory
    (rw c.in-Ok.is (c.stand.ensures _))

pub returns-in-Err : goal.returns-in-Err
returns-in-Err c =
    ran _ _ _ (c.requires) c.if-report-eq0.false c.budget.ensures.0 c.run-ran.ensures.answer c.run-ran.ensures.machine
    c.run-ran.ensures.memory
    (rw c.in-Err.is (c.not_run.ensures _))
