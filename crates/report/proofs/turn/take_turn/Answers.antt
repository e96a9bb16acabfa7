-- `report::turn::take_turn` meets its contract. Assumes nothing.
use native.Mathlib.Omega.{arith}
use mathlib.Core.Path.{refl, ◌∙◌}
use Rattle.model.specs.Bench.{ascii}
use Rattle.report.proofs.Turns.{said, took, turn-again, turn-waits}
use Rattle.report.proofs.turn.take_turn.Goals as goal

pub returns-then-k-report : goal.returns-then-k-report
returns-then-k-report c prog =
    took _ _ _ c.requires c.if-k-report.true c.take-took.ensures.answer c.take-took.ensures.machine c.take-took.ensures.memory
    (c.after_take.ensures ∙ rw c.gives.ensures) c.take_piece.ensures refl

pub returns-then-any : goal.returns-then-any
returns-then-any c prog =
    said (turn-again _ _ _ c.requires (omega (arith, c.if-k-report.false)) c.if-any.true)
    c.nothing.ensures.0 (c.say.ensures _)

pub returns : goal.returns
unfolding ascii
returns c prog =
    said (turn-waits _ _ _ c.requires (omega (arith, c.if-k-report.false)) c.if-any.false) c.line.ensures (c.say-2.ensures _)
