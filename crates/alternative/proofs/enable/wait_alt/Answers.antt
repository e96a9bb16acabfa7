-- `alternative::enable::wait_alt` meets its contract. Assumes nothing.
use mathlib.Core.Path.{sym, ◌∙◌}
use Rattle.processor.proofs.Laws.{undid, refused, like, fault-passed}
use Rattle.alternative.specs.Guards.{wait_ready}
use Rattle.alternative.proofs.Staying.{waits}
use Rattle.alternative.proofs.enable.wait_alt.Goals as goal

pub returns : goal.returns
returns c u h g =
    like (undid _ _ _ h _ (c.swap.ensures.held, c.swap.ensures.holds) c.in_ok-old.was
    (c.wait_ready-step.ensures u (h ∙ sym c.swap.auto.memory) g)
    (c.undo.ensures.same, c.undo.ensures.back)) (λ x. waits _)

pub returns-in_err-old : goal.returns-in_err-old
returns-in_err-old c u h g =
    rw (fault-passed c.from_residual.result c.from_residual.ensures.1)
    (like (refused _ _ (wait_ready c.args.cpu.workspace c.args.cpu.place) h (c.swap.ensures.held, c.swap.ensures.holds) c.in_err-old.was)
    (λ x. waits _))
