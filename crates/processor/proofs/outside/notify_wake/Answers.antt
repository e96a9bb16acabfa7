-- `processor::outside::notify_wake` meets its contract. Assumes nothing.
use mathlib.Core.Path.{sym, ◌∙◌}
use Rattle.model.specs.Machine.{space_of}
use Rattle.processor.specs.Pieces.{wake_waiting}
use Rattle.processor.proofs.Laws.{like, undid, refused, fault-passed}
use Rattle.processor.proofs.outside.notify_wake.Goals as goal

pub returns : goal.returns
unfolding space_of
returns c u h g =
    like (undid _ _ _ h _ (c.swap.ensures.held, c.swap.ensures.holds) c.in_ok-old.was
    (c.wake_waiting-step.ensures u (h ∙ sym c.swap.auto.memory) g)
    (c.undo.ensures.same, c.undo.ensures.back))
    (λ x. rw (← c.state_word-a.ensures))

pub returns-in_err-old : goal.returns-in_err-old
unfolding space_of
returns-in_err-old c u h g =
    rw (fault-passed c.from_residual.result c.from_residual.ensures.1)
    (like (refused _ _ (wake_waiting c.args.p c.args.state) {r = c.args.cpu} h (c.swap.ensures.held, c.swap.ensures.holds) c.in_err-old.was)
    (λ x. rw (← c.state_word-a.ensures)))
