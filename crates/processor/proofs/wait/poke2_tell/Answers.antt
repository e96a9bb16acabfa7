-- `processor::wait::poke2_tell` meets its contract. Assumes nothing.
use mathlib.Core.Path.{sym, ◌∙◌}
use Rattle.processor.proofs.Laws.{undid, refused, fault-passed}
use Rattle.processor.proofs.wait.poke2_tell.Goals as goal

pub returns : goal.returns
returns c u h g =
    undid _ _ _ h _ (c.swap.ensures.held, c.swap.ensures.holds) c.in_ok-old.was (c.poke_tell-step.ensures u (h ∙ sym c.swap.auto.memory) g)
    (c.undo.ensures.same, c.undo.ensures.back)

pub returns-in_err-old : goal.returns-in_err-old
returns-in_err-old c u h g =
    rw (fault-passed c.from_residual.result c.from_residual.ensures.1)
    (refused _ _ _ h (c.swap.ensures.held, c.swap.ensures.holds) c.in_err-old.was)
