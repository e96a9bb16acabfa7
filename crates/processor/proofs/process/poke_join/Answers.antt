-- `processor::process::poke_join` meets its contract. Assumes nothing.
use mathlib.Core.Path.{sym, ◌∙◌}
use Rattle.processor.proofs.Laws.{undid, refused, fault-passed}
use Rattle.processor.proofs.process.poke_join.Goals as goal

pub returns : goal.returns
returns c u h =
    undid _ _ _ h _ (c.swap.ensures.held, c.swap.ensures.holds) c.in_ok-old.was (c.join-step.ensures u (h ∙ sym c.swap.auto.memory))
    (c.undo.ensures.same, c.undo.ensures.back)

pub returns-in_err-old : goal.returns-in_err-old
returns-in_err-old c u h =
    rw (fault-passed c.from_residual.result c.from_residual.ensures.1)
    (refused _ _ _ h (c.swap.ensures.held, c.swap.ensures.holds) c.in_err-old.was)
