-- `processor::process::yield_slice` meets its contract. Assumes nothing.
use mathlib.Core.Path.{sym, ◌∙◌}
use Rattle.model.specs.Machine.{name_of}
use Rattle.processor.specs.Pieces.{join_release}
use Rattle.processor.proofs.Laws.{like, undid, refused, fault-passed}
use Rattle.processor.proofs.process.yield_slice.Goals as goal

pub returns : goal.returns
unfolding name_of
returns c u h g =
    like (undid _ _ _ h _ (c.swap.ensures.held, c.swap.ensures.holds) c.in_ok-old.was
    (c.join_release-step.ensures u (h ∙ sym c.swap.auto.memory) g)
    (c.undo.ensures.same, c.undo.ensures.back))
    (λ x. rw (← c.resume_word-a.ensures))

pub returns-in_err-old : goal.returns-in_err-old
unfolding name_of
returns-in_err-old c u h g =
    let act = join_release c.args.to c.args.cpu.workspace in
    rw (fault-passed c.from_residual.result c.from_residual.ensures.1)
    (like {q = c.args.cpu} (refused _ c.args.to act h (c.swap.ensures.held, c.swap.ensures.holds) c.in_err-old.was)
    (λ x. rw (← c.resume_word-a.ensures)))
