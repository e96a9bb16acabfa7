-- `waking::wake::wake_rest` meets its contract. Assumes nothing.
use mathlib.Core.Path.{sym, ◌∙◌}
use Rattle.model.specs.Machine.{space_of}
use Rattle.waking.specs.Wakes.{wake_state}
use Rattle.waking.proofs.Roughly.{rough-like, rough-poke, rough-refused}
use Rattle.processor.proofs.Laws.{fault-passed}
use Rattle.waking.proofs.wake.wake_rest.Goals as goal

pub returns : goal.returns
unfolding space_of
returns c u h =
    let k = h ∙ sym c.swap.auto.memory in
    rough-like (rough-poke _ _ h (c.swap.ensures.held, c.swap.ensures.holds) c.in_ok-swap.was (c.wake_state.ensures u k))
    (λ x. rw (← c.time_word.ensures))

pub returns-in_err-swap : goal.returns-in_err-swap
unfolding space_of
returns-in_err-swap c u h =
    rw (fault-passed c.from_residual.result c.from_residual.ensures.1)
    (rough-like (rough-refused _ _ h (wake_state c.args.p) c.args.cpu (c.swap.ensures.held, c.swap.ensures.holds) c.in_err-swap.was)
    (λ x. rw (← c.time_word.ensures)))
