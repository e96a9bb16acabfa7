-- `waking::wake::ready_join` meets its contract. Assumes nothing.
use mathlib.Core.Path.{sym, ◌∙◌}
use Rattle.model.specs.Machine.{space_of, enqueue}
use Rattle.waking.proofs.Roughly.{rough-like, rough-poke, rough-refused, rough-enqueue}
use Rattle.processor.proofs.Laws.{fault-passed}
use Rattle.waking.proofs.wake.ready_join.Goals as goal

pub returns : goal.returns
unfolding space_of
returns c u h =
    let k = h ∙ sym c.swap.auto.memory in
    let joined = rough-enqueue _ _ _ k _ (c.enqueue.ensures u k) in
    rough-like (rough-poke _ _ h (c.swap.ensures.held, c.swap.ensures.holds) c.in_ok-swap.was joined) (λ x. rw (← c.state_word.ensures))

pub returns-in_err-swap : goal.returns-in_err-swap
unfolding space_of
returns-in_err-swap c u h =
    rw (fault-passed c.from_residual.result c.from_residual.ensures.1)
    (rough-like (rough-refused _ _ h (enqueue c.args.p c.args.cpu) c.args.cpu (c.swap.ensures.held, c.swap.ensures.holds) c.in_err-swap.was)
    (λ x. rw (← c.state_word.ensures)))
