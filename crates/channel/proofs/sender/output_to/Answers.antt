-- `channel::sender::output_to` meets its contract. Assumes nothing.
use native.Mathlib.Omega.{arith}
use Rattle.model.specs.Machine.{space_of}
use Rattle.model.specs.Execute.{deliver}
use Rattle.processor.proofs.Laws.{like, fault-passed}
use Rattle.processor.proofs.Talking.{hears, hears-fault, silent}
use Rattle.channel.proofs.Handing.{waits-told, handed}
use Rattle.channel.proofs.sender.output_to.Goals as goal

pub returns-then-alt_state : goal.returns-then-alt_state
unfolding space_of
returns-then-alt_state c u h g =
    silent (like (c.wait_at.ensures u h g)
    (λ x.
    rw (← c.state_word.ensures, c.peek.ensures u h x _, c.in_ok-s.was, c.state_word.ensures, ← c.alt_state.ensures, c.if-alt_state.true)
    (waits-told _ _ _ _ _)))

pub returns : goal.returns
unfolding deliver space_of
returns c u h g =
    hears (c.deliver.ensures u h)
    (λ x.
    rw (← c.state_word.ensures, c.peek.ensures u h x _, c.in_ok-s.was, ← c.alt_state.ensures, c.if-alt_state.false)
    (handed x u _ _ _ c.requires.0 (omega arith) _ _ _))

pub returns-in_err-s : goal.returns-in_err-s
unfolding space_of
returns-in_err-s c u h g =
    rw (fault-passed c.from_residual.result c.from_residual.ensures.1)
    (hears-fault (λ x. rw (← c.state_word.ensures, c.peek.ensures u h x _, c.in_err-s.was)))
