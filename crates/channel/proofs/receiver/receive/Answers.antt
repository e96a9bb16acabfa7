-- `channel::receiver::receive` meets its contract. Assumes nothing.
use Rattle.model.specs.Machine.{space_of}
use Rattle.model.specs.Execute.{receive}
use Rattle.processor.proofs.Laws.{fault-passed}
use Rattle.channel.proofs.receiver.receive.Goals as goal

pub returns : goal.returns
unfolding receive space_of
returns c u h x r =
    rw (← c.state_word.ensures, c.peek.ensures u h x _, c.in_ok-m.was) (c.peek-2.ensures u h x r)

pub returns-in_err-m : goal.returns-in_err-m
unfolding receive space_of
returns-in_err-m c u h x r =
    rw (fault-passed c.from_residual.result c.from_residual.ensures.1)
    (rw (← c.state_word.ensures, c.peek.ensures u h x _, c.in_err-m.was))
