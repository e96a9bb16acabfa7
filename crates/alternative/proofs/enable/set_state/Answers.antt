-- `alternative::enable::set_state` meets its contract. Assumes nothing.
use Rattle.processor.proofs.Laws.{like}
use Rattle.alternative.proofs.enable.set_state.Goals as goal

pub returns : goal.returns
returns c u h =
    like (c.poke.ensures u h) (λ x. rw (← c.state_word.ensures))
