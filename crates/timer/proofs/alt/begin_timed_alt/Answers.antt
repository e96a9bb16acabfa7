-- `timer::alt::begin_timed_alt` meets its contract. Assumes nothing.
use Rattle.processor.proofs.Laws.{like}
use Rattle.timer.proofs.Sleeping.{begin-shape}
use Rattle.timer.proofs.alt.begin_timed_alt.Goals as goal

pub returns : goal.returns
returns c u h p =
    like (c.poke_poke.ensures.does u h) (λ x. rw (c.state_word-a.ensures, c.time_link_word-b.ensures) (begin-shape x u _ _ c.requires p))
