-- `alternative::enable::begin_alt` meets its contract. Assumes nothing.
use Rattle.model.specs.Alternative.{begin_alt}
use Rattle.processor.proofs.Laws.{like}
use Rattle.alternative.proofs.Staying.{pokes, stays}
use Rattle.alternative.proofs.enable.begin_alt.Goals as goal

pub returns : goal.returns
unfolding begin_alt
returns c u h p =
    like (c.set_state.ensures u h) (λ x. stays x u _ _ c.requires p (pokes _ _ _))
