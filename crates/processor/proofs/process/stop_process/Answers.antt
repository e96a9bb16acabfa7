-- `processor::process::stop_process` meets its contract. Assumes nothing.
use Rattle.model.specs.Execute.{stop_process}
use Rattle.processor.proofs.Laws.{like, poke-release}
use Rattle.processor.proofs.process.stop_process.Goals as goal

pub returns : goal.returns
unfolding stop_process
returns c u h g =
    like (c.poke_release.ensures u h g) (λ x. rw (← c.resume_word.ensures) (poke-release _ _ _))
