-- `processor::process::start_process` meets its contract. Assumes nothing.
use Rattle.model.specs.Machine.{name_of}
use Rattle.model.specs.Execute.{start_process}
use Rattle.processor.proofs.Laws.{like}
use Rattle.processor.proofs.process.start_process.Goals as goal

pub returns : goal.returns
unfolding start_process name_of
returns c u h =
    like (c.poke_join.ensures u h) (λ x. rw (← c.resume_word.ensures, ← c.plus.ensures))
