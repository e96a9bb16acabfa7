-- `processor::process::resume` meets its contract. Assumes nothing.
use Rattle.model.specs.Machine.{resume, space_of}
use Rattle.processor.proofs.Laws.{ends, faulty, fault-passed}
use Rattle.processor.proofs.process.resume.Goals as goal

pub returns : goal.returns
unfolding resume space_of
returns c u h =
    ends (λ x. rw (← c.resume_word.ensures, c.peek.ensures u h x _, c.in_ok-p.was))

pub returns-in_err-p : goal.returns-in_err-p
unfolding resume space_of
returns-in_err-p c u h =
    rw (fault-passed c.from_residual.result c.from_residual.ensures.1)
    (faulty (λ x. rw (← c.resume_word.ensures, c.peek.ensures u h x _, c.in_err-p.was)))
