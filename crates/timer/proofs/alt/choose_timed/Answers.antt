-- `timer::alt::choose_timed` meets its contract. Assumes nothing.
use mathlib.Core.Path.{sym, ◌∙◌}
use Rattle.processor.proofs.Laws.{like, ends, faulty, fault-passed}
use Rattle.processor.proofs.Talking.{lands}
use Rattle.alternative.proofs.Staying.{selects, chooses}
use Rattle.timer.proofs.alt.choose_timed.Goals as goal

pub returns-then-after : goal.returns-then-after
returns-then-after c u h p =
    like (c.select.ensures u h)
    (λ x.
    rw (← c.time_word.ensures, c.peek.ensures u h x _, c.in_ok-t.was, sym c.after.ensures ∙ c.if-after.true)
    (chooses x u _ _ c.requires p _ (λ q. q.b) (selects _ _)))

pub returns : goal.returns
returns c u h p =
    ends
    (λ x.
    rw (← c.time_word.ensures, c.peek.ensures u h x _, c.in_ok-t.was, sym c.after.ensures ∙ c.if-after.false, c.stack.ensures)
    (lands _ c.requires p))

pub returns-in_err-t : goal.returns-in_err-t
returns-in_err-t c u h p =
    rw (fault-passed c.from_residual.result c.from_residual.ensures.1)
    (faulty (λ x. rw (← c.time_word.ensures, c.peek.ensures u h x _, c.in_err-t.was)))
