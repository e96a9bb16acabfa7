-- `timer::alt::enable_time` meets its contract. Assumes nothing.
use borrow.Author.Tests.{eq-eqb, ne_eqb}
use Rattle.model.specs.Timer.{enable_time}
use Rattle.processor.proofs.Laws.{ends, fault-passed}
use Rattle.processor.proofs.Talking.{lands}
use Rattle.timer.proofs.alt.enable_time.Goals as goal

pub returns-then-cpu-eq0 : goal.returns-then-cpu-eq0
unfolding enable_time
returns-then-cpu-eq0 c u h p =
    ends (λ x. rw (eq-eqb _ _ c.if-cpu-eq0.true, c.stack.ensures) (lands _ c.requires p))

pub returns : goal.returns
unfolding enable_time
returns c u h p =
    let same = rw c.in_ok-r.was at c.bring_time.ensures.same in
    ends
    (λ x. rw (ne_eqb _ _ c.if-cpu-eq0.false, (c.bring_time.ensures.does u h).said x, c.in_ok-r.was, c.stack-2.ensures, same)
    (lands _ c.requires p))

pub returns-in_err-r : goal.returns-in_err-r
unfolding enable_time
returns-in_err-r c u h p =
    rw (fault-passed c.from_residual.result c.from_residual.ensures.1)
    (record {
      said = λ x. rw (ne_eqb _ _ c.if-cpu-eq0.false, (c.bring_time.ensures.does u h).said x, c.in_err-r.was);
      keeps = rw c.in_err-r.was at (c.bring_time.ensures.does u h).keeps;
    })
