-- `timer::alt::disable_state` meets its contract. Assumes nothing.
use borrow.Author.Tests.{eq-eqb, ne_eqb}
use Rattle.processor.proofs.Talking.{lands}
use Rattle.timer.proofs.Sleeping.{unseen, alike, ended, fault-on}
use Rattle.processor.proofs.Laws.{fault-passed}
use Rattle.timer.proofs.alt.disable_state.Goals as goal

pub returns-then-state-eq-TIME_SET : goal.returns-then-state-eq-TIME_SET
returns-then-state-eq-TIME_SET c u h p k =
    alike (unseen k _ (c.choose_timed.ensures u h p)) (λ x. rw (eq-eqb _ _ c.if-state-eq-TIME_SET.true))

pub returns-then-state-eq-TIME_NOT_SET : goal.returns-then-state-eq-TIME_NOT_SET
returns-then-state-eq-TIME_NOT_SET c u h p k =
    ended (λ x. rw (ne_eqb _ _ c.if-state-eq-TIME_SET.false, eq-eqb _ _ c.if-state-eq-TIME_NOT_SET.true, c.stack.ensures)
    (lands _ c.requires p))

pub returns : goal.returns
returns c u h p k =
    let same = rw c.in_ok-r.was at c.leave.ensures.same in
    ended
    (λ x.
    rw (
      ne_eqb _ _ c.if-state-eq-TIME_SET.false,
      ne_eqb _ _ c.if-state-eq-TIME_NOT_SET.false,
      (c.leave.ensures.does u h k).does.said x,
      c.in_ok-r.was,
      c.stack-2.ensures,
      same,
    )
    (lands _ c.requires p))

pub returns-in_err-r : goal.returns-in_err-r
returns-in_err-r c u h p k =
    rw (fault-passed c.from_residual.result c.from_residual.ensures.1)
    (fault-on (c.leave.ensures.does u h k) c.in_err-r.was
    (λ x e. rw (ne_eqb _ _ c.if-state-eq-TIME_SET.false, ne_eqb _ _ c.if-state-eq-TIME_NOT_SET.false, e)))
