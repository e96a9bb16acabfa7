-- `timer::alt::bring_time` meets its contract. Assumes nothing.
use borrow.Author.Tests.{eq-eqb, ne_eqb}
use Rattle.model.specs.Timer.{bring_time}
use Rattle.processor.proofs.Laws.{like, faulty, fault-passed}
use Rattle.timer.proofs.alt.bring_time.Goals as goal

pub returns-then-x : goal.returns-then-x
unfolding bring_time
returns-then-x c =
    record {
      does = λ u h. like (c.poke_poke.ensures.does u h)
          (λ x. rw (← c.time_link_word-a.ensures, c.peek.ensures u h x _, c.in_ok-x.was, eq-eqb _ _ c.if-x.true, ← c.time_word-b.ensures));
      same = c.poke_poke.ensures.same;
    }

pub returns : goal.returns
unfolding bring_time
returns c =
    record {
      does = λ u h. like (c.earlier_time.ensures.does u h)
          (λ x. rw (← c.time_link_word-a.ensures, c.peek.ensures u h x _, c.in_ok-x.was, ne_eqb _ _ c.if-x.false, ← c.time_word-b.ensures));
      same = c.earlier_time.ensures.same;
    }

pub returns-in_err-x : goal.returns-in_err-x
unfolding bring_time
returns-in_err-x c =
    rw (fault-passed c.from_residual.result c.from_residual.ensures.1)
    (record { does = (λ u h. faulty (λ x. rw (← c.time_link_word-a.ensures, c.peek.ensures u h x _, c.in_err-x.was))); same = tt })
