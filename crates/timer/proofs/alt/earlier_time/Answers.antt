-- `timer::alt::earlier_time` meets its contract. Assumes nothing.
use mathlib.Core.Path.{refl, sym, ◌∙◌}
use Rattle.processor.proofs.Laws.{like, ends, faulty, fault-passed}
use Rattle.timer.proofs.Sleeping.{poke-same}
use Rattle.timer.proofs.alt.earlier_time.Goals as goal

pub returns-then-after : goal.returns-then-after
returns-then-after c =
    record {
      does = λ u h. like (c.poke.ensures u h) (λ x. rw (c.peek.ensures u h x _, c.in_ok-t.was, sym c.after.ensures ∙ c.if-after.true));
      same = poke-same _ _ _ c.poke.ensures;
    }

pub returns : goal.returns
returns c =
    record { does = (λ u h. ends (λ x. rw (c.peek.ensures u h x _, c.in_ok-t.was, sym c.after.ensures ∙ c.if-after.false))); same = refl }

pub returns-in_err-t : goal.returns-in_err-t
returns-in_err-t c =
    rw (fault-passed c.from_residual.result c.from_residual.ensures.1)
    (record { does = (λ u h. faulty (λ x. rw (c.peek.ensures u h x _, c.in_err-t.was))); same = tt })
