-- `timer::alt::unlink_at` meets its contract. Assumes nothing.
use mathlib.Core.Path.{refl, ◌∙◌}
use borrow.Author.Tests.{eq-eqb, ne_eqb}
use Rattle.model.specs.Machine.{space_of}
use Rattle.processor.specs.Quiet.{timing}
use Rattle.timer.proofs.Sleeping.{poke-same, unseen, alike, ended}
use Rattle.processor.proofs.Laws.{fault-passed}
use Rattle.timer.proofs.alt.unlink_at.Goals as goal

pub returns-then-here-eq-NOT_PROCESS : goal.returns-then-here-eq-NOT_PROCESS
unfolding space_of
returns-then-here-eq-NOT_PROCESS c =
    record {
      does = λ u h k. alike (unseen k _ (c.poke.ensures u h))
          (λ x. rw (eq-eqb _ _ c.if-here-eq-NOT_PROCESS.true, ← c.time_link_word-a.ensures));
      same = poke-same _ _ _ c.poke.ensures;
    }

pub returns-in_default : goal.returns-in_default
unfolding space_of
returns-in_default c =
    record {
      does = λ u h k. ended
          (λ x.
          rw (ne_eqb _ _ c.if-here-eq-NOT_PROCESS.false, c.in_default.is, ← c.time_link_word-a.ensures)
          ((c.poke-in_default.ensures u h).said (timing k _ x) ∙ rw c.in_ok-r.was));
      same = rw c.in_ok-r.was at (poke-same _ _ _ c.poke-in_default.ensures);
    }

pub returns-in_err-r : goal.returns-in_err-r
unfolding space_of
returns-in_err-r c =
    rw (fault-passed c.from_residual.result c.from_residual.ensures.1)
    (record {
      does = λ u h k. record {
        does = record {
          said = λ x.
              rw (ne_eqb _ _ c.if-here-eq-NOT_PROCESS.false, c.in_default.is, ← c.time_link_word-a.ensures)
              ((c.poke-in_default.ensures u h).said (timing k _ x) ∙ rw c.in_err-r.was);
          keeps = rw c.in_err-r.was at (c.poke-in_default.ensures u h).keeps;
        };
        keeps_front = refl;
      };
      same = tt;
    })

pub returns : goal.returns
unfolding space_of
returns c =
    record {
      does = λ u h k. alike (unseen k _ (c.poke_poke.ensures.does u h))
          (λ x. rw (
            ne_eqb _ _ c.if-here-eq-NOT_PROCESS.false,
            c.in-Some.is,
            ← c.time_link_word-a.ensures,
            ← c.time_link_word-b.ensures,
          ));
      same = c.poke_poke.ensures.same;
    }
