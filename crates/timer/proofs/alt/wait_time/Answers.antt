-- `timer::alt::wait_time` meets its contract. Assumes nothing.
use mathlib.Core.Path.{sym, ◌∙◌}
use Rattle.model.specs.Timer.{wait_time}
use Rattle.processor.specs.Quiet.{timing}
use Rattle.timer.proofs.Sleeping.{unseen, alike, faulted, poke2-lands, alt-sleeps}
use Rattle.processor.proofs.Laws.{fault-passed}
use Rattle.timer.proofs.alt.wait_time.Goals as goal

pub returns-then-after : goal.returns-then-after
unfolding wait_time
returns-then-after c u h g =
    alike (unseen _ _ (c.poke_poke.ensures.does u h))
    (λ x.
    rw (← c.time_word-a.ensures, c.peek.ensures u h _ _, c.in_ok-t.was, sym c.after.ensures ∙ c.if-after.true, ← c.state_word-b.ensures)
    (poke2-lands (timing _ _ x) u _ _ c.requires.0 (rw g c.requires.1) _ _ _ _))

pub returns : goal.returns
unfolding wait_time
returns c u h g =
    alike (c.poke2_sleep.ensures u h g _)
    (λ x.
    rw (
      ← c.time_word-a.ensures,
      c.peek.ensures u h _ _,
      c.in_ok-t.was,
      sym c.after.ensures ∙ c.if-after.false,
      ← c.state_word-b.ensures,
      ← c.resume_word-c.ensures,
    )
    (alt-sleeps _ _ _ _ _ _))

pub returns-in_err-t : goal.returns-in_err-t
unfolding wait_time
returns-in_err-t c u h g =
    rw (fault-passed c.from_residual.result c.from_residual.ensures.1)
    (faulted (λ x. rw (← c.time_word-a.ensures, c.peek.ensures u h _ _, c.in_err-t.was)))
