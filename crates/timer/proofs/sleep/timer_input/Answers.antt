-- `timer::sleep::timer_input` meets its contract. Assumes nothing.
use mathlib.Core.Path.{sym, ◌∙◌}
use Rattle.model.specs.Machine.{state_word, time_word}
use Rattle.model.specs.Alternative.{waiting}
use Rattle.model.specs.Timer.{timer_input}
use Rattle.processor.proofs.Talking.{lands}
use Rattle.timer.specs.Sleeps.{poke2_sleep}
use Rattle.timer.proofs.Sleeping.{alike, ended, slept, not-slept, wait-shape}
use Rattle.processor.proofs.Laws.{fault-passed}
use Rattle.timer.proofs.sleep.timer_input.Goals as goal

pub returns-then-after : goal.returns-then-after
unfolding timer_input
returns-then-after c u h g =
    ended (λ x. rw (sym c.after.ensures ∙ c.if-after.true) (lands _ c.requires.0 (rw g c.requires.1)))

pub returns : goal.returns
unfolding timer_input
returns c u h g =
    let j = h ∙ sym c.swap.auto.memory in
    alike (slept _ _ _ h _ (c.swap.ensures.held, c.swap.ensures.holds) c.in_ok-old.was (c.poke2_sleep-step.ensures u j g _)
    (c.undo.ensures.same, c.undo.ensures.back))
    (λ x.
    rw (sym c.after.ensures ∙ c.if-after.false, ← c.resume_word-a.ensures, ← c.state_word-b.ensures, ← c.time_word-c.ensures)
    (wait-shape _ _ _ _ _ _ _ _))

pub returns-in_err-old : goal.returns-in_err-old
unfolding timer_input
returns-in_err-old c u h g =
    rw (fault-passed c.from_residual.result c.from_residual.ensures.1)
    (alike {q = c.args.cpu} (not-slept _ _ (poke2_sleep (state_word c.args.cpu.workspace) waiting
    (time_word c.args.cpu.workspace) c.args.cpu.a c.args.cpu.a) h (c.swap.ensures.held, c.swap.ensures.holds)
    c.in_err-old.was)
    (λ x. rw (sym c.after.ensures ∙ c.if-after.false, ← c.resume_word-a.ensures) (wait-shape _ _ _ _ _ _ _ _)))
