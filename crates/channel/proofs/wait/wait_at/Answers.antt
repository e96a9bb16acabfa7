-- `channel::wait::wait_at` meets its contract. Assumes nothing.
use mathlib.Core.Path.{refl, sym, ◌∙◌}
use Rattle.model.specs.Machine.{name_of}
use Rattle.model.specs.Word.{less}
use Rattle.processor.specs.Pieces.{poke2_tell}
use Rattle.processor.proofs.Laws.{like, undid, refused, fault-passed}
use Rattle.channel.proofs.wait.wait_at.Goals as goal

pub returns : goal.returns
unfolding name_of
returns c u h g =
    like (undid _ _ _ h _ (c.swap.ensures.held, c.swap.ensures.holds) c.in_ok-old.was
    (c.poke2_tell-step.ensures u (h ∙ sym c.swap.auto.memory) g)
    (c.undo.ensures.same, c.undo.ensures.back))
    (λ x. rw (← c.resume_word.ensures, ← c.state_word.ensures))

pub returns-in_err-old : goal.returns-in_err-old
unfolding name_of
returns-in_err-old c u h g =
    let act = poke2_tell (less c.args.cpu.workspace 1) c.args.cpu.place
    (less c.args.cpu.workspace 3) c.args.message c.args.p c.args.state in
    rw (fault-passed c.from_residual.result c.from_residual.ensures.1)
    (like (refused _ _ act {r = c.args.cpu} h (c.swap.ensures.held, c.swap.ensures.holds) c.in_err-old.was) (λ x. refl))
