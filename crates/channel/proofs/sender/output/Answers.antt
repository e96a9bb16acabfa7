-- `channel::sender::output` meets its contract. Assumes nothing.
use mathlib.Core.Path.{ap, ◌∙◌, sym}
use Rattle.processor.specs.Quiet.{quiet}
use Rattle.processor.proofs.Laws.{like, refused, fault-passed}
use Rattle.processor.proofs.Talking.{silent}
use Rattle.channel.specs.Channels.{output_behind}
use Rattle.channel.proofs.Handing.{puts, undid-hears}
use Rattle.channel.proofs.sender.output.Goals as goal

pub returns : goal.returns
returns c u h g =
    let d = undid-hears u _ _ _ _ h (
      c.swap.ensures.held,
      c.swap.ensures.holds,
    ) _ _ c.in_ok-old.was (c.output_behind-step.ensures u (h ∙ sym c.swap.auto.memory) g) (c.undo.ensures.same, c.undo.ensures.back) in
    record { said = λ x. ap quiet (puts _) ∙ d.said x; keeps = d.keeps }

pub returns-in_err-old : goal.returns-in_err-old
returns-in_err-old c u h g =
    rw (fault-passed c.from_residual.result c.from_residual.ensures.1)
    (silent (like (refused _ _ (output_behind c.args.cpu) {r = c.args.cpu} h (
      c.swap.ensures.held,
      c.swap.ensures.holds,
    ) c.in_err-old.was) (λ x. puts _)))
