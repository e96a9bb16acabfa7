-- `timer::alt::poke_poke` meets its contract. Assumes nothing.
use mathlib.Core.Path.{sym, ◌∙◌}
use Rattle.processor.proofs.Laws.{undid, refused, fault-passed}
use Rattle.timer.proofs.Sleeping.{poke-same, same-as}
use Rattle.timer.proofs.alt.poke_poke.Goals as goal

pub returns : goal.returns
returns c =
    record {
      does = λ u h.
          let j = h ∙ sym c.swap.auto.memory in
          undid _ _ _ h _ (c.swap.ensures.held, c.swap.ensures.holds) c.in_ok-old.was (c.poke-step.ensures u j)
          (c.undo.ensures.same, c.undo.ensures.back);
      same = same-as _ _ _ c.undo.ensures.same (poke-same _ _ _ c.poke-step.ensures);
    }

pub returns-in_err-old : goal.returns-in_err-old
returns-in_err-old c =
    rw (fault-passed c.from_residual.result c.from_residual.ensures.1)
    (record { does = (λ u h. refused _ _ _ h (c.swap.ensures.held, c.swap.ensures.holds) c.in_err-old.was); same = tt })
