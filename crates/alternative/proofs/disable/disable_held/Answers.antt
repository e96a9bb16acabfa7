-- `alternative::disable::disable_held` meets its contract. Assumes nothing.
use mathlib.Core.Path.{sym, ◌∙◌}
use Rattle.alternative.proofs.Staying.{poke-later, poke-inside}
use Rattle.processor.proofs.Laws.{fault-passed}
use Rattle.alternative.proofs.disable.disable_held.Goals as goal

pub returns : goal.returns
returns c u h =
    let d = c.poke.ensures u (h ∙ sym c.select.auto.memory) in
    record {
      said = λ x. poke-later c.args.c c.args.cpu.a _ ∙ rw ((c.select.ensures u h).said x, c.in_ok-chosen.was) (d.said x);
      keeps = poke-inside _ _ _ _ (rw h c.requires) d;
    }

pub returns-in_err-chosen : goal.returns-in_err-chosen
returns-in_err-chosen c u h =
    rw (fault-passed c.from_residual.result c.from_residual.ensures.1)
    (record {
      said = λ x. poke-later c.args.c c.args.cpu.a _ ∙ rw ((c.select.ensures u h).said x, c.in_err-chosen.was);
      keeps = rw c.in_err-chosen.was at (c.select.ensures u h).keeps;
    })
