-- `executor::execute::store_local` meets its contract. Assumes nothing.
use mathlib.Core.Path.{◌∙◌, ap}
use Rattle.model.specs.Machine.{next, pop}
use Rattle.model.specs.Execute.{store_local}
use Rattle.model.specs.Run.{land}
use Rattle.processor.proofs.Laws.{like, poke-registers}
use Rattle.processor.proofs.Talking.{poke-lands}
use Rattle.executor.proofs.execute.store_local.Goals as goal

pub returns : goal.returns
unfolding store_local
returns c u h g =
    like (c.poke.ensures u h)
    (λ x.
    ap (λ q. next q (λ n. land)) (poke-registers x u c.args.cpu (pop c.args.cpu) _ _ _) ∙ poke-lands x u
    (pop c.args.cpu) _ c.requires g _ _
    ∙ rw (← c.plus.ensures, ← c.pop.ensures))
