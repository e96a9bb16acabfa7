-- `alternative::enable::enable_channel` meets its contract. Assumes nothing.
use mathlib.Core.Path.{refl}
use borrow.Author.Tests.{eq-eqb, ne_eqb}
use Rattle.model.specs.Alternative.{enable_channel, enable_ready, set_ready}
use Rattle.processor.proofs.Laws.{ends}
use Rattle.processor.proofs.Talking.{lands, takes_none, silent}
use Rattle.processor.specs.Quiet.{offering}
use Rattle.alternative.proofs.Staying.{readies, enables, moves, sees, offered-at}
use Rattle.alternative.proofs.enable.enable_channel.Goals as goal

pub returns-then-cpu-eq0 : goal.returns-then-cpu-eq0
unfolding enable_channel
returns-then-cpu-eq0 c o =
    takes_none o _
    (silent (ends (λ x. rw (eq-eqb _ _ c.if-cpu-eq0.true, c.stack-r.ensures)
    (lands _ c.requires.sized.0 c.requires.sized.2))))

pub returns-then-is_some : goal.returns-then-is_some
unfolding enable_channel enable_ready set_ready
returns-then-is_some c o =
    sees o (c.set_state.ensures c.args.setup c.requires.sized.1)
    (λ x.
    rw (ne_eqb _ _ c.if-cpu-eq0.false, offered-at _ _ _ _ c.held_at.ensures c.is_some.ensures c.if-is_some.true, c.stack-r.ensures)
    (moves (offering o c.args.held.now x) _ _ _ c.requires.sized.0 c.requires.sized.2 _ _ _ _ refl (readies _)))

pub returns : goal.returns
unfolding enable_channel enable_ready
returns c o =
    sees o (c.enable_inside.ensures c.args.setup c.requires.sized.1)
    (λ x.
    rw (ne_eqb _ _ c.if-cpu-eq0.false, offered-at _ _ _ _ c.held_at.ensures c.is_some.ensures c.if-is_some.false, c.stack-r.ensures)
    (moves (offering o c.args.held.now x) _ _ _ c.requires.sized.0 c.requires.sized.2 _ _ _ _ refl (enables _ _)))
