-- `alternative::disable::disable_channel` meets its contract. Assumes nothing.
use borrow.Author.Tests.{eq-eqb, ne_eqb}
use Rattle.model.specs.Alternative.{disable_channel, disable_ready}
use Rattle.processor.proofs.Laws.{ends, faulty, fault-passed}
use Rattle.processor.proofs.Talking.{lands, takes_none, silent}
use Rattle.processor.specs.Quiet.{offering}
use Rattle.alternative.proofs.Staying.{selects-held, selects-inside, chooses, peek-inside, sees, offered-at}
use Rattle.alternative.proofs.disable.disable_channel.Goals as goal

pub returns-then-cpu-eq0 : goal.returns-then-cpu-eq0
unfolding disable_channel
returns-then-cpu-eq0 c o =
    takes_none o _ (silent (ends (λ x. rw (eq-eqb _ _ c.if-cpu-eq0.true, c.stack.ensures)
    (lands _ c.requires.sized.0 c.requires.sized.2))))

pub disable_held-requires : goal.disable_held-requires
disable_held-requires c =
    peek-inside c.args.cpu.c c.args.memory.now c.args.setup c.args.cpu c.requires.sized.1 c.peek.ensures c.in_ok-p.was

pub returns-then-is_some : goal.returns-then-is_some
unfolding disable_channel disable_ready
returns-then-is_some c o =
    sees o (c.disable_held.ensures c.args.setup c.requires.sized.1)
    (λ x.
    let e = c.peek.ensures c.args.setup c.requires.sized.1 (offering o c.args.held.now x) in
    rw (ne_eqb _ _ c.if-cpu-eq0.false, e _, c.in_ok-p.was, offered-at _ _ _ _ c.held_at.ensures c.is_some.ensures c.if-is_some.true)
    (chooses (offering o c.args.held.now x) _ _ _ c.requires.sized.0 c.requires.sized.2 _ (λ q. q.b) (selects-held _ _ _)))

pub returns : goal.returns
unfolding disable_channel disable_ready
returns c o =
    sees o (c.disable_inside.ensures c.args.setup c.requires.sized.1)
    (λ x.
    let e = c.peek.ensures c.args.setup c.requires.sized.1 (offering o c.args.held.now x) in
    rw (ne_eqb _ _ c.if-cpu-eq0.false, e _, c.in_ok-p.was, offered-at _ _ _ _ c.held_at.ensures c.is_some.ensures c.if-is_some.false)
    (chooses (offering o c.args.held.now x) c.args.setup c.args.cpu _ c.requires.sized.0 c.requires.sized.2 _ (λ q. q.b)
    (selects-inside c.args.cpu.c c.args.cpu.a c.in_ok-p.p _)))

pub returns-in_err-p : goal.returns-in_err-p
unfolding disable_channel disable_ready
returns-in_err-p c o =
    rw (fault-passed c.from_residual.result c.from_residual.ensures.1)
    (takes_none o _ (silent (faulty (λ x. rw (
      ne_eqb _ _ c.if-cpu-eq0.false,
      c.peek.ensures c.args.setup c.requires.sized.1 x _,
      c.in_err-p.was,
    )))))
