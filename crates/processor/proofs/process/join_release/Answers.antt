-- `processor::process::join_release` meets its contract. Assumes nothing.
use Rattle.processor.proofs.Laws.{like, join-behind, join_first}
use Rattle.processor.proofs.process.join_release.Goals as goal

pub returns-then-cpu : goal.returns-then-cpu
returns-then-cpu c u h g =
    like (c.poke_release.ensures u h g)
    (λ x. rw (join-behind x u c.args.cpu _ _ c.requires c.if-cpu.true, ← c.link_word.ensures))

pub returns : goal.returns
returns c u h g =
    like (c.release.ensures u h g) (λ x. rw (join_first x u c.args.cpu _ _ c.requires c.if-cpu.false))
