-- `processor::process::enqueue` meets its contract. Assumes nothing.
use mathlib.Core.Path.{◌∙◌}
use Rattle.processor.proofs.Laws.{like, ends, enqueue-behind, enqueue-first}
use Rattle.processor.proofs.process.enqueue.Goals as goal

pub returns-then-cpu : goal.returns-then-cpu
returns-then-cpu c u h =
    like (c.poke.ensures u h) (λ x. enqueue-behind x u _ _ _ c.if-cpu.true ∙ rw (← c.link_word.ensures))

pub returns : goal.returns
returns c u h = ends (λ x. enqueue-first x u _ _ _ c.if-cpu.false)
