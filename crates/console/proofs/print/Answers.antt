-- `console::print` meets its contract. The memory keeps its length, and each turn leaves fewer turns. Assumes nothing.
use mathlib.Core.Path.{refl, ◌∙◌}
use Rattle.console.proofs.print.Goals as goal

pub loop-out-init : goal.loop-out-init
loop-out-init c = refl

pub shape_of-memory-then-not-turn : goal.shape_of-memory-then-not-turn
shape_of-memory-then-not-turn c =
    c.memory-1.given ∙ c.loop-out.invariant

pub loop-out-preserved : goal.loop-out-preserved
loop-out-preserved c =
    c.memory-1.given ∙ c.loop-out.invariant
