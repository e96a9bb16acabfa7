-- `console::print` meets its contract. The memory keeps its length, and each turn leaves fewer turns. Assumes nothing.
use mathlib.Core.Path.{◌≡◌}
use lib.ListN.{length}
use Rattle.report.specs.Texts.{turns_left}
use Rattle.console.proofs.print.Given as goal

abbrev pub invariant-loop-out : goal.invariant-loop-out
invariant-loop-out l = length l.memory ≡ length l.initial.memory

abbrev pub decreases-loop-out : goal.decreases-loop-out
decreases-loop-out l = turns_left l.report
