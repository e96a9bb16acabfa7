-- `call_test::main` is safe and ends; the measure is the lines that are left. Assumes nothing.
use Rattle.call_test.proofs.main.Given as goal

abbrev pub decreases-loop-line : goal.decreases-loop-line
decreases-loop-line l = l.line.left
