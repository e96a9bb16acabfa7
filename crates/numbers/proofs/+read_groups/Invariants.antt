-- `numbers::read_groups` meets its contract; the measure is the bytes that are left. Assumes nothing.
use Rattle.numbers.proofs.+read_groups.Given as goal

abbrev pub decreases-read_groups : goal.decreases-read_groups
decreases-read_groups l = l.left
