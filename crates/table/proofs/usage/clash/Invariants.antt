-- `table::usage::clash` meets its contract: what was found in the words before k. Assumes nothing.
use mathlib.Core.Path.{◌≡◌}
use Rattle.table.proofs.Clash.{met_before}
use Rattle.table.proofs.usage.clash.Given as goal

abbrev pub invariant-loop-k : goal.invariant-loop-k
invariant-loop-k l = l.names ≡ met_before l.k l.before l.branch
