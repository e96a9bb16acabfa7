-- `machine::budget::run_bytes` meets its contract. Assumes nothing.
use Prim.Native.Nat.{◌≤◌, ◌-◌}
use mathlib.Core.Path.{◌≡◌}
use lib.ListN.{length}
use Rattle.machine.specs.Runs.{Reaches}
use Rattle.machine.proofs.budget.run_bytes.Given as goal

abbrev pub invariant-loop-cpu : goal.invariant-loop-cpu
invariant-loop-cpu l =
    Reaches l.setup l.code l.budget l.offers l.initial.cpu l.initial.held l.clock l.initial.front l.initial.memory l.n l.cpu l.held l.front
    l.memory
    × (l.n ≤ l.budget)
    × (length l.memory ≡ length l.initial.memory)

abbrev pub decreases-loop-cpu : goal.decreases-loop-cpu
decreases-loop-cpu l = l.budget - l.n
