-- `table::usage::merge` meets its contract: the words before k are merged, and those from k on are as they were. Assumes nothing.
use Prim.Native.Nat.{ℕ, ◌<◌, ◌≤◌}
use mathlib.Core.Path.{◌≡◌}
use lib.Bits.{bit_or}
use lib.ListN.{get_or, length}
use Rattle.table.proofs.usage.merge.Given as goal

abbrev pub invariant-loop-k : goal.invariant-loop-k
invariant-loop-k l =
    (length l.sets ≡ length l.initial.sets)
    × ((j : ℕ) → j < l.k → get_or l.sets j 0 ≡ bit_or (get_or l.initial.sets j 0) (get_or l.branch j 0))
    × ((j : ℕ) → l.k ≤ j → get_or l.sets j 0 ≡ get_or l.initial.sets j 0)
