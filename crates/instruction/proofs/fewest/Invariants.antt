-- `instruction::fewest` meets its contract. The loop's invariant: the fewest are the fewest from here on, and the limit is that of so many
-- prefixes. Assumes nothing.
use Prim.Native.Nat.{suc, ◌-◌, ◌^◌}
use mathlib.Core.Path.{◌≡◌}
use Rattle.model.specs.Prefix.{fewest_from, fewest}
use Rattle.instruction.proofs.fewest.Given as goal

abbrev pub invariant-loop-prefixes : goal.invariant-loop-prefixes
invariant-loop-prefixes l =
    (fewest l.n ≡ fewest_from (7 - l.prefixes) l.prefixes l.n) × (l.limit ≡ 16 ^ suc l.prefixes)
