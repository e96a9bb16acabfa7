-- `instruction::put_prefixes` meets its contract. The loop's invariant: what is to be stored from the start is what is left to be stored
-- here, and of some prefixes one is left. Assumes nothing.
use Prim.Native.Nat.{◌<◌}
use mathlib.Core.Path.{◌≡◌}
use lib.Seq.{sets}
use Rattle.model.specs.Prefix.{prefixes}
use Rattle.instruction.proofs.put_prefixes.Given as goal

abbrev pub invariant-loop-left : goal.invariant-loop-left
invariant-loop-left l =
    (sets l.initial.out l.here (prefixes l.count l.n) ≡ sets l.out l.here (prefixes l.left l.rest)) × (0 < l.count → 0 < l.left)
