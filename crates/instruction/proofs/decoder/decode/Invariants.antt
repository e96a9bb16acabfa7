-- `instruction::decoder::decode` meets its contract. The loop's invariant: what is decoded from the start is decoded from here with the
-- operand so far. The measure is the code that is left. Assumes nothing.
use Prim.Native.Nat.{◌-◌}
use mathlib.Core.Path.{◌≡◌}
use lib.ListN.{length, drop}
use Rattle.model.specs.Prefix.{decode}
use Rattle.instruction.proofs.decoder.decode.Given as goal

abbrev pub invariant-loop-at : goal.invariant-loop-at
invariant-loop-at l = decode 0 (drop l.from l.code) ≡ decode l.operand (drop l.at l.code)

abbrev pub decreases-loop-at : goal.decreases-loop-at
decreases-loop-at l = length l.code - l.at
