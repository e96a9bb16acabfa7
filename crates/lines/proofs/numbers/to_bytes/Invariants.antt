-- `lines::numbers::to_bytes` meets its contract: the buffer is what the numbers passed make of it.
use Rattle.std.proofs.Common.{◌≡◌}
use lib.ListN.{take}
use Rattle.lines.specs.Rows.{low_bytes}
use Rattle.lines.proofs.numbers.to_bytes.Given as goal

abbrev pub invariant-loop-i : goal.invariant-loop-i
invariant-loop-i l = l.bytes ≡ low_bytes (take l.i l.numbers) l.initial.bytes
