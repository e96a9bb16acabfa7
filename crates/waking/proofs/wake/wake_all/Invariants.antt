-- `waking::wake::wake_all` meets its contract. The loop's invariant: waking goes on at the front that is left, and the links of those
-- that were passed are marked. Assumes nothing.
use Rattle.waking.proofs.Along.{Walks}
use Rattle.waking.proofs.wake.wake_all.Given as goal

abbrev pub invariant-loop : goal.invariant-loop
invariant-loop l =
    Walks l.clock l.front l.initial.awake.cpu l.initial.memory l.seen l.counter l.awake.front l.awake.cpu l.memory
