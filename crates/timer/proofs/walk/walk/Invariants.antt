-- `timer::walk::walk` meets its contract. The loop's invariant: the walk goes on from here, past as many processes as are left. Assumes
-- nothing.
use Prim.Native.Nat.{suc, ◌-◌}
use mathlib.Core.Path.{◌≡◌}
use Rattle.std.specs.Prelude.{length}
use Rattle.timer.specs.Walks.{walk_in, from_front}
use Rattle.timer.proofs.walk.walk.Given as goal

abbrev pub invariant-loop : goal.invariant-loop
invariant-loop l =
    walk_in (suc (length l.memory)) l.memory l.until l.front (from_front l.front)
    ≡ walk_in (suc (length l.memory) - l.counter) l.memory l.until l.front l.here
