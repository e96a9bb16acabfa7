-- `statements::alt::has_time` meets its contract. The loop's invariant: there is a time guard among the guards that are left exactly if
-- there is one among all. Assumes nothing.
use mathlib.Core.Path.{◌≡◌}
use Prim.Native.Nat.{◌-◌}
use Rattle.statements.specs.Alts.{timed_in}
use Rattle.statements.proofs.alt.has_time.Given as goal

abbrev pub invariant-loop : goal.invariant-loop
invariant-loop l = timed_in l.count l.plan l.table l.initial.at ≡ timed_in (l.count - l.counter) l.plan l.table l.at
