-- `statements::alt::gen_enable` meets its contract. The loop's invariant, for all names that the array shows: enabling the guards that are
-- left, behind the code so far, gives what enabling all of them gives. Assumes nothing.
use mathlib.Core.Path.{◌≡◌}
use Prim.Native.Nat.{◌-◌}
use Rattle.expressions.specs.Emits.{at as standing}
use Rattle.expressions.specs.Names.{WithNames}
use Rattle.statements.specs.Alts.{enable_into}
use Rattle.statements.proofs.alt.gen_enable.Given as goal

abbrev pub invariant-loop : goal.invariant-loop
invariant-loop l =
    WithNames l.scope l.words
    (λ ns. enable_into l.count l.scope.depth l.scope.w ns l.plan l.table l.initial.at (standing l.initial.here l.initial.list)
    ≡ enable_into (l.count - l.counter) l.scope.depth l.scope.w ns l.plan l.table l.at (standing l.here l.list))
