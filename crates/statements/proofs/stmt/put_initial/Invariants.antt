-- `statements::stmt::put_initial` meets its contract. The loop's invariant: the words that are left, behind the code so far, give what all
-- of them give. Assumes nothing.
use mathlib.Core.Path.{◌≡◌}
use Prim.Native.Nat.{◌-◌}
use Rattle.expressions.specs.Emits.{at as standing}
use Rattle.statements.specs.Stmts.{initial_into}
use Rattle.statements.proofs.stmt.put_initial.Given as goal

abbrev pub invariant-loop-j : goal.invariant-loop-j
invariant-loop-j l =
    initial_into l.count l.declared 0 (standing l.start l.initial.list)
    ≡ initial_into (l.count - l.j) l.declared l.j (standing l.here l.list)
