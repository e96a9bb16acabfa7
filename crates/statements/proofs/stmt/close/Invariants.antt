-- `statements::stmt::close` meets its contract. The loop's invariant: putting the Js that are left gives what putting all of them gives.
-- Assumes nothing.
use mathlib.Core.Path.{◌≡◌}
use lib.ListN.{length}
use Rattle.statements.specs.Stmts.{close_into}
use Rattle.statements.proofs.stmt.close.Given as goal

abbrev pub invariant-loop-k : goal.invariant-loop-k
invariant-loop-k l = close_into (length l.ends) l.ends l.over l.initial.list ≡ close_into l.k l.ends l.over l.list
