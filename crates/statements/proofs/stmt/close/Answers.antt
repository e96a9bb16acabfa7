-- `statements::stmt::close` meets its contract. The loop's invariant: putting the Js that are left gives what putting all of them gives.
-- Assumes nothing.
use native.Mathlib.Omega.{arith}
use mathlib.Core.Path.{◌≡◌, sym}
use Prim.Native.Nat.{suc, ◌-◌}
use Rattle.statements.specs.Stmts.{close_into}
use Rattle.statements.proofs.stmt.close.Goals as goal

pub loop-k-preserved : goal.loop-k-preserved
unfolding close_into
loop-k-preserved c =
    let e : c.loop-k.k ≡ suc (c.loop-k.k - 1) = omega arith in
    rw (e, close_into, ← c.distance.ensures) at c.loop-k.invariant

pub returns : goal.returns
unfolding close_into
returns c = let e : c.loop-k.k ≡ 0 = omega arith in rw e at (sym c.loop-k.invariant)
