-- `statements::stmt::put_initial` meets its contract. The loop's invariant: the words that are left, behind the code so far, give what all
-- of them give. Assumes nothing.
use native.Mathlib.Nat.{mod-eq_of_lt}
use native.Mathlib.Omega.{arith}
use mathlib.Core.Path.{◌≡◌, sym}
use Prim.Native.Nat.{suc, ◌+◌, ◌-◌}
use Rattle.model.specs.Word.{low}
use Rattle.statements.specs.Stmts.{initial_into}
use Rattle.statements.proofs.stmt.put_initial.Goals as goal

pub loop-j-init : goal.loop-j-init
loop-j-init c = let e : c.args.count - 0 ≡ c.args.count = omega arith in rw e

pub loop-j-preserved : goal.loop-j-preserved
unfolding initial_into
loop-j-preserved c =
    let e : c.args.count - c.loop-j.j ≡ suc (c.args.count - (c.loop-j.j + 1)) = omega arith in
    let next : low (c.loop-j.j + 1) ≡ c.loop-j.j + 1 = mod-eq_of_lt (omega arith) in
    rw (e, initial_into, ← c.put_first-second.ensures, ← c.plain-here.ensures, next) at c.loop-j.invariant

pub returns : goal.returns
unfolding initial_into
returns c =
    let e : c.args.count - c.loop-j.j ≡ 0 = omega (arith, c.loop-j-test.false) in
    rw e at (sym c.loop-j.invariant)
