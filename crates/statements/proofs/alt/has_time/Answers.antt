-- `statements::alt::has_time` meets its contract. The loop's invariant: there is a time guard among the guards that are left exactly if
-- there is one among all. Assumes nothing.
use native.Mathlib.Omega.{arith}
use mathlib.Core.Path.{◌≡◌, sym}
use Prim.Native.Nat.{suc, ◌+◌, ◌-◌}
use Rattle.statements.specs.Alts.{timed_in}
use Rattle.statements.proofs.alt.has_time.Goals as goal

pub returns-then-is_time : goal.returns-then-is_time
unfolding timed_in
returns-then-is_time c =
    let e : c.args.count - c.loop.counter ≡ suc (c.args.count - (c.loop.counter + 1)) = omega arith in
    rw (e, timed_in, ← c.is_time.ensures, c.if-is_time.true) at (sym c.loop.invariant)

pub loop-preserved : goal.loop-preserved
unfolding timed_in
loop-preserved c =
    let e : c.args.count - c.loop.counter ≡ suc (c.args.count - (c.loop.counter + 1)) = omega arith in
    rw (e, timed_in, ← c.is_time.ensures, c.if-is_time.false, ← c.next_guard-at.ensures) at c.loop.invariant

pub returns : goal.returns
unfolding timed_in
returns c = let e : c.args.count - c.loop.counter ≡ 0 = omega arith in rw e at (sym c.loop.invariant)
