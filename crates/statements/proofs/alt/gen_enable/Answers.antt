-- `statements::alt::gen_enable` meets its contract. The loop's invariant, for all names that the array shows: enabling the guards that are
-- left, behind the code so far, gives what enabling all of them gives. Assumes nothing.
use native.Mathlib.Omega.{arith}
use native.Mathlib.Nat.{sub-zero}
use mathlib.Core.Path.{◌≡◌, sym}
use Prim.Native.Nat.{suc, ◌+◌, ◌-◌}
use Rattle.statements.specs.Alts.{enable_into}
use Rattle.statements.proofs.alt.gen_enable.Goals as goal

pub loop-init : goal.loop-init
loop-init c ns h = simp sub-zero

pub loop-preserved : goal.loop-preserved
unfolding enable_into
loop-preserved c ns h =
    let e : c.args.count - c.loop.counter ≡ suc (c.args.count - (c.loop.counter + 1)) = omega arith in
    rw (
      e,
      enable_into,
      ← c.gen_guard-guard.ensures ns h,
      ← c.by_kind-code.ensures,
      ← c.operation-here.ensures,
      ← c.next_guard-at.ensures,
    )
    at (c.loop.invariant ns h)

pub returns : goal.returns
unfolding enable_into
returns c ns h = let e : c.args.count - c.loop.counter ≡ 0 = omega arith in rw e at (sym (c.loop.invariant ns h))
