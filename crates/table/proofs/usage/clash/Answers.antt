-- `table::usage::clash` meets its contract: what was found in the words before k. Assumes nothing.
use Prim.Native.Nat.{suc, ◌+◌}
use native.Mathlib.Omega.{arith}
use mathlib.Core.Path.{◌≡◌, refl, ap, ◌∙◌}
use lib.Dec.{ltb}
use Rattle.table.specs.Uses.{clashing}
use Rattle.table.proofs.Clash.{met-same}
use Rattle.table.proofs.usage.clash.Goals as goal

pub loop-k-preserved : goal.loop-k-preserved
loop-k-preserved c =
    let e : c.loop-k.k + 1 ≡ suc c.loop-k.k = omega arith in rw (e, c.loop-k.invariant, c.common-names.ensures) refl

pub returns : goal.returns
unfolding clashing
returns c =
    let e : c.loop-k.k ≡ 16 = omega arith in
    ap (ltb 0) (rw e at c.loop-k.invariant) ∙ met-same c.args.before.now c.args.branch.now
