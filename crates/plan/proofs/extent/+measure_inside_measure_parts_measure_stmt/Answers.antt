-- `plan::extent::measure_inside`, `plan::extent::measure_parts` and `plan::extent::measure_stmt` meet their contracts. The measure is three
-- times the depth left, for `measure_parts` one more, for `measure_inside` two more. The loop's invariant: the parts that are left, behind
-- those that were measured, give what all of them give. Assumes nothing.
use Prim.Native.Nat.{suc, ◌+◌, ◌-◌}
use native.Mathlib.Omega.{arith}
use native.Mathlib.Nat.{sub-zero}
use mathlib.Core.Path.{◌≡◌, sym}
use Rattle.plan.specs.Extents.{parts_measured, stmt_measured, inside_measured}
use Rattle.plan.proofs.extent.+measure_inside_measure_parts_measure_stmt.Goals as goal

pub measure_inside-returns-in-Simple : goal.measure_inside-returns-in-Simple
unfolding inside_measured
measure_inside-returns-in-Simple t c =
    rw (c.measure_simple.ensures, ← c.shape_of.ensures, c.in-Simple.is)

pub measure_inside-returns-in-Declares : goal.measure_inside-returns-in-Declares
unfolding inside_measured
measure_inside-returns-in-Declares t c =
    rw (c.plus.ensures, ← c.shape_of.ensures, c.in-Declares.is, ← c.value_at-count.ensures, ← c.measure_stmt-body.ensures)

pub measure_inside-returns-in-Branches : goal.measure_inside-returns-in-Branches
unfolding inside_measured
measure_inside-returns-in-Branches t c =
    rw (c.measure_parts.ensures, c.count_at-n.ensures, ← c.shape_of.ensures, c.in-Branches.is)

pub measure_inside-returns-in-Parts : goal.measure_inside-returns-in-Parts
unfolding inside_measured
measure_inside-returns-in-Parts t c =
    rw (c.measure_parts-in-Parts.ensures, c.least_words.ensures, c.count_at-n-in-Parts.ensures, ← c.shape_of.ensures, c.in-Parts.is)

pub measure_parts-loop-init : goal.measure_parts-loop-init
measure_parts-loop-init t c = simp sub-zero

pub measure_parts-loop-preserved : goal.measure_parts-loop-preserved
unfolding parts_measured
measure_parts-loop-preserved t c =
    let e : c.args.count - c.loop.counter ≡ suc (c.args.count - (c.loop.counter + 1)) = omega arith in
    rw (e, parts_measured, ← c.measure_head-before.ensures, ← c.measure_stmt-part.ensures, ← c.max-least.ensures, ← c.joined.ensures)
    at c.loop.invariant

pub measure_parts-returns : goal.measure_parts-returns
unfolding parts_measured
measure_parts-returns t c =
    let e : c.args.count - c.loop.counter ≡ 0 = omega arith in
    rw e at (sym c.loop.invariant)

pub measure_stmt-returns-then-depth-eq0 : goal.measure_stmt-returns-then-depth-eq0
unfolding stmt_measured
measure_stmt-returns-then-depth-eq0 t c = rw c.if-depth-eq0.true

pub measure_stmt-returns : goal.measure_stmt-returns
unfolding stmt_measured
measure_stmt-returns t c =
    let e : c.args.depth ≡ suc (c.args.depth - 1) = omega (arith, c.if-depth-eq0.false) in
    rw (c.put_entry.ensures, c.extent_entry.ensures, e)
    (rw (← c.value_at-number.ensures, ← c.stmt_kind-kind.ensures, ← c.measure_inside-own.ensures))
