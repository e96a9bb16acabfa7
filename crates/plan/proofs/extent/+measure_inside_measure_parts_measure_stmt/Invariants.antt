-- `plan::extent::measure_inside`, `plan::extent::measure_parts` and `plan::extent::measure_stmt` meet their contracts. The measure is three
-- times the depth left, for `measure_parts` one more, for `measure_inside` two more. The loop's invariant: the parts that are left, behind
-- those that were measured, give what all of them give. Assumes nothing.
use Prim.Native.Nat.{◌+◌, ◌-◌, ◌*◌}
use mathlib.Core.Path.{◌≡◌}
use Rattle.plan.specs.Extents.{measured, parts_measured, inner_measured}
use Rattle.plan.proofs.extent.+measure_inside_measure_parts_measure_stmt.Given as goal

abbrev pub decreases-measure_inside : goal.decreases-measure_inside
decreases-measure_inside l = 3 * l.depth + 2

abbrev pub decreases-measure_parts : goal.decreases-measure_parts
decreases-measure_parts l = 3 * l.depth + 1

abbrev pub decreases-measure_stmt : goal.decreases-measure_stmt
decreases-measure_stmt l = 3 * l.depth

abbrev pub invariant-measure_parts-loop : goal.invariant-measure_parts-loop
invariant-measure_parts-loop l =
    parts_measured l.count l.head l.beside (inner_measured l.depth l.table) l.depth l.table
    (measured l.initial.so_far l.initial.plan)
    ≡ parts_measured (l.count - l.counter) l.head l.beside (inner_measured l.depth l.table) l.depth l.table (measured l.so_far l.plan)
