-- `plan::extent::measure_both` meets its contract. Assumes nothing.
use native.Mathlib.Omega.{arith}
use Rattle.model.specs.Counts.{order_of}
use Rattle.model.proofs.Tables.Needs.{sides-hold}
use Rattle.plan.specs.Entries.{registers_in, stored_in}
use Rattle.plan.specs.Extents.{both_measured}
use Rattle.plan.proofs.extent.measure_both.Goals as goal

pub ask-requires : goal.ask-requires
unfolding stored_in
ask-requires c =
    omega (
      arith,
      c.sides_held-stored.ensures,
      sides-hold (order_of (registers_in c.measure_expr-time.result) (registers_in c.measure_expr-condition.result))
          (stored_in c.measure_expr-time.result) (stored_in c.measure_expr-condition.result),
    )

pub returns : goal.returns
unfolding both_measured
returns c =
    rw (
      c.ask.ensures,
      c.next_in-2.ensures,
      c.sides_held-stored.ensures,
      ← c.measure_expr-condition.ensures,
      ← c.next_in.ensures,
      ← c.measure_expr-time.ensures,
    )
