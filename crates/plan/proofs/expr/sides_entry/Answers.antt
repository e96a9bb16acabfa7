-- `plan::expr::sides_entry` meets its contract. Assumes nothing.
use Rattle.plan.specs.Entries.{sides_entry}
use Rattle.plan.proofs.expr.sides_entry.Goals as goal

pub returns : goal.returns
unfolding sides_entry
returns c =
    rw (
      c.entry.ensures,
      c.sides_held.ensures,
      c.next_in.ensures,
      c.sides_need-registers.ensures,
      c.registers_in-2.ensures,
      c.registers_in.ensures,
    )
