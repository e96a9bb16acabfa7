-- `table::stmt::both_front` meets its contract. Assumes nothing.
use native.Mathlib.Omega.{arith}
use Rattle.model.proofs.Tables.Needs.{sides-hold}
use Rattle.table.proofs.stmt.both_front.Goals as goal

pub ask-requires : goal.ask-requires
ask-requires c =
    omega (arith, c.sides_hold-stored.ensures, sides-hold c.order_of-order.result c.args.time.stored c.args.condition.stored)
