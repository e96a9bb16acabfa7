-- `table::table::read_body` meets its contract. Assumes nothing.
use borrow.Author.Rules.{rules}
use Rattle.model.specs.Limits.{table_limit}
use Prim.Native.Nat.{ℕ, ◌≤◌}
use native.Mathlib.Omega.{arith}
use mathlib.Core.List.{List}
use mathlib.Core.Path.{◌≡◌, sym}
use lib.ListN.{length}
use Rattle.table.specs.Stmts.{stmt_at}
use Rattle.table.specs.declared.stmt.Names.{Names}
use Rattle.table.specs.declared.stmt.Part.{Part}
use Rattle.std.specs.Prelude.{Ok}
use Rattle.table.proofs.Small.{stmt-counts}
use Rattle.table.proofs.table.read_body.Goals as goal

-- a statement's words are bounded by the table's bytes
words-within : {p : Part} (w : Names) (s : List ℕ) (at : ℕ) → length s ≤ table_limit → stmt_at 32 w s at ≡ Ok p → p.words ≤ 655360
words-within {p} w s at h e = let b = stmt-counts {p = p} 32 w s at e in omega (arith, h, b.1, b.2)

pub finish-requires : goal.finish-requires
finish-requires c = (
  search rules,
  search rules,
  words-within _ _ _ (search rules) (sym c.in_ok-part.ensures.said),
)
