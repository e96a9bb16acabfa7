-- The functions of `table::stmt` that call each other meet their contracts. The measures are six times the depth left, and more for what
-- has statements of that depth. Assumes nothing.
use Prim.Native.Nat.{ℕ, ◌+◌, ◌-◌, ◌*◌, ◌≤◌}
use mathlib.Core.List.{List}
use mathlib.Core.Path.{◌≡◌}
use Rattle.numbers.specs.declared.kinds.Head.{Head}
use Rattle.table.specs.Stmts.{stmt_at, most_from, stmt_uses}
use Rattle.table.specs.Stmts.{most_use, branches_at}
use Rattle.table.specs.Stmts.{no_branches, nothing}
use Rattle.table.specs.declared.stmt.Names.{Names}
use Rattle.table.specs.declared.stmt.Sum.{Sum}
use Rattle.std.specs.Prelude.{Result}
use Rattle.numbers.specs.declared.Misread.{Misread}
use Rattle.table.proofs.stmt.+read_declaration_read_inside_read_most_read_par_read_part_read_stmt.Given as goal

-- the parts and the branches that are left: none, or one and the others
abbrev pub most_left : (left : ℕ) → Head → (depth : ℕ) → Names → List ℕ → Sum → Result Sum Misread
most_left i k d w s t = most_from i k d w (λ j. stmt_at d w s j) s t

abbrev pub uses_left : (left : ℕ) → Head → (depth : ℕ) → Names → List ℕ → (at : ℕ) → List ℕ → List ℕ
uses_left i k d w s at l = most_use i k d w (λ j. stmt_at d w s j) (λ j m. stmt_uses d w s j m) s at l

abbrev pub decreases-read_declaration : goal.decreases-read_declaration
decreases-read_declaration l = 6 * l.depth + 1

abbrev pub decreases-read_inside : goal.decreases-read_inside
decreases-read_inside l = 6 * l.depth + 3

abbrev pub decreases-read_most : goal.decreases-read_most
decreases-read_most l = 6 * l.depth + 2

abbrev pub decreases-read_par : goal.decreases-read_par
decreases-read_par l = 6 * l.depth + 2

abbrev pub decreases-read_part : goal.decreases-read_part
decreases-read_part l = 6 * l.depth + 1

abbrev pub decreases-read_stmt : goal.decreases-read_stmt
decreases-read_stmt l = 6 * l.depth

abbrev pub invariant-read_most-loop : goal.invariant-read_most-loop
invariant-read_most-loop l =
    (most_left l.count l.head l.depth l.names l.table (nothing l.at) ≡ most_left (l.count - l.counter) l.head l.depth l.names l.table l.sum)
    × (uses_left l.count l.head l.depth l.names l.table l.at l.initial.sets
    ≡ uses_left (l.count - l.counter) l.head l.depth l.names l.table l.sum.next l.sets)
    × (l.sum.sum ≤ 1000000 * l.counter)
    × (l.sum.all ≤ 1000000 * l.counter)

abbrev pub invariant-read_par-loop : goal.invariant-read_par-loop
invariant-read_par-loop l =
    (branches_at l.count l.depth l.names l.table (no_branches l.at)
    ≡ branches_at (l.count - l.counter) l.depth l.names l.table (record { total = l.sum; before = l.before; bad = l.bad }))
    × (l.sum.sum ≤ 1000000 * l.counter)
    × (l.sum.all ≤ 1000000 * l.counter)
