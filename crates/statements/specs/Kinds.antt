-- The code of a statement by its kind (01, "Workspace and code").
use Rattle.std.specs.Prelude.{ℕ, zero, suc, ◌≤◌, List}
use Rattle.model.specs.Limits.{part_limit}
use Rattle.model.specs.declared.kinds.StmtKind.{StmtKind}
use Rattle.numbers.specs.Items.{value_at}
use Rattle.numbers.specs.Kinds.{stmt_kind, shape_of, count_in, by_shape, by_head, by_count}
use Rattle.numbers.specs.declared.kinds.Head.{Head}
use Rattle.numbers.specs.declared.kinds.Count.{Count}
use Rattle.numbers.specs.declared.kinds.Count.TheVariants.{UpTo, Fixed}
use Rattle.expressions.specs.Emits.{Code}
use Rattle.expressions.specs.Names.{Names}
use Rattle.expressions.specs.Exprs.{Wrote, written}
use Rattle.expressions.specs.Simples.{simple_into}
use Rattle.statements.specs.Stmts.{Inner, declaration_into, seq_into, if_into, while_into, par_into}
use Rattle.statements.specs.Alts.{alt_into}

-- the parts of a statement, with a generator of the statements inside, which have `depth` left. Pairs with a count are an IF's, a pair
-- without is a WHILE's
unfoldable pub parts_into : Head → Count → (depth : ℕ) → Inner → (w : ℕ) → Names → (plan s : List ℕ) → (at : ℕ) → Code → Wrote
parts_into h m d inner w ns p s i c =
    let n = count_in m s i in
    by_head h (seq_into n.value (inner w ns) n.next c)
    (by_count m (if_into n.value d w ns.variables (inner w ns) p s n.next c)
    (while_into d w ns.variables (inner w ns) p s n.next c))
    (alt_into n.value d inner w ns p s n.next c)

-- what follows a kind
unfoldable pub inside_into : StmtKind → (depth : ℕ) → Inner → (w : ℕ) → Names → (plan s : List ℕ) → (at : ℕ) → Code → Wrote
inside_into k d inner w ns p s i c =
    by_shape (shape_of k) (λ x. simple_into x d w ns p s i c) (λ x. declaration_into x inner w ns s i c)
    (λ m. let n = count_in m s i in par_into n.value inner w ns p n.next c)
    (λ h m. parts_into h m d inner w ns p s i c)

-- a statement, by its kind
unfoldable pub stmt_into : (depth w : ℕ) → Names → (plan s : List ℕ) → (at : ℕ) → Code → Wrote
stmt_into zero w ns p s i c = written i c
stmt_into (suc d) w ns p s i c =
    let v = value_at s i in
    inside_into (stmt_kind v.value) d (λ v ms j e. stmt_into d v ms p s j e) w ns p s v.next c

-- the generator of the statements inside, which have `depth` left
abbrev pub inner_at : (depth : ℕ) → (plan s : List ℕ) → Inner
inner_at d p s w ns i c = stmt_into d w ns p s i c

-- no more parts than a statement can have (01, "The program table")
abbrev pub FewParts : Count → Type 0
FewParts (UpTo m) = m ≤ part_limit
FewParts (Fixed n) = n ≤ part_limit
