-- `table::expr::read_expr` and `table::expr::read_sides`, which call each other, meet their contracts. The measures are twice the depth
-- left, and one more for the sides. Assumes nothing.
use Prim.Native.Nat.{ℕ, zero, suc, ◌+◌, ◌-◌, ◌<◌}
use native.Mathlib.Omega.{arith}
use borrow.Author.Rules.{rules}
use mathlib.Core.List.{List}
use mathlib.Core.Path.{◌≡◌, refl, sym, ◌∙◌}
use Rattle.std.specs.Prelude.{Result, Ok, Err, IfOk}
use Rattle.numbers.specs.declared.Misread.{Misread}
use Rattle.numbers.specs.Items.{between_at, name_at, deep_at, with_read}
use Rattle.numbers.specs.Kinds.{expr_kind, by_expr, last_expression}
use Rattle.numbers.specs.declared.Number.{Number}
use Rattle.model.specs.declared.kinds.ExprKind.{ExprKind}
use Rattle.table.specs.Exprs.{single, joined, expr_at, constant_at, used_at, sides_at, kept, used_uses, expr_uses, sides_use}
use Rattle.model.specs.Counts.{order_of}
use Rattle.model.proofs.Tables.Needs.{sides-hold}
use Rattle.table.specs.declared.expr.Term.{Term}
use Rattle.table.proofs.expr.+read_expr_read_sides.Goals as goal

-- with no depth left
none : (d vs : ℕ) (s : List ℕ) (at : ℕ) (l : List ℕ) → d ≡ 0 → (expr_at d vs s at ≡ Err (deep_at s at)) × (expr_uses d vs s at l ≡ l)
unfolding expr_at expr_uses
none d vs s at l e = (rw e, rw e)

-- what follows a kind, and `expr_at` and `expr_uses` unrolled once where there is depth left
abbrev by_kind : (d vs : ℕ) → List ℕ → ExprKind → ℕ → Result Term Misread
by_kind d vs s k n = by_expr k (constant_at s n) (used_at vs s n) (expr_at (d - 1) vs s n) (sides_at (d - 1) vs s n)

abbrev uses_by_kind : (d vs : ℕ) → List ℕ → List ℕ → ExprKind → ℕ → List ℕ
uses_by_kind d vs s l k n = by_expr k l (used_uses vs s n l) (expr_uses (d - 1) vs s n l) (sides_use (d - 1) vs s n l)

turn : (d vs : ℕ) (s : List ℕ) (at : ℕ) (l : List ℕ) → (d ≡ 0 → ⊥)
    → (expr_at d vs s at ≡ with_read Err (between_at 0 last_expression s at) (λ k. by_kind d vs s (expr_kind k.value) k.next))
    × (expr_uses d vs s at l
    ≡ with_read (kept l) (between_at 0 last_expression s at) (λ k. uses_by_kind d vs s l (expr_kind k.value) k.next))
unfolding expr_at sides_at expr_uses sides_use
turn zero vs s at l p = absurd (p refl)
turn (suc d) vs s at l p = let e : suc d - 1 ≡ d = omega arith in (rw e, rw e)

-- the stored values of a leaf, of an expression one level in and of an operator
used-within : (d vs : ℕ) (s : List ℕ) (n : ℕ) → (d ≡ 0 → ⊥) → IfOk (used_at vs s n) (λ e. e.stored < d)
unfolding used_at
used-within d vs s n p = by (name_at vs 0 0 s n)
  where
    by : (x : Result Number Misread) → IfOk (with_read Err x (λ x. Ok (single x.next))) (λ e. e.stored < d)
    by (Ok x) = omega arith
    by (Err r) = tt

within_more : (d : ℕ) (x : Result Term Misread) → IfOk x (λ e. e.stored < d - 1) → IfOk x (λ e. e.stored < d)
within_more d (Ok e) p = omega arith
within_more d (Err r) p = tt

joined-within : (d : ℕ) (l r : Term) → l.stored < d → r.stored < d → (joined l r).stored < d + 1
joined-within d l r p q =
    let o = order_of l.registers r.registers in
    omega (arith, sides-hold o l.stored r.stored)

-- what is to be answered once the first number is read, and once its kind is known
first : (d vs : ℕ) (s : List ℕ) (at : ℕ) (l : List ℕ) (x : Result Number Misread)
    → (d ≡ 0 → ⊥)
    → x ≡ between_at 0 last_expression s at
    → (expr_at d vs s at ≡ with_read Err x (λ k. by_kind d vs s (expr_kind k.value) k.next))
    × (expr_uses d vs s at l ≡ with_read (kept l) x (λ k. uses_by_kind d vs s l (expr_kind k.value) k.next))
first d vs s at l x p r = let u = turn d vs s at l p in (u.0 ∙ simp (← r), u.1 ∙ simp (← r))

second : (d vs : ℕ) (s : List ℕ) (at : ℕ) (l : List ℕ) (n : Number) (q k : ExprKind)
    → (d ≡ 0 → ⊥)
    → Ok n ≡ between_at 0 last_expression s at
    → q ≡ expr_kind n.value
    → q ≡ k
    → (expr_at d vs s at ≡ by_kind d vs s k n.next) × (expr_uses d vs s at l ≡ uses_by_kind d vs s l k n.next)
second d vs s at l n q k p r g e =
    let h = first d vs s at l (Ok n) p r in let f = sym g ∙ e in (h.0 ∙ simp f, h.1 ∙ simp f)

pub read_expr-returns-then-depth-eq0 : goal.read_expr-returns-then-depth-eq0
read_expr-returns-then-depth-eq0 t c =
    let h = none _ _ _ _ _ c.if-depth-eq0.true in record { said = sym (h.0 ∙ simp c.read_deep.ensures); uses = sym h.1; within = tt }

pub read_expr-returns-in_err-number-clause-said : goal.read_expr-returns-in_err-number-clause-said
read_expr-returns-in_err-number-clause-said t c =
    let h = first c.args.depth c.args.variables c.args.table.now c.args.at c.args.sets.now _ c.if-depth-eq0.false
    c.in_err-number.ensures.said in
    search rules

pub read_expr-returns-in_err-number-clause-uses : goal.read_expr-returns-in_err-number-clause-uses
read_expr-returns-in_err-number-clause-uses t c =
    let h = first c.args.depth c.args.variables c.args.table.now c.args.at c.args.sets.now _ c.if-depth-eq0.false
    c.in_err-number.ensures.said in
    sym h.1

pub read_expr-returns-in_err-constant-in-Constant-clause-said : goal.read_expr-returns-in_err-constant-in-Constant-clause-said
read_expr-returns-in_err-constant-in-Constant-clause-said t c =
    let h = second c.args.depth c.args.variables c.args.table.now c.args.at c.args.sets.now _ _ _ c.if-depth-eq0.false
    c.in_ok-number.ensures.said c.expr_kind.ensures c.in-Constant.is in
    let e : expr_at c.args.depth c.args.variables c.args.table.now c.args.at ≡ Err c.in_err-constant-in-Constant.field-0.0 =
    h.0 ∙ simp (← c.in_err-constant-in-Constant.ensures.said) in
    search rules

pub read_expr-returns-in_err-constant-in-Constant-clause-uses : goal.read_expr-returns-in_err-constant-in-Constant-clause-uses
read_expr-returns-in_err-constant-in-Constant-clause-uses t c =
    let h = second c.args.depth c.args.variables c.args.table.now c.args.at c.args.sets.now _ _ _ c.if-depth-eq0.false
    c.in_ok-number.ensures.said c.expr_kind.ensures c.in-Constant.is in
    sym h.1

pub read_expr-returns-in_ok-constant-in-Constant : goal.read_expr-returns-in_ok-constant-in-Constant
read_expr-returns-in_ok-constant-in-Constant t c =
    let h = second c.args.depth c.args.variables c.args.table.now c.args.at c.args.sets.now _ _ _ c.if-depth-eq0.false
    c.in_ok-number.ensures.said c.expr_kind.ensures c.in-Constant.is in
    record {
      said = sym (h.0 ∙ simp (← c.in_ok-constant-in-Constant.ensures.said, c.single.ensures));
      uses = sym h.1;
      within = rw c.single.ensures (omega arith);
    }

pub read_expr-returns-in-Variable : goal.read_expr-returns-in-Variable
read_expr-returns-in-Variable t c =
    let h = second c.args.depth c.args.variables c.args.table.now c.args.at c.args.sets.now _ _ _ c.if-depth-eq0.false
    c.in_ok-number.ensures.said c.expr_kind.ensures c.in-Variable.is in
    record {
      said = c.read_used.ensures.said ∙ sym h.0;
      uses = c.read_used.ensures.uses ∙ sym h.1;
      within = rw c.read_used.ensures.said (used-within _ c.args.variables _ _ c.if-depth-eq0.false);
    }

pub read_expr-returns-in-Not : goal.read_expr-returns-in-Not
read_expr-returns-in-Not t c =
    let h = second c.args.depth c.args.variables c.args.table.now c.args.at c.args.sets.now _ _ _ c.if-depth-eq0.false
    c.in_ok-number.ensures.said c.expr_kind.ensures c.in-Not.is in
    record {
      said = c.read_expr.ensures.said ∙ sym h.0;
      uses = c.read_expr.ensures.uses ∙ sym h.1;
      within = within_more _ c.read_expr.result c.read_expr.ensures.within;
    }

pub read_expr-returns-in-Binary : goal.read_expr-returns-in-Binary
read_expr-returns-in-Binary t c =
    let h = second c.args.depth c.args.variables c.args.table.now c.args.at c.args.sets.now _ _ _ c.if-depth-eq0.false
    c.in_ok-number.ensures.said c.expr_kind.ensures c.in-Binary.is in
    let e : c.args.depth - 1 + 1 ≡ c.args.depth = omega arith in
    record {
      said = c.read_sides.ensures.said ∙ sym h.0;
      uses = c.read_sides.ensures.uses ∙ sym h.1;
      within = rw e at c.read_sides.ensures.within;
    }

pub read_sides-returns-clause-within : goal.read_sides-returns-clause-within
read_sides-returns-clause-within t c =
    rw c.join.ensures (joined-within _ c.in_ok-left.left c.in_ok-right.right c.in_ok-left.ensures.within c.in_ok-right.ensures.within)
