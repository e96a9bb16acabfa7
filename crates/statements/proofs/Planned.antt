-- What a plan tells of what a table spells: of an expression the place after it, its registers and its stored values; of a statement the
-- place after it and the words that it needs; and so of each expression and statement in it.
use Prim.Native.Nat.{ℕ, ◌^◌, ◌≤◌, ◌<◌}
use native.Mathlib.Omega.{arith}
use mathlib.Core.Path.{◌≡◌, ap}
use mathlib.Core.List.{List}
use lib.ListN.{length}
use Rattle.model.specs.Limits.{word_limit}
use Rattle.model.specs.Syntax.{Site, Expr, Stmt, Stmts, Pairs, Guard, Guards}
use Rattle.model.specs.Reader.{Scope}
use Rattle.model.specs.Counts.{order, registers, temporaries, need}
use Rattle.model.proofs.Tables.Needs.{registers-three, sides-hold}
use Rattle.numbers.specs.declared.Value.{Value}
use Rattle.plan.specs.Entries.{next_of, entry, next_in, registers_in, stored_in, plan_at}
use Rattle.plan.specs.Extents.{extended, extent_in}
use Rattle.statements.proofs.Spelled.{NumeralAt, ExprAt, constant_at, variable_at, not_at, binary_at, StmtAt, skip_at, stop_at, assign_at}
use Rattle.statements.proofs.Spelled.{input_at, output_at, var_at, chan_at, seq_at, par_at, if_at, while_at, alt_at, time_at, wait_at}
use Rattle.statements.proofs.Spelled.{StmtsAt}
use Rattle.statements.proofs.Spelled.{no_stmt_at, stmts_at, PairsAt, no_pair_at, pair_at, GuardAt, input_guard_at, skip_guard_at, GuardsAt}
use Rattle.statements.proofs.Spelled.{time_guard_at, no_guard_at, guards_at}

-- an entry tells the place after an expression, its registers and its stored values
pub record Tells (x n : ℕ) (e : Expr) : Type 0 where
  pub next : next_in x ≡ n
  pub needs : registers_in x ≡ registers e
  pub holds : stored_in x ≡ temporaries e

pub entry-tells : (n : ℕ) (e : Expr) → n < 2 ^ 22 → temporaries e ≤ 255 → Tells (entry n (registers e) (temporaries e)) n e
unfolding entry next_in registers_in stored_in
entry-tells n e l m =
    let few = registers-three e in
    record { next = omega arith; needs = omega arith; holds = omega arith }

module _ (s : List ℕ) where
  pub next-is : {i v n : ℕ} → NumeralAt s i v n → next_of s i ≡ n
  next-is t = ap (λ (x : Value). x.next) t.value

  -- an expression ends behind its first byte, and in the table
  pub expr-ends : {vs : List Site} {d i n : ℕ} {e : Expr} → ExprAt s vs d i e n → (i < n) × (n ≤ length s)
  expr-ends (constant_at v k t) = (omega (arith, k.ahead, t.ahead), t.inside)
  expr-ends (variable_at k x) = (omega (arith, k.ahead, x.there.ahead), x.there.inside)
  expr-ends (not_at k a) = let h = expr-ends a in (omega (arith, k.ahead), h.1)
  expr-ends (binary_at k v a c) = let h = expr-ends a in let g = expr-ends c in (omega (arith, k.ahead, v.there.ahead), g.1)

  -- it stores fewer values than it has levels
  pub holds-few : {vs : List Site} {d i n : ℕ} {e : Expr} → ExprAt s vs d i e n → temporaries e < d
  unfolding temporaries
  holds-few (constant_at v k t) = omega arith
  holds-few (variable_at k x) = omega arith
  holds-few (not_at k a) = omega (arith, holds-few a)
  holds-few (binary_at {l = l} {r = r} k v a c) =
      omega (arith, sides-hold (order l r) (temporaries l) (temporaries r), holds-few a, holds-few c)

  module _ (plan : List ℕ) where
    -- an expression's own entry tells of it, and so do those of the expressions in it
    abbrev pub ToldExpr : {vs : List Site} {d i n : ℕ} {e : Expr} → ExprAt s vs d i e n → Type 0
    ToldExpr {i = i} {n = n} {e = e} a = Tells (plan_at plan i) n e

    abbrev pub InsideExpr : {vs : List Site} {d i n : ℕ} {e : Expr} → ExprAt s vs d i e n → Type 0
    InsideExpr (constant_at v k t) = Unit {0}
    InsideExpr (variable_at k x) = Unit {0}
    InsideExpr (not_at k a) = ToldExpr a × InsideExpr a
    InsideExpr (binary_at k v a c) = (ToldExpr a × InsideExpr a) × (ToldExpr c × InsideExpr c)

    abbrev pub PlannedExpr : {vs : List Site} {d i n : ℕ} {e : Expr} → ExprAt s vs d i e n → Type 0
    PlannedExpr a = ToldExpr a × InsideExpr a

    abbrev pub PlannedGuard : {w : Scope} {d i n : ℕ} {g : Guard} → GuardAt s d w i g n → Type 0
    PlannedGuard (input_guard_at k e c x) = PlannedExpr e
    PlannedGuard (skip_guard_at k e) = PlannedExpr e
    PlannedGuard (time_guard_at k e t) = PlannedExpr e × PlannedExpr t

    -- a statement's own entry tells of it, where it has at most 4,096 words, and so do those of all in it
    abbrev pub ToldStmt : {w : Scope} {d i n : ℕ} {b : Stmt} → StmtAt s d w i b n → Type 0
    ToldStmt {i = i} {n = n} {b = b} a = need b ≤ word_limit → extent_in plan i ≡ extended n (need b)

    unfoldable mutual
      pub InsideStmt : {w : Scope} {d i n : ℕ} {b : Stmt} → StmtAt s d w i b n → Type 0
      InsideStmt (skip_at k) = Unit {0}
      InsideStmt (stop_at k) = Unit {0}
      InsideStmt (assign_at k x e) = PlannedExpr e
      InsideStmt (input_at k c x) = Unit {0}
      InsideStmt (output_at k c e) = PlannedExpr e
      InsideStmt (var_at k c a) = ToldStmt a × InsideStmt a
      InsideStmt (chan_at k c a) = ToldStmt a × InsideStmt a
      InsideStmt (seq_at k c a) = PlannedStmts a
      InsideStmt (par_at k c a) = PlannedStmts a
      InsideStmt (if_at k c a) = PlannedPairs a
      InsideStmt (while_at k e a) = PlannedExpr e × (ToldStmt a × InsideStmt a)
      InsideStmt (alt_at k c a) = PlannedGuards a
      InsideStmt (time_at k x) = Unit {0}
      InsideStmt (wait_at k e) = PlannedExpr e

      pub PlannedStmts : {w : Scope} {d k i n : ℕ} {ss : Stmts} → StmtsAt s d w k i ss n → Type 0
      PlannedStmts no_stmt_at = Unit {0}
      PlannedStmts (stmts_at a c) = (ToldStmt a × InsideStmt a) × PlannedStmts c

      pub PlannedPairs : {w : Scope} {d k i n : ℕ} {ps : Pairs} → PairsAt s d w k i ps n → Type 0
      PlannedPairs no_pair_at = Unit {0}
      PlannedPairs (pair_at e a c) = PlannedExpr e × (ToldStmt a × InsideStmt a) × PlannedPairs c

      pub PlannedGuards : {w : Scope} {d k i n : ℕ} {gs : Guards} → GuardsAt s d w k i gs n → Type 0
      PlannedGuards no_guard_at = Unit {0}
      PlannedGuards (guards_at g a h) = PlannedGuard g × (ToldStmt a × InsideStmt a) × PlannedGuards h

    abbrev pub PlannedStmt : {w : Scope} {d i n : ℕ} {b : Stmt} → StmtAt s d w i b n → Type 0
    PlannedStmt a = ToldStmt a × InsideStmt a
