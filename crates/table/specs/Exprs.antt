-- Expressions as the reader answers them, by places of the table.
use Rattle.std.specs.Prelude.{ℕ, zero, suc, List, Result, Ok, Err}
use Rattle.model.specs.Counts.{sides_need, order_of, sides_hold}
use Rattle.numbers.specs.declared.Misread.{Misread}
use Rattle.numbers.specs.Items.{between_at, name_at, deep_at, with_read, ◌>>=◌}
use Rattle.table.specs.Uses.{uses_set, mark_at}
use Rattle.table.specs.declared.expr.Term.{Term}
use Rattle.numbers.specs.Kinds.{last_expression, last_operator, expr_kind, by_expr}

-- a constant or a variable that ends at a place: 1 register, nothing stored
abbrev pub single : (next : ℕ) → Term
single n = record { next = n; registers = 1; stored = 0 }

-- a constant, and a variable
abbrev pub constant_at : List ℕ → (at : ℕ) → Result Term Misread
constant_at s at = do v ← between_at 0 4294967295 s at; Ok (single v.next)

unfoldable pub used_at : (variables : ℕ) → List ℕ → (at : ℕ) → Result Term Misread
used_at vs s at = do x ← name_at vs 0 0 s at; Ok (single x.next)

-- an operator by its sides
abbrev pub joined : (left right : Term) → Term
joined l r =
    record {
      next = r.next;
      registers = sides_need l.registers r.registers;
      stored = sides_hold (order_of l.registers r.registers) l.stored r.stored;
    }

-- left, right
abbrev pub sides : (ℕ → Result Term Misread) → ℕ → Result Term Misread
sides inner at = do
  l ← inner at
  r ← inner l.next
  Ok (joined l r)

-- operator, left, right
abbrev pub operated : (ℕ → Result Term Misread) → List ℕ → ℕ → Result Term Misread
operated inner s at = do o ← between_at 0 last_operator s at; sides inner o.next

unfoldable pub expr_at : (depth variables : ℕ) → List ℕ → (at : ℕ) → Result Term Misread
expr_at zero vs s at = Err (deep_at s at)
expr_at (suc d) vs s at = do
  k ← between_at 0 last_expression s at
  by_expr (expr_kind k.value) (constant_at s k.next) (used_at vs s k.next) (expr_at d vs s k.next)
      (operated (λ i. expr_at d vs s i) s k.next)

-- an operator with expressions inside, which have `depth` left
unfoldable pub sides_at : (depth variables : ℕ) → List ℕ → (at : ℕ) → Result Term Misread
sides_at d vs s at = operated (λ i. expr_at d vs s i) s at

-- the sets of names where something is refused: as they are
abbrev pub kept : List ℕ → Misread → List ℕ
kept l r = l

-- the sets behind a variable, which is used
unfoldable pub used_uses : (variables : ℕ) → List ℕ → (at : ℕ) → List ℕ → List ℕ
used_uses vs s at l = with_read (kept l) (name_at vs 0 0 s at) (λ x. mark_at uses_set x.value l)

-- left, right
abbrev pub both_use : (ℕ → Result Term Misread) → (ℕ → List ℕ → List ℕ) → ℕ → List ℕ → List ℕ
both_use inner uses at l = with_read (kept (uses at l)) (inner at) (λ e. uses e.next (uses at l))

-- operator, left, right
abbrev pub operated_use : (ℕ → Result Term Misread) → (ℕ → List ℕ → List ℕ) → List ℕ → ℕ → List ℕ → List ℕ
operated_use inner uses s at l = with_read (kept l) (between_at 0 last_operator s at) (λ o. both_use inner uses o.next l)

-- the sets behind an expression: the variables that it reads are used
unfoldable pub expr_uses : (depth variables : ℕ) → List ℕ → (at : ℕ) → List ℕ → List ℕ
expr_uses zero vs s at l = l
expr_uses (suc d) vs s at l =
    with_read (kept l) (between_at 0 last_expression s at) (λ k.
    by_expr (expr_kind k.value) l (used_uses vs s k.next l) (expr_uses d vs s k.next l)
    (operated_use (λ i. expr_at d vs s i) (λ i j. expr_uses d vs s i j) s k.next l))

unfoldable pub sides_use : (depth variables : ℕ) → List ℕ → (at : ℕ) → List ℕ → List ℕ
sides_use d vs s at l = operated_use (λ i. expr_at d vs s i) (λ i j. expr_uses d vs s i j) s at l
