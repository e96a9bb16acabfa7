-- The code of expressions as it is put into the list, by places of the table (01, "Workspace and code"; 02, order 2).
use Rattle.std.specs.Prelude.{ℕ, zero, suc, ◌+◌, ◌-◌, cond, List, eqb}
use Rattle.model.specs.Word.{low, minus}
use Rattle.model.specs.Counts.{order_of}
use Rattle.model.specs.declared.kinds.Order.{Order}
use Rattle.model.specs.declared.kinds.Order.TheVariants.{LeftFirst, RightFirst, RightStored}
use Rattle.assembler.specs.declared.entry.Entry.{Entry}
use Rattle.numbers.specs.Items.{value_at}
use Rattle.expressions.specs.Emits.{Code, plain_into, operation_into}
use Rattle.expressions.specs.Names.{local_of}
use Rattle.plan.specs.Entries.{next_in, registers_in, stored_in, plan_at, sides_held}
use Rattle.expressions.specs.declared.emit.Cursor.{Cursor}
use Rattle.expressions.specs.declared.sides.Pair.{Pair}
use Rattle.expressions.specs.declared.sides.Sides.{Sides}
use Rattle.numbers.specs.Kinds.{expr_kind, by_expr, operator_of}
use Rattle.model.specs.declared.kinds.Operator.{Operator}
use Rattle.model.specs.declared.kinds.Operator.TheVariants.{Plus, Minus, Times, Gt, Eq, And, Or, Xor}
use Rattle.instruction.specs.Codes.{AJW, AND, DIFF, EQC, GT, LDC, LDL, OR, PROD, REV, STL, SUM, XOR}

-- the place after what was compiled, the index after its code, and the list
pub record Wrote : Type 0 where
  pub next : ℕ
  pub here : ℕ
  pub list : List Entry

-- the same from what a function answers, and the list
abbrev pub wrote : Cursor → List Entry → Wrote
wrote d l = record { next = d.at; here = d.here; list = l }

-- the same from a place of the table, and the code so far
abbrev pub written : (next : ℕ) → Code → Wrote
written n c = record { next = n; here = c.here; list = c.list }

-- the code so far
abbrev pub code_of : Wrote → Code
code_of r = record { here = r.here; list = r.list }

-- an operator. 01: SUM, DIFF, PROD, GT, AND, OR, XOR; EQ is DIFF, EQC 0
unfoldable pub operator_into : Operator → Code → Code
operator_into Plus c = operation_into SUM c
operator_into Minus c = operation_into DIFF c
operator_into Times c = operation_into PROD c
operator_into Gt c = operation_into GT c
operator_into Eq c = plain_into EQC 0 (operation_into DIFF c)
operator_into And c = operation_into AND c
operator_into Or c = operation_into OR c
operator_into Xor c = operation_into XOR c

-- 01: LDC a constant, LDL a variable
unfoldable pub constant_into : List ℕ → (at : ℕ) → Code → Wrote
constant_into s at c = let v = value_at s at in written v.next (plain_into LDC v.value c)

unfoldable pub variable_into : (w : ℕ) → (vs s : List ℕ) → (at : ℕ) → Code → Wrote
variable_into w vs s at c = let v = value_at s at in written v.next (plain_into LDL (local_of vs v.value w) c)

-- between two sides: STL where the first value is stored, as number h
unfoldable pub between_into : Order → (h : ℕ) → Code → Code
between_into LeftFirst h c = c
between_into RightFirst h c = c
between_into RightStored h c = plain_into STL h c

-- behind two sides: REV where right went first, LDL where it was stored
unfoldable pub behind_into : Order → (h : ℕ) → Code → Code
behind_into LeftFirst h c = c
behind_into RightFirst h c = operation_into REV c
behind_into RightStored h c = plain_into LDL h c

-- the places of an operator's sides, the left one at a place. The plan tells where right is, and what is behind it
unfoldable pub sides_of : (plan : List ℕ) → (at : ℕ) → Pair
sides_of p at = let r = next_in (plan_at p at) in record { left = at; right = r; next = next_in (plan_at p r) }

-- 02, order 4: time and condition as left and right side; the condition is at a place, the time behind it
unfoldable pub time_and_condition : (plan : List ℕ) → (at : ℕ) → Pair
time_and_condition p at = let x = sides_of p at in record { left = x.right; right = at; next = x.next }

-- two sides at their places, with h values held before: their order, the side that goes first, the other side and the values held before
-- it
abbrev pub in_order : Order → (h left right : ℕ) → Sides
in_order LeftFirst h l r = record { order = LeftFirst; first = l; second = r; held = h }
in_order RightFirst h l r = record { order = RightFirst; first = r; second = l; held = h }
in_order RightStored h l r = record { order = RightStored; first = r; second = l; held = low (h + 1) }

-- the same by the plan, which tells which goes first
abbrev pub arranged : (plan : List ℕ) → (h : ℕ) → Pair → Sides
arranged p h x = in_order (order_of (registers_in (plan_at p x.left)) (registers_in (plan_at p x.right))) h x.left x.right

-- two sides, apart from the operator; h values are held before
unfoldable pub sides_into : (inner : (held at : ℕ) → Code → Wrote) → (plan : List ℕ) → (h : ℕ) → Pair → Code → Code
sides_into inner p h x c =
    let a = arranged p h x in
    let one = inner h a.first c in
    let two = inner a.held a.second (between_into a.order h (code_of one)) in
    behind_into a.order h (code_of two)

-- operator, left and right of the table: the sides, then the operation
unfoldable pub operated_into : (inner : (held at : ℕ) → Code → Wrote) → (plan s : List ℕ) → (h at : ℕ) → Code → Wrote
operated_into inner p s h at c =
    let o = value_at s at in
    let x = sides_of p o.next in
    written x.next (operator_into (operator_of o.value) (sides_into inner p h x c))

-- 01: NOT is EQC 0
abbrev pub not_into : Wrote → Wrote
not_into r = written r.next (plain_into EQC 0 (code_of r))

-- an expression by its kind; h values are held before
unfoldable pub expr_into : (depth w : ℕ) → (vs plan s : List ℕ) → (h at : ℕ) → Code → Wrote
expr_into zero w vs p s h at c = written at c
expr_into (suc d) w vs p s h at c =
    let k = value_at s at in
    by_expr (expr_kind k.value) (constant_into s k.next c) (variable_into w vs s k.next c)
    (not_into (expr_into d w vs p s h k.next c))
    (operated_into (λ g i e. expr_into d w vs p s g i e) p s h k.next c)

-- the generator of the expressions inside, which have `depth` left
abbrev pub inner_at : (depth w : ℕ) → (vs plan s : List ℕ) → (held at : ℕ) → Code → Wrote
inner_at d w vs p s h i c = expr_into d w vs p s h i c

-- by how many words t stored values lower W, with so many words more; without stored values by none
unfoldable pub lowering : (t more : ℕ) → ℕ
lowering t more = cond (eqb t 0) 0 (low (t + more))

-- AJW where W is lowered
unfoldable pub adjust_into : (lowered operand : ℕ) → Code → Code
adjust_into n operand c = cond (eqb n 0) c (plain_into AJW operand c)

-- a whole expression. 02, order 2: wrapped in AJW -t and AJW t, in an ALT's guards in AJW -t-5 and AJW t + 5
unfoldable pub whole_into : (depth w more : ℕ) → (vs plan s : List ℕ) → (at : ℕ) → Code → Wrote
whole_into d w more vs p s at c =
    let n = lowering (stored_in (plan_at p at)) more in
    let e = expr_into d (w - n) vs p s 0 at (adjust_into n (minus n) c) in
    written e.next (adjust_into n n (code_of e))

-- 02, order 4: a time guard's time and condition, brought in as left and right side of an operator, with its wrap. The condition is at a
-- place, the time behind it
unfoldable pub both_into : (depth w more : ℕ) → (vs plan s : List ℕ) → (at : ℕ) → Code → Wrote
both_into d w more vs p s at c =
    let x = time_and_condition p at in
    let n = lowering (sides_held (plan_at p x.left) (plan_at p x.right)) more in
    written x.next (adjust_into n n (sides_into (inner_at d (w - n) vs p s) p 0 x (adjust_into n (minus n) c)))
