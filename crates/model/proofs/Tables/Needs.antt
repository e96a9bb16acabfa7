-- How many registers an expression needs, and how many values an operator's sides hold.
use Prim.Native.Nat.{ℕ, suc, ◌+◌, ◌≤◌, max}
use native.Mathlib.Omega.{arith}
use lib.Dec.{eqb}
use borrow.Author.Tests.{eqb-true, eqb-false}
use Rattle.model.specs.Syntax.{Expr, constant, variable, NOT, binary}
use Rattle.model.specs.Counts.{sides_need, registers, sides_hold}
use Rattle.model.specs.declared.kinds.Order.{Order}
use Rattle.model.specs.declared.kinds.Order.TheVariants.{LeftFirst, RightFirst, RightStored}
use Rattle.model.proofs.Cases.{by_bool}

-- an operator needs two registers at least, and never over 3
pub sides-two : (l r : ℕ) → 1 ≤ l → 1 ≤ r → 2 ≤ sides_need l r
unfolding sides_need
sides-two l r h k = by_bool (eqb l r) (λ e. rw e (omega arith)) (λ e. let d = eqb-false l r e in rw e (omega arith))

pub sides-three : (l r : ℕ) → sides_need l r ≤ 3
unfolding sides_need
sides-three l r = omega arith

pub registers-pos : (e : Expr) → 1 ≤ registers e
unfolding registers
registers-pos (constant n) = omega arith
registers-pos (variable x) = omega arith
registers-pos (NOT e) = registers-pos e
registers-pos (binary op l r) = omega (arith, sides-two (registers l) (registers r) (registers-pos l) (registers-pos r))

pub registers-three : (e : Expr) → registers e ≤ 3
unfolding registers
registers-three (constant n) = omega arith
registers-three (variable x) = omega arith
registers-three (NOT e) = registers-three e
registers-three (binary op l r) = sides-three (registers l) (registers r)

-- where two sides need no more than two registers, one of them needs one
pub both-two : (l r : ℕ) → 1 ≤ l → 1 ≤ r → sides_need l r ≤ 2 → (l ≤ 2) × (r ≤ 2) × (l + r ≤ 3)
unfolding sides_need
both-two l r h k b =
    by_bool (eqb l r) (λ e. let s = eqb-true l r e in let c = rw e at b in (omega arith, omega arith, omega arith))
    (λ e. let d = eqb-false l r e in let c = rw e at b in (omega arith, omega arith, omega arith))

-- two sides hold at most one value beside those of either
pub sides-hold : (o : Order) (l r : ℕ) → sides_hold o l r ≤ max (suc l) r
unfolding sides_hold
sides-hold LeftFirst l r = omega arith
sides-hold RightFirst l r = omega arith
sides-hold RightStored l r = omega arith

-- and not fewer than the right one
pub right-held : (o : Order) (l r : ℕ) → r ≤ sides_hold o l r
unfolding sides_hold
right-held LeftFirst l r = omega arith
right-held RightFirst l r = omega arith
right-held RightStored l r = omega arith
