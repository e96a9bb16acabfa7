-- What is counted of a program: registers and stored values (02, order 2), live processes (refusal 9), words (01, "Workspace and code").
use Rattle.std.specs.Prelude.{ℕ, zero, suc, ◌+◌, min, max, cond, ◌&&◌, ltb, eqb}
use Rattle.model.specs.Limits.{register_limit}
use Rattle.model.specs.declared.kinds.Order.{Order}
use Rattle.model.specs.declared.kinds.Order.TheVariants.{LeftFirst, RightFirst, RightStored}
use Rattle.model.specs.Syntax.{Expr, constant, variable, NOT, binary, Stmt, SKIP, STOP, assign, input, output, VAR, CHAN, SEQ, PAR}
use Rattle.model.specs.Syntax.{IF, WHILE, ALT, TIME, WAIT, Stmts, no_stmt, stmt, Pairs, no_pair, pair, Guard, input_guard, skip_guard}
use Rattle.model.specs.Syntax.{time_guard, Guards, no_guard, guard}

-- 02, order 2: an operator whose sides need the same number needs one more, otherwise the larger, and never over 3
unfoldable pub sides_need : (left right : ℕ) → ℕ
sides_need l r = min register_limit (cond (eqb l r) (suc l) (max l r))

-- 02, order 2, registers: a leaf needs 1; NOT needs what its operand needs; an operator by its sides
unfoldable pub registers : Expr → ℕ
registers (constant n) = 1
registers (variable x) = 1
registers (NOT e) = registers e
registers (binary op l r) = sides_need (registers l) (registers r)

-- how two sides are brought in. 02, order 2: right goes first where the right side needs more than the left; the right value is stored
-- where both need 3
unfoldable pub order_of : (left right : ℕ) → Order
order_of l r = cond (ltb l r) RightFirst (cond (eqb l register_limit && eqb r register_limit) RightStored LeftFirst)

-- the same for two expressions
abbrev pub order : (left right : Expr) → Order
order l r = order_of (registers l) (registers r)

-- the stored values that two sides hold together at most, by what each holds: where the right value is stored, left holds it beside its own
unfoldable pub sides_hold : Order → (left right : ℕ) → ℕ
sides_hold LeftFirst l r = max l r
sides_hold RightFirst l r = max l r
sides_hold RightStored l r = max (suc l) r

-- 02, order 2, t: the stored values that an expression holds together at most
unfoldable pub temporaries : Expr → ℕ
temporaries (constant n) = 0
temporaries (variable x) = 0
temporaries (NOT e) = temporaries e
temporaries (binary op l r) = sides_hold (order l r) (temporaries l) (temporaries r)

-- 02, order 4: those that a time guard's time and condition hold, as the left and right side of an operator
abbrev pub both_hold : (time condition : Expr) → ℕ
both_hold t e = sides_hold (order t e) (temporaries t) (temporaries e)

-- 01, live processes: PAR the sum, others the largest part, each at least 1 (refusal 9)
unfoldable mutual
  pub processes : Stmt → ℕ
  processes SKIP = 1
  processes STOP = 1
  processes (assign x e) = 1
  processes (input c x) = 1
  processes (output c e) = 1
  processes (VAR p n s) = processes s
  processes (CHAN p n s) = processes s
  processes (SEQ ss) = max 1 (most_processes ss)
  processes (PAR p ss) = max 1 (sum_processes ss)
  processes (IF ps) = max 1 (pair_processes ps)
  processes (WHILE e s) = processes s
  processes (ALT gs) = max 1 (guard_processes gs)
  processes (TIME x) = 1
  processes (WAIT e) = 1

  -- SEQ: the largest part
  pub most_processes : Stmts → ℕ
  most_processes no_stmt = 0
  most_processes (stmt s ss) = max (processes s) (most_processes ss)

  -- PAR: the sum
  pub sum_processes : Stmts → ℕ
  sum_processes no_stmt = 0
  sum_processes (stmt s ss) = processes s + sum_processes ss

  -- IF: the largest part
  pub pair_processes : Pairs → ℕ
  pair_processes no_pair = 0
  pair_processes (pair e s ps) = max (processes s) (pair_processes ps)

  -- ALT: the largest part
  pub guard_processes : Guards → ℕ
  guard_processes no_guard = 0
  guard_processes (guard g s gs) = max (processes s) (guard_processes gs)

-- 02, order 2: an ALT needs at least t + 8 words for a guard's condition that stores; without stored values it asks for none
unfoldable pub guard_words : (t : ℕ) → ℕ
guard_words zero = 0
guard_words (suc t) = suc t + 8

-- the words that an ALT needs at least for one of its guards. 02, order 4: for a time guard 6
unfoldable pub guard_asks : Guard → ℕ
guard_asks (input_guard e c x) = guard_words (temporaries e)
guard_asks (skip_guard e) = guard_words (temporaries e)
guard_asks (time_guard e t) = max 6 (guard_words (both_hold t e))

-- words that a statement needs below its workspace pointer. 01: SKIP, STOP, assignment 2; input 3; output 4; VAR or CHAN count + body;
-- SEQ, IF, WHILE the most of the parts, at least 2; ALT likewise, at least 4; PAR 2 + the sum of branches.
-- 02, order 2: a statement with a stored expression needs at least t + 2 words; an output t + 3; an ALT t + 8. Order 4: TIME 2; WAIT 5;
-- an ALT with a time guard 6
unfoldable mutual
  pub need : Stmt → ℕ
  need SKIP = 2
  need STOP = 2
  need (assign x e) = temporaries e + 2
  need (input c x) = 3
  need (output c e) = max 4 (temporaries e + 3)
  need (VAR p n s) = n + need s
  need (CHAN p n s) = n + need s
  need (SEQ ss) = max 2 (most_need ss)
  need (PAR p ss) = 2 + sum_need ss
  need (IF ps) = max 2 (pair_need ps)
  need (WHILE e s) = max (temporaries e + 2) (need s)
  need (ALT gs) = max 4 (guard_need gs)
  need (TIME x) = 2
  need (WAIT e) = max 5 (temporaries e + 2)

  -- SEQ: the most of the parts
  pub most_need : Stmts → ℕ
  most_need no_stmt = 0
  most_need (stmt s ss) = max (need s) (most_need ss)

  -- PAR: the sum of branches
  pub sum_need : Stmts → ℕ
  sum_need no_stmt = 0
  sum_need (stmt s ss) = need s + sum_need ss

  -- IF: the most of the parts, and of what the conditions ask for
  pub pair_need : Pairs → ℕ
  pair_need no_pair = 0
  pair_need (pair e s ps) = max (temporaries e + 2) (max (need s) (pair_need ps))

  -- ALT: the most of the parts, and of what the guards ask for
  pub guard_need : Guards → ℕ
  guard_need no_guard = 0
  guard_need (guard g s gs) = max (guard_asks g) (max (need s) (guard_need gs))
