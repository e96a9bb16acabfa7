-- Programs as a table has them (01, "The program table"), with each name resolved to its declaration.
-- Places are bytes of the table.
use Rattle.std.specs.Prelude.{ℕ, Bool, true, false, ◌||◌}
use Rattle.model.specs.declared.kinds.Operator.{Operator}

-- what a name stands for: an outside input or output channel, each counted from 0, or the j-th name of the VAR or CHAN
-- whose first byte is at a place
pub data Site : Type 0 where
  input_of : ℕ → Site
  output_of : ℕ → Site
  declared : (place j : ℕ) → Site

-- 01: a constant word, a variable, NOT of an expression, or an operator with left and right
pub data Expr : Type 0 where
  constant : ℕ → Expr
  variable : Site → Expr
  NOT : Expr → Expr
  binary : Operator → Expr → Expr → Expr

-- 01: a guard that waits for input has a condition, a channel and a variable; a SKIP guard has a condition. 02, order 4: a time guard has a
-- condition and a time
pub data Guard : Type 0 where
  input_guard : Expr → (channel variable : Site) → Guard
  skip_guard : Expr → Guard
  time_guard : (condition time : Expr) → Guard

-- a guard's condition
abbrev pub condition : Guard → Expr
condition (input_guard e c x) = e
condition (skip_guard e) = e
condition (time_guard e t) = e

-- VAR, CHAN and PAR have the place of their first byte: it tells declarations apart, and refusal 7 returns it
mutual
  -- a statement: 01's kinds 0 SKIP to 11 ALT; 02's 12, TIME into a variable, and 13, wait until after a time (order 4)
  pub data Stmt : Type 0 where
    SKIP STOP : Stmt
    assign : Site → Expr → Stmt
    input : (channel variable : Site) → Stmt
    output : (channel : Site) → Expr → Stmt
    VAR CHAN : (place count : ℕ) → Stmt → Stmt
    SEQ : Stmts → Stmt
    PAR : (place : ℕ) → Stmts → Stmt
    IF : Pairs → Stmt
    WHILE : Expr → Stmt → Stmt
    ALT : Guards → Stmt
    TIME : (variable : Site) → Stmt
    WAIT : (time : Expr) → Stmt

  -- the statements of a SEQ or PAR
  pub data Stmts : Type 0 where
    no_stmt : Stmts
    stmt : Stmt → Stmts → Stmts

  -- the pairs of an IF: expression, statement
  pub data Pairs : Type 0 where
    no_pair : Pairs
    pair : Expr → Stmt → Pairs → Pairs

  -- the guards of an ALT, each with the statement that it guards
  pub data Guards : Type 0 where
    no_guard : Guards
    guard : Guard → Stmt → Guards → Guards

-- a time guard
abbrev pub is_timed : Guard → Bool
is_timed (input_guard e c x) = false
is_timed (skip_guard e) = false
is_timed (time_guard e t) = true

-- 02, order 4: an ALT with a time guard
unfoldable pub timed : Guards → Bool
timed no_guard = false
timed (guard g s gs) = is_timed g || timed gs

-- outside input channels, outside output channels, the statement
pub record Program : Type 0 where
  pub inputs : ℕ
  pub outputs : ℕ
  pub body : Stmt
