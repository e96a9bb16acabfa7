-- Reading a table to a program, or to a refusal 1 to 6 with its place (01, "The program table", "When a call is turned down").
-- Reading goes left to right. At one byte 2 comes first, then 4, 3 and 5.
use Rattle.std.specs.Prelude.{ℕ, zero, suc, ◌+◌, Bool, true, false, cond, ◌&&◌, List, [], ◌∷◌, ◌++◌, length, drop, leb}
use Rattle.std.proofs.Math.Option.{Option, none, some}
use Rattle.std.proofs.Math.ListN.{get_elem?}
use Rattle.model.specs.Number.{Number, number}
use Rattle.model.specs.Limits.{table_limit, depth_limit, channel_limit, name_limit, part_limit, branch_limit}
use Rattle.model.specs.Syntax.{Site, input_of, output_of, declared, Expr, constant, variable, NOT, binary, Stmt, SKIP, STOP, assign}
use Rattle.model.specs.Syntax.{input, output, VAR, CHAN, SEQ, PAR, IF, WHILE, ALT, TIME, WAIT, no_stmt, stmt, Pairs, no_pair, pair}
use Rattle.model.specs.Syntax.{Guard, input_guard, skip_guard, time_guard, Guards, no_guard, guard, Program}
use Rattle.model.specs.declared.Reason.{Reason}
use Rattle.model.specs.declared.Reason.TheVariants.{TableSize, BadNumber, OutOfRange, TooDeep, BadName, BytesBehind}
use Rattle.model.specs.declared.kinds.Operator.{Operator}
use Rattle.model.specs.declared.kinds.Operator.TheVariants.{Plus as PLUS, Minus as MINUS, Times as TIMES, Gt as GT, Eq as EQ}
use Rattle.model.specs.declared.kinds.Operator.TheVariants.{And as AND, Or as OR, Xor as XOR}
use Rattle.model.specs.declared.kinds.ExprKind.{ExprKind}
use Rattle.model.specs.declared.kinds.ExprKind.TheVariants.{Constant, Variable, Not, Binary}
use Rattle.model.specs.declared.kinds.StmtKind.{StmtKind}
use Rattle.model.specs.declared.kinds.StmtKind.TheVariants.{Skip, Stop, Assign, Input, Output, Var, Chan, Seq, Par, If, While, Alt}
use Rattle.model.specs.declared.kinds.StmtKind.TheVariants.{Time, Wait}
use Rattle.model.specs.declared.kinds.GuardKind.{GuardKind}
use Rattle.model.specs.declared.kinds.GuardKind.TheVariants.{Input as InputGuard, Skip as SkipGuard, Time as TimeGuard}

-- what was read, the place of the next byte and the bytes from there on; or why it is refused, and at which place
pub data Parsed (A : Type 0) : Type 0 where
  parsed : A → ℕ → List ℕ → Parsed A
  fails : Reason → (place : ℕ) → Parsed A

-- a part of a table is read from a place, over the bytes from there on
abbrev pub Reader : Type 0 → Type 0
Reader A = ℕ → List ℕ → Parsed A

-- what is read after a part; a refusal ends the reading
abbrev pub onward : {A B : Type 0} → Parsed A → (A → Reader B) → Parsed B
onward (parsed a at bytes) f = f a at bytes
onward (fails why p) f = fails why p

-- one part, then another from the byte after it: reading goes left to right
abbrev pub ◌>>=◌ : {A B : Type 0} → Reader A → (A → Reader B) → Reader B
◌>>=◌ r f at bytes = onward (r at bytes) f

-- a result, with nothing more read
abbrev pub pure : {A : Type 0} → A → Reader A
pure a at bytes = parsed a at bytes

-- a refusal with the place that it returns
abbrev pub refuse : {A : Type 0} → Reason → (place : ℕ) → Reader A
refuse why p at bytes = fails why p

-- the place of the next byte
abbrev pub here : Reader ℕ
here at bytes = parsed at at bytes

-- refusal 2: a number cut short, too long or too large
abbrev number_or2 : Option Number → Reader ℕ
number_or2 none at bytes = fails BadNumber at
number_or2 (some n) at bytes = parsed n.value (at + n.size) (drop n.size bytes)

-- a number; 2 at its first byte, or at the table's length if none is left
unfoldable pub read_number : Reader ℕ
read_number at bytes = number_or2 (number bytes) at bytes

-- a number that stands for one of the things listed, from 0; else 3 at its byte
abbrev one_of3 : {A : Type 0} → Option A → ℕ → Reader A
one_of3 none at = refuse OutOfRange at
one_of3 (some a) at = pure a

-- refusal 3: an unknown kind or operator
unfoldable pub one_of : {A : Type 0} → List A → Reader A
one_of things = do
  at ← here
  n ← read_number
  one_of3 (get_elem? things n) at

-- a count from lo to hi; else refusal 3 at its byte
unfoldable pub read_count : (lo hi : ℕ) → Reader ℕ
read_count lo hi = do
  at ← here
  n ← read_number
  cond (leb lo n && leb n hi) (pure n) (refuse OutOfRange at)

-- the names in scope, outermost first: the number of a name is its index here
pub record Scope : Type 0 where
  pub variables : List Site
  pub channels : List Site

-- a name's site if it may stand there; else 5 at the name's byte
abbrev name_or5 : (Site → Bool) → Option Site → ℕ → Reader Site
name_or5 fits none at = refuse BadName at
name_or5 fits (some s) at = cond (fits s) (pure s) (refuse BadName at)

-- a variable's or channel's number; refusal 5: a name not in scope, or an outside channel used the wrong way
unfoldable pub read_name : (Site → Bool) → List Site → Reader Site
read_name fits in_scope = do
  at ← here
  n ← read_number
  name_or5 fits (get_elem? in_scope n) at

-- a variable may be used in any way
abbrev pub any_site : Site → Bool
any_site s = true

-- an outside output is no channel to input from
abbrev pub can_input : Site → Bool
can_input (input_of k) = true
can_input (output_of k) = false
can_input (declared p j) = true

-- an outside input is no channel to output to
abbrev pub can_output : Site → Bool
can_output (input_of k) = false
can_output (output_of k) = true
can_output (declared p j) = true

-- the number of a variable
abbrev pub read_variable : Scope → Reader Site
read_variable scope = read_name any_site scope.variables

-- the number of a channel to input from
abbrev pub read_input : Scope → Reader Site
read_input scope = read_name can_input scope.channels

-- the number of a channel to output to
abbrev pub read_output : Scope → Reader Site
read_output scope = read_name can_output scope.channels

-- so many names of one kind, in the order of their numbers
unfoldable pub numbered : (ℕ → Site) → (count : ℕ) → List Site
numbered of zero = []
numbered of (suc n) = numbered of n ++ of n ∷ []

-- the names of a VAR or CHAN at a place
abbrev pub names : (place count : ℕ) → List Site
names p n = numbered (declared p) n

-- the names inside a VAR: its own come after those in scope, so the outermost is 0
abbrev pub with_variables : ℕ → ℕ → Scope → Scope
with_variables p n s = record { variables = s.variables ++ names p n; channels = s.channels }

-- the same inside a CHAN: variables and channels are numbered apart
abbrev pub with_channels : ℕ → ℕ → Scope → Scope
with_channels p n s = record { variables = s.variables; channels = s.channels ++ names p n }

-- 01: an expression is 0 and a constant word; 1 and a variable; 2 (NOT) and an expression; or 3, operator, left, right. The kinds in the
-- order of their numbers, from 0
abbrev pub expr_kinds : List ExprKind
expr_kinds = Constant ∷ Variable ∷ Not ∷ Binary ∷ []

-- 01: operators 0 PLUS, 1 MINUS, 2 TIMES, 3 GT, 4 EQ, 5 AND, 6 OR, 7 XOR
abbrev pub operators : List Operator
operators = PLUS ∷ MINUS ∷ TIMES ∷ GT ∷ EQ ∷ AND ∷ OR ∷ XOR ∷ []

-- refusal 4, depth 33: its first number may be bad (2), else 4 at its first byte
unfoldable pub too_deep : {A : Type 0} → Reader A
too_deep = do
  at ← here
  n ← read_number
  refuse TooDeep at

-- what follows an expression's kind, with a reader of the expressions inside it
unfoldable pub expr_of : Scope → Reader Expr → ExprKind → Reader Expr
expr_of scope inner Constant = do n ← read_number; pure (constant n)
expr_of scope inner Variable = do x ← read_variable scope; pure (variable x)
expr_of scope inner Not = do e ← inner; pure (NOT e)
expr_of scope inner Binary = do
  op ← one_of operators
  left ← inner
  right ← inner
  pure (binary op left right)

-- an expression, with the depths left from it on: the number falls by 1 for each expression inside
unfoldable pub read_expr : ℕ → Scope → Reader Expr
read_expr zero scope = too_deep
read_expr (suc d) scope = do
  k ← one_of expr_kinds
  expr_of scope (read_expr d scope) k

-- so many parts, one after the other
unfoldable pub read_many : {A L : Type 0} → L → (A → L → L) → Reader A → ℕ → Reader L
read_many empty more part zero = pure empty
read_many empty more part (suc n) = do
  a ← part
  rest ← read_many empty more part n
  pure (more a rest)

-- 0 SKIP, 1 STOP, 2 assign, 3 input, 4 output, 5 VAR, 6 CHAN, 7 SEQ, 8 PAR, 9 IF, 10 WHILE, 11 ALT; 02, order 4: 12 TIME,
-- 13 WAIT
abbrev pub stmt_kinds : List StmtKind
stmt_kinds = Skip ∷ Stop ∷ Assign ∷ Input ∷ Output ∷ Var ∷ Chan ∷ Seq ∷ Par ∷ If ∷ While ∷ Alt ∷ Time ∷ Wait ∷ []

-- 01: a guard is 0 (waits for input) or 1 (SKIP guard); 02, order 4: 2 (time guard)
abbrev pub guard_kinds : List GuardKind
guard_kinds = InputGuard ∷ SkipGuard ∷ TimeGuard ∷ []

-- the readers of the parts inside a statement
pub record Inner : Type 0 where
  pub expr : Reader Expr
  pub stmt : Scope → Reader Stmt

-- a pair of an IF: expression, statement
unfoldable pub read_pair : Scope → Inner → Reader (Pairs → Pairs)
read_pair scope inner = do
  e ← inner.expr
  s ← inner.stmt scope
  pure (pair e s)

-- 01: condition, channel, variable (waits for input), or condition (SKIP guard); 02, order 4: condition, time
unfoldable pub guard_of : Scope → Reader Expr → GuardKind → Reader Guard
guard_of scope expr InputGuard = do e ← expr; c ← read_input scope; x ← read_variable scope; pure (input_guard e c x)
guard_of scope expr SkipGuard = do e ← expr; pure (skip_guard e)
guard_of scope expr TimeGuard = do e ← expr; t ← expr; pure (time_guard e t)

-- a guard, then its statement. A guard is no level of depth: its number is read at the ALT's level
unfoldable pub read_guard : Scope → Inner → Reader (Guards → Guards)
read_guard scope inner = do
  k ← one_of guard_kinds
  g ← guard_of scope inner.expr k
  s ← inner.stmt scope
  pure (guard g s)

-- a pair or guard in front of the ones after it
abbrev pub applied : {L : Type 0} → (L → L) → L → L
applied f l = f l

-- what follows a statement's kind, for a statement at a place: the column "then" of 01's table; 02, order 4: a variable, or an
-- expression
unfoldable pub stmt_of : (place : ℕ) → Scope → Inner → StmtKind → Reader Stmt
stmt_of p scope inner Skip = pure SKIP
stmt_of p scope inner Stop = pure STOP
stmt_of p scope inner Assign = do x ← read_variable scope; e ← inner.expr; pure (assign x e)
stmt_of p scope inner Input = do c ← read_input scope; x ← read_variable scope; pure (input c x)
stmt_of p scope inner Output = do c ← read_output scope; e ← inner.expr; pure (output c e)
stmt_of p scope inner Var = do n ← read_count 1 name_limit; s ← inner.stmt (with_variables p n scope); pure (VAR p n s)
stmt_of p scope inner Chan = do n ← read_count 1 name_limit; s ← inner.stmt (with_channels p n scope); pure (CHAN p n s)
stmt_of p scope inner Seq = do n ← read_count 0 part_limit; ss ← read_many no_stmt stmt (inner.stmt scope) n; pure (SEQ ss)
stmt_of p scope inner Par = do n ← read_count 0 branch_limit; ss ← read_many no_stmt stmt (inner.stmt scope) n; pure (PAR p ss)
stmt_of p scope inner If = do n ← read_count 0 part_limit; ps ← read_many no_pair applied (read_pair scope inner) n; pure (IF ps)
stmt_of p scope inner While = do e ← inner.expr; s ← inner.stmt scope; pure (WHILE e s)
stmt_of p scope inner Alt = do n ← read_count 0 part_limit; gs ← read_many no_guard applied (read_guard scope inner) n; pure (ALT gs)
stmt_of p scope inner Time = do x ← read_variable scope; pure (TIME x)
stmt_of p scope inner Wait = do e ← inner.expr; pure (WAIT e)

-- a statement, with the depths left from it on; each statement or expression inside it is one deeper
unfoldable pub read_stmt : ℕ → Scope → Reader Stmt
read_stmt zero scope = too_deep
read_stmt (suc d) scope = do
  at ← here
  k ← one_of stmt_kinds
  stmt_of at scope (record { expr = read_expr d scope; stmt = read_stmt d }) k

-- 01: first two numbers, 0 to 8 each: outside inputs, then outside outputs, numbered so. Then one statement, at depth 1; 32 is the deepest
unfoldable pub read_program : Reader Program
read_program = do
  ins ← read_count 0 channel_limit
  outs ← read_count 0 channel_limit
  s ← read_stmt depth_limit (record { variables = []; channels = numbered input_of ins ++ numbered output_of outs })
  pure (record { inputs = ins; outputs = outs; body = s })

-- a program, or why the table is refused, and at which place
pub data Read : Type 0 where
  program : Program → Read
  refused : Reason → (place : ℕ) → Read

-- refusal 6 at the first byte after the program
abbrev pub whole : Parsed Program → Read
whole (parsed p at []) = program p
whole (parsed p at (b ∷ bytes)) = refused BytesBehind at
whole (fails why at) = refused why at

-- reading a table. Refusal 1 comes first: a table of 0 or over 16,384 bytes, at place 0
unfoldable pub read_table : List ℕ → Read
read_table table =
    let r = whole (read_program 0 table) in
    cond (leb 1 (length table) && leb (length table) table_limit) r (refused TableSize 0)
