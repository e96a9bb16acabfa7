-- 01's kinds and operators by their numbers, and how statements of a kind are laid out ("The program table"). The numbers are those of the
-- model's lists.
use Rattle.std.specs.Prelude.{ℕ, ◌-◌, cond, List, length, get_or, ltb, Result, Ok}
use Rattle.model.specs.Limits.{part_limit, branch_limit}
use Rattle.model.specs.Reader.{stmt_kinds, expr_kinds, guard_kinds, operators}
use Rattle.model.specs.declared.kinds.ExprKind.{ExprKind}
use Rattle.model.specs.declared.kinds.ExprKind.TheVariants.{Constant, Variable, Not, Binary}
use Rattle.model.specs.declared.kinds.StmtKind.{StmtKind}
use Rattle.model.specs.declared.kinds.StmtKind.TheVariants.{Skip, Stop, Assign, Input, Output, Var, Chan, Seq, Par, If, While, Alt}
use Rattle.model.specs.declared.kinds.StmtKind.TheVariants.{Time, Wait}
use Rattle.model.specs.declared.kinds.GuardKind.{GuardKind}
use Rattle.model.specs.declared.kinds.GuardKind.TheVariants.{Input as InputGuard, Skip as SkipGuard, Time as TimeGuard}
use Rattle.model.specs.declared.kinds.Operator.{Operator}
use Rattle.model.specs.declared.kinds.Operator.TheVariants.{Plus as PLUS}
use Rattle.numbers.specs.Items.{between_at, value_at}
use Rattle.numbers.specs.declared.Misread.{Misread}
use Rattle.numbers.specs.declared.Number.{Number}
use Rattle.numbers.specs.declared.Value.{Value}
use Rattle.numbers.specs.declared.kinds.Simple.{Simple}
use Rattle.numbers.specs.declared.kinds.Simple.TheVariants.{Skip as Idle, Stop as Stopping, Assign as Assigning, Input as Inputting}
use Rattle.numbers.specs.declared.kinds.Simple.TheVariants.{Output as Outputting, Time as Timing, Wait as Waiting}
use Rattle.numbers.specs.declared.kinds.Declared.{Declared}
use Rattle.numbers.specs.declared.kinds.Declared.TheVariants.{Variables, Channels}
use Rattle.numbers.specs.declared.kinds.Head.{Head}
use Rattle.numbers.specs.declared.kinds.Head.TheVariants.{Nothing, Condition, Guard}
use Rattle.numbers.specs.declared.kinds.Shape.{Shape}
use Rattle.numbers.specs.declared.kinds.Shape.TheVariants.{Simple as Bare, Declares, Branches, Parts}
use Rattle.numbers.specs.declared.kinds.Count.{Count}
use Rattle.numbers.specs.declared.kinds.Count.TheVariants.{UpTo, Fixed}

-- the last number of a statement's, an expression's and a guard's kind, and of an operator
abbrev pub last_statement : ℕ
last_statement = length stmt_kinds - 1

abbrev pub last_expression : ℕ
last_expression = length expr_kinds - 1

abbrev pub last_guard : ℕ
last_guard = length guard_kinds - 1

abbrev pub last_operator : ℕ
last_operator = length operators - 1

-- the kind of a number. A number that has none stands where nothing of a program begins: it is SKIP, an operator's, a SKIP guard,
-- PLUS
unfoldable pub stmt_kind : ℕ → StmtKind
stmt_kind n = get_or stmt_kinds n Skip

unfoldable pub expr_kind : ℕ → ExprKind
expr_kind n = get_or expr_kinds n Binary

unfoldable pub guard_kind : ℕ → GuardKind
guard_kind n = get_or guard_kinds n SkipGuard

unfoldable pub operator_of : ℕ → Operator
operator_of n = get_or operators n PLUS

-- by the kind of an expression, and of a guard
abbrev pub by_expr : {R : Type 0} → ExprKind → (constant variable not binary : R) → R
by_expr Constant c v n b = c
by_expr Variable c v n b = v
by_expr Not c v n b = n
by_expr Binary c v n b = b

abbrev pub by_guard : {R : Type 0} → GuardKind → (input skip time : R) → R
by_guard InputGuard i k t = i
by_guard SkipGuard i k t = k
by_guard TimeGuard i k t = t

-- what is behind a kind (01's column "then"): names or an expression; a count of names and a statement; so many branches of a PAR; or so
-- many parts, one after the other, each with what stands before its statement
abbrev pub shape_of : StmtKind → Shape
shape_of Skip = Bare Idle
shape_of Stop = Bare Stopping
shape_of Assign = Bare Assigning
shape_of Input = Bare Inputting
shape_of Output = Bare Outputting
shape_of Var = Declares Variables
shape_of Chan = Declares Channels
shape_of Seq = Parts Nothing (UpTo part_limit)
shape_of Par = Branches (UpTo branch_limit)
shape_of If = Parts Condition (UpTo part_limit)
shape_of While = Parts Condition (Fixed 1)
shape_of Alt = Parts Guard (UpTo part_limit)
shape_of Time = Bare Timing
shape_of Wait = Bare Waiting

-- by what stands before the statement of a part, by what is declared, by the shape and by how parts are counted
abbrev pub by_head : {R : Type 0} → Head → (nothing condition guard : R) → R
by_head Nothing n c g = n
by_head Condition n c g = c
by_head Guard n c g = g

abbrev pub by_declared : {R : Type 0} → Declared → (variables channels : R) → R
by_declared Variables v c = v
by_declared Channels v c = c

abbrev pub by_shape : {R : Type 0} → Shape → (simple : Simple → R) → (declares : Declared → R) → (branches : Count → R)
    → (parts : Head → Count → R)
    → R
by_shape (Bare x) s d b p = s x
by_shape (Declares x) s d b p = d x
by_shape (Branches m) s d b p = b m
by_shape (Parts h m) s d b p = p h m

abbrev pub by_count : {R : Type 0} → Count → (up_to fixed : R) → R
by_count (UpTo m) u f = u
by_count (Fixed n) u f = f

-- the count of parts, where one is read, and the place after it
unfoldable pub count_at : Count → List ℕ → (at : ℕ) → Result Number Misread
count_at (UpTo m) s at = between_at 0 m s at
count_at (Fixed n) s at = Ok (record { value = n; next = at })

-- the same in a table that was read before; one that is too large stands where no statement begins, and counts 0
unfoldable pub count_in : Count → List ℕ → (at : ℕ) → Value
count_in (UpTo m) s at = let c = value_at s at in record { value = cond (ltb m c.value) 0 c.value; next = c.next }
count_in (Fixed n) s at = record { value = n; next = at }
