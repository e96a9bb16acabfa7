-- What reading gives: names in scope, counts in range, constants that are words, and places that tell declarations apart.
use Prim.Native.Nat.{ℕ, suc, ◌-◌, ◌^◌, ◌≤◌, ◌<◌}
use mathlib.Core.Path.{◌≡◌}
use mathlib.Core.Bool.{true}
use mathlib.Core.List.{[], ◌++◌, Memᴰ}
use Rattle.model.specs.Limits.{channel_limit, name_limit, branch_limit}
use Rattle.model.specs.Syntax.{Site, input_of, output_of, Expr, constant, variable, NOT, binary, Stmt, SKIP, STOP, assign, input}
use Rattle.model.specs.Syntax.{output, VAR, CHAN, SEQ, PAR, IF, WHILE, ALT, Stmts, no_stmt, stmt, Pairs, no_pair, pair, Guards, no_guard}
use Rattle.model.specs.Syntax.{Guard, input_guard, skip_guard, time_guard, guard, Program, TIME, WAIT}
use Rattle.model.specs.Reader.{Scope, can_input, can_output, with_variables, with_channels, numbered}
use Rattle.model.specs.Counts.{need}
use Rattle.model.specs.Scheme.{how_many}

abbrev pub WellExpr : Scope → Expr → Type 0
WellExpr sc (constant n) = n < 2 ^ 32
WellExpr sc (variable x) = Memᴰ x sc.variables
WellExpr sc (NOT e) = WellExpr sc e
WellExpr sc (binary op l r) = WellExpr sc l × WellExpr sc r

abbrev pub Inputs : Scope → Site → Type 0
Inputs sc c = Memᴰ c sc.channels × (can_input c ≡ true)

abbrev pub Outputs : Scope → Site → Type 0
Outputs sc c = Memᴰ c sc.channels × (can_output c ≡ true)

abbrev pub WellGuard : Scope → Guard → Type 0
WellGuard sc (input_guard e c x) = WellExpr sc e × Inputs sc c × Memᴰ x sc.variables
WellGuard sc (skip_guard e) = WellExpr sc e
WellGuard sc (time_guard e t) = WellExpr sc e × WellExpr sc t

abbrev mutual
  pub Well : Scope → Stmt → Type 0
  Well sc SKIP = Unit {0}
  Well sc STOP = Unit {0}
  Well sc (assign x e) = Memᴰ x sc.variables × WellExpr sc e
  Well sc (input c x) = Inputs sc c × Memᴰ x sc.variables
  Well sc (output c e) = Outputs sc c × WellExpr sc e
  Well sc (VAR p n s) = (1 ≤ n) × (n ≤ name_limit) × Well (with_variables p n sc) s
  Well sc (CHAN p n s) = (1 ≤ n) × (n ≤ name_limit) × Well (with_channels p n sc) s
  Well sc (SEQ ss) = WellAll sc ss
  Well sc (PAR p ss) = (how_many ss ≤ branch_limit) × WellAll sc ss
  Well sc (IF ps) = WellPairs sc ps
  Well sc (WHILE e s) = WellExpr sc e × Well sc s
  Well sc (ALT gs) = WellGuards sc gs
  Well sc (TIME x) = Memᴰ x sc.variables
  Well sc (WAIT e) = WellExpr sc e

  pub WellAll : Scope → Stmts → Type 0
  WellAll sc no_stmt = Unit {0}
  WellAll sc (stmt s ss) = Well sc s × WellAll sc ss

  pub WellPairs : Scope → Pairs → Type 0
  WellPairs sc no_pair = Unit {0}
  WellPairs sc (pair e s ps) = WellExpr sc e × Well sc s × WellPairs sc ps

  pub WellGuards : Scope → Guards → Type 0
  WellGuards sc no_guard = Unit {0}
  WellGuards sc (guard g s gs) = WellGuard sc g × Well sc s × WellGuards sc gs

-- the names in scope of a whole program
abbrev pub outermost : Program → Scope
outermost p = record { variables = []; channels = numbered input_of p.inputs ++ numbered output_of p.outputs }

abbrev pub WellProgram : Program → Type 0
WellProgram p = (p.inputs ≤ channel_limit) × (p.outputs ≤ channel_limit) × Well (outermost p) p.body

-- declarations stand at places from lo up to hi, each in its own part of that stretch
abbrev mutual
  pub Placed : (lo hi : ℕ) → Stmt → Type 0
  Placed lo hi SKIP = lo ≤ hi
  Placed lo hi STOP = lo ≤ hi
  Placed lo hi (assign x e) = lo ≤ hi
  Placed lo hi (input c x) = lo ≤ hi
  Placed lo hi (output c e) = lo ≤ hi
  Placed lo hi (VAR p n s) = (lo ≤ p) × Placed (suc p) hi s
  Placed lo hi (CHAN p n s) = (lo ≤ p) × Placed (suc p) hi s
  Placed lo hi (SEQ ss) = PlacedAll lo hi ss
  Placed lo hi (PAR p ss) = PlacedAll lo hi ss
  Placed lo hi (IF ps) = PlacedPairs lo hi ps
  Placed lo hi (WHILE e s) = Placed lo hi s
  Placed lo hi (ALT gs) = PlacedGuards lo hi gs
  Placed lo hi (TIME x) = lo ≤ hi
  Placed lo hi (WAIT e) = lo ≤ hi

  pub PlacedAll : (lo hi : ℕ) → Stmts → Type 0
  PlacedAll lo hi no_stmt = lo ≤ hi
  PlacedAll lo hi (stmt s ss) = (mid : ℕ) × Placed lo mid s × PlacedAll mid hi ss

  pub PlacedPairs : (lo hi : ℕ) → Pairs → Type 0
  PlacedPairs lo hi no_pair = lo ≤ hi
  PlacedPairs lo hi (pair e s ps) = (mid : ℕ) × Placed lo mid s × PlacedPairs mid hi ps

  pub PlacedGuards : (lo hi : ℕ) → Guards → Type 0
  PlacedGuards lo hi no_guard = lo ≤ hi
  PlacedGuards lo hi (guard g s gs) = (mid : ℕ) × Placed lo mid s × PlacedGuards mid hi gs

-- `at` gives each declaration of a statement that runs at w the W of its body
module _ (at : ℕ → ℕ) where
  abbrev mutual
    pub Laid : (w : ℕ) → Stmt → Type 0
    Laid w SKIP = Unit {0}
    Laid w STOP = Unit {0}
    Laid w (assign x e) = Unit {0}
    Laid w (input c x) = Unit {0}
    Laid w (output c e) = Unit {0}
    Laid w (VAR p n s) = (at p ≡ w - n) × Laid (w - n) s
    Laid w (CHAN p n s) = (at p ≡ w - n) × Laid (w - n) s
    Laid w (SEQ ss) = LaidAll w ss
    Laid w (PAR p ss) = LaidBranches (w - 2) ss
    Laid w (IF ps) = LaidPairs w ps
    Laid w (WHILE e s) = Laid w s
    Laid w (ALT gs) = LaidGuards w gs
    Laid w (TIME x) = Unit {0}
    Laid w (WAIT e) = Unit {0}

    pub LaidAll : (w : ℕ) → Stmts → Type 0
    LaidAll w no_stmt = Unit {0}
    LaidAll w (stmt s ss) = Laid w s × LaidAll w ss

    pub LaidBranches : (w : ℕ) → Stmts → Type 0
    LaidBranches w no_stmt = Unit {0}
    LaidBranches w (stmt s ss) = Laid w s × LaidBranches (w - need s) ss

    pub LaidPairs : (w : ℕ) → Pairs → Type 0
    LaidPairs w no_pair = Unit {0}
    LaidPairs w (pair e s ps) = Laid w s × LaidPairs w ps

    pub LaidGuards : (w : ℕ) → Guards → Type 0
    LaidGuards w no_guard = Unit {0}
    LaidGuards w (guard g s gs) = Laid w s × LaidGuards w gs
