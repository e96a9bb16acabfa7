-- What the branches of a PAR use (01: "In a PAR, a variable that one branch assigns or inputs is not used by another, and no two
-- branches input from, or output to, one channel"), refusal 7.
use Rattle.std.specs.Prelude.{ℕ, Bool, false, cond, ◌&&◌, ◌||◌, List, [], ◌∷◌, ◌++◌, eqb}
use Rattle.std.proofs.Math.Option.{Option, none, some}
use Rattle.model.specs.Syntax.{Site, input_of, output_of, declared, Expr, constant, variable, NOT, binary, Stmt, SKIP, STOP, assign}
use Rattle.model.specs.Syntax.{input, output, VAR, CHAN, SEQ, PAR, IF, WHILE, ALT, TIME, WAIT, Stmts, no_stmt, stmt, Pairs, no_pair}
use Rattle.model.specs.Syntax.{pair, Guard, input_guard, skip_guard, time_guard, Guards, no_guard, guard}

-- what a part of the program does to names. Names that it declares itself are among them, and in no other part
pub record Usage : Type 0 where
  pub changes : List Site  -- variables assigned or input
  pub uses : List Site  -- variables read, assigned or input
  pub inputs : List Site  -- channels input from
  pub outputs : List Site  -- channels output to

-- a part that uses no name
abbrev pub nothing : Usage
nothing = record { changes = []; uses = []; inputs = []; outputs = [] }

-- what two parts do together
infixr 60 ◌⊕◌
abbrev pub ◌⊕◌ : Usage → Usage → Usage
◌⊕◌ u v =
    record {
      changes = u.changes ++ v.changes;
      uses = u.uses ++ v.uses;
      inputs = u.inputs ++ v.inputs;
      outputs = u.outputs ++ v.outputs;
    }

-- the variables that an expression reads
unfoldable pub reads : Expr → List Site
reads (constant n) = []
reads (variable x) = x ∷ []
reads (NOT e) = reads e
reads (binary op l r) = reads l ++ reads r

-- an expression uses its variables, a condition too
abbrev pub reading : Expr → Usage
reading e = record { changes = []; uses = reads e; inputs = []; outputs = [] }

-- assigning or inputting a variable, or reading the time into it, which also uses it
abbrev pub changing : Site → Usage
changing x = record { changes = x ∷ []; uses = x ∷ []; inputs = []; outputs = [] }

-- inputting from a channel
abbrev pub inputting : Site → Usage
inputting c = record { changes = []; uses = []; inputs = c ∷ []; outputs = [] }

-- outputting to a channel
abbrev pub outputting : Site → Usage
outputting c = record { changes = []; uses = []; inputs = []; outputs = c ∷ [] }

-- a guard that waits for input inputs from its channel into its variable
abbrev pub guard_usage : Guard → Usage
guard_usage (input_guard e c x) = reading e ⊕ inputting c ⊕ changing x
guard_usage (skip_guard e) = reading e
guard_usage (time_guard e t) = reading e ⊕ reading t

-- what a statement does to names, and the parts of a SEQ or PAR, an IF and an ALT. 02, order 4: TIME is an input to the check; the clock
-- is no channel
unfoldable mutual
  pub usage : Stmt → Usage
  usage SKIP = nothing
  usage STOP = nothing
  usage (assign x e) = changing x ⊕ reading e
  usage (input c x) = inputting c ⊕ changing x
  usage (output c e) = outputting c ⊕ reading e
  usage (VAR p n s) = usage s
  usage (CHAN p n s) = usage s
  usage (SEQ ss) = usage_all ss
  usage (PAR p ss) = usage_all ss
  usage (IF ps) = usage_pairs ps
  usage (WHILE e s) = reading e ⊕ usage s
  usage (ALT gs) = usage_guards gs
  usage (TIME x) = changing x
  usage (WAIT e) = reading e

  pub usage_all : Stmts → Usage
  usage_all no_stmt = nothing
  usage_all (stmt s ss) = usage s ⊕ usage_all ss

  pub usage_pairs : Pairs → Usage
  usage_pairs no_pair = nothing
  usage_pairs (pair e s ps) = reading e ⊕ usage s ⊕ usage_pairs ps

  pub usage_guards : Guards → Usage
  usage_guards no_guard = nothing
  usage_guards (guard g s gs) = guard_usage g ⊕ usage s ⊕ usage_guards gs

-- two names are one: the same declaration and number, or the same outside channel
unfoldable pub same : Site → Site → Bool
same (input_of j) (input_of k) = eqb j k
same (input_of j) (output_of k) = false
same (input_of j) (declared p k) = false
same (output_of j) (input_of k) = false
same (output_of j) (output_of k) = eqb j k
same (output_of j) (declared p k) = false
same (declared p j) (input_of k) = false
same (declared p j) (output_of k) = false
same (declared p j) (declared q k) = eqb p q && eqb j k

-- a name is in a list
unfoldable pub is_in : Site → List Site → Bool
is_in x [] = false
is_in x (y ∷ ys) = same x y || is_in x ys

-- two lists have a name in common
unfoldable pub share : List Site → List Site → Bool
share [] ys = false
share (x ∷ xs) ys = is_in x ys || share xs ys

-- two branches that may not stand in one PAR: one changes a variable that the other uses, or both input from, or output to, one channel
unfoldable pub clash : Usage → Usage → Bool
clash u v =
    share u.changes v.uses || share v.changes u.uses || share u.inputs v.inputs || share u.outputs v.outputs

-- a branch clashes with a later one
unfoldable pub clashes_later : Usage → Stmts → Bool
clashes_later u no_stmt = false
clashes_later u (stmt s ss) = clash u (usage s) || clashes_later u ss

-- some two branches of a PAR clash
unfoldable pub any_clash : Stmts → Bool
any_clash no_stmt = false
any_clash (stmt s ss) = clashes_later (usage s) ss || any_clash ss

-- the first place of two, where there is one
abbrev pub or_else : Option ℕ → Option ℕ → Option ℕ
or_else none o = o
or_else (some p) o = some p

-- refusal 7: the place of the first PAR with a clash, an outer one before the ones inside it
unfoldable mutual
  pub first_clash : Stmt → Option ℕ
  first_clash SKIP = none
  first_clash STOP = none
  first_clash (assign x e) = none
  first_clash (input c x) = none
  first_clash (output c e) = none
  first_clash (VAR p n s) = first_clash s
  first_clash (CHAN p n s) = first_clash s
  first_clash (SEQ ss) = first_clash_all ss
  first_clash (PAR p ss) = cond (any_clash ss) (some p) (first_clash_all ss)
  first_clash (IF ps) = first_clash_pairs ps
  first_clash (WHILE e s) = first_clash s
  first_clash (ALT gs) = first_clash_guards gs
  first_clash (TIME x) = none
  first_clash (WAIT e) = none

  pub first_clash_all : Stmts → Option ℕ
  first_clash_all no_stmt = none
  first_clash_all (stmt s ss) = or_else (first_clash s) (first_clash_all ss)

  pub first_clash_pairs : Pairs → Option ℕ
  first_clash_pairs no_pair = none
  first_clash_pairs (pair e s ps) = or_else (first_clash s) (first_clash_pairs ps)

  pub first_clash_guards : Guards → Option ℕ
  first_clash_guards no_guard = none
  first_clash_guards (guard g s gs) = or_else (first_clash s) (first_clash_guards gs)
