-- Parts of a program that one process runs: the whole program, or a branch of a PAR. What a part may touch, and which statements are
-- well-formed in it for a scope and laid out at a workspace.
use Prim.Native.Nat.{ℕ, zero, suc, ◌+◌, ◌-◌, ◌≤◌, ◌<◌}
use native.Mathlib.Omega.{arith}
use mathlib.Core.Path.{◌≡◌, refl}
use mathlib.Core.Logic.{◌⊎◌}
use mathlib.Core.List.{List, [], ◌++◌, Memᴰ}
use Rattle.model.specs.Syntax.{Site, declared, Expr, Stmt, SKIP, STOP, assign, input, output, VAR, CHAN, SEQ, PAR, IF, WHILE, ALT}
use Rattle.model.specs.Syntax.{Stmts, no_stmt, stmt, Pairs, no_pair, pair, Guard, input_guard, skip_guard, condition, Guards, no_guard}
use Rattle.model.specs.Syntax.{time_guard, guard, TIME, WAIT}
use Rattle.model.specs.Reader.{names}
use Rattle.model.specs.Counts.{temporaries, both_hold, need, sum_need}
use Rattle.model.specs.Usage.{usage}
use Rattle.model.specs.Scheme.{alt_words}
use Rattle.model.proofs.Words.Values.{FineExpr}

-- every statement needs two words at least
pub need-two : (s : Stmt) → 2 ≤ need s
unfolding need
need-two SKIP = omega arith
need-two STOP = omega arith
need-two (assign x e) = omega arith
need-two (input c x) = omega arith
need-two (output c e) = omega arith
need-two (VAR p n s) = omega (arith, need-two s)
need-two (CHAN p n s) = omega (arith, need-two s)
need-two (SEQ ss) = omega arith
need-two (PAR p ss) = omega arith
need-two (IF ps) = omega arith
need-two (WHILE e s) = omega arith
need-two (ALT gs) = omega arith
need-two (TIME x) = omega arith
need-two (WAIT e) = omega arith

-- the words of the first branch and of the others
pub sum_first : (s : Stmt) (ss : Stmts) → sum_need (stmt s ss) ≡ need s + sum_need ss
unfolding sum_need
sum_first s ss = refl

pub need-next : (s : Stmt) (ss : Stmts) (d : ℕ) {w : ℕ} → d + sum_need (stmt s ss) ≤ w → d + need s + sum_need ss ≤ w
need-next s ss d h = omega (arith, sum_first s ss)

-- how a part's code ends: at the code's end, or as a branch, whose PAR has its workspace at a distance above
pub data Ending : Type 0 where
  the_end : Ending
  joins : (distance : ℕ) → Ending

-- a part: its words are from bottom up to top, the W with which it begins; what it reads and changes, and its channels; the names in
-- scope where it begins
pub record Part : Type 0 where
  pub bottom : ℕ
  pub top : ℕ
  pub reads : List Site
  pub changes : List Site
  pub inputs : List Site
  pub outputs : List Site
  pub ending : Ending
  pub vars : List Site
  pub chans : List Site

-- the variables that a statement declares
unfoldable mutual
  pub declares : Stmt → List Site
  declares SKIP = []
  declares STOP = []
  declares (assign x e) = []
  declares (input c x) = []
  declares (output c e) = []
  declares (VAR p n s) = names p n ++ declares s
  declares (CHAN p n s) = declares s
  declares (SEQ ss) = declares_all ss
  declares (PAR p ss) = declares_all ss
  declares (IF ps) = declares_pairs ps
  declares (WHILE e s) = declares s
  declares (ALT gs) = declares_guards gs
  declares (TIME x) = []
  declares (WAIT e) = []

  pub declares_all : Stmts → List Site
  declares_all no_stmt = []
  declares_all (stmt s ss) = declares s ++ declares_all ss

  pub declares_pairs : Pairs → List Site
  declares_pairs no_pair = []
  declares_pairs (pair e s ps) = declares s ++ declares_pairs ps

  pub declares_guards : Guards → List Site
  declares_guards no_guard = []
  declares_guards (guard g s gs) = declares s ++ declares_guards gs

-- a statement as a part of its own, at a workspace, with these names in scope
abbrev pub part_of : (vars chans : List Site) (w : ℕ) → Ending → Stmt → Part
part_of vars chans w e s =
    record {
      bottom = w - need s;
      top = w;
      reads = (usage s).uses;
      changes = (usage s).changes ++ declares s;
      inputs = (usage s).inputs;
      outputs = (usage s).outputs;
      ending = e;
      vars = vars;
      chans = chans;
    }

-- no name is in both lists
abbrev pub Disjoint : List Site → List Site → Type 0
Disjoint l m = (x : Site) → Memᴰ x l → Memᴰ x m → ⊥

-- two parts that run beside each other: no word in common, neither changes what the other reads, no channel used by both in one direction
pub record Apart (a b : Part) : Type 0 where
  pub words : (a.top ≤ b.bottom) ⊎ (b.top ≤ a.bottom)
  pub left : Disjoint a.changes b.reads
  pub right : Disjoint b.changes a.reads
  pub inputs : Disjoint a.inputs b.inputs
  pub outputs : Disjoint a.outputs b.outputs

-- all of a list is in another
abbrev pub Within : List Site → List Site → Type 0
Within l m = (x : Site) → Memᴰ x l → Memᴰ x m

-- a branch of a part
pub record Inside (b a : Part) : Type 0 where
  pub above : a.bottom ≤ b.bottom
  pub below : b.top ≤ a.top
  pub reads : Within b.reads a.reads
  pub changes : Within b.changes a.changes
  pub inputs : Within b.inputs a.inputs
  pub outputs : Within b.outputs a.outputs

-- by how much W is lowered for t stored values and so many words more: not at all without stored values
unfoldable pub lowered : (t more : ℕ) → ℕ
lowered zero more = 0
lowered (suc t) more = suc t + more

-- an expression of a part at a workspace: its variables are in scope and read, and there is room for its stored values and so many words
-- more
abbrev pub FineWhole : Part → List Site → (w more : ℕ) → Expr → Type 0
FineWhole a vars w more e = FineExpr vars e × FineExpr a.reads e × (a.bottom + lowered (temporaries e) more ≤ w)

-- the words of an ALT above the stored values of its guards: its own, and the one below which it stands
abbrev pub guard_room : ℕ
guard_room = suc alt_words

-- a variable that a part may change
abbrev pub Target : Part → List Site → Site → Type 0
Target a vars x = Memᴰ x vars × Memᴰ x a.changes

-- what a guard of an ALT at w has beside its condition: what it inputs, if it waits for input; its time, with the 6 words of an ALT that
-- has a time, and room for the values that time and condition store together
abbrev pub FineInput : Part → (vars chans : List Site) (w : ℕ) → Guard → Type 0
FineInput a vars chans w (input_guard e c x) = Target a vars x × Memᴰ c chans × Memᴰ c a.inputs
FineInput a vars chans w (skip_guard e) = Unit {0}
FineInput a vars chans w (time_guard e t) =
    FineExpr vars t × FineExpr a.reads t × (a.bottom + 6 ≤ w) × (a.bottom + lowered (both_hold t e) guard_room ≤ w)

-- the words of declared names
abbrev pub Words : (Site → ℕ) → (p n w : ℕ) → Type 0
Words word p n w = (k : ℕ) → k < n → word (declared p k) ≡ w + k

-- a statement of a part, where these variables and channels are in scope, laid out at w
module _ (word : Site → ℕ) where
  abbrev mutual
    pub Fine : Part → (vars chans : List Site) (w : ℕ) → Stmt → Type 0
    Fine a vars chans w SKIP = Unit {0}
    Fine a vars chans w STOP = a.bottom + 2 ≤ w
    Fine a vars chans w (assign x e) = Target a vars x × FineWhole a vars w 0 e
    Fine a vars chans w (input c x) = (a.bottom + 3 ≤ w) × Target a vars x × Memᴰ c chans × Memᴰ c a.inputs
    Fine a vars chans w (output c e) = (a.bottom + 4 ≤ w) × FineWhole a vars w 0 e × Memᴰ c chans × Memᴰ c a.outputs
    Fine a vars chans w (VAR p n s) =
        (1 ≤ n)
        × (a.bottom + n + 2 ≤ w)
        × Words word p n (w - n)
        × Within (names p n) a.changes
        × Fine a (names p n ++ vars) chans (w - n) s
    Fine a vars chans w (CHAN p n s) =
        (1 ≤ n) × (a.bottom + n + 2 ≤ w) × Words word p n (w - n) × Fine a vars (names p n ++ chans) (w - n) s
    Fine a vars chans w (SEQ ss) = FineAll a vars chans w ss
    Fine a vars chans w (PAR p ss) = (a.bottom + 2 + sum_need ss ≤ w) × FineBranches a vars chans (w - 2) 0 ss
    Fine a vars chans w (IF ps) = (a.bottom + 2 ≤ w) × FinePairs a vars chans w ps
    Fine a vars chans w (WHILE e s) = (a.bottom + 2 ≤ w) × FineWhole a vars w 0 e × Fine a vars chans w s
    Fine a vars chans w (ALT gs) = (a.bottom + 4 ≤ w) × FineGuards a vars chans w gs
    Fine a vars chans w (TIME x) = Target a vars x
    Fine a vars chans w (WAIT e) = (a.bottom + 5 ≤ w) × FineWhole a vars w 0 e

    pub FineAll : Part → (vars chans : List Site) (w : ℕ) → Stmts → Type 0
    FineAll a vars chans w no_stmt = Unit {0}
    FineAll a vars chans w (stmt s ss) = Fine a vars chans w s × FineAll a vars chans w ss

    -- the branches of a PAR whose workspace is w, from the one at distance d on
    pub FineBranches : Part → (vars chans : List Site) (w d : ℕ) → Stmts → Type 0
    FineBranches a vars chans w d no_stmt = Unit {0}
    FineBranches a vars chans w d (stmt s ss) =
        let b = part_of vars chans (w - d) (joins d) s in
        Inside b a × Fine b vars chans (w - d) s × Beside b vars chans w (d + need s) ss × FineBranches a vars chans w (d + need s) ss

    -- a branch is apart from all later ones
    pub Beside : Part → (vars chans : List Site) (w d : ℕ) → Stmts → Type 0
    Beside b vars chans w d no_stmt = Unit {0}
    Beside b vars chans w d (stmt s ss) = Apart b (part_of vars chans (w - d) (joins d) s) × Beside b vars chans w (d + need s) ss

    pub FinePairs : Part → (vars chans : List Site) (w : ℕ) → Pairs → Type 0
    FinePairs a vars chans w no_pair = Unit {0}
    FinePairs a vars chans w (pair e s ps) = FineWhole a vars w 0 e × Fine a vars chans w s × FinePairs a vars chans w ps

    pub FineGuards : Part → (vars chans : List Site) (w : ℕ) → Guards → Type 0
    FineGuards a vars chans w no_guard = Unit {0}
    FineGuards a vars chans w (guard g s gs) =
        FineWhole a vars w guard_room (condition g) × FineInput a vars chans w g × Fine a vars chans w s × FineGuards a vars chans w gs
