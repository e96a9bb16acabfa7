-- Where names stand in memory: AJWs and PAR distances place them (01, "Workspace and code").
use Rattle.std.specs.Prelude.{ℕ, ◌+◌, ◌-◌, true, false, List, [], ◌∷◌, ◌++◌, eqb}
use Rattle.model.specs.Syntax.{Site, input_of, output_of, declared, Stmt, SKIP, STOP, assign, input, output, VAR, CHAN, SEQ, PAR, IF}
use Rattle.model.specs.Syntax.{WHILE, ALT, TIME, WAIT, Stmts, no_stmt, stmt, Pairs, no_pair, pair, Guards, no_guard, guard, Program}
use Rattle.model.specs.Counts.{need}

-- a VAR or CHAN, by its place, and the W of its body
pub record Laid : Type 0 where
  pub place : ℕ
  pub workspace : ℕ

-- every VAR and CHAN of a statement that runs at w, in table order
unfoldable mutual
  pub layout : (w : ℕ) → Stmt → List Laid
  layout w SKIP = []
  layout w STOP = []
  layout w (assign x e) = []
  layout w (input c x) = []
  layout w (output c e) = []
  layout w (VAR p n s) = record { place = p; workspace = w - n } ∷ layout (w - n) s
  layout w (CHAN p n s) = record { place = p; workspace = w - n } ∷ layout (w - n) s
  layout w (SEQ ss) = layout_all w ss
  layout w (PAR p ss) = layout_branches (w - 2) ss
  layout w (IF ps) = layout_pairs w ps
  layout w (WHILE e s) = layout w s
  layout w (ALT gs) = layout_guards w gs
  layout w (TIME x) = []
  layout w (WAIT e) = []

  pub layout_all : (w : ℕ) → Stmts → List Laid
  layout_all w no_stmt = []
  layout_all w (stmt s ss) = layout w s ++ layout_all w ss

  -- 01: branch i of a PAR runs at distance d below, the sum of the needs of earlier branches
  pub layout_branches : (w : ℕ) → Stmts → List Laid
  layout_branches w no_stmt = []
  layout_branches w (stmt s ss) = layout w s ++ layout_branches (w - need s) ss

  pub layout_pairs : (w : ℕ) → Pairs → List Laid
  layout_pairs w no_pair = []
  layout_pairs w (pair e s ps) = layout w s ++ layout_pairs w ps

  pub layout_guards : (w : ℕ) → Guards → List Laid
  layout_guards w no_guard = []
  layout_guards w (guard g s gs) = layout w s ++ layout_guards w gs

-- the W of the declaration at a place
unfoldable pub workspace_of : ℕ → List Laid → ℕ
workspace_of p [] = 0
workspace_of p (l ∷ ls) = let rest = workspace_of p ls in elim (eqb l.place p) [ true ↦ l.workspace | false ↦ rest ]

-- 01: the program starts at W = its need
abbrev pub base : Program → ℕ
base p = need p.body

-- the word of each name: outside channel k is word W + k; the j-th name of a declaration is word j of its body's W
unfoldable pub word_of : Program → Site → ℕ
word_of p (input_of k) = base p + k
word_of p (output_of k) = base p + p.inputs + k
word_of p (declared place j) = workspace_of place (layout (base p) p.body) + j
