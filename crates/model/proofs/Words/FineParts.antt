-- Every accepted program is fine: its body is a part of its own, and the branches of its PARs are parts that are apart.
use Prim.Native.Nat.{ℕ, zero, suc, ◌+◌, ◌-◌, ◌≤◌}
use native.Mathlib.Omega.{arith}
use mathlib.Core.Path.{◌≡◌, refl, ap, ◌∙◌}
use mathlib.Core.Logic.{inr, ⊎_elim}
use mathlib.Core.Bool.{false}
use mathlib.Core.List.Memᴰ
use mathlib.Core.List.{List, [], ◌++◌, Memᴰ}
use mathlib.Core.Option.{none}
use Rattle.model.specs.Syntax.{Site, input_of, output_of, declared, Expr, constant, variable, NOT, binary, Stmt, SKIP, STOP, assign}
use Rattle.model.specs.Syntax.{input, output, VAR, CHAN, SEQ, PAR, IF, WHILE, ALT, Stmts, no_stmt, stmt, Pairs, no_pair, pair, Guard}
use Rattle.model.specs.Syntax.{input_guard, skip_guard, time_guard, condition, Guards, no_guard, guard, Program, TIME, WAIT}
use Rattle.model.specs.Reader.{Scope, can_input, can_output, names, numbered, with_variables, with_channels, program}
use Rattle.model.specs.Usage.{Usage, ◌⊕◌, reads, reading, usage, usage_all, usage_pairs, guard_usage, usage_guards, clash, clashes_later}
use Rattle.model.specs.Usage.{any_clash, first_clash, first_clash_all, first_clash_pairs, first_clash_guards}
use Rattle.model.specs.Counts.{order, temporaries, both_hold, guard_words, guard_asks, need, most_need, sum_need, pair_need, guard_need}
use Rattle.model.specs.Layout.{base, word_of, workspace_of, layout}
use Rattle.model.specs.Accept.{accept}
use Rattle.model.proofs.Cases.{never}
use Rattle.model.proofs.Tables.WellFormed.{WellExpr, Well, WellAll, WellPairs, WellGuard, WellGuards, WellProgram, outermost, Placed}
use Rattle.model.proofs.Tables.WellFormed.{PlacedAll, PlacedPairs, PlacedGuards, Laid, LaidAll, LaidBranches, LaidPairs, LaidGuards}
use Rattle.model.proofs.Tables.Needs.{right-held}
use Rattle.model.proofs.Tables.Readers.{read-well}
use Rattle.model.proofs.Tables.Accepts.{Passed, accept-reads, accept-passed, or_else-none, clash-par}
use Rattle.model.proofs.Coding.Layouts.{program-laid}
use Rattle.model.proofs.Words.Values.{FineExpr}
use Rattle.model.proofs.Words.Parts.{Part, Ending, the_end, joins, declares, declares_all, declares_pairs, declares_guards, part_of}
use Rattle.model.proofs.Words.Parts.{Disjoint, need-two, lowered, guard_room, Apart, Within, FineWhole, Fine, FineAll, FineBranches}
use Rattle.model.proofs.Words.Parts.{Beside, FineInput, FinePairs, FineGuards}
use Rattle.model.proofs.Words.Uses.{Between, between-wider, between-apart, names-between, placed-le, declares-from, uses-from}
use Rattle.model.proofs.Words.Uses.{neither, clash-disjoint}

-- a part may do what a usage says, and change the names that are declared
pub record Covers (a : Part) (u : Usage) (ds : List Site) : Type 0 where
  pub reads : Within u.uses a.reads
  pub changes : Within u.changes a.changes
  pub declares : Within ds a.changes
  pub inputs : Within u.inputs a.inputs
  pub outputs : Within u.outputs a.outputs

module _ {a : Part} (u v : Usage) where
  covers-first : (ds es : List Site) → Covers a (u ⊕ v) (ds ++ es) → Covers a u ds
  covers-first ds es c =
      record {
        reads = λ x m. c.reads x (Memᴰ.append_left _ m);
        changes = λ x m. c.changes x (Memᴰ.append_left _ m);
        declares = λ x m. c.declares x (Memᴰ.append_left _ m);
        inputs = λ x m. c.inputs x (Memᴰ.append_left _ m);
        outputs = λ x m. c.outputs x (Memᴰ.append_left _ m);
      }

  -- what comes after a part without declarations
  covers-after : (ds : List Site) → Covers a (u ⊕ v) ds → Covers a v ds
  covers-after ds c =
      record {
        reads = λ x m. c.reads x (Memᴰ.append_right u.uses m);
        changes = λ x m. c.changes x (Memᴰ.append_right u.changes m);
        declares = c.declares;
        inputs = λ x m. c.inputs x (Memᴰ.append_right u.inputs m);
        outputs = λ x m. c.outputs x (Memᴰ.append_right u.outputs m);
      }

  -- and what stands before all declarations
  covers-before : (ds : List Site) → Covers a (u ⊕ v) ds → Covers a u []
  covers-before ds c =
      record {
        reads = λ x m. c.reads x (Memᴰ.append_left _ m);
        changes = λ x m. c.changes x (Memᴰ.append_left _ m);
        declares = λ x m. absurd (Memᴰ.not-nil m);
        inputs = λ x m. c.inputs x (Memᴰ.append_left _ m);
        outputs = λ x m. c.outputs x (Memᴰ.append_left _ m);
      }

covers-declared : {a : Part} (u : Usage) (ds es : List Site) → Covers a u (ds ++ es) → Covers a u es
covers-declared u ds es c =
    record {
      reads = c.reads;
      changes = c.changes;
      declares = λ x m. c.declares x (Memᴰ.append_right ds m);
      inputs = c.inputs;
      outputs = c.outputs;
    }

covers-second : {a : Part} (u v : Usage) (ds es : List Site) → Covers a (u ⊕ v) (ds ++ es) → Covers a v es
covers-second u v ds es c = covers-declared v ds es (covers-after u v (ds ++ es) c)

-- a part of its own
covers-own : (vars chans : List Site) (w : ℕ) (e : Ending) (s : Stmt) → Covers (part_of vars chans w e s) (usage s) (declares s)
covers-own vars chans w e s =
    record {
      reads = λ x m. m;
      changes = λ x m. Memᴰ.append_left _ m;
      declares = λ x m. Memᴰ.append_right (usage s).changes m;
      inputs = λ x m. m;
      outputs = λ x m. m;
    }

-- names in scope are among these variables and channels, and the variables were declared before a place
pub record Scoped (sc : Scope) (vars chans : List Site) (lo : ℕ) : Type 0 where
  pub variables : Within sc.variables vars
  pub channels : Within sc.channels chans
  pub before : (x : Site) → Memᴰ x sc.variables → Between 0 lo x

scoped-later : {sc : Scope} {vars chans : List Site} {lo mid : ℕ} → lo ≤ mid → Scoped sc vars chans lo → Scoped sc vars chans mid
scoped-later h k =
    record { variables = k.variables; channels = k.channels; before = λ x m. between-wider (omega arith) h (k.before x m) }

-- names that come last in scope come first in these lists
turned_round : (l m n : List Site) → Within l m → Within (l ++ n) (n ++ m)
turned_round l m n f x t =
    ⊎_elim (λ a. Memᴰ.append_right n (f x a)) (λ a. Memᴰ.append_left m a) (Memᴰ.append_cases l t)

scoped-var : (sc : Scope) (vars chans : List Site) (lo p n : ℕ) → lo ≤ p → Scoped sc vars chans lo
    → Scoped (with_variables p n sc) (names p n ++ vars) chans (suc p)
scoped-var sc vars chans lo p n h k =
    record {
      variables = turned_round sc.variables vars (names p n) k.variables;
      channels = k.channels;
      before =
          λ x m.
          ⊎_elim (λ t. between-wider (omega arith) (omega arith) (k.before x t))
          (λ t. names-between p n (omega arith) (omega arith) x t)
          (Memᴰ.append_cases sc.variables m);
    }

scoped-chan : (sc : Scope) (vars chans : List Site) (lo p n : ℕ) → lo ≤ p → Scoped sc vars chans lo
    → Scoped (with_channels p n sc) vars (names p n ++ chans) (suc p)
scoped-chan sc vars chans lo p n h k =
    record {
      variables = k.variables;
      channels = turned_round sc.channels chans (names p n) k.channels;
      before = λ x m. between-wider (omega arith) (omega arith) (k.before x m);
    }

-- an expression whose variables are in scope and read
scoped-expr : (sc : Scope) (vars : List Site) → Within sc.variables vars → (e : Expr) → WellExpr sc e → FineExpr vars e
scoped-expr sc vars sub (constant n) h = h
scoped-expr sc vars sub (variable x) h = sub x h
scoped-expr sc vars sub (NOT e) h = scoped-expr sc vars sub e h
scoped-expr sc vars sub (binary op l r) h = (scoped-expr sc vars sub l h.0, scoped-expr sc vars sub r h.1)

read-expr : (sc : Scope) (live : List Site) (e : Expr) → WellExpr sc e → Within (reads e) live → FineExpr live e
unfolding reads
read-expr sc live (constant n) h f = h
read-expr sc live (variable x) h f = f x (Memᴰ.head refl)
read-expr sc live (NOT e) h f = read-expr sc live e h f
read-expr sc live (binary op l r) h f = (
  read-expr sc live l h.0 (λ x m. f x (Memᴰ.append_left (reads r) m)),
  read-expr sc live r h.1 (λ x m. f x (Memᴰ.append_right (reads l) m)),
)

-- what a statement needs leaves room for its stored values, and an ALT's for those of its guards
lowered-few : (t : ℕ) → lowered t 0 ≤ t
unfolding lowered
lowered-few zero = omega arith
lowered-few (suc t) = omega arith

guards-few : (t : ℕ) → lowered t guard_room ≤ guard_words t
unfolding lowered guard_words
guards-few zero = omega arith
guards-few (suc t) = omega arith

-- fewer stored values lower less
lowered-less : (s t more : ℕ) → s ≤ t → lowered s more ≤ lowered t more
unfolding lowered
lowered-less zero t more h = omega arith
lowered-less (suc s) zero more h = absurd (omega arith)
lowered-less (suc s) (suc t) more h = omega arith

fine-whole : (a : Part) (sc : Scope) (vars : List Site) → Within sc.variables vars → (e : Expr) → WellExpr sc e
    → Within (reads e) a.reads → (w more : ℕ) → a.bottom + lowered (temporaries e) more ≤ w → FineWhole a vars w more e
fine-whole a sc vars sub e h f w more r = (scoped-expr sc vars sub e h, read-expr sc a.reads e h f, r)

clash-stmt : (s : Stmt) (ss : Stmts) → first_clash_all (stmt s ss) ≡ none → (first_clash s ≡ none) × (first_clash_all ss ≡ none)
unfolding first_clash_all
clash-stmt s ss h = or_else-none (first_clash s) (first_clash_all ss) h

clash-pair : (e : Expr) (s : Stmt) (ps : Pairs) → first_clash_pairs (pair e s ps) ≡ none
    → (first_clash s ≡ none) × (first_clash_pairs ps ≡ none)
unfolding first_clash_pairs
clash-pair e s ps h = or_else-none (first_clash s) (first_clash_pairs ps) h

clash-guard : (g : Guard) (s : Stmt) (gs : Guards) → first_clash_guards (guard g s gs) ≡ none
    → (first_clash s ≡ none) × (first_clash_guards gs ≡ none)
unfolding first_clash_guards
clash-guard g s gs h = or_else-none (first_clash s) (first_clash_guards gs) h

-- of two statements of one scope that stand one after the other, none declares what the other uses
module _ (sc : Scope) (lo : ℕ) (before : (x : Site) → Memᴰ x sc.variables → Between 0 lo x) where
  earlier-declares : (s t : Stmt) (mid lo₂ hi : ℕ) → Placed lo mid s → mid ≤ lo₂ → Well sc t → Placed lo₂ hi t
      → Disjoint (declares s) (usage t).uses
  earlier-declares s t mid lo₂ hi hs le wt ht x m u =
      ⊎_elim (λ k. Memᴰ.not-nil k)
      (λ b. ⊎_elim (λ k. between-apart (omega arith) (before x k) b) (λ k. between-apart le b k) ((uses-from t sc wt ht).origin x u))
      ((declares-from s hs).origin x m)

  later-declares : (s t : Stmt) (mid lo₂ hi : ℕ) → Well sc s → Placed lo mid s → mid ≤ lo₂ → Placed lo₂ hi t
      → Disjoint (declares t) (usage s).uses
  later-declares s t mid lo₂ hi ws hs le ht x m u =
      let rising = placed-le s hs in
      ⊎_elim (λ k. Memᴰ.not-nil k)
      (λ b. ⊎_elim (λ k. between-apart (omega arith) (before x k) b) (λ k. between-apart le k b) ((uses-from s sc ws hs).origin x u))
      ((declares-from t ht).origin x m)

  -- two branches of a PAR
  branches-apart : (s t : Stmt) (mid lo₂ hi : ℕ) → Well sc s → Placed lo mid s → mid ≤ lo₂ → Well sc t → Placed lo₂ hi t
      → clash (usage s) (usage t) ≡ false → (vars chans : List Site) (w d e : ℕ) → d + need s ≤ e
      → Apart (part_of vars chans (w - d) (joins d) s) (part_of vars chans (w - e) (joins e) t)
  branches-apart s t mid lo₂ hi ws hs le wt ht c vars chans w d e far =
      let apart = clash-disjoint (usage s) (usage t) c in
      record {
        words = inr (omega arith);
        left =
            λ x m u.
            ⊎_elim (λ k. apart.0 x k u) (λ k. earlier-declares s t mid lo₂ hi hs le wt ht x k u)
            (Memᴰ.append_cases (usage s).changes m);
        right =
            λ x m u.
            ⊎_elim (λ k. apart.1 x k u) (λ k. later-declares s t mid lo₂ hi ws hs le ht x k u)
            (Memᴰ.append_cases (usage t).changes m);
        inputs = apart.2;
        outputs = apart.3;
      }

-- a guard has the room that it asks for, what it inputs is the part's, and its time is fine as its condition
fine-guard : (a : Part) (sc : Scope) (vars chans : List Site) (lo : ℕ) → Scoped sc vars chans lo → (g : Guard) → WellGuard sc g
    → Covers a (guard_usage g) [] → (w : ℕ) → a.bottom + guard_asks g ≤ w
    → FineWhole a vars w guard_room (condition g) × FineInput a vars chans w g
unfolding guard_asks
fine-guard a sc vars chans lo k (input_guard e ch x) h c w room = (
  fine-whole a sc vars k.variables e h.0 (λ y m. c.reads y (Memᴰ.append_left _ m)) w guard_room
      (omega (arith, guards-few (temporaries e))),
  ((k.variables x h.2, c.changes x (Memᴰ.head refl)), k.channels ch h.1.0, c.inputs ch (Memᴰ.head refl)),
)
fine-guard a sc vars chans lo k (skip_guard e) h c w room = (
  fine-whole a sc vars k.variables e h c.reads w guard_room (omega (arith, guards-few (temporaries e))),
  tt,
)
fine-guard a sc vars chans lo k (time_guard e t) h c w room =
    let held = both_hold t e in
    let enough : a.bottom + lowered held guard_room ≤ w = omega (arith, guards-few held) in (
      fine-whole a sc vars k.variables e h.0 (λ y m. c.reads y (Memᴰ.append_left _ m)) w guard_room
          (omega (arith, lowered-less (temporaries e) held guard_room (right-held (order t e) (temporaries t) (temporaries e)))),
      (
        scoped-expr sc vars k.variables t h.1,
        read-expr sc a.reads t h.1 (λ y m. c.reads y (Memᴰ.append_right (reads e) m)),
        omega arith,
        enough,
      ),
    )

module _ (word : Site → ℕ) where
  -- a branch and all later ones
  beside : (ss : Stmts) (sc : Scope) (lo : ℕ) → ((x : Site) → Memᴰ x sc.variables → Between 0 lo x)
      → (s : Stmt) (mid lo₂ hi : ℕ) → Well sc s → Placed lo mid s → mid ≤ lo₂ → WellAll sc ss → PlacedAll lo₂ hi ss
      → clashes_later (usage s) ss ≡ false → (vars chans : List Site) (w d e : ℕ) → d + need s ≤ e
      → Beside word (part_of vars chans (w - d) (joins d) s) vars chans w e ss
  unfolding clashes_later
  beside no_stmt sc lo before s mid lo₂ hi ws hs le wss hss c vars chans w d e far = tt
  beside (stmt t ss) sc lo before s mid lo₂ hi ws hs le wss hss c vars chans w d e far =
      let (no-clash, later) = neither (clash (usage s) (usage t)) (clashes_later (usage s) ss) c in
      let rising = placed-le t hss.1 in (
        branches-apart sc lo before s t mid lo₂ hss.0 ws hs le wss.0 hss.1 no-clash vars chans w d e far,
        beside ss sc lo before s mid hss.0 hi ws hs (omega arith) wss.1 hss.2 later vars chans w d (e + need t) (omega arith),
      )

  module _ (at : ℕ → ℕ) (named : (p k : ℕ) → word (declared p k) ≡ at p + k) where
    mutual
      unfolding need usage declares first_clash any_clash

      -- a statement of a part is fine, where the part may do what it does and has the words that it needs
      pub fine : (s : Stmt) (a : Part) (sc : Scope) (vars chans : List Site) (lo hi w : ℕ) → Scoped sc vars chans lo
          → Well sc s → Placed lo hi s → Laid at w s → Covers a (usage s) (declares s)
          → first_clash s ≡ none → a.bottom + need s ≤ w → w ≤ a.top
          → Fine word a vars chans w s
      fine SKIP a sc vars chans lo hi w k h pl l c f n t = tt
      fine STOP a sc vars chans lo hi w k h pl l c f n t = n
      fine (assign x e) a sc vars chans lo hi w k h pl l c f n t = (
        (k.variables x h.0, c.changes x (Memᴰ.head refl)),
        fine-whole a sc vars k.variables e h.1 (λ y m. c.reads y (Memᴰ.tail m)) w 0
            (omega (arith, lowered-few (temporaries e))),
      )
      fine (input ch x) a sc vars chans lo hi w k h pl l c f n t = (
        n,
        (k.variables x h.1, c.changes x (Memᴰ.head refl)),
        k.channels ch h.0.0,
        c.inputs ch (Memᴰ.head refl),
      )
      fine (output ch e) a sc vars chans lo hi w k h pl l c f n t = (
        omega arith,
        fine-whole a sc vars k.variables e h.1 c.reads w 0 (omega (arith, lowered-few (temporaries e))),
        k.channels ch h.0.0,
        c.outputs ch (Memᴰ.head refl),
      )
      fine (VAR p m s) a sc vars chans lo hi w k h pl l c f n t = (
        h.0,
        omega (arith, need-two s),
        (λ j b. named p j ∙ ap (λ v. v + j) l.0),
        (λ x i. c.declares x (Memᴰ.append_left (declares s) i)),
        fine s a (with_variables p m sc) (names p m ++ vars) chans (suc p) hi (w - m) (scoped-var sc vars chans lo p m pl.0 k)
            h.2 pl.1 l.1 (covers-declared (usage s) (names p m) (declares s) c) f (omega arith) (omega arith),
      )
      fine (CHAN p m s) a sc vars chans lo hi w k h pl l c f n t = (
        h.0,
        omega (arith, need-two s),
        (λ j b. named p j ∙ ap (λ v. v + j) l.0),
        fine s a (with_channels p m sc) vars (names p m ++ chans) (suc p) hi (w - m) (scoped-chan sc vars chans lo p m pl.0 k)
            h.2 pl.1 l.1 c f (omega arith) (omega arith),
      )
      fine (SEQ ss) a sc vars chans lo hi w k h pl l c f n t = fine-all ss a sc vars chans lo hi w k h pl l c f (omega arith) t
      fine (PAR p ss) a sc vars chans lo hi w k h pl l c f n t =
          let (apart, inner) = clash-par p ss f in (
            omega arith,
            fine-branches ss a sc vars chans lo hi (w - 2) 0 (w - 2) (omega arith) k h.1 pl l c apart inner
                (omega arith) (omega arith),
          )
      fine (IF ps) a sc vars chans lo hi w k h pl l c f n t = (
        omega arith,
        fine-pairs ps a sc vars chans lo hi w k h pl l c f (omega arith) t,
      )
      fine (WHILE e s) a sc vars chans lo hi w k h pl l c f n t = (
        omega arith,
        fine-whole a sc vars k.variables e h.0 (covers-before (reading e) (usage s) (declares s) c).reads
            w 0 (omega (arith, lowered-few (temporaries e))),
        fine s a sc vars chans lo hi w k h.1 pl l (covers-after (reading e) (usage s) (declares s) c) f (omega arith) t,
      )
      fine (ALT gs) a sc vars chans lo hi w k h pl l c f n t = (
        omega arith,
        fine-guards gs a sc vars chans lo hi w k h pl l c f (omega arith) t,
      )
      fine (TIME x) a sc vars chans lo hi w k h pl l c f n t = (k.variables x h, c.changes x (Memᴰ.head refl))
      fine (WAIT e) a sc vars chans lo hi w k h pl l c f n t = (
        omega arith,
        fine-whole a sc vars k.variables e h c.reads w 0 (omega (arith, lowered-few (temporaries e))),
      )

      fine-all : (ss : Stmts) (a : Part) (sc : Scope) (vars chans : List Site) (lo hi w : ℕ) → Scoped sc vars chans lo
          → WellAll sc ss → PlacedAll lo hi ss → LaidAll at w ss → Covers a (usage_all ss) (declares_all ss)
          → first_clash_all ss ≡ none → a.bottom + most_need ss ≤ w → w ≤ a.top
          → FineAll word a vars chans w ss
      fine-all no_stmt a sc vars chans lo hi w k h pl l c f n t = tt
      fine-all (stmt s ss) a sc vars chans lo hi w k h pl l c f n t =
          let fs = clash-stmt s ss f in (
            fine s a sc vars chans lo pl.0 w k h.0 pl.1 l.0
                (covers-first (usage s) (usage_all ss) (declares s) (declares_all ss) c) fs.0 (omega arith) t,
            fine-all ss a sc vars chans pl.0 hi w (scoped-later (placed-le s pl.1) k) h.1 pl.2 l.1
                (covers-second (usage s) (usage_all ss) (declares s) (declares_all ss) c) fs.1 (omega arith) t,
          )

      -- the branches of a PAR, from the one at distance d on, which is at v
      fine-branches : (ss : Stmts) (a : Part) (sc : Scope) (vars chans : List Site) (lo hi w d v : ℕ) → v ≡ w - d
          → Scoped sc vars chans lo
          → WellAll sc ss → PlacedAll lo hi ss → LaidBranches at v ss → Covers a (usage_all ss) (declares_all ss)
          → any_clash ss ≡ false → first_clash_all ss ≡ none → a.bottom + d + sum_need ss ≤ w → w ≤ a.top
          → FineBranches word a vars chans w d ss
      fine-branches no_stmt a sc vars chans lo hi w d v e k h pl l c g f n t = tt
      fine-branches (stmt s ss) a sc vars chans lo hi w d v e k h pl l c g f n t =
          let fs = clash-stmt s ss f in
          let (later, rest) = neither (clashes_later (usage s) ss) (any_clash ss) g in
          let first = covers-first (usage s) (usage_all ss) (declares s) (declares_all ss) c in
          let laid : Laid at (w - d) s = rw e at l.0 in (
            record {
              above = omega arith;
              below = omega arith;
              reads = first.reads;
              changes = λ x m. ⊎_elim (first.changes x) (first.declares x) (Memᴰ.append_cases (usage s).changes m);
              inputs = first.inputs;
              outputs = first.outputs;
            },
            fine s (part_of vars chans (w - d) (joins d) s) sc vars chans lo pl.0 (w - d) k h.0 pl.1 laid
                (covers-own vars chans (w - d) (joins d) s) fs.0 (omega arith) (omega arith),
            beside ss sc lo k.before s pl.0 pl.0 hi h.0 pl.1 (omega arith) h.1 pl.2 later vars chans w d (d + need s)
                (omega arith),
            fine-branches ss a sc vars chans pl.0 hi w (d + need s) (v - need s) (omega arith) (scoped-later (placed-le s pl.1) k)
                h.1 pl.2 l.1 (covers-second (usage s) (usage_all ss) (declares s) (declares_all ss) c) rest fs.1
                (omega arith) t,
          )

      fine-pairs : (ps : Pairs) (a : Part) (sc : Scope) (vars chans : List Site) (lo hi w : ℕ) → Scoped sc vars chans lo
          → WellPairs sc ps → PlacedPairs lo hi ps → LaidPairs at w ps → Covers a (usage_pairs ps) (declares_pairs ps)
          → first_clash_pairs ps ≡ none → a.bottom + pair_need ps ≤ w → w ≤ a.top
          → FinePairs word a vars chans w ps
      fine-pairs no_pair a sc vars chans lo hi w k h pl l c f n t = tt
      fine-pairs (pair e s ps) a sc vars chans lo hi w k h pl l c f n t =
          let fs = clash-pair e s ps f in
          let after = covers-after (reading e) (usage s ⊕ usage_pairs ps) (declares s ++ declares_pairs ps) c in (
            fine-whole a sc vars k.variables e h.0
                (covers-before (reading e) (usage s ⊕ usage_pairs ps) (declares s ++ declares_pairs ps) c).reads
                w 0 (omega (arith, lowered-few (temporaries e))),
            fine s a sc vars chans lo pl.0 w k h.1 pl.1 l.0
                (covers-first (usage s) (usage_pairs ps) (declares s) (declares_pairs ps) after) fs.0 (omega arith) t,
            fine-pairs ps a sc vars chans pl.0 hi w (scoped-later (placed-le s pl.1) k) h.2 pl.2 l.1
                (covers-second (usage s) (usage_pairs ps) (declares s) (declares_pairs ps) after) fs.1 (omega arith) t,
          )

      fine-guards : (gs : Guards) (a : Part) (sc : Scope) (vars chans : List Site) (lo hi w : ℕ) → Scoped sc vars chans lo
          → WellGuards sc gs → PlacedGuards lo hi gs → LaidGuards at w gs → Covers a (usage_guards gs) (declares_guards gs)
          → first_clash_guards gs ≡ none → a.bottom + guard_need gs ≤ w → w ≤ a.top
          → FineGuards word a vars chans w gs
      fine-guards no_guard a sc vars chans lo hi w k h pl l c f n t = tt
      fine-guards (guard g s gs) a sc vars chans lo hi w k h pl l c f n t =
          let fs = clash-guard g s gs f in
          let all = declares s ++ declares_guards gs in
          let both = usage s ⊕ usage_guards gs in
          let after = covers-after (guard_usage g) both all c in
          let (e, i) = fine-guard a sc vars chans lo k g h.0 (covers-before (guard_usage g) both all c) w (omega arith) in (
            e,
            i,
            fine s a sc vars chans lo pl.0 w k h.1 pl.1 l.0
                (covers-first (usage s) (usage_guards gs) (declares s) (declares_guards gs) after) fs.0 (omega arith) t,
            fine-guards gs a sc vars chans pl.0 hi w (scoped-later (placed-le s pl.1) k) h.2 pl.2 l.1
                (covers-second (usage s) (usage_guards gs) (declares s) (declares_guards gs) after) fs.1 (omega arith) t,
          )

-- the outside channels
abbrev pub outside_names : Program → List Site
outside_names p = numbered input_of p.inputs ++ numbered output_of p.outputs

-- the whole program as a part
abbrev pub whole_part : Program → Part
whole_part p = part_of [] (outside_names p) (base p) the_end p.body

-- a program that was read and passed every check
pub program-fine : (p : Program) (end : ℕ) → WellProgram p → Placed 0 end p.body → Passed p
    → Fine (word_of p) (whole_part p) [] (outside_names p) (base p) p.body
unfolding word_of
program-fine p end well placed passed =
    fine (word_of p) (λ q. workspace_of q (layout (base p) p.body)) (λ q k. refl) p.body
    (whole_part p) (outermost p) [] (outermost p).channels 0 end (base p)
    (record { variables = λ x m. m; channels = λ x m. m; before = λ x m. absurd (Memᴰ.not-nil m) })
    well.2 placed (program-laid 0 end (base p) p.body placed) (covers-own [] (outside_names p) (base p) the_end p.body)
    passed.0 (omega arith) (omega arith)

-- every accepted table
pub accepted-fine : (table : List ℕ) (p : Program) → accept table ≡ program p
    → Fine (word_of p) (whole_part p) [] (outside_names p) (base p) p.body
accepted-fine table p h =
    let (well, places) = read-well table p (accept-reads table p h) in
    program-fine p _ well places (accept-passed table p h)

-- no statement outputs to an outside input, or inputs from an outside output
abbrev OneWay : ℕ → List Site → List Site → Type 0
OneWay l outs ins = (Memᴰ (input_of l) outs → ⊥) × (Memᴰ (output_of l) ins → ⊥)

no_way : {l : ℕ} → OneWay l [] []
no_way = ((λ m. Memᴰ.not-nil m), (λ m. Memᴰ.not-nil m))

both_ways : {l : ℕ} (outs ins : List Site) {outs' ins' : List Site} → OneWay l outs ins → OneWay l outs' ins'
    → OneWay l (outs ++ outs') (ins ++ ins')
both_ways outs ins h k = (
  (λ m. ⊎_elim h.0 k.0 (Memᴰ.append_cases outs m)),
  (λ m. ⊎_elim h.1 k.1 (Memᴰ.append_cases ins m)),
)

one-way-guard : (g : Guard) (sc : Scope) (l : ℕ) → WellGuard sc g → OneWay l (guard_usage g).outputs (guard_usage g).inputs
one-way-guard (input_guard e c x) sc l h = (no_way.0, (λ m. never (cc (ap can_input (Memᴰ.eq_of_singleton m), h.1.1))))
one-way-guard (skip_guard e) sc l h = no_way
one-way-guard (time_guard e t) sc l h = no_way

mutual
  unfolding usage usage_all usage_pairs usage_guards

  one_way : (s : Stmt) (sc : Scope) (l : ℕ) → Well sc s → OneWay l (usage s).outputs (usage s).inputs
  one_way SKIP sc l h = no_way
  one_way STOP sc l h = no_way
  one_way (assign x e) sc l h = no_way
  one_way (input c x) sc l h = (no_way.0, (λ m. never (cc (ap can_input (Memᴰ.eq_of_singleton m), h.0.1))))
  one_way (output c e) sc l h = ((λ m. never (cc (ap can_output (Memᴰ.eq_of_singleton m), h.0.1))), no_way.1)
  one_way (VAR p n s) sc l h = one_way s (with_variables p n sc) l h.2
  one_way (CHAN p n s) sc l h = one_way s (with_channels p n sc) l h.2
  one_way (SEQ ss) sc l h = one-way-all ss sc l h
  one_way (PAR p ss) sc l h = one-way-all ss sc l h.1
  one_way (IF ps) sc l h = one-way-pairs ps sc l h
  one_way (WHILE e s) sc l h = one_way s sc l h.1
  one_way (ALT gs) sc l h = one-way-guards gs sc l h
  one_way (TIME x) sc l h = no_way
  one_way (WAIT e) sc l h = no_way

  one-way-all : (ss : Stmts) (sc : Scope) (l : ℕ) → WellAll sc ss → OneWay l (usage_all ss).outputs (usage_all ss).inputs
  one-way-all no_stmt sc l h = no_way
  one-way-all (stmt s ss) sc l h =
      both_ways (usage s).outputs (usage s).inputs (one_way s sc l h.0) (one-way-all ss sc l h.1)

  one-way-pairs : (ps : Pairs) (sc : Scope) (l : ℕ) → WellPairs sc ps → OneWay l (usage_pairs ps).outputs (usage_pairs ps).inputs
  one-way-pairs no_pair sc l h = no_way
  one-way-pairs (pair e s ps) sc l h =
      both_ways (usage s).outputs (usage s).inputs (one_way s sc l h.1) (one-way-pairs ps sc l h.2)

  one-way-guards : (gs : Guards) (sc : Scope) (l : ℕ) → WellGuards sc gs → OneWay l (usage_guards gs).outputs (usage_guards gs).inputs
  one-way-guards no_guard sc l h = no_way
  one-way-guards (guard g s gs) sc l h =
      both_ways (guard_usage g).outputs (guard_usage g).inputs (one-way-guard g sc l h.0)
      (both_ways (usage s).outputs (usage s).inputs (one_way s sc l h.1) (one-way-guards gs sc l h.2))

-- so no accepted program does
accepted-ways : (table : List ℕ) (p : Program) → accept table ≡ program p → (l : ℕ) → OneWay l (whole_part p).outputs (whole_part p).inputs
accepted-ways table p h l = one_way p.body (outermost p) l (read-well table p (accept-reads table p h)).0.2

pub accepted-one-way : (table : List ℕ) (p : Program) → accept table ≡ program p → (l : ℕ)
    → Memᴰ (input_of l) (whole_part p).outputs → ⊥
accepted-one-way table p h l = (accepted-ways table p h l).0

pub accepted-one-way-in : (table : List ℕ) (p : Program) → accept table ≡ program p → (l : ℕ)
    → Memᴰ (output_of l) (whole_part p).inputs → ⊥
accepted-one-way-in table p h l = (accepted-ways table p h l).1
