-- Which names a statement uses and declares: by the places of the table at which they are declared.
use Prim.Native.Nat.{ℕ, zero, suc, ◌≤◌, ◌<◌}
use native.Mathlib.Omega.{arith}
use mathlib.Core.Path.{◌≡◌, refl}
use mathlib.Core.Logic.{◌⊎◌, inl, inr, ⊎_elim}
use mathlib.Core.Bool.{Bool, true, false, ◌||◌}
use mathlib.Core.List.Memᴰ
use mathlib.Core.List.{List, [], ◌∷◌, ◌++◌, Memᴰ}
use Rattle.model.specs.Syntax.{Site, declared, Expr, constant, variable, NOT, binary, Stmt, SKIP, STOP, assign, input, output, VAR}
use Rattle.model.specs.Syntax.{CHAN, SEQ, PAR, IF, WHILE, ALT, Stmts, no_stmt, stmt, Pairs, no_pair, pair, Guard, input_guard, skip_guard}
use Rattle.model.specs.Syntax.{time_guard, Guards, no_guard, guard, TIME, WAIT}
use Rattle.model.specs.Reader.{Scope, names, numbered, with_variables, with_channels}
use Rattle.model.specs.Usage.{Usage, reads, usage, usage_all, usage_pairs, guard_usage, usage_guards, is_in, share, clash}
use Rattle.model.proofs.Cases.{never}
use Rattle.model.proofs.Tables.WellFormed.{WellExpr, Well, WellAll, WellPairs, WellGuard, WellGuards, Placed, PlacedAll, PlacedPairs}
use Rattle.model.proofs.Tables.WellFormed.{PlacedGuards}
use Rattle.model.proofs.Tables.Sites.{mem-is_in}
use Rattle.model.proofs.Words.Parts.{declares, declares_all, declares_pairs, declares_guards, Disjoint}

-- a name of a declaration that stands at a place from lo up to hi
pub data Between (lo hi : ℕ) : Site → Type 0 where
  between : {p k : ℕ} → lo ≤ p → p < hi → Between lo hi (declared p k)

pub between-wider : {lo mid lo₂ hi : ℕ} {x : Site} → lo₂ ≤ lo → mid ≤ hi → Between lo mid x → Between lo₂ hi x
between-wider l h (between {p} a b) = between {p = p} (omega arith) (omega arith)

-- stretches that follow each other have no name in common
pub between-apart : {lo mid lo₂ hi : ℕ} {x : Site} → mid ≤ lo₂ → Between lo mid x → Between lo₂ hi x → ⊥
between-apart l (between a b) (between c d) = absurd (omega arith)

numbered-between : (p n : ℕ) (x : Site) → Memᴰ x (names p n) → Between p (suc p) x
unfolding numbered
numbered-between p zero x m = absurd (Memᴰ.not-nil m)
numbered-between p (suc n) x m =
    ⊎_elim (numbered-between p n x)
    (λ t. let e : x ≡ declared p n = Memᴰ.eq_of_singleton t in rw e (between {p = p} (omega arith) (omega arith)))
    (Memᴰ.append_cases (numbered (declared p) n) m)

-- the names of a declaration
pub names-between : {lo hi : ℕ} (p n : ℕ) → lo ≤ p → p < hi → (x : Site) → Memᴰ x (names p n) → Between lo hi x
names-between p n l h x m = between-wider l (omega arith) (numbered-between p n x m)

-- all of a list is in scope, or declared in a stretch
pub record From (vars : List Site) (lo hi : ℕ) (l : List Site) : Type 0 where
  pub origin : (x : Site) → Memᴰ x l → Memᴰ x vars ⊎ Between lo hi x

module _ {vars : List Site} {lo hi : ℕ} where
  from-none : From vars lo hi []
  from-none = record { origin = λ x m. absurd (Memᴰ.not-nil m) }

  from_one : (y : Site) → Memᴰ y vars → From vars lo hi (y ∷ [])
  from_one y h = record { origin = λ x m. inl (Memᴰ.cast (Memᴰ.eq_of_singleton m) h) }

  from-both : (l m : List Site) → From vars lo hi l → From vars lo hi m → From vars lo hi (l ++ m)
  from-both l m f g = record { origin = λ x t. ⊎_elim (f.origin x) (g.origin x) (Memᴰ.append_cases l t) }

  from-wider : {lo₂ hi₂ : ℕ} {l : List Site} → lo ≤ lo₂ → hi₂ ≤ hi → From vars lo₂ hi₂ l → From vars lo hi l
  from-wider a b f = record { origin = λ x m. ⊎_elim inl (λ h. inr (between-wider a b h)) (f.origin x m) }

-- first one stretch, then another
from_next : {vars : List Site} {lo mid hi : ℕ} (l m : List Site) → lo ≤ mid → mid ≤ hi → From vars lo mid l → From vars mid hi m
    → From vars lo hi (l ++ m)
from_next l m a b f g = from-both l m (from-wider (omega arith) b f) (from-wider a (omega arith) g)

from-reads : (sc : Scope) {lo hi : ℕ} (e : Expr) → WellExpr sc e → From sc.variables lo hi (reads e)
unfolding reads
from-reads sc (constant n) h = from-none
from-reads sc (variable x) h = from_one x h
from-reads sc (NOT e) h = from-reads sc e h
from-reads sc (binary op l r) h = from-both (reads l) (reads r) (from-reads sc l h.0) (from-reads sc r h.1)

-- a stretch does not end before it begins
mutual
  pub placed-le : (s : Stmt) {lo hi : ℕ} → Placed lo hi s → lo ≤ hi
  placed-le SKIP h = h
  placed-le STOP h = h
  placed-le (assign x e) h = h
  placed-le (input c x) h = h
  placed-le (output c e) h = h
  placed-le (VAR p n s) h = omega (arith, h.0, placed-le s h.1)
  placed-le (CHAN p n s) h = omega (arith, h.0, placed-le s h.1)
  placed-le (SEQ ss) h = placed-le-all ss h
  placed-le (PAR p ss) h = placed-le-all ss h
  placed-le (IF ps) h = placed-le-pairs ps h
  placed-le (WHILE e s) h = placed-le s h
  placed-le (ALT gs) h = placed-le-guards gs h
  placed-le (TIME x) h = h
  placed-le (WAIT e) h = h

  placed-le-all : (ss : Stmts) {lo hi : ℕ} → PlacedAll lo hi ss → lo ≤ hi
  placed-le-all no_stmt h = h
  placed-le-all (stmt s ss) h = omega (arith, placed-le s h.1, placed-le-all ss h.2)

  placed-le-pairs : (ps : Pairs) {lo hi : ℕ} → PlacedPairs lo hi ps → lo ≤ hi
  placed-le-pairs no_pair h = h
  placed-le-pairs (pair e s ps) h = omega (arith, placed-le s h.1, placed-le-pairs ps h.2)

  placed-le-guards : (gs : Guards) {lo hi : ℕ} → PlacedGuards lo hi gs → lo ≤ hi
  placed-le-guards no_guard h = h
  placed-le-guards (guard g s gs) h = omega (arith, placed-le s h.1, placed-le-guards gs h.2)

-- the names that a statement declares are of its stretch
mutual
  unfolding declares

  pub declares-from : (s : Stmt) {lo hi : ℕ} → Placed lo hi s → From [] lo hi (declares s)
  declares-from SKIP h = from-none
  declares-from STOP h = from-none
  declares-from (assign x e) h = from-none
  declares-from (input c x) h = from-none
  declares-from (output c e) h = from-none
  declares-from (VAR p n s) h =
      let le = placed-le s h.1 in
      from-both (names p n) (declares s)
      (record { origin = λ x m. inr (names-between p n h.0 (omega arith) x m) })
      (from-wider (omega (arith, h.0)) (omega arith) (declares-from s h.1))
  declares-from (CHAN p n s) h = from-wider (omega (arith, h.0)) (omega arith) (declares-from s h.1)
  declares-from (SEQ ss) h = declares-all ss h
  declares-from (PAR p ss) h = declares-all ss h
  declares-from (IF ps) h = declares-pairs ps h
  declares-from (WHILE e s) h = declares-from s h
  declares-from (ALT gs) h = declares-guards gs h
  declares-from (TIME x) h = from-none
  declares-from (WAIT e) h = from-none

  declares-all : (ss : Stmts) {lo hi : ℕ} → PlacedAll lo hi ss → From [] lo hi (declares_all ss)
  declares-all no_stmt h = from-none
  declares-all (stmt s ss) h =
      from_next (declares s) (declares_all ss) (placed-le s h.1) (placed-le-all ss h.2)
      (declares-from s h.1) (declares-all ss h.2)

  declares-pairs : (ps : Pairs) {lo hi : ℕ} → PlacedPairs lo hi ps → From [] lo hi (declares_pairs ps)
  declares-pairs no_pair h = from-none
  declares-pairs (pair e s ps) h =
      from_next (declares s) (declares_pairs ps) (placed-le s h.1) (placed-le-pairs ps h.2) (declares-from s h.1)
      (declares-pairs ps h.2)

  declares-guards : (gs : Guards) {lo hi : ℕ} → PlacedGuards lo hi gs → From [] lo hi (declares_guards gs)
  declares-guards no_guard h = from-none
  declares-guards (guard g s gs) h =
      from_next (declares s) (declares_guards gs) (placed-le s h.1) (placed-le-guards gs h.2) (declares-from s h.1)
      (declares-guards gs h.2)

-- the variables that a guard uses are in scope
guard-from : (g : Guard) (sc : Scope) {lo hi : ℕ} → WellGuard sc g → From sc.variables lo hi (guard_usage g).uses
guard-from (input_guard e c x) sc w = from-both (reads e) (x ∷ []) (from-reads sc e w.0) (from_one x w.2)
guard-from (skip_guard e) sc w = from-reads sc e w
guard-from (time_guard e t) sc w = from-both (reads e) (reads t) (from-reads sc e w.0) (from-reads sc t w.1)

-- the variables that a statement uses are in scope, or of its stretch
mutual
  unfolding usage

  pub uses-from : (s : Stmt) (sc : Scope) {lo hi : ℕ} → Well sc s → Placed lo hi s → From sc.variables lo hi (usage s).uses
  uses-from SKIP sc w h = from-none
  uses-from STOP sc w h = from-none
  uses-from (assign x e) sc w h = from-both (x ∷ []) (reads e) (from_one x w.0) (from-reads sc e w.1)
  uses-from (input c x) sc w h = from_one x w.1
  uses-from (output c e) sc w h = from-reads sc e w.1
  uses-from (VAR p n s) sc w h =
      let le = placed-le s h.1 in
      let inner = uses-from s (with_variables p n sc) w.2 h.1 in
      record {
        origin =
            λ x m.
            ⊎_elim
            (λ k. ⊎_elim inl (λ q. inr (names-between p n h.0 (omega arith) x q)) (Memᴰ.append_cases sc.variables k))
            (λ b. inr (between-wider (omega (arith, h.0)) (omega arith) b))
            (inner.origin x m);
      }
  uses-from (CHAN p n s) sc w h =
      from-wider (omega (arith, h.0)) (omega arith) (uses-from s (with_channels p n sc) w.2 h.1)
  uses-from (SEQ ss) sc w h = uses-all ss sc w h
  uses-from (PAR p ss) sc w h = uses-all ss sc w.1 h
  uses-from (IF ps) sc w h = uses-pairs ps sc w h
  uses-from (WHILE e s) sc w h =
      from-both (reads e) (usage s).uses (from-reads sc e w.0) (uses-from s sc w.1 h)
  uses-from (ALT gs) sc w h = uses-guards gs sc w h
  uses-from (TIME x) sc w h = from_one x w
  uses-from (WAIT e) sc w h = from-reads sc e w

  uses-all : (ss : Stmts) (sc : Scope) {lo hi : ℕ} → WellAll sc ss → PlacedAll lo hi ss
      → From sc.variables lo hi (usage_all ss).uses
  uses-all no_stmt sc w h = from-none
  uses-all (stmt s ss) sc w h =
      from_next (usage s).uses (usage_all ss).uses (placed-le s h.1) (placed-le-all ss h.2)
      (uses-from s sc w.0 h.1) (uses-all ss sc w.1 h.2)

  uses-pairs : (ps : Pairs) (sc : Scope) {lo hi : ℕ} → WellPairs sc ps → PlacedPairs lo hi ps
      → From sc.variables lo hi (usage_pairs ps).uses
  uses-pairs no_pair sc w h = from-none
  uses-pairs (pair e s ps) sc w h =
      from-both (reads e) ((usage s).uses ++ (usage_pairs ps).uses) (from-reads sc e w.0)
      (from_next (usage s).uses (usage_pairs ps).uses (placed-le s h.1) (placed-le-pairs ps h.2)
      (uses-from s sc w.1 h.1) (uses-pairs ps sc w.2 h.2))

  uses-guards : (gs : Guards) (sc : Scope) {lo hi : ℕ} → WellGuards sc gs → PlacedGuards lo hi gs
      → From sc.variables lo hi (usage_guards gs).uses
  uses-guards no_guard sc w h = from-none
  uses-guards (guard g s gs) sc w h =
      from-both (guard_usage g).uses ((usage s).uses ++ (usage_guards gs).uses) (guard-from g sc w.0)
      (from_next (usage s).uses (usage_guards gs).uses (placed-le s h.1) (placed-le-guards gs h.2)
      (uses-from s sc w.1 h.1) (uses-guards gs sc w.2 h.2))

-- neither of two tests
pub neither : (a b : Bool) → (a || b) ≡ false → (a ≡ false) × (b ≡ false)
neither true b e = never cc
neither false b e = (refl, e)

pub share-disjoint : (l m : List Site) → share l m ≡ false → Disjoint l m
unfolding share
share-disjoint [] m e x t u = absurd (Memᴰ.not-nil t)
share-disjoint (y ∷ l) m e x t u =
    let (no-y, no-l) = neither (is_in y m) (share l m) e in
    ⊎_elim
    (λ q. let there : is_in x m ≡ true = mem-is_in x m u in never (cc (rw q at there)))
    (λ t. share-disjoint l m no-l x t u)
    (Memᴰ.cases_cons t)

-- what parts that do not clash have apart
pub clash-disjoint : (u v : Usage) → clash u v ≡ false
    → Disjoint u.changes v.uses × Disjoint v.changes u.uses × Disjoint u.inputs v.inputs
    × Disjoint u.outputs v.outputs
unfolding clash
clash-disjoint u v e =
    let first = share u.changes v.uses in
    let second = share v.changes u.uses in
    let third = share u.inputs v.inputs in
    let (e₁₂₃, e₄) = neither (first || second || third) (share u.outputs v.outputs) e in
    let (e₁₂, e₃) = neither (first || second) third e₁₂₃ in
    let (e₁, e₂) = neither first second e₁₂ in (
      share-disjoint _ _ e₁,
      share-disjoint _ _ e₂,
      share-disjoint _ _ e₃,
      share-disjoint _ _ e₄,
    )
