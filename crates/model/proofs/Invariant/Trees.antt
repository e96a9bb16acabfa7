-- Which part of the program each process runs: the whole one part, the branches of a PAR parts inside it that are apart.
use Prim.Native.Nat.{ℕ, zero, suc, ◌+◌, ◌-◌, ◌*◌, ◌≤◌}
use native.Mathlib.Omega.{arith}
use native.Mathlib.Nat.{add-mul}
use mathlib.Core.Path.{◌≡◌, refl, sym, ap, subst, ◌∙◌}
use mathlib.Core.Logic.{◌≢◌, inl, inr, ⊎_elim}
use mathlib.Core.List.{List, [], ◌∷◌, ◌++◌, append-nil}
use mathlib.Core.Option.{Option, none, some}
use Rattle.model.specs.Syntax.{Site, Stmt, Stmts, no_stmt, stmt}
use Rattle.model.specs.Counts.{need, sum_need}
use Rattle.model.specs.Occam.{Frame, Process, in_par, Branches, no_branch, branch, over, branches, branch_at, set_branch, end_branch, look}
use Rattle.model.specs.Occam.{put}
use Rattle.model.proofs.Cases.{never}
use Rattle.model.proofs.Occam.Paths.{Apart as Diverge, here, later, Leaf, l-before, l-input, l-output, l-stop, l-alt, l-finished}
use Rattle.model.proofs.Occam.Paths.{leaf-par, leaf-begin, leaf-ends, put_in, under, look-under, stmt_at, Compared, equal, below}
use Rattle.model.proofs.Occam.Paths.{above, apart, compare, l-to-read, l-has-read, l-wait}
use Rattle.model.proofs.Occam.Live.{leaves, leaves_in}
use Rattle.model.proofs.Quiet.Setting.{Setting, whole}
use Rattle.model.proofs.Words.Parts.{need-two, sum_first, need-next, Part, joins, part_of, Apart, Inside, FineBranches, Beside}
use Rattle.model.proofs.Quiet.Continuations.{Scoped, scoped-up, scoped-below, Placed}
use Rattle.model.proofs.Quiet.Marks.{ParCode}

-- a part is inside itself
pub inside-refl : (a : Part) → Inside a a
inside-refl a =
    record {
      above = omega arith;
      below = omega arith;
      reads = λ x m. m;
      changes = λ x m. m;
      inputs = λ x m. m;
      outputs = λ x m. m;
    }

-- what is inside a branch of a part is inside the part
pub inside-trans : {a b c : Part} → Inside c b → Inside b a → Inside c a
inside-trans f g =
    record {
      above = omega (arith, f.above, g.above);
      below = omega (arith, f.below, g.below);
      reads = λ x m. g.reads x (f.reads x m);
      changes = λ x m. g.changes x (f.changes x m);
      inputs = λ x m. g.inputs x (f.inputs x m);
      outputs = λ x m. g.outputs x (f.outputs x m);
    }

-- two parts are apart either way round
pub apart-sym : {a b : Part} → Apart a b → Apart b a
apart-sym h =
    record {
      words = ⊎_elim inr inl h.words;
      left = h.right;
      right = h.left;
      inputs = λ x m n. h.inputs x n m;
      outputs = λ x m n. h.outputs x n m;
    }

-- what is inside parts that are apart is apart
pub apart-inside : {a b c d : Part} → Apart a b → Inside c a → Inside d b → Apart c d
apart-inside h f g =
    record {
      words = ⊎_elim (λ l. inl (omega (arith, l, f.below, g.above))) (λ l. inr (omega (arith, l, g.below, f.above))) h.words;
      left = λ x m n. h.left x (f.changes x m) (g.reads x n);
      right = λ x m n. h.right x (g.changes x m) (f.reads x n);
      inputs = λ x m n. h.inputs x (f.inputs x m) (g.inputs x n);
      outputs = λ x m n. h.outputs x (f.outputs x m) (g.outputs x n);
    }

-- what is the same in `some`
pub some_same : {A : Type 0} {x y : A} → ◌≡◌ {A = Option A} (some x) (some y) → x ≡ y
some_same e = cc

-- no path is apart from the empty one
nil-apart : {R : Type 0} {path other : List ℕ} → path ≡ [] → Diverge path other → R
nil-apart e (here n) = never (cc)
nil-apart e (later v) = never (cc)

-- the empty path has no first branch
nil-append : {R : Type 0} (pre : List ℕ) (i : ℕ) (rest : List ℕ) → [] ≡ pre ++ i ∷ rest → R
nil-append [] i rest e = never (cc)
nil-append (j ∷ pre) i rest e = never (cc)

-- some process is found at a path
pub data Found (path : List ℕ) (p : Process) : Type 0 where
  found : (q : Process) → look path p ≡ some q → Found path p

-- what is known of a process that is in no PAR of its own: the names in scope, a workspace below their words, and a bound on the bytes
-- until its next step
pub record Info : Type 0 where
  pub vars : List Site
  pub chans : List Site
  pub w : ℕ
  pub left : ℕ

-- what a process runs: its part, and what is known of it; in a PAR the names in scope, the PAR's workspace and the index of the code where
-- it goes on
pub data Label : Type 0 where
  alone : Part → Info → Label
  parted : Part → (vars chans : List Site) (w onward : ℕ) → Label

-- labels tell parts and what is known
pub alone-part : {a b : Part} {i j : Info} → alone a i ≡ alone b j → a ≡ b
alone-part e = cc

pub alone-info : {a b : Part} {i j : Info} → alone a i ≡ alone b j → i ≡ j
alone-info e = cc

pub alone-parted : {a b : Part} {i : Info} {vs cs : List Site} {w n : ℕ} → parted a vs cs w n ≡ alone b i → ◌≡◌ {A = ℕ} 0 1
alone-parted e = cc

-- the part of them
abbrev pub running : Option Label → Option Part
running none = none
running (some (alone a i)) = some a
running (some (parted a vars chans w onward)) = some a

-- two tellings of what is run where agree but for the branch i
abbrev SameBut : ℕ → (at there : ℕ → List ℕ → Option Label) → Type 0
SameBut i at there = (j : ℕ) (path : List ℕ) → i ≢ j → there j path ≡ at j path

-- but for the first branch
same_first : (at there : ℕ → List ℕ → Option Label) → ((j : ℕ) (path : List ℕ) → there (suc j) path ≡ at (suc j) path) → SameBut 0 at there
same_first at there h zero path n = absurd (n refl)
same_first at there h (suc j) path n = h j path

-- but for a later branch
same-later : (i : ℕ) (at there : ℕ → List ℕ → Option Label) → ((path : List ℕ) → there 0 path ≡ at 0 path)
    → SameBut i (λ j. at (suc j)) (λ j. there (suc j)) → SameBut (suc i) at there
same-later i at there z h zero path n = z path
same-later i at there z h (suc j) path n = h j path (λ e. n (ap suc e))

-- what is apart from a branch at a path: apart from the path, or under it
data Split (path rest other : List ℕ) : Type 0 where
  early : Diverge path other → Split path rest other
  late : (inner : List ℕ) → other ≡ path ++ inner → Diverge rest inner → Split path rest other

-- which of the two it is
split : (path rest : List ℕ) {other : List ℕ} → Diverge (path ++ rest) other → Split path rest other
split [] rest {other} v = late other refl v
split (i ∷ path) rest (here n) = early (here n)
split (i ∷ path) rest (later v) = elim (split path rest v) [
  | early w ↦ early (later w)
  | late inner e w ↦ late inner (ap (λ z. i ∷ z) e) w
]

-- how far the workspace of a branch is below the one of its PAR: what the branches before it need
unfoldable pub distance_of : ℕ → Stmts → ℕ
distance_of i no_stmt = 0
distance_of zero (stmt s ss) = 0
distance_of (suc i) (stmt s ss) = need s + distance_of i ss

-- a part is the one of the branch i, of the branches from distance d on
pub data BranchPart (vars chans : List Site) (w d : ℕ) (ss : Stmts) (i : ℕ) (b : Part) : Type 0 where
  branch-part : (s : Stmt) → stmt_at i ss ≡ some s → b ≡ part_of vars chans (w - (d + distance_of i ss)) (joins (d + distance_of i ss)) s
      → BranchPart vars chans w d ss i b

-- counted with the branch before
later-part : (vars chans : List Site) (w d : ℕ) (s : Stmt) (ss : Stmts) (i : ℕ) {b : Part} → BranchPart vars chans w (d + need s) ss i b
    → BranchPart vars chans w d (stmt s ss) (suc i) b
unfolding stmt_at distance_of
later-part vars chans w d s ss i {b} (branch-part r e h) =
    branch-part r e (subst (λ z. b ≡ part_of vars chans (w - z) (joins z) r) (omega arith) h)

module _ (S : Setting) where
  -- what is known fits the part
  pub record Sits (a : Part) (i : Info) : Type 0 where
    pub placed : Placed S a i.w i.vars i.chans
    pub few : i.left ≤ whole S

  mutual
    -- a process with the parts that it and the processes in it run: the branches of a PAR run those of the PAR's code
    pub data Tree : Part → Process → Type 0 where
      t-leaf : {a : Part} {q : Process} → Leaf q → (i : Info) → Sits a i → Tree a q
      t-par : {a : Part} {s : Stmt} {ss : Stmts} {vars chans : List Site} {k : List Frame} {hi i w : ℕ} {bs : Branches}
          → ParCode S a s ss vars chans k hi i w → Forest vars chans w 0 (stmt s ss) bs → Tree a (in_par bs k)

    -- the branches of a PAR whose workspace is w, from the one at distance d on
    pub data Forest : (vars chans : List Site) (w d : ℕ) → Stmts → Branches → Type 0 where
      f-none : {vars chans : List Site} {w d : ℕ} → Forest vars chans w d no_stmt no_branch
      f-live : {vars chans : List Site} {w d : ℕ} {s : Stmt} {ss : Stmts} {p : Process} {bs : Branches}
          → Tree (part_of vars chans (w - d) (joins d) s) p
          → Forest vars chans w (d + need s) ss bs → Forest vars chans w d (stmt s ss) (branch p bs)
      f-over : {vars chans : List Site} {w d : ℕ} {s : Stmt} {ss : Stmts} {bs : Branches}
          → Forest vars chans w (d + need s) ss bs → Forest vars chans w d (stmt s ss) (over bs)

  -- what the process at a path runs
  unfoldable mutual
    pub label_at : {a : Part} {p : Process} → Tree a p → List ℕ → Option Label
    label_at {a} (t-leaf l i h) [] = some (alone a i)
    label_at (t-leaf l j h) (i ∷ path) = none
    label_at (t-par {a} {vars} {chans} {w} c f) [] = some (parted a vars chans w c.over)
    label_at (t-par c f) (i ∷ path) = label_in f i path

    -- in a branch
    pub label_in : {vars chans : List Site} {w d : ℕ} {ss : Stmts} {bs : Branches} → Forest vars chans w d ss bs → ℕ → List ℕ → Option Label
    label_in f-none i path = none
    label_in (f-live t f) zero path = label_at t path
    label_in (f-live t f) (suc i) path = label_in f i path
    label_in (f-over f) zero path = none
    label_in (f-over f) (suc i) path = label_in f i path

  -- the bytes until the next steps of all processes together
  unfoldable mutual
    pub bytes_left : {a : Part} {p : Process} → Tree a p → ℕ
    bytes_left (t-leaf l i h) = i.left
    bytes_left (t-par c f) = bytes_in f

    pub bytes_in : {vars chans : List Site} {w d : ℕ} {ss : Stmts} {bs : Branches} → Forest vars chans w d ss bs → ℕ
    bytes_in f-none = 0
    bytes_in (f-live t f) = bytes_left t + bytes_in f
    bytes_in (f-over f) = bytes_in f

  -- of those at and under a path
  unfoldable mutual
    pub bytes_at : {a : Part} {p : Process} → Tree a p → List ℕ → ℕ
    bytes_at (t-leaf l i h) [] = i.left
    bytes_at (t-leaf l i h) (j ∷ path) = 0
    bytes_at (t-par c f) [] = bytes_in f
    bytes_at (t-par c f) (j ∷ path) = bytes_under f j path

    pub bytes_under : {vars chans : List Site} {w d : ℕ} {ss : Stmts} {bs : Branches} → Forest vars chans w d ss bs → ℕ → List ℕ → ℕ
    bytes_under f-none i path = 0
    bytes_under (f-live t f) zero path = bytes_at t path
    bytes_under (f-live t f) (suc i) path = bytes_under f i path
    bytes_under (f-over f) zero path = 0
    bytes_under (f-over f) (suc i) path = bytes_under f i path

  -- the part that it runs
  abbrev pub part_at : {a : Part} {p : Process} → Tree a p → List ℕ → Option Part
  part_at t path = running (label_at t path)

  -- in a branch
  abbrev pub part_in : {vars chans : List Site} {w d : ℕ} {ss : Stmts} {bs : Branches} → Forest vars chans w d ss bs
      → ℕ → List ℕ → Option Part
  part_in f i path = running (label_in f i path)

  -- the whole runs its part
  pub part-nil : {a : Part} {p : Process} (t : Tree a p) → part_at t [] ≡ some a
  unfolding label_at label_in
  part-nil (t-leaf l n m) = refl
  part-nil (t-par c f) = refl

  -- each part is inside the one of the whole
  mutual
    unfolding label_at label_in

    pub part-inside : {a : Part} {p : Process} (t : Tree a p) (path : List ℕ) {b : Part} → part_at t path ≡ some b → Inside b a
    part-inside {a} (t-leaf l n m) [] e = subst (λ z. Inside z a) (cc) (inside-refl a)
    part-inside (t-leaf l n m) (i ∷ path) e = never (cc)
    part-inside {a} (t-par c f) [] e = subst (λ z. Inside z a) (cc) (inside-refl a)
    part-inside (t-par {a} c f) (i ∷ path) e = forest-inside f a c.fine i path e

    forest-inside : {vars chans : List Site} {w d : ℕ} {ss : Stmts} {bs : Branches} (f : Forest vars chans w d ss bs) (a : Part)
        → FineBranches S.word a vars chans w d ss → (i : ℕ) (path : List ℕ) {b : Part} → part_in f i path ≡ some b → Inside b a
    forest-inside f-none a g i path e = never (cc)
    forest-inside (f-live t f) a g zero path e = inside-trans (part-inside t path e) g.0
    forest-inside (f-live t f) a g (suc i) path e = forest-inside f a g.3 i path e
    forest-inside (f-over f) a g zero path e = never (cc)
    forest-inside (f-over f) a g (suc i) path e = forest-inside f a g.3 i path e

  -- a part that is beside the branches is apart from all in them
  forest-beside : {vars chans : List Site} {w d : ℕ} {ss : Stmts} {bs : Branches} (f : Forest vars chans w d ss bs) (b : Part)
      → Beside S.word b vars chans w d ss
      → (i : ℕ) (path : List ℕ) {c : Part} → part_in f i path ≡ some c → Apart b c
  unfolding label_at label_in
  forest-beside f-none b g i path e = never (cc)
  forest-beside (f-live t f) b g zero path e = apart-inside g.0 (inside-refl b) (part-inside t path e)
  forest-beside (f-live t f) b g (suc i) path e = forest-beside f b g.1 i path e
  forest-beside (f-over f) b g zero path e = never (cc)
  forest-beside (f-over f) b g (suc i) path e = forest-beside f b g.1 i path e

  -- what two branches run is apart
  forest-apart : {vars chans : List Site} {w d : ℕ} {ss : Stmts} {bs : Branches} (f : Forest vars chans w d ss bs) (a : Part)
      → FineBranches S.word a vars chans w d ss → (i j : ℕ) (ps qs : List ℕ) → i ≢ j → {b c : Part} → part_in f i ps ≡ some b
      → part_in f j qs ≡ some c → Apart b c
  unfolding label_at label_in
  forest-apart f-none a g i j ps qs n e h = never (cc)
  forest-apart (f-live t f) a g zero zero ps qs n e h = absurd (n refl)
  forest-apart (f-live t f) a g zero (suc j) ps qs n {b} {c} e h =
      apart-inside (forest-beside f _ g.2 j qs h) (part-inside t ps e) (inside-refl c)
  forest-apart (f-live t f) a g (suc i) zero ps qs n {b} {c} e h =
      apart-sym (apart-inside (forest-beside f _ g.2 i ps e) (part-inside t qs h) (inside-refl b))
  forest-apart (f-live t f) a g (suc i) (suc j) ps qs n e h =
      forest-apart f a g.3 i j ps qs (λ u. n (ap suc u)) e h
  forest-apart (f-over f) a g zero j ps qs n e h = never (cc)
  forest-apart (f-over f) a g (suc i) zero ps qs n e h = never (cc)
  forest-apart (f-over f) a g (suc i) (suc j) ps qs n e h =
      forest-apart f a g.3 i j ps qs (λ u. n (ap suc u)) e h

  -- the processes at two paths that part run parts that are apart
  mutual
    unfolding label_at label_in

    pub parts-apart : {a : Part} {p : Process} (t : Tree a p) {path other : List ℕ} → Diverge path other → {b c : Part}
        → part_at t path ≡ some b → part_at t other ≡ some c → Apart b c
    parts-apart (t-leaf l j m) (here n) e h = never (cc)
    parts-apart (t-leaf l n m) (later v) e h = never (cc)
    parts-apart (t-par {a} c f) (here {i} {j} {ps} {qs} n) e h =
        forest-apart f a c.fine i j ps qs n e h
    parts-apart (t-par c f) (later {i} v) e h = parts-later f i v e h

    parts-later : {vars chans : List Site} {w d : ℕ} {ss : Stmts} {bs : Branches} (f : Forest vars chans w d ss bs) (i : ℕ)
        {path other : List ℕ} → Diverge path other
        → {b c : Part} → part_in f i path ≡ some b → part_in f i other ≡ some c → Apart b c
    parts-later f-none i v e h = never (cc)
    parts-later (f-live t f) zero v e h = parts-apart t v e h
    parts-later (f-live t f) (suc i) v e h = parts-later f i v e h
    parts-later (f-over f) zero v e h = never (cc)
    parts-later (f-over f) (suc i) v e h = parts-later f i v e h

  -- the process q at a path, in a whole that runs a: its part and its tree. `at` says what is run where
  pub data Owner (a : Part) (at : List ℕ → Option Label) (path : List ℕ) (q : Process) : Type 0 where
    owner : (b : Part) (u : Tree b q) → Inside b a → running (at path) ≡ some b → ((rest : List ℕ) → at (path ++ rest) ≡ label_at u rest)
        → Owner a at path q

  -- the tree of what is found at a path
  mutual
    unfolding label_at label_in branch_at look

    pub owner_of : {a : Part} {p : Process} (t : Tree a p) (path : List ℕ) {q : Process} → look path p ≡ some q
        → Owner a (label_at t) path q
    owner_of {a} (t-leaf l n m) [] e = subst (Owner a (label_at (t-leaf l n m)) []) (cc)
        (owner a (t-leaf l n m) (inside-refl a) refl (λ rest. refl))
    owner_of (t-leaf l n m) (i ∷ path) e = never (cc (leaf-ends i path l, e))
    owner_of {a} (t-par c f) [] e = subst (Owner a (label_at (t-par c f)) []) (cc) (owner a (t-par c f) (inside-refl a) refl (λ rest. refl))
    owner_of (t-par {a} {k} {bs} c f) (i ∷ path) e =
        elim (look-under i path (in_par bs k) e) [
          | under b g h ↦ elim (owner-in f a c.fine i path g h) [ owner x u v y z ↦ owner x u v y z ]
        ]

    owner-in : {vars chans : List Site} {w d : ℕ} {ss : Stmts} {bs : Branches} (f : Forest vars chans w d ss bs) (a : Part)
        → FineBranches S.word a vars chans w d ss → (i : ℕ) (path : List ℕ) {b q : Process} → branch_at i bs ≡ some b
        → look path b ≡ some q → Owner a (label_in f i) path q
    owner-in f-none a g i path e h = never (cc)
    owner-in (f-live t f) a g zero path e h =
        elim (owner_of t path (ap (look path) (some_same e) ∙ h)) [ owner x u v y z ↦ owner x u (inside-trans v g.0) y z ]
    owner-in (f-live t f) a g (suc i) path e h =
        elim (owner-in f a g.3 i path e h) [ owner x u v y z ↦ owner x u v y z ]
    owner-in (f-over f) a g zero path e h = never (cc)
    owner-in (f-over f) a g (suc i) path e h =
        elim (owner-in f a g.3 i path e h) [ owner x u v y z ↦ owner x u v y z ]

  -- a tree whose process is q, made from t by a tree u at a path: what is under the path is as in u, what is beside or above it as in t
  pub record Rebuilt {a : Part} {p : Process} (t : Tree a p) (path : List ℕ) {b : Part} {r : Process} (u : Tree b r) (q : Process)
      : Type 0 where
    pub tree : Tree a q
    pub below : (rest : List ℕ) → label_at tree (path ++ rest) ≡ label_at u rest
    pub aside : (other : List ℕ) → Diverge path other → label_at tree other ≡ label_at t other
    pub above : (pre : List ℕ) (i : ℕ) (rest : List ℕ) → path ≡ pre ++ i ∷ rest → label_at tree pre ≡ label_at t pre
    pub bytes : bytes_left tree + bytes_at t path ≡ bytes_left t + bytes_left u

  -- a forest made from f by a tree u at a path in the branch i
  record Regrown {vars chans : List Site} {w d : ℕ} {ss : Stmts} {bs : Branches} (f : Forest vars chans w d ss bs) (i : ℕ)
      (path : List ℕ) {b : Part} {r : Process}
      (u : Tree b r) : Type 0 where
    pub process : Process
    pub found : branch_at i bs ≡ some process
    pub forest : Forest vars chans w d ss (set_branch i (put path r process) bs)
    pub below : (rest : List ℕ) → label_in forest i (path ++ rest) ≡ label_at u rest
    pub aside : (other : List ℕ) → Diverge path other → label_in forest i other ≡ label_in f i other
    pub above : (pre : List ℕ) (j : ℕ) (rest : List ℕ) → path ≡ pre ++ j ∷ rest → label_in forest i pre ≡ label_in f i pre
    pub others : SameBut i (label_in f) (label_in forest)
    pub bytes : bytes_in forest + bytes_under f i path ≡ bytes_in f + bytes_left u

  -- the bytes of all are those at the top
  bytes-top : {a : Part} {p : Process} (t : Tree a p) → bytes_at t [] ≡ bytes_left t
  unfolding bytes_at bytes_left bytes_in
  bytes-top (t-leaf l i h) = refl
  bytes-top (t-par c f) = refl

  -- the whole is replaced
  rebuilt-nil : {a : Part} {p : Process} (t : Tree a p) {b : Part} {r : Process} (u : Tree b r) → a ≡ b → Rebuilt t [] u r
  rebuilt-nil {a} t {b} {r} u e = subst (λ z. (u : Tree z r) → Rebuilt t [] u r) e (λ u. whole u) u
    where
      whole : (u : Tree a r) → Rebuilt t [] u r
      whole u =
          record {
            tree = u;
            below = λ rest. refl;
            aside = λ other v. nil-apart refl v;
            above = λ pre i rest e. nil-append pre i rest e;
            bytes = omega (arith, bytes-top t);
          }

  -- by way of a PAR's branch
  module _ {a : Part} {s : Stmt} {ss : Stmts} {vars chans : List Site} {k : List Frame} {hi n w : ℕ} {bs : Branches}
      (c : ParCode S a s ss vars chans k hi n w) (f : Forest vars chans w 0 (stmt s ss) bs) (i : ℕ) (path : List ℕ) {b : Part} {r : Process}
      (u : Tree b r) where
    par-aside : (g : Regrown f i path u) (other : List ℕ) → Diverge (i ∷ path) other
        → label_at (t-par c g.forest) other ≡ label_at (t-par c f) other
    unfolding label_at label_in
    par-aside g other (here {j} {qs} m) = g.others j qs m
    par-aside g other (later {qs} v) = g.aside qs v

    par-above : (g : Regrown f i path u) (pre : List ℕ) (j : ℕ) (rest : List ℕ) → i ∷ path ≡ pre ++ j ∷ rest
        → label_at (t-par c g.forest) pre ≡ label_at (t-par c f) pre
    unfolding label_at label_in
    par-above g [] j rest e = refl
    par-above g (l ∷ pre) j rest e =
        let h : i ≡ l = cc in subst (λ z. label_in g.forest z pre ≡ label_in f z pre) h (g.above pre j rest (cc))

    rebuilt-par : (g : Regrown f i path u) → Rebuilt (t-par c f) (i ∷ path) u (put (i ∷ path) r (in_par bs k))
    unfolding label_at label_in bytes_left bytes_in bytes_at bytes_under
    rebuilt-par g =
        subst (Rebuilt (t-par c f) (i ∷ path) u) (sym (put_in i path r (in_par bs k) g.found))
        (record {
          tree = t-par c g.forest;
          below = g.below;
          aside = par-aside g;
          above = par-above g;
          bytes = g.bytes;
        })

  -- another tree of the same part at a path
  mutual
    unfolding label_at label_in branch_at set_branch look put bytes_left bytes_in bytes_at bytes_under

    pub rebuild : {a : Part} {p : Process} (t : Tree a p) (path : List ℕ) {b : Part} {r : Process} (u : Tree b r)
        → part_at t path ≡ some b → Rebuilt t path u (put path r p)
    rebuild (t-leaf l n m) [] u e = rebuilt-nil (t-leaf l n m) u (some_same e)
    rebuild (t-leaf l n m) (i ∷ path) u e = never (cc)
    rebuild (t-par c f) [] u e = rebuilt-nil (t-par c f) u (some_same e)
    rebuild (t-par c f) (i ∷ path) u e = rebuilt-par c f i path u (regrow f i path u e)

    regrow : {vars chans : List Site} {w d : ℕ} {ss : Stmts} {bs : Branches} (f : Forest vars chans w d ss bs) (i : ℕ) (path : List ℕ)
        {b : Part} {r : Process} (u : Tree b r)
        → part_in f i path ≡ some b → Regrown f i path u
    regrow f-none i path u e = never (cc)
    regrow (f-live {p} t f) zero path u e =
        let g = rebuild t path u e in
        record {
          process = p;
          found = refl;
          forest = f-live g.tree f;
          below = g.below;
          aside = g.aside;
          above = g.above;
          others = same_first (label_in (f-live t f)) (label_in (f-live g.tree f)) (λ j other. refl);
          bytes = omega (arith, g.bytes);
        }
    regrow (f-live t f) (suc i) path u e =
        let g = regrow f i path u e in
        record {
          process = g.process;
          found = g.found;
          forest = f-live t g.forest;
          below = g.below;
          aside = g.aside;
          above = g.above;
          others = same-later i (label_in (f-live t f)) (label_in (f-live t g.forest)) (λ other. refl) g.others;
          bytes = omega (arith, g.bytes);
        }
    regrow (f-over f) zero path u e = never (cc)
    regrow (f-over {s} f) (suc i) path u e =
        let g = regrow f i path u e in
        record {
          process = g.process;
          found = g.found;
          forest = f-over g.forest;
          below = g.below;
          aside = g.aside;
          above = g.above;
          others = same-later i (label_in (f-over {s = s} f)) (label_in (f-over {s = s} g.forest)) (λ other. refl) g.others;
          bytes = g.bytes;
        }

  -- what is known of a branch that was just started
  abbrev pub new_info : (vars chans : List Site) (w : ℕ) → Info
  new_info vars chans w = record { vars = vars; chans = chans; w = w; left = whole S }

  pub new-sits : {vars chans : List Site} (w d : ℕ) (s : Stmt) → Scoped S w vars chans → d + need s ≤ w
      → Sits (part_of vars chans (w - d) (joins d) s) (new_info vars chans (w - d))
  new-sits w d s h l =
      record {
        placed = record {
          scoped = scoped-below S (omega arith) h;
          room = omega (arith, need-two s);
          low = omega arith;
          vars-origin = λ x m. inl m;
          chans-origin = λ x m. inl m;
          vars-outer = λ x m. m;
          chans-outer = λ x m. m;
        };
        few = omega arith;
      }

  -- the branches of a PAR that was just started
  unfoldable pub begun : {vars chans : List Site} (w d : ℕ) (ss : Stmts) → Scoped S w vars chans → d + sum_need ss ≤ w
      → Forest vars chans w d ss (branches ss)
  unfolding branches
  begun w d no_stmt h l = f-none
  begun {vars} {chans} w d (stmt s ss) h l =
      f-live (t-leaf (leaf-begin s []) (new_info vars chans (w - d)) (new-sits w d s h (omega (arith, sum_first s ss))))
      (begun w (d + need s) ss h (need-next s ss d l))

  -- each runs its statement, as far below as the branches before it need
  begun_label : {vars chans : List Site} (w d : ℕ) (ss : Stmts) (h : Scoped S w vars chans) (l : d + sum_need ss ≤ w) (i : ℕ) {s : Stmt}
      → stmt_at i ss ≡ some s → label_in (begun w d ss h l) i []
      ≡ some (alone (part_of vars chans (w - (d + distance_of i ss)) (joins (d + distance_of i ss)) s)
      (new_info vars chans (w - (d + distance_of i ss))))
  unfolding label_at label_in begun branches stmt_at distance_of
  begun_label w d no_stmt h l i e = never (cc)
  begun_label w d (stmt s ss) h l zero e = let z : d + 0 ≡ d = omega arith in rw (z, some_same e) refl
  begun_label w d (stmt s ss) h l (suc i) e =
      let z : d + (need s + distance_of i ss) ≡ d + need s + distance_of i ss = omega arith in
      rw z (begun_label w (d + need s) ss h (need-next s ss d l) i e)

  -- the names in scope of a branch that was just started
  begun-scope : {vars chans : List Site} (w d : ℕ) (ss : Stmts) (h : Scoped S w vars chans) (l : d + sum_need ss ≤ w) (i : ℕ)
      (path : List ℕ)
      {b : Part} {j : Info} → label_in (begun w d ss h l) i path ≡ some (alone b j) → (j.vars ≡ vars) × (j.chans ≡ chans)
  unfolding label_at label_in begun branches
  begun-scope w d no_stmt h l i path e = never (cc)
  begun-scope w d (stmt s ss) h l zero [] e =
      let z = alone-info (some_same e) in (ap (λ (k : Info). k.vars) (sym z), ap (λ (k : Info). k.chans) (sym z))
  begun-scope w d (stmt s ss) h l zero (n ∷ path) e = never (cc)
  begun-scope w d (stmt s ss) h l (suc i) path e = begun-scope w (d + need s) ss h (need-next s ss d l) i path e

  begun-alone : {vars chans : List Site} (w d : ℕ) (ss : Stmts) (h : Scoped S w vars chans) (l : d + sum_need ss ≤ w) (i : ℕ)
      (path : List ℕ)
      {a : Part} {vs cs : List Site} {v n : ℕ} → label_in (begun w d ss h l) i path ≡ some (parted a vs cs v n) → ◌≡◌ {A = ℕ} 0 1
  unfolding label_at label_in begun branches
  begun-alone w d no_stmt h l i path e = cc
  begun-alone w d (stmt s ss) h l zero [] e = alone-parted (sym (some_same e))
  begun-alone w d (stmt s ss) h l zero (n ∷ path) e = cc
  begun-alone w d (stmt s ss) h l (suc i) path e = begun-alone w (d + need s) ss h (need-next s ss d l) i path e

  -- the branches fit below the PAR's workspace
  pub par-fits : {a : Part} {s : Stmt} {ss : Stmts} {vars chans : List Site} {k : List Frame} {hi i w : ℕ}
      → ParCode S a s ss vars chans k hi i w
      → 0 + sum_need (stmt s ss) ≤ w
  par-fits c = omega (arith, c.room)

  -- the tree of a PAR that was just started
  abbrev pub started : {a : Part} {s : Stmt} {ss : Stmts} {vars chans : List Site} {k : List Frame} {hi i w : ℕ}
      → ParCode S a s ss vars chans k hi i w → Tree a (in_par (branches (stmt s ss)) k)
  started {s} {ss} {w} c = t-par c (begun w 0 (stmt s ss) (scoped-up S w 2 c.placed.scoped) (par-fits c))

  -- what its branches run
  pub started-label : {a : Part} {s : Stmt} {ss : Stmts} {vars chans : List Site} {k : List Frame} {hi n w : ℕ}
      (c : ParCode S a s ss vars chans k hi n w) (i : ℕ) {r : Stmt} → stmt_at i (stmt s ss) ≡ some r
      → label_at (started c) (i ∷ [])
      ≡ some (alone (part_of vars chans (w - distance_of i (stmt s ss)) (joins (distance_of i (stmt s ss))) r)
      (new_info vars chans (w - distance_of i (stmt s ss))))
  unfolding label_at label_in
  started-label {s} {ss} {vars} {chans} {w} c i {r} e =
      let h : Scoped S w vars chans = scoped-up S w 2 c.placed.scoped in
      let l : 0 + sum_need (stmt s ss) ≤ w = par-fits c in
      subst
      (λ z. label_in (begun w 0 (stmt s ss) h l) i [] ≡ some
      (alone (part_of vars chans (w - z) (joins z) r) (new_info vars chans (w - z))))
      (omega arith) (begun_label w 0 (stmt s ss) h l i e)

  -- what is in scope in them
  pub started-scope : {a : Part} {s : Stmt} {ss : Stmts} {vars chans : List Site} {k : List Frame} {hi n w : ℕ}
      (c : ParCode S a s ss vars chans k hi n w) (i : ℕ) (path : List ℕ) {b : Part} {j : Info}
      → label_at (started c) (i ∷ path) ≡ some (alone b j) → (j.vars ≡ vars) × (j.chans ≡ chans)
  unfolding label_at label_in
  started-scope {s} {ss} {w} c i path e = begun-scope w 0 (stmt s ss) (scoped-up S w 2 c.placed.scoped) (par-fits c) i path e

  pub started-alone : {a : Part} {s : Stmt} {ss : Stmts} {vars chans : List Site} {k : List Frame} {hi n w : ℕ}
      (c : ParCode S a s ss vars chans k hi n w) (i : ℕ) (path : List ℕ) {b : Part} {vs cs : List Site} {v m : ℕ}
      → label_at (started c) (i ∷ path) ≡ some (parted b vs cs v m) → ◌≡◌ {A = ℕ} 0 1
  unfolding label_at label_in
  started-alone {s} {ss} {w} c i path e = begun-alone w 0 (stmt s ss) (scoped-up S w 2 c.placed.scoped) (par-fits c) i path e

  -- whatever a PAR's branches have come to, each runs that part
  forest-part : {vars chans : List Site} {w d : ℕ} {ss : Stmts} {bs : Branches} (f : Forest vars chans w d ss bs) (i : ℕ)
      {b : Part} → part_in f i [] ≡ some b
      → BranchPart vars chans w d ss i b
  unfolding label_at label_in stmt_at distance_of
  forest-part f-none i e = never (cc)
  forest-part {vars} {chans} {w} {d} (f-live {s} t f) zero {b} e =
      branch-part s refl (subst (λ z. b ≡ part_of vars chans (w - z) (joins z) s) (omega arith) (some_same (sym e ∙ part-nil t)))
  forest-part {vars} {chans} {w} {d} (f-live {s} {ss} t f) (suc i) e = later-part vars chans w d s ss i (forest-part f i e)
  forest-part (f-over f) zero e = never (cc)
  forest-part {vars} {chans} {w} {d} (f-over {s} {ss} f) (suc i) e = later-part vars chans w d s ss i (forest-part f i e)

  -- the same of a PAR's tree
  pub par-part : {a : Part} {s : Stmt} {ss : Stmts} {vars chans : List Site} {k : List Frame} {hi n w : ℕ} {bs : Branches}
      (c : ParCode S a s ss vars chans k hi n w) (f : Forest vars chans w 0 (stmt s ss) bs) (i : ℕ) {b : Part}
      → part_at (t-par c f) (i ∷ []) ≡ some b → BranchPart vars chans w 0 (stmt s ss) i b
  unfolding label_at label_in
  par-part c f i e = forest-part f i e

  -- the branches after one's end
  unfoldable cut : {vars chans : List Site} {w d : ℕ} {ss : Stmts} {bs : Branches} → Forest vars chans w d ss bs → (i : ℕ)
      → Forest vars chans w d ss (end_branch i bs)
  unfolding end_branch
  cut f-none i = f-none
  cut (f-live t f) zero = f-over f
  cut (f-live t f) (suc i) = f-live t (cut f i)
  cut (f-over f) zero = f-over f
  cut (f-over f) (suc i) = f-over (cut f i)

  -- nothing runs in it
  cut-gone : {vars chans : List Site} {w d : ℕ} {ss : Stmts} {bs : Branches} (f : Forest vars chans w d ss bs) (i : ℕ) (path : List ℕ)
      → label_in (cut f i) i path ≡ none
  unfolding label_at label_in cut end_branch
  cut-gone f-none i path = refl
  cut-gone (f-live t f) zero path = refl
  cut-gone (f-live t f) (suc i) path = cut-gone f i path
  cut-gone (f-over f) zero path = refl
  cut-gone (f-over f) (suc i) path = cut-gone f i path

  -- the others run what they did
  cut-others : {vars chans : List Site} {w d : ℕ} {ss : Stmts} {bs : Branches} (f : Forest vars chans w d ss bs) (i : ℕ)
      → SameBut i (label_in f) (label_in (cut f i))
  unfolding label_at label_in cut end_branch
  cut-others f-none i j path n = refl
  cut-others (f-live t f) zero zero path n = absurd (n refl)
  cut-others (f-live t f) zero (suc j) path n = refl
  cut-others (f-live t f) (suc i) zero path n = refl
  cut-others (f-live t f) (suc i) (suc j) path n = cut-others f i j path (λ e. n (ap suc e))
  cut-others (f-over f) zero j path n = refl
  cut-others (f-over f) (suc i) zero path n = refl
  cut-others (f-over f) (suc i) (suc j) path n = cut-others f i j path (λ e. n (ap suc e))

  -- the tree of a PAR after the end of the branch i
  pub record Ended {a : Part} {bs : Branches} {k : List Frame} (t : Tree a (in_par bs k)) (i : ℕ) : Type 0 where
    pub tree : Tree a (in_par (end_branch i bs) k)
    pub whole : label_at tree [] ≡ label_at t []
    pub gone : (rest : List ℕ) → label_at tree (i ∷ rest) ≡ none
    pub others : (j : ℕ) (rest : List ℕ) → i ≢ j → label_at tree (j ∷ rest) ≡ label_at t (j ∷ rest)

  -- the end of a branch of a PAR
  pub ended : {a : Part} {bs : Branches} {k : List Frame} (t : Tree a (in_par bs k)) (i : ℕ) → Ended t i
  unfolding label_at label_in
  ended (t-leaf l n m) i = absurd (leaf-par l refl)
  ended (t-par c f) i = record { tree = t-par c (cut f i); whole = refl; gone = cut-gone f i; others = cut-others f i }

  -- in a leaf's tree nothing runs under it
  leaf-none : {b : Part} {q : Process} (u : Tree b q) → Leaf q → (i : ℕ) (rest : List ℕ) → label_at u (i ∷ rest) ≡ none
  unfolding label_at label_in
  leaf-none (t-leaf l n h) m i rest = refl
  leaf-none (t-par c f) m i rest = absurd (leaf-par m refl)

  -- a leaf's label
  pub data Alone (b : Part) (l : Option Label) : Type 0 where
    is-alone : (i : Info) → Sits b i → l ≡ some (alone b i) → Alone b l

  leaf-alone : {b : Part} {q : Process} (u : Tree b q) → Leaf q → Alone b (label_at u [])
  unfolding label_at label_in
  leaf-alone (t-leaf l i h) m = is-alone i h refl
  leaf-alone (t-par c f) m = absurd (leaf-par m refl)

  -- a leaf's label
  pub data Labelled (l : Option Label) : Type 0 where
    labelled : (b : Part) (i : Info) → l ≡ some (alone b i) → Labelled l

  pub label-alone : {a : Part} {p : Process} (t : Tree a p) (path : List ℕ) {q : Process} → look path p ≡ some q → Leaf q
      → Labelled (label_at t path)
  label-alone t path e l = elim (owner_of t path e) [
    | owner b u n g h ↦ elim (leaf-alone u l) [ is-alone i k f ↦ labelled b i (ap (label_at t) (sym (append-nil path)) ∙ h [] ∙ f) ]
  ]

  -- what is known of a leaf fits its part
  mutual
    unfolding label_at label_in

    pub label-sits : {a : Part} {p : Process} (t : Tree a p) (path : List ℕ) {b : Part} {i : Info}
        → label_at t path ≡ some (alone b i) → Sits b i
    label-sits {a} (t-leaf l j h) [] {b} {i} e =
        let z = some_same e in subst (λ c. Sits c i) (alone-part z) (subst (λ k. Sits a k) (alone-info z) h)
    label-sits (t-leaf l j h) (n ∷ path) e = never (cc)
    label-sits (t-par c f) [] e = never (alone-parted (some_same e))
    label-sits (t-par c f) (n ∷ path) e = forest-sits f n path e

    forest-sits : {vars chans : List Site} {w d : ℕ} {ss : Stmts} {bs : Branches} (f : Forest vars chans w d ss bs) (n : ℕ) (path : List ℕ)
        {b : Part} {i : Info} → label_in f n path ≡ some (alone b i) → Sits b i
    forest-sits f-none n path e = never (cc)
    forest-sits (f-live t f) zero path e = label-sits t path e
    forest-sits (f-live t f) (suc n) path e = forest-sits f n path e
    forest-sits (f-over f) zero path e = never (cc)
    forest-sits (f-over f) (suc n) path e = forest-sits f n path e

  -- the bytes of a leaf
  mutual
    unfolding label_at label_in bytes_at bytes_under

    pub leaf-bytes : {a : Part} {p : Process} (t : Tree a p) (path : List ℕ) {b : Part} {i : Info} → label_at t path ≡ some (alone b i)
        → bytes_at t path ≡ i.left
    leaf-bytes (t-leaf l j h) [] e = ap (λ (k : Info). k.left) (alone-info (some_same e))
    leaf-bytes (t-leaf l j h) (n ∷ path) e = never (cc)
    leaf-bytes (t-par c f) [] e = never (alone-parted (some_same e))
    leaf-bytes (t-par c f) (n ∷ path) e = forest-bytes f n path e

    forest-bytes : {vars chans : List Site} {w d : ℕ} {ss : Stmts} {bs : Branches} (f : Forest vars chans w d ss bs) (n : ℕ) (path : List ℕ)
        {b : Part} {i : Info} → label_in f n path ≡ some (alone b i) → bytes_under f n path ≡ i.left
    forest-bytes f-none n path e = never (cc)
    forest-bytes (f-live t f) zero path e = leaf-bytes t path e
    forest-bytes (f-live t f) (suc n) path e = forest-bytes f n path e
    forest-bytes (f-over f) zero path e = never (cc)
    forest-bytes (f-over f) (suc n) path e = forest-bytes f n path e

  -- no process has more left than the code has bytes
  mutual
    unfolding bytes_left bytes_in leaves leaves_in

    pub bytes-few : {a : Part} {p : Process} (t : Tree a p) → bytes_left t ≤ leaves p * whole S
    bytes-few (t-leaf l-before i h) = omega (arith, h.few)
    bytes-few (t-leaf l-input i h) = omega (arith, h.few)
    bytes-few (t-leaf l-output i h) = omega (arith, h.few)
    bytes-few (t-leaf l-stop i h) = omega (arith, h.few)
    bytes-few (t-leaf l-alt i h) = omega (arith, h.few)
    bytes-few (t-leaf l-wait i h) = omega (arith, h.few)
    bytes-few (t-leaf l-to-read i h) = omega (arith, h.few)
    bytes-few (t-leaf l-has-read i h) = omega (arith, h.few)
    bytes-few (t-leaf l-finished i h) = omega (arith, h.few)
    bytes-few (t-par c f) = forest-few f

    forest-few : {vars chans : List Site} {w d : ℕ} {ss : Stmts} {bs : Branches} (f : Forest vars chans w d ss bs)
        → bytes_in f ≤ leaves_in bs * whole S
    forest-few f-none = omega arith
    forest-few (f-live {p} {bs} t f) =
        let e : (leaves p + leaves_in bs) * whole S ≡ leaves p * whole S + leaves_in bs * whole S =
        add-mul (leaves p) (leaves_in bs) (whole S) in
        omega (arith, bytes-few t, forest-few f)
    forest-few (f-over f) = forest-few f

  -- a tree of q that runs the same as t but for what is known of the leaf at a path
  pub record Kept {a : Part} {p : Process} (t : Tree a p) (path : List ℕ) (b : Part) (i : Info) (q : Process) : Type 0 where
    pub tree : Tree a q
    pub here : label_at tree path ≡ some (alone b i)
    pub same : (other : List ℕ) → path ≢ other → label_at tree other ≡ label_at t other
    pub bytes : bytes_left tree + bytes_at t path ≡ bytes_left t + i.left

  -- where a leaf becomes a leaf
  pub kept : {a : Part} {p : Process} (t : Tree a p) (path : List ℕ) {q r : Process} → look path p ≡ some q → Leaf q → Leaf r
      → (b : Part) (i : Info) → part_at t path ≡ some b → Sits b i → Kept t path b i (put path r p)
  unfolding label_at label_in bytes_left bytes_in
  kept {a} {p} t path {q} {r} e l m b i at_b sits = elim (owner_of t path e) [ owner c u n g h ↦ with_part c u h ]
    where
      z : Tree b r
      z = t-leaf m i sits

      v : Rebuilt t path z (put path r p)
      v = rebuild t path z at_b

      with_part : (c : Part) (u : Tree c q) → ((rest : List ℕ) → label_at t (path ++ rest) ≡ label_at u rest)
          → Kept t path b i (put path r p)
      with_part c u h =
          record {
            tree = v.tree;
            here = subst (λ y. label_at v.tree y ≡ some (alone b i)) (append-nil path) (v.below []);
            same = λ other d. at other d (compare path other);
            bytes = v.bytes;
          }
        where
          at : (other : List ℕ) → path ≢ other → Compared path other → label_at v.tree other ≡ label_at t other
          at other d (equal x) = absurd (d x)
          at other d (below j rest x) =
              subst (λ y. label_at v.tree y ≡ label_at t y) (sym x)
              (v.below (j ∷ rest) ∙ leaf-none z m j rest ∙ sym (h (j ∷ rest) ∙ leaf-none u l j rest))
          at other d (above j rest x) = v.above other j rest x
          at other d (apart x) = v.aside other x

  -- the tree of q after the end of the branch i of the PAR at a path
  pub record EndedAt {a : Part} {p : Process} (t : Tree a p) (path : List ℕ) (i : ℕ) (q : Process) : Type 0 where
    pub tree : Tree a q
    pub gone : (rest : List ℕ) → label_at tree (path ++ i ∷ rest) ≡ none
    pub at-par : label_at tree path ≡ label_at t path
    pub above : (pre : List ℕ) (j : ℕ) (rest : List ℕ) → path ≡ pre ++ j ∷ rest → label_at tree pre ≡ label_at t pre
    pub others : (other : List ℕ) → Diverge (path ++ i ∷ []) other → label_at tree other ≡ label_at t other

  -- the end of a branch of the PAR at a path, where others are left
  pub ended_at : {a : Part} {p : Process} (t : Tree a p) (path : List ℕ) (i : ℕ) {bs : Branches} {k : List Frame}
      → look path p ≡ some (in_par bs k) → EndedAt t path i (put path (in_par (end_branch i bs) k) p)
  ended_at {a} {p} t path i {bs} {k} e = elim (owner_of t path e) [ owner b u n g h ↦ with_part b u g h ]
    where
      with_part : (b : Part) (u : Tree b (in_par bs k)) → part_at t path ≡ some b
          → ((rest : List ℕ) → label_at t (path ++ rest) ≡ label_at u rest) → EndedAt t path i (put path (in_par (end_branch i bs) k) p)
      with_part b u g h =
          record {
            tree = v.tree;
            gone = λ rest. v.below (i ∷ rest) ∙ z.gone rest;
            at-par =
                subst (λ y. label_at v.tree y ≡ label_at t y) (append-nil path) (v.below [] ∙ z.whole ∙ sym (h []));
            above = v.above;
            others = λ other w. at other (split path (i ∷ []) w);
          }
        where
          z : Ended u i
          z = ended u i

          v : Rebuilt t path z.tree (put path (in_par (end_branch i bs) k) p)
          v = rebuild t path z.tree g

          beside : (inner : List ℕ) → Diverge (i ∷ []) inner → label_at z.tree inner ≡ label_at u inner
          beside inner (here {j} {qs} n) = z.others j qs n
          beside inner (later w) = nil-apart refl w

          at : (other : List ℕ) → Split path (i ∷ []) other → label_at v.tree other ≡ label_at t other
          at other (early w) = v.aside other w
          at other (late inner x w) =
              subst (λ y. label_at v.tree y ≡ label_at t y) (sym x) (v.below inner ∙ beside inner w ∙ sym (h inner))
