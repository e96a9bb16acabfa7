-- The instructions that start a PAR: where it goes on, its count, which starts it, and the starts of its branches.
use Prim.Native.Nat.{ℕ, zero, suc, ◌+◌, ◌-◌, ◌^◌, ◌≤◌, ◌<◌}
use native.Mathlib.Omega.{arith}
use mathlib.Core.Path.{◌≡◌, refl, sym, ap, ◌∙◌, subst}
use mathlib.Core.Logic.{inl, inr}
use mathlib.Core.List.{List, [], ◌∷◌, ◌++◌}
use mathlib.Core.Option.{some}
use lib.ListN.{length, length-append}
use Rattle.model.specs.Limits.{word_limit}
use Rattle.model.specs.Syntax.{Site, Stmt, PAR, Stmts, no_stmt, stmt}
use Rattle.model.specs.Counts.{need, sum_need}
use Rattle.model.specs.Scheme.{how_many, size, size_ends, code, code_starts, code_ends}
use Rattle.model.specs.Instruction.{plain, operation}
use Rattle.model.specs.Instruction as I
use Rattle.model.specs.Code.{function_in, operand_in}
use Rattle.model.specs.Machine.{World, with_cpu, pop}
use Rattle.model.specs.Occam.{Store, Frame, Process, before, in_par, begin, branches, go, put, State, Step, begins}
use Rattle.model.specs.Demand.{step}
use Rattle.model.proofs.Quiet.Ways.{upd_same, upd_other, upd, pushing, Mem, arrived, quiet, quiet-ldc}
use Rattle.model.proofs.Quiet.Stretches.{Seg, seg-length}
use Rattle.model.proofs.Quiet.Setting.{Setting, whole, At}
use Rattle.model.proofs.Quiet.CodeParts.{rises-le}
use Rattle.model.proofs.Coding.Sizes.{code-length, ends-length}
use Rattle.model.proofs.Occam.Paths.{stmt_at, stmt-inside, Apart, here, later}
use Rattle.model.proofs.Cases.{never}
use Rattle.model.proofs.Words.Parts.{need-next, sum_first, Part, joins, part_of, Inside, FineBranches}
use Rattle.model.proofs.Quiet.Continuations.{cont-inside, cont-bound}
use Rattle.model.proofs.Quiet.Marks.{ParCode, pt-par-count}
use Rattle.model.proofs.Quiet.Arrivals.{Comes}
use Rattle.model.proofs.Quiet.Onwards.{Started, all_start, ends_next, start-path}
use Rattle.model.proofs.Invariant.Trees.{distance_of, Info, new_info, Tree, bytes_left}
use Rattle.model.proofs.Invariant.Leaves.{Unmarked}
use Rattle.model.proofs.Effects.OneWord.{cpu_of, stored, exec-stl}
use Rattle.model.proofs.Invariant.Kernel.{Loaded, S, root, LeafAt, Rest, Lined, Real, part_small}
use Rattle.model.proofs.Invariant.Grounds.{small_size, sound-at}
use Rattle.model.proofs.Invariant.Traces.{t-none, t-step}
use Rattle.model.proofs.Invariant.Running.{Only, StartsLeft, Later, l-here, l-next, not-started, Starting, fresh, ToStart, starts}
use Rattle.model.proofs.Invariant.Running.{Did, came, Executes, executes, Acting}
use Rattle.model.proofs.Invariant.Moving.{rest-narrow, lined-in}
use Rattle.model.proofs.Invariant.Reals.{size_is, real-state, real-cpu}
use Rattle.model.proofs.Invariant.Scheduling.{settle}
use Rattle.model.proofs.Invariant.Finish.{goes_on_lem, step-settles, silent}
use Rattle.model.proofs.Steps.Meets.{rest_below, real-below, clean-below}
use Rattle.model.proofs.Steps.Forks.{Branch, branch-of, fork_tree, fork_state, fork-branch, fork-rest, fork-lined, which, a-branch}
use Rattle.model.proofs.Steps.Forks.{aside-one}

-- what is known of the k-th of some branches
later-at : {ss : Stmts} {d b k : ℕ} {r : Stmt} {e f : ℕ} → Later ss d b k r e f → (stmt_at k ss ≡ some r) × (e ≡ d + distance_of k ss)
unfolding stmt_at distance_of
later-at l-here = (refl, omega arith)
later-at (l-next h) = let z = later-at h in (z.0, omega (arith, z.1))

later-room : {ss : Stmts} {d b k : ℕ} {r : Stmt} {e f w : ℕ} → d + sum_need ss ≤ w → Later ss d b k r e f → e + need r ≤ w
later-room l (l-here {s} {ss}) = omega (arith, sum_first s ss)
later-room {d = d} l (l-next {s} {ss} h) = later-room (need-next s ss d l) h

later-inner : {ss : Stmts} {d b k : ℕ} {r : Stmt} {e f n : ℕ} → b + size_ends ss ≤ n → Later ss d b k r e f → f + size r + 2 ≤ n
unfolding size_ends
later-inner l l-here = omega arith
later-inner {b = b} l (l-next {s} {ss} h) = later-inner (ends_next s ss b l) h

module _ (S : Setting) (a : Part) {vars chans : List Site} (w : ℕ) where
  later-inside : {ss : Stmts} {d b k : ℕ} {r : Stmt} {e f : ℕ} → FineBranches S.word a vars chans w d ss → Later ss d b k r e f
      → Inside (part_of vars chans (w - e) (joins e) r) a
  later-inside g l-here = g.0
  later-inside g (l-next h) = later-inside g.3 h

  later-comes : {σ : Store} {ss : Stmts} {d b k : ℕ} {r : Stmt} {e f : ℕ} → Started S a σ vars chans w d b ss → Later ss d b k r e f
      → Comes S (part_of vars chans (w - e) (joins e) r) σ vars chans (S.off (f + size r + 2)) (begin r []) f (w - e)
  later-comes g l-here = g.0
  later-comes g (l-next h) = later-comes g.1 h

module _ (L : Loaded) {s : World} {st : State} {μ : Mem} {t : Tree (S L) (root L) st.process} {path : List ℕ}
    {p : ℕ} {d : Stmt} {ds : Stmts}
    {k : List Frame} {b : Part} {i : Info} {ws : List ℕ} {at hi : ℕ}
    (A : Acting L s st μ t path (before (PAR p (stmt d ds)) k) b i (Only path) ws at hi) (clean : Unmarked (S L) b i st μ) where
  abbrev w : ℕ
  w = (cpu_of s).workspace

  -- STL 0: where the PAR goes on
  pub did-place : {h : ℕ} → At (S L) (suc at) (plain I.ldc (suc (how_many ds))) → At (S L) (suc (suc at)) (plain I.stl 1)
      → (c : ParCode (S L) b d ds i.vars i.chans k h (suc (suc (suc at))) w) → (cpu_of s).a ≡ L.off c.over → h ≤ hi
      → Did L (Executes L (plain I.stl 0) s) s st (bytes_left (S L) t)
  unfolding function_in operand_in
  did-place {h} x y c v le =
      let high : w + 2 ≤ word_limit = omega (arith, c.placed.low, part_small L A.leaf, small_size L) in
      let z = L.off c.over in
      let r = pop (cpu_of s) in
      let low-w : b.bottom ≤ w = omega (arith, c.room) in
      let below : w < w + 2 = omega arith in
      let ran : Executes L (plain I.stl 0) s (with_cpu r (stored w z s)) =
      executes
      (exec-stl 0 w s (omega (arith, high))
      (rw (size_is L A.real) (omega (arith, c.placed.low, part_small L A.leaf))) ∙ rw v) in
      let bound : L.off (suc (suc (suc at))) ≤ hi =
      omega (
        arith,
        cont-bound (S L) b c.after,
        rises-le (S L) (suc (suc (suc at))) c.over (omega (arith, seg-length c.starts, seg-length c.branches))
            (cont-inside (S L) b c.after),
      ) in
      goes_on_lem L A (with_cpu r (stored w z s)) ran refl
      (real-cpu L r refl refl refl (real-below L A.leaf refl c.placed w z low-w below A.lined A.real)) A.run A.operand
      (rest_below L A.leaf refl c.placed w z low-w below (λ e. never (cc)) A.rest) A.lined (suc at) hi A.placed A.inside
      (omega arith) (quiet (pushing (suc (how_many ds))) x (quiet-ldc (suc (how_many ds)))
      (arrived (pt-par-count y refl c (upd_same μ w z)) bound)) tt
      (clean-below L i st st μ c.placed w z below clean)

  -- STL 1: the count. The PAR is started
  module _ {h : ℕ} (c : ParCode (S L) b d ds i.vars i.chans k h (suc at) w) (val : (cpu_of s).a ≡ suc (how_many ds))
      (place : μ w ≡ L.off c.over) where
    abbrev ν : Mem
    ν = upd μ (w + 1) (suc (how_many ds))

    abbrev u : World
    u = with_cpu (pop (cpu_of s)) (stored (w + 1) (suc (how_many ds)) s)

    high : w + 2 ≤ word_limit
    high = omega (arith, c.placed.low, part_small L A.leaf, small_size L)

    low-1 : b.bottom ≤ w + 1
    low-1 = omega (arith, c.room)

    below-1 : w + 1 < w + 2
    below-1 = omega arith

    counted : Executes L (plain I.stl 1) s u
    unfolding function_in operand_in
    counted =
        executes
        (exec-stl 1 (w + 1) s (omega (arith, high))
        (rw (size_is L A.real) (omega (arith, c.placed.low, part_small L A.leaf))) ∙ rw val)

    real₀ : Real L u (fork_state L A.leaf c) ν ws
    real₀ =
        real-state L (put path (in_par (branches (stmt d ds)) k) st.process) st.store
        (real-cpu L (pop (cpu_of s)) refl refl refl
        (real-below L A.leaf refl c.placed (w + 1) (suc (how_many ds)) low-1 below-1 A.lined A.real))

    clean₀ : Unmarked (S L) b i st ν
    clean₀ = clean-below L i st st μ c.placed (w + 1) (suc (how_many ds)) below-1 clean

    rest₀ : Rest L st ν t (Only path) ws
    rest₀ = rest_below L A.leaf refl c.placed (w + 1) (suc (how_many ds)) low-1 below-1 (λ e. never (cc)) A.rest

    place₀ : ν w ≡ L.off c.over
    place₀ = upd_other μ (w + 1) (suc (how_many ds)) w (λ e. absurd (omega arith)) ∙ place

    rest₁ : Rest L (fork_state L A.leaf c) ν (fork_tree L A.leaf c) (Branch path) ws
    rest₁ = fork-rest L A.leaf c rest₀ clean₀ place₀ (upd_same μ (w + 1) (suc (how_many ds)))

    lines₁ : Lined L (fork_state L A.leaf c) (fork_tree L A.leaf c) (Branch path) ws
    lines₁ = fork-lined L A.leaf c rest₀ clean₀ place₀ (upd_same μ (w + 1) (suc (how_many ds))) A.lined

    forks : Step st [] (fork_state L A.leaf c)
    unfolding go
    forks = begins path A.leaf.found

    -- what the branches will do
    started-all : Started (S L) b st.store i.vars i.chans w 0 c.first (stmt d ds)
    started-all = all_start (S L) b st.store c (sound-at L A.rest A.leaf)

    -- a branch's names are the PAR's
    branch-clean : (part : Part) (v : ℕ) → Inside part b
        → Unmarked (S L) part (new_info (S L) i.vars i.chans v) (fork_state L A.leaf c) ν
    branch-clean part v inner a q o = clean₀ a q (record {
      above = omega (arith, o.above, inner.above);
      below = omega (arith, o.below, inner.below);
    })

    -- the branches' code is in the code
    ends-in : c.first + size d + 2 + size_ends ds ≤ length (S L).xs
    unfolding code_ends
    ends-in =
        omega (
          arith,
          seg-length c.branches,
          length-append (code (S L).word w c.first d)
              (plain I.ldlp 0 ∷ operation I.endp ∷ code_ends (S L).word w (need d) (c.first + size d + 2) ds),
          code-length (S L).word w c.first d,
          ends-length (S L).word w (need d) (c.first + size d + 2) ds,
          cont-inside (S L) b c.after,
        )

    -- what is known of a branch
    module _ {m e f : ℕ} {r : Stmt} (it : Later (stmt d ds) 0 c.first m r e f) where
      branch-leaf : LeafAt L (fork_state L A.leaf c) (fork_tree L A.leaf c) (path ++ m ∷ []) (begin r [])
          (part_of i.vars i.chans (w - e) (joins e) r) (new_info (S L) i.vars i.chans (w - e))
      branch-leaf =
          let z = later-at it in
          let g : distance_of m (stmt d ds) ≡ e = omega (arith, z.1) in
          subst (λ y. LeafAt L (fork_state L A.leaf c) (fork_tree L A.leaf c) (path ++ m ∷ []) (begin r [])
          (part_of i.vars i.chans (w - y) (joins y) r) (new_info (S L) i.vars i.chans (w - y))) g
          (fork-branch L A.leaf c m z.0)

      branch-comes : Comes (S L) (part_of i.vars i.chans (w - e) (joins e) r) st.store i.vars i.chans
          (L.off (f + size r + 2))
          (begin r []) f (w - e)
      branch-comes = later-comes (S L) b w started-all it

      branch-inner : f + size r + 2 ≤ length (S L).xs
      unfolding size_ends
      branch-inner = later-inner (omega (arith, ends-in)) it

      branch-room : e + need r ≤ w
      branch-room = later-room (omega (arith, c.room)) it

      branch-unmarked : Unmarked (S L) (part_of i.vars i.chans (w - e) (joins e) r) (new_info (S L) i.vars i.chans (w - e))
          (fork_state L A.leaf c) ν
      branch-unmarked = branch-clean (part_of i.vars i.chans (w - e) (joins e) r) (w - e) (later-inside (S L) b w c.fine it)

-- no branch's path is apart from the PAR's
pub beside : {path other : List ℕ} (n : ℕ) → Apart path other → other ≡ path ++ n ∷ [] → ⊥
beside n (here x) e = x (cc)
beside n (later a) e = beside n a (cc)

-- of one branch the number is 0
only_zero : (path : List ℕ) {other : List ℕ} (d : Stmt) {r : Stmt} (l : ℕ) → stmt_at l (stmt d no_stmt) ≡ some r
    → other ≡ path ++ l ∷ [] → path ++ 0 ∷ [] ≡ other
unfolding how_many
only_zero path d l g x =
    let z : l ≡ 0 = omega (arith, stmt-inside l (stmt d no_stmt) g) in
    sym (x ∙ ap (λ m. path ++ m ∷ []) z)

-- the only branch of a PAR goes on
module _ (L : Loaded) {s : World} {st : State} {μ : Mem} {t : Tree (S L) (root L) st.process} {path : List ℕ} {p : ℕ} {d : Stmt}
    {k : List Frame} {b : Part} {i : Info} {ws : List ℕ} {at hi h : ℕ} where
  pub count-one : (A : Acting L s st μ t path (before (PAR p (stmt d no_stmt)) k) b i (Only path) ws at hi) → Unmarked (S L) b i st μ
      → (c : ParCode (S L) b d no_stmt i.vars i.chans k h (suc at) (cpu_of s).workspace) → (cpu_of s).a ≡ suc (how_many no_stmt)
      → μ (cpu_of s).workspace ≡ L.off c.over → Did L (Executes L (plain I.stl 1) s) s st (bytes_left (S L) t)
  unfolding code_starts
  count-one A clean c val place =
      let first-is : c.first ≡ suc at = seg-length c.starts ∙ omega arith in
      let leaf = branch-leaf L A clean c val place l-here in
      let few : whole (S L) ≤ whole (S L) = omega arith in
      let none : (cpu_of s).workspace - 0 ≡ (cpu_of s).workspace = omega arith in
      step-settles L (forks L A clean c val place) (counted L A clean c val place) (silent L s (u L A clean c val place) refl)
      (settle L (real₀ L A clean c val place) leaf
      (rest-narrow L (λ other q e j m o. only-first A c m o)
      (λ other o. branch-of 0 (sym o)) (rest₁ L A clean c val place))
      (lined-in L (λ other o. branch-of 0 (sym o)) (lines₁ L A clean c val place)) (whole (S L))
      (record {
        run = A.run;
        operand = A.operand;
        place = A.placed ∙ ap L.off
            (sym first-is);
        work = sym none;
        inside = rw first-is A.inside;
      })
      (branch-comes L A clean c val place l-here) (branch-unmarked L A clean c val place l-here)
      (omega (arith, rises-le (S L) (c.first + size d + 2) (length (S L).xs) (branch-inner L A clean c val place l-here) (omega arith)))
      few)
    where
      only-first : (A : Acting L s st μ t path (before (PAR p (stmt d no_stmt)) k) b i (Only path) ws at hi)
          (c : ParCode (S L) b d no_stmt i.vars i.chans k h (suc at) (cpu_of s).workspace)
          → {other : List ℕ} {q : Process} {e : Part} {j : Info}
          → LeafAt L (fork_state L A.leaf c) (fork_tree L A.leaf c) other q e j → Branch path other → path ++ 0 ∷ [] ≡ other
      only-first A c m (branch-of n z) = elim (which L A.leaf c m) [
        | a-branch l r g x y ↦ only_zero path d l g x
        | aside-one a y ↦ absurd (beside n a z)
      ]

-- the first branch of a PAR goes on to start the others
module _ (L : Loaded) {s : World} {st : State} {μ : Mem} {t : Tree (S L) (root L) st.process} {path : List ℕ} {p : ℕ}
    {d r : Stmt} {rs : Stmts}
    {k : List Frame} {b : Part} {i : Info} {ws : List ℕ} {at hi h : ℕ}
    (A : Acting L s st μ t path (before (PAR p (stmt d (stmt r rs))) k) b i (Only path) ws at hi) (clean : Unmarked (S L) b i st μ)
    (c : ParCode (S L) b d (stmt r rs) i.vars i.chans k h (suc at) (cpu_of s).workspace)
    (val : (cpu_of s).a ≡ suc (how_many (stmt r rs))) (place : μ (cpu_of s).workspace ≡ L.off c.over) where
  abbrev v : ℕ
  v = (cpu_of s).workspace

  abbrev all-to-start : StartsLeft
  all-to-start =
      record {
        par = path;
        next = 1;
        s = r;
        ss = rs;
        d = 0 + need d;
        b = c.first + size d + 2;
        first = c.first;
        w = v;
        vars = i.vars;
        chans = i.chans;
      }

  each-to-start : (m : ℕ) (q : Stmt) (e f : ℕ) → Later (stmt r rs) (0 + need d) (c.first + size d + 2) m q e f
      → ToStart L (fork_state L A.leaf c) (ν L A clean c val place) (fork_tree L A.leaf c) all-to-start m q e f
  each-to-start m q e f behind =
      let it : Later (stmt d (stmt r rs)) 0 c.first (suc m) q e f = l-next behind in
      let number : suc m ≡ 1 + m = omega arith in
      record {
        leaf = subst (λ n. LeafAt L (fork_state L A.leaf c) (fork_tree L A.leaf c) (path ++ n ∷ []) (begin q [])
            (part_of i.vars i.chans (v - e) (joins e) q) (new_info (S L) i.vars i.chans (v - e))) number
            (branch-leaf L A clean c val place it);
        comes = branch-comes L A clean c val place it;
        inner = branch-inner L A clean c val place it;
        room = branch-room L A clean c val place it;
        unmarked = branch-unmarked L A clean c val place it;
      }

  all-starting : {other : List ℕ} {q : Process} {e : Part} {j : Info}
      → LeafAt L (fork_state L A.leaf c) (fork_tree L A.leaf c) other q e j
      → Branch path other → Starting (path ++ 0 ∷ []) all-to-start other
  unfolding how_many
  all-starting m (branch-of n z) = elim (which L A.leaf c m) [
    | a-branch l g x y _ ↦ numbered l x y
    | aside-one a y ↦ absurd (beside n a z)
  ]
    where
      numbered : {other : List ℕ} {g : Stmt} (l : ℕ) → stmt_at l (stmt d (stmt r rs)) ≡ some g → other ≡ path ++ l ∷ []
          → Starting (path ++ 0 ∷ []) all-to-start other
      numbered zero x y = inl (sym y)
      numbered (suc l) x y =
          let few : l ≤ how_many rs = omega (arith, stmt-inside (suc l) (stmt d (stmt r rs)) x) in
          let number : suc l ≡ 1 + l = omega arith in
          inr (not-started l few (y ∙ ap (λ n. path ++ n ∷ []) number))

  branch-starting : {other : List ℕ} → Starting (path ++ 0 ∷ []) all-to-start other → Branch path other
  branch-starting (inl e) = branch-of 0 (sym e)
  branch-starting (inr (not-started l few e)) = branch-of (1 + l) e

  pub count-more : Did L (Executes L (plain I.stl 1) s) s st (bytes_left (S L) t)
  count-more =
      let last : Later (stmt d (stmt r rs)) 0 c.first 0 d 0 c.first = l-here in
      let none : v - 0 ≡ v = omega arith in
      let X = u L A clean c val place in
      let hi₁ = L.off (c.first + size d + 2) in
      let inner : c.first + size d + 2 ≤ length (S L).xs = branch-inner L A clean c val place last in
      let small : whole (S L) < 2 ^ 32 = (sound-at L A.rest A.leaf).bytes in
      let wide : v < 2 ^ 32 = omega (arith, high L A clean c val place) in
      let zero-plus : need d ≡ 0 + need d = omega arith in
      let seg : Seg (S L).xs (suc at) (code_starts (S L).word (0 + need d) (suc at) (c.first + size d + 2) (stmt r rs)) c.first =
      rw (sym zero-plus) c.starts in
      came X (step [] (fork_state L A.leaf c) ∷ []) (counted L A clean c val place)
      (t-step (forks L A clean c val place) t-none) (silent L s X refl)
      (starts all-to-start (real₀ L A clean c val place) A.run (branch-leaf L A clean c val place last)
      (rest-narrow L (λ other q e j m o. all-starting m o)
      (λ other o. branch-starting o) (rest₁ L A clean c val place))
      (lined-in L (λ other o. branch-starting o) (lines₁ L A clean c val place))
      (record {
        hi = hi₁;
        at = suc at;
        first-branch = refl;
        next_one = omega arith;
        same_w = none;
        here = fresh L (suc at) (cpu_of X).place (cpu_of X).operand A.inside A.placed A.operand;
        way = start-path (S L) st.store r rs (0 + need d) (c.first + size d + 2) small wide seg
            (omega (arith, branch-room L A clean c val place last)) inner (omega (arith, inner))
            (rises-le (S L) c.first (c.first + size d + 2) (omega arith) inner) refl;
        all-to-start = each-to-start;
        own =
            subst (λ z. Comes (S L) (part_of i.vars i.chans (v - 0) (joins 0) d) st.store i.vars i.chans hi₁
            (begin d []) c.first z)
            none (branch-comes L A clean c val place last);
        inner = omega (arith, inner);
        near = rises-le (S L) c.first (c.first + size d + 2) (omega arith) inner;
        unmarked = branch-unmarked L A clean c val place last;
        soon = omega (arith, rises-le (S L) (c.first + size d + 2) (length (S L).xs) inner (omega arith));
      })) (inr (omega arith))
