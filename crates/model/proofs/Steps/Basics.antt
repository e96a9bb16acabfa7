-- Assignments, the tests of IF and WHILE, STOP and an IF without a true condition.
use Prim.Native.Nat.{ℕ, suc, ◌+◌, ◌^◌, ◌≤◌, ◌<◌}
use native.Mathlib.Omega.{arith}
use mathlib.Core.Path.{◌≡◌, refl, sym, ap, ◌∙◌, subst}
use mathlib.Core.Logic.{◌≢◌}
use mathlib.Core.Bool.{true, false}
use mathlib.Core.List.{List, ◌∷◌, Memᴰ, []}
use lib.ListN.{length}
use lib.Dec.{eqb}
use borrow.Author.Tests.{eqb-true, eqb-false}
use Rattle.model.specs.Word.{low, less}
use Rattle.model.specs.Syntax.{Site, Expr, Stmt, STOP, IF, WHILE, Pairs}
use Rattle.model.specs.Instruction.{Instruction, plain, distance, operation}
use Rattle.model.specs.Instruction as I
use Rattle.model.specs.Code.{function_in, operand_in}
use Rattle.model.specs.Scheme.{code}
use Rattle.model.specs.Machine.{World, with_cpu, goto, resume_word, pop}
use Rattle.model.specs.Occam.{eval, store, Frame, in_while, Process, before, at_stop, resume, begin, moved, go, first_true, frames_of}
use Rattle.model.specs.Occam.{State, Step}
use Rattle.model.specs.Demand.{live_in}
use Rattle.model.proofs.Cases.{never, by_bool}
use Rattle.model.proofs.Quiet.Ways.{upd_other, upd, Mem}
use Rattle.model.proofs.Quiet.Stretches.{Seg, seg-length}
use Rattle.model.proofs.Quiet.Setting.{whole}
use Rattle.model.proofs.Quiet.CodeParts.{rises-le}
use Rattle.model.proofs.Occam.Paths.{Leaf, l-stop, leaf-resume, leaf-begin, live-resume, live-begin, silent-resume, silent-begin}
use Rattle.model.proofs.Occam.Paths.{is_alt, off-resume, off-begin}
use Rattle.model.proofs.Words.Parts.{Part, Fine, Target, Within}
use Rattle.model.proofs.Quiet.Continuations.{Placed, Cont, cont-inside, cont-placed}
use Rattle.model.proofs.Quiet.Marks.{Own}
use Rattle.model.proofs.Quiet.Arrivals.{Comes, enters, arrives}
use Rattle.model.proofs.Invariant.Trees.{Info, Sits, Tree, bytes_left}
use Rattle.model.proofs.Invariant.Leaves.{Unmarked, h-stop}
use Rattle.model.proofs.Effects.OneWord.{cpu_of, stored, exec-stl, exec-cj-jumps, exec-cj-goes-on}
use Rattle.model.proofs.Effects.Acts.{exec-stopp-general}
use Rattle.model.proofs.Invariant.Kernel.{Loaded, S, root, size, LeafAt, Rest, Real, node, part_small}
use Rattle.model.proofs.Invariant.Writes.{changed, after-leaf, after-lined, write-own, write-var, left_out}
use Rattle.model.proofs.Invariant.Puts.{rest_then, putting}
use Rattle.model.proofs.Invariant.Traces.{begins-as}
use Rattle.model.proofs.Invariant.Grounds.{var-in, small_size, sound-at}
use Rattle.model.proofs.Invariant.Running.{Only, Did, Executes, executes, Acting}
use Rattle.model.proofs.Invariant.Reals.{size_is, real-state, real-cpu, real-stored, link-own, link-var}
use Rattle.model.proofs.Invariant.Finish.{silent}
use Rattle.model.proofs.Steps.Advance.{Silent, advances, leaves-as}
use Rattle.model.proofs.Steps.Quiets.{target}

-- a process that begins a statement sends nothing
pub before-silent : (s : Stmt) (k : List Frame) → Silent (before s k)
before-silent s k c v f e = never (cc)

module _ (L : Loaded) where
  -- STL: a variable gets a value
  module _ {s : World} {st : State} {μ : Mem} {t : Tree (S L) (root L) st.process} {path : List ℕ} {q : Process} (y : Site) (z : ℕ)
      (k : List Frame) {b : Part} {i : Info} {ws : List ℕ} {at hi h : ℕ} (A : Acting L s st μ t path q b i (Only path) ws at hi) (o : ℕ)
      (named : low ((cpu_of s).workspace + o) ≡ (S L).word y) (target : Target b i.vars y) (v : (cpu_of s).a ≡ z) (small : z < 2 ^ 32)
      (c : Cont (S L) b h i.vars i.chans k (suc at) (cpu_of s).workspace) (near : h ≤ whole (S L) + L.off at)
      (clean : Unmarked (S L) b i st μ) where
    abbrev st₀ : State
    st₀ = changed (store y z st.store) st.offers st

    abbrev ν : Mem
    ν = upd μ ((S L).word y) z

    abbrev u : World
    u = with_cpu (pop (cpu_of s)) (stored ((S L).word y) z s)

    in_memory : (S L).word y < size L
    in_memory = omega (arith, var-in L (node L A.leaf) y target.0)

    assigned : Executes L (plain I.stl o) s u
    unfolding function_in operand_in
    assigned = executes (exec-stl o ((S L).word y) s named (rw (size_is L A.real) in_memory) ∙ rw v)

    rest₀ : Rest L st₀ ν t (Only path) ws
    rest₀ = write-var L A.leaf A.rest y z target.0 target.1 small refl

    real₀ : Real L u st₀ ν ws
    real₀ =
        real-cpu L (pop (cpu_of s)) refl refl refl
        (real-state L st.process (store y z st.store)
        (real-stored L ((S L).word y) z in_memory (link-var L A.lined A.leaf refl y target.0) A.real))

    clean₀ : Unmarked (S L) b i st₀ ν
    clean₀ d m q =
        clean d m (subst (Own b) (upd_other μ ((S L).word y) z ((S L).word d)
        (λ w. (cont-placed (S L) b c).scoped.apart y d target.0 m (sym w))) q)

    pub did-store : Silent q → is_alt q ≡ false → Within (live_in k) i.vars → Step st [] (putting path (resume k) st₀)
        → Did L (Executes L (plain I.stl o) s) s st (bytes_left (S L) t)
    did-store quiet off live one =
        let leaf₀ : LeafAt L st₀ t path q b i = after-leaf L A.leaf in
        let p = cont-placed (S L) b c in
        let near_on : h ≤ whole (S L) + L.off (suc at) = omega (arith, (S L).rises at (suc at) (omega arith) A.inside) in
        advances L real₀ leaf₀ rest₀ (after-lined L A.lined) clean₀ quiet (λ e. never (cc (e, off))) (resume k) (leaf-resume k)
        (record { vars = i.vars; chans = i.chans; w = (cpu_of s).workspace; left = whole (S L) }) p (omega arith)
        (rest₀.vars (node L leaf₀)) (rest₀.chans (node L leaf₀)) (live-resume k i.vars live)
        (λ c v f e. silent-resume k e) (off-resume k) one assigned (silent L s u refl)
        (record { run = A.run; operand = A.operand; place = A.placed; work = refl; inside = A.inside })
        (arrives (S L) b st₀.store c near_on (sound-at L rest₀ leaf₀)) clean₀ near_on

  -- the tests of IF and WHILE
  module _ {s : World} {st : State} {μ : Mem} {t : Tree (S L) (root L) st.process} {path : List ℕ} {d : Stmt} {k : List Frame}
      {b : Part} {i : Info} {ws : List ℕ} {at hi : ℕ} (A : Acting L s st μ t path (before d k) b i (Only path) ws at hi)
      (clean : Unmarked (S L) b i st μ) where
    -- on to p in the same store, at an instruction
    steps_on : {x : Instruction} {nx h : ℕ} (u : World) (p : Process) → Executes L x s u → u.talk ≡ s.talk → Real L u st μ ws
        → (cpu_of u).running ≡ true → (cpu_of u).operand ≡ 0 → (cpu_of u).place ≡ L.off nx → (cpu_of u).workspace ≡ (cpu_of s).workspace
        → nx ≤ length (S L).xs → go d k st.store ≡ moved p st.store → Leaf p
        → ((x : Site) → Memᴰ x (live_in (frames_of p)) → Memᴰ x i.vars) → Silent p → is_alt p ≡ false
        → Comes (S L) b st.store i.vars i.chans h p nx (cpu_of s).workspace
        → Placed (S L) b (cpu_of s).workspace i.vars i.chans → h ≤ whole (S L) + L.off nx
        → Did L (Executes L x s) s st (bytes_left (S L) t)
    steps_on u p ran talk real run operand place work inner e l live quiet off c placed near =
        advances L real A.leaf A.rest A.lined clean (before-silent d k) (λ e. never (cc)) p l
        (record { vars = i.vars; chans = i.chans; w = (cpu_of s).workspace; left = whole (S L) }) placed (omega arith)
        (A.rest.vars (node L A.leaf)) (A.rest.chans (node L A.leaf)) live quiet off (begins-as path A.leaf.found e) ran
        (silent L s u talk)
        (record { run = run; operand = operand; place = place; work = work; inside = inner }) c clean near

    -- CJ with a true condition: on to what stands behind it
    goes_on_lem : {g h : ℕ} {p : Process} → (cpu_of s).a ≢ 0 → go d k st.store ≡ moved p st.store → Leaf p
        → ((x : Site) → Memᴰ x (live_in (frames_of p)) → Memᴰ x i.vars) → Silent p → is_alt p ≡ false
        → Comes (S L) b st.store i.vars i.chans h p (suc at) (cpu_of s).workspace
        → Placed (S L) b (cpu_of s).workspace i.vars i.chans → h ≤ whole (S L) + L.off (suc at)
        → Did L (Executes L (distance I.cj g at) s) s st (bytes_left (S L) t)
    unfolding function_in operand_in
    goes_on_lem v e l live quiet off c placed near =
        let r = pop (cpu_of s) in
        steps_on (with_cpu r s) _ (executes (exec-cj-goes-on _ s v)) refl (real-cpu L r refl refl refl A.real)
        A.run A.operand A.placed
        refl A.inside e l live quiet off c placed near

    -- CJ with a false condition: a jump
    goes_to : {g h : ℕ} {p : Process} → g ≤ length (S L).xs → (cpu_of s).a ≡ 0 → go d k st.store ≡ moved p st.store → Leaf p
        → ((x : Site) → Memᴰ x (live_in (frames_of p)) → Memᴰ x i.vars) → Silent p → is_alt p ≡ false
        → Comes (S L) b st.store i.vars i.chans h p g (cpu_of s).workspace
        → Placed (S L) b (cpu_of s).workspace i.vars i.chans → h ≤ whole (S L) + L.off g
        → Did L (Executes L (distance I.cj g at) s) s st (bytes_left (S L) t)
    unfolding function_in operand_in
    goes_to {g} inner v e l live quiet off c placed near =
        let r = goto (low ((cpu_of s).place + less (L.off g) (L.off (suc at)))) (cpu_of s) in
        steps_on (with_cpu r s) _ (executes (exec-cj-jumps _ s v)) refl (real-cpu L r refl refl refl A.real) A.run A.operand
        (target L A g inner) refl inner e l live quiet off c placed near

    live_here : (x : Site) → Memᴰ x (live_in k) → Memᴰ x i.vars
    live_here = A.rest.live A.leaf

  module _ {s : World} {st : State} {μ : Mem} {t : Tree (S L) (root L) st.process} {path : List ℕ} {k : List Frame} {b : Part} {i : Info}
      {ws : List ℕ} {at hi : ℕ} where
    -- an IF takes a branch
    pub did-taken : {ps : Pairs} (d : Stmt) {g m h : ℕ} (A : Acting L s st μ t path (before (IF ps) k) b i (Only path) ws at hi)
        → Unmarked (S L) b i st μ → (cpu_of s).a ≢ 0 → first_true st.store ps k ≡ begin d k
        → Seg (S L).xs (suc at) (code (S L).word (cpu_of s).workspace (suc at) d) m
        → Fine (S L).word b i.vars i.chans (cpu_of s).workspace d → Cont (S L) b h i.vars i.chans k m (cpu_of s).workspace
        → h ≤ whole (S L) + L.off at → Did L (Executes L (distance I.cj g at) s) s st (bytes_left (S L) t)
    unfolding go
    did-taken d {m = m} {h} A clean v e g f c near =
        let sound = sound-at L A.rest A.leaf in
        let near_on : h ≤ whole (S L) + L.off (suc at) = omega (arith, (S L).rises at (suc at) (omega arith) A.inside) in
        let near-end : h ≤ whole (S L) + L.off m =
        omega (arith, rises-le (S L) (suc at) m (omega (arith, seg-length g)) (cont-inside (S L) b c)) in
        goes_on_lem A clean v (ap (λ p. moved p st.store) e) (leaf-begin d k) (live-begin d k i.vars (live_here A clean))
        (λ c v f e. silent-begin d k e) (off-begin d k)
        (enters (S L) b st.store d g f c near_on sound (arrives (S L) b st.store c near-end sound)) (cont-placed (S L) b c) near_on

    -- a WHILE's test
    pub did-while : {e : Expr} {d : Stmt} {g m h h' : ℕ} (A : Acting L s st μ t path (before (WHILE e d) k) b i (Only path) ws at hi)
        → Unmarked (S L) b i st μ → suc at ≤ g → (cpu_of s).a ≡ eval st.store e
        → Seg (S L).xs (suc at) (code (S L).word (cpu_of s).workspace (suc at) d) m
        → Fine (S L).word b i.vars i.chans (cpu_of s).workspace d
        → Cont (S L) b h' i.vars i.chans (in_while e d ∷ k) m (cpu_of s).workspace → h' ≤ whole (S L) + L.off (suc at)
        → Cont (S L) b h i.vars i.chans k g (cpu_of s).workspace → h ≤ whole (S L) + L.off at
        → Did L (Executes L (distance I.cj g at) s) s st (bytes_left (S L) t)
    unfolding go
    did-while {e} {d} {g} {m} {h} {h'} A clean l v seg f c' near' c near =
        let sound = sound-at L A.rest A.leaf in
        let inner = cont-inside (S L) b c in
        let near_on : h ≤ whole (S L) + L.off g = omega (arith, rises-le (S L) at g (omega arith) inner) in
        let near-end : h' ≤ whole (S L) + L.off m =
        omega (arith, rises-le (S L) (suc at) m (omega (arith, seg-length seg)) (cont-inside (S L) b c')) in
        by_bool (eqb (eval st.store e) 0)
        (λ z. goes_to A clean inner (v ∙ eqb-true _ _ z) (rw z) (leaf-resume k) (live-resume k i.vars (live_here A clean))
        (λ c v f e. silent-resume k e) (off-resume k) (arrives (S L) b st.store c near_on sound) (cont-placed (S L) b c) near_on)
        (λ z. goes_on_lem A clean (λ q. eqb-false _ _ z (sym v ∙ q)) (rw z) (leaf-begin d (in_while e d ∷ k))
        (live-begin d (in_while e d ∷ k) i.vars (live_here A clean)) (λ c v f y. silent-begin d (in_while e d ∷ k) y)
        (off-begin d (in_while e d ∷ k))
        (enters (S L) b st.store d seg f c' near' sound (arrives (S L) b st.store c' near-end sound)) (cont-placed (S L) b c') near')

  -- STOPP: coming to a wait for ever
  module _ {s : World} {st : State} {μ : Mem} {t : Tree (S L) (root L) st.process} {path : List ℕ} {d : Stmt} {k : List Frame} {b : Part}
      {i : Info} {ws : List ℕ} {at hi : ℕ} (A : Acting L s st μ t path (before d k) b i (Only path) ws at hi)
      (clean : Unmarked (S L) b i st μ) (placed : Placed (S L) b (cpu_of s).workspace i.vars i.chans)
      (stops : go d k st.store ≡ moved (at_stop k) st.store) where
    abbrev v : ℕ
    v = resume_word (cpu_of s).workspace

    high : b.top ≤ (S L).top
    high = part_small L A.leaf

    v_low : b.bottom ≤ v
    v_low = omega (arith, placed.room, placed.low, high, small_size L)

    v_high : v < b.top
    v_high = omega (arith, placed.room, placed.low, high, small_size L)

    below : v < (cpu_of s).workspace
    below = omega (arith, placed.room, placed.low, high, small_size L)

    abbrev stopped : Mem
    stopped = upd μ v (cpu_of s).place

    stop-rest : Rest L st stopped t (Only path) ws
    stop-rest =
        write-own L A.leaf A.rest v (cpu_of s).place v_low v_high
        (λ x m e. absurd (omega (arith, placed.scoped.vars-above x m, below, e)))
        (λ x m e. absurd (omega (arith, placed.scoped.chans-above x m, below, e))) (left_out refl (λ e. never (cc)))

    stop-clean : Unmarked (S L) b i st stopped
    stop-clean c m o =
        clean c m (subst (Own b) (upd_other μ v (cpu_of s).place ((S L).word c)
        (λ e. absurd (omega (arith, placed.scoped.chans-above c m, below, e)))) o)

    waits-for-ever : Did L (Executes L (operation I.stopp) s) s st (bytes_left (S L) t)
    unfolding function_in operand_in
    waits-for-ever =
        let real = real-stored L v (cpu_of s).place (omega (arith, v_high, high))
        (link-own L A.lined A.leaf refl v v_low v_high) A.real in
        let j : Info = record { vars = i.vars; chans = i.chans; w = (cpu_of s).workspace; left = whole (S L) } in
        let sits : Sits (S L) b j = record { placed = placed; few = omega arith } in
        leaves-as L real A.leaf A.lined (at_stop k) l-stop j sits
        (rest_then L A.leaf (at_stop k) l-stop j sits stop-rest refl (stop-rest.vars (node L A.leaf))
        (stop-rest.chans (node L A.leaf)) (A.rest.live A.leaf) (λ c m o. m) (λ c v f e other r d z y n m. never (cc))
        (λ c v f e other r d z y n m g o. never (cc)) (λ e. never (cc)) (λ e. never (cc)))
        (λ t f e. never (cc)) (h-stop stop-clean) A.operand (begins-as path A.leaf.found stops)
        (λ x f g. executes (exec-stopp-general (cpu_of s).workspace (cpu_of s).place s refl refl
        (rw (size_is L A.real) (omega (arith, v_high, high))) ∙ f))
        (silent L s (stored v (cpu_of s).place s) refl)

  module _ {s : World} {st : State} {μ : Mem} {t : Tree (S L) (root L) st.process} {path : List ℕ} {k : List Frame} {b : Part} {i : Info}
      {ws : List ℕ} {at hi : ℕ} where
    -- STOP
    pub did-stop : (A : Acting L s st μ t path (before STOP k) b i (Only path) ws at hi) → Unmarked (S L) b i st μ
        → Placed (S L) b (cpu_of s).workspace i.vars i.chans → Did L (Executes L (operation I.stopp) s) s st (bytes_left (S L) t)
    unfolding go
    did-stop A clean placed = waits-for-ever A clean placed refl

    -- an IF without a true condition
    pub did_none : {ps : Pairs} (A : Acting L s st μ t path (before (IF ps) k) b i (Only path) ws at hi) → Unmarked (S L) b i st μ
        → Placed (S L) b (cpu_of s).workspace i.vars i.chans → first_true st.store ps k ≡ at_stop k
        → Did L (Executes L (operation I.stopp) s) s st (bytes_left (S L) t)
    unfolding go
    did_none A clean placed e = waits-for-ever A clean placed (ap (λ p. moved p st.store) e)
