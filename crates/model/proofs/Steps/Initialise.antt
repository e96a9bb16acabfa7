-- The stores that initialise a VAR or CHAN; the last one enters it.
use Prim.Native.Nat.{ℕ, suc, ◌+◌, ◌^◌, ◌≤◌, ◌<◌}
use native.Mathlib.Omega.{arith}
use native.Mathlib.Decide.{ℕ_discrete, dec_lt}
use mathlib.Core.Path.{◌≡◌, refl, sym, ap, ◌∙◌, subst}
use mathlib.Core.Logic.{◌⊎◌, inl, ⊎_elim}
use mathlib.Core.List.Memᴰ
use mathlib.Core.List.{List, [], ◌∷◌, ◌++◌, Memᴰ}
use Rattle.model.specs.Word.{not_process}
use Rattle.model.specs.Limits.{word_limit}
use Rattle.model.specs.Syntax.{Site, Stmt, VAR, CHAN}
use Rattle.model.specs.Reader.{names}
use Rattle.model.specs.Usage.{is_in}
use Rattle.model.specs.Instruction.{Instruction, plain, operation}
use Rattle.model.specs.Instruction as I
use Rattle.model.specs.Code.{function_in, operand_in}
use Rattle.model.specs.Scheme.{code}
use Rattle.model.specs.Machine.{World, with_cpu, pop}
use Rattle.model.specs.Occam.{Store, zeros, Frame, in_var, before, begin, go, State, Step, begins}
use Rattle.model.proofs.Cases.{by_bool, never}
use Rattle.model.proofs.Tables.Sites.{is_in-mem, mem-is_in}
use Rattle.model.proofs.Quiet.Ways.{upd_same, upd_other, upd, Regs, regs_of, Quiet, pushing, Mem, arrived, quiet, quiet-ldc}
use Rattle.model.proofs.Quiet.Ways.{quiet-mint}
use Rattle.model.proofs.Quiet.Stretches.{Seg, seg-length}
use Rattle.model.proofs.Quiet.Setting.{whole, At}
use Rattle.model.proofs.Quiet.CodeParts.{inside, rises-le, named, named_in}
use Rattle.model.proofs.Occam.Paths.{leaf-begin, live-begin, silent-begin, same-path, off-begin}
use Rattle.model.proofs.Words.Parts.{Part, Fine}
use Rattle.model.proofs.Quiet.Continuations.{Placed, placed-vars, placed-chans, Cont, c-var, c-chan, cont-inside, cont-bound}
use Rattle.model.proofs.Quiet.Continuations.{cont-placed}
use Rattle.model.proofs.Quiet.Marks.{Own, Settled, Opening, Point, pt-var, pt-chan}
use Rattle.model.proofs.Quiet.Arrivals.{enters, arrives}
use Rattle.model.proofs.Invariant.Trees.{some_same, Label, alone, Info, Tree, label_at, bytes_left}
use Rattle.model.proofs.Invariant.Zones.{zone_of}
use Rattle.model.proofs.Invariant.Leaves.{Unmarked}
use Rattle.model.proofs.Effects.OneWord.{cpu_of, stored, exec-stl}
use Rattle.model.proofs.Invariant.Kernel.{Loaded, S, root, LeafAt, NodeAt, Owned, Rest, Real, node, part_small}
use Rattle.model.proofs.Invariant.Writes.{changed, after-leaf, after-lined, apart-zones, rest-same, sender-stored, sender-kept}
use Rattle.model.proofs.Invariant.Puts.{putting, here-then}
use Rattle.model.proofs.Invariant.Grounds.{small_size, sound-at}
use Rattle.model.proofs.Invariant.Running.{Only, Did, Executes, executes, Acting}
use Rattle.model.proofs.Invariant.Reals.{size_is, real-state, real-cpu}
use Rattle.model.proofs.Invariant.Finish.{goes_on_lem, silent}
use Rattle.model.proofs.Steps.Advance.{Silent, goes-as, advances}
use Rattle.model.proofs.Steps.Basics.{before-silent}
use Rattle.model.proofs.Steps.Meets.{not_own, rest_below, real-below, clean-below}

module _ (L : Loaded) where
  -- names that are in scope of nobody get other values
  pub fresh-names : {st : State} {μ : Mem} {t : Tree (S L) (root L) st.process} {Out : List ℕ → Type 0} {ws : List ℕ} (σ : Store)
      → ((path : List ℕ) (l : Label) → NodeAt L st t path l → (x : Site) → Memᴰ x (zone_of l).vars → σ x ≡ st.store x)
      → Rest L st μ t Out ws → Rest L (changed σ st.offers st) μ t Out ws
  fresh-names {st} {μ} σ same h =
      rest-same L h
      (λ path q b i k n. record {
        own = λ v lo hi d. refl;
        reads = λ x m g. sym (same path (alone b i) (node L k) x m);
        chans = λ c m. inl refl;
        sends = λ c m s. sender-stored L s;
        none-sends = λ c m g o s. sender-kept L s;
      }) refl (λ path q b i k space d. (refl, refl))
      (λ path l n x m e k. (same path l n x m ∙ e, subst (λ v. v < 2 ^ 32) (sym (same path l n x m)) k)) (λ path l n c m. inl refl)
      (λ path a vs cs w onward n. (refl, refl))

  module _ {s : World} {st : State} {μ : Mem} {t : Tree (S L) (root L) st.process} {path : List ℕ} {y : Stmt} {g : List Frame} {b : Part}
      {i : Info} {ws : List ℕ} {at hi : ℕ} (A : Acting L s st μ t path (before y g) b i (Only path) ws at hi)
      (clean : Unmarked (S L) b i st μ) {f : Instruction} {p n : ℕ}
      {d : Stmt} {k : List Frame} {h c j : ℕ} (op : Opening (S L) b f p n d i.vars i.chans k h c (cpu_of s).workspace) (l : j < n)
      (e : at ≡ suc (c + (j + j))) (v : ℕ) (val : (cpu_of s).a ≡ v)
      (filled : (m : ℕ) → m < j → μ ((cpu_of s).workspace + m) ≡ v) where
    abbrev w : ℕ
    w = (cpu_of s).workspace

    outer : Placed (S L) b (w + n) i.vars i.chans
    outer = cont-placed (S L) b op.after

    high : w + n ≤ word_limit
    high = omega (arith, outer.low, part_small L A.leaf, small_size L)

    abbrev ν : Mem
    ν = upd μ (w + j) v

    abbrev u : World
    u = with_cpu (pop (cpu_of s)) (stored (w + j) v s)

    low-j : b.bottom ≤ w + j
    low-j = omega (arith, op.room)

    below-j : w + j < w + n
    below-j = omega arith

    rest₀ : Rest L st ν t (Only path) ws
    rest₀ = rest_below L A.leaf refl outer (w + j) v low-j below-j (λ e. never (cc)) A.rest

    real₀ : Real L u st ν ws
    real₀ = real-cpu L (pop (cpu_of s)) refl refl refl (real-below L A.leaf refl outer (w + j) v low-j below-j A.lined A.real)

    clean₀ : Unmarked (S L) b i st ν
    clean₀ = clean-below L i st st μ outer (w + j) v below-j clean

    executed : Executes L (plain I.stl j) s u
    unfolding function_in operand_in
    executed =
        executes
        (exec-stl j (w + j) s (omega (arith, high))
        (rw (size_is L A.real) (omega (arith, outer.low, part_small L A.leaf))) ∙ rw val)

    -- the words up to this one
    filled_on : (m : ℕ) → m < suc j → ν (w + m) ≡ v
    filled_on m x = by (ℕ_discrete m j)
      where
        by : Dec (m ≡ j) → ν (w + m) ≡ v
        by (yes g) = rw g (upd_same μ (w + j) v)
        by (no g) = upd_other μ (w + j) v (w + m) (λ z. g (omega arith)) ∙ filled m (omega arith)

    -- a store but the last
    pub init-next : suc j < n → h ≤ hi → ((p : ℕ) → Quiet p (function_in f) (operand_in L.off f) (pushing v)) → Settled (before y g)
        → ((r : Regs) → r.w ≡ w → r.a ≡ v → Point (S L) b st.store i.vars i.chans (before y g) hi ν (suc (suc at)) r)
        → Did L (Executes L (plain I.stl j) s) s st (bytes_left (S L) t)
    init-next more le intact settled pt =
        let again : c + (suc j + suc j) ≡ suc at = omega arith in
        let at_load : At (S L) (suc at) f = rw again at (op.inits (suc j) more).0 in
        let inner : suc (suc (suc at)) ≤ suc op.close = omega (arith, seg-length op.body) in
        let bound : L.off (suc (suc (suc at))) ≤ hi =
        omega (
          arith,
          cont-bound (S L) b op.after,
          rises-le (S L) (suc (suc (suc at))) (suc op.close) inner (cont-inside (S L) b op.after),
        ) in
        goes_on_lem L A u executed refl real₀ A.run A.operand rest₀ A.lined (suc at) hi A.placed A.inside (omega arith)
        (quiet (pushing v) at_load (intact (L.off (suc (suc at)))) (arrived (pt (pushing v (regs_of (cpu_of u))) refl refl) bound)) settled
        clean₀

    -- a name of this declaration: its word is filled
    filled-name : suc j ≡ n → (x : Site) → Memᴰ x (names p n) → ν ((S L).word x) ≡ v
    filled-name last x m = elim (named_in p n {x = x} m) [
      | named y z g ↦ ap ν (ap (S L).word g ∙ op.sites y z) ∙ filled_on y (omega arith)
    ]

    near-in : h ≤ whole (S L) + L.off c → h ≤ whole (S L) + L.off (suc at)
    near-in near = omega (arith, rises-le (S L) c (suc at) (omega arith) A.inside)

    body_at : suc j ≡ n → Seg (S L).xs (suc at) (code (S L).word w (suc at) d) op.close
    body_at last =
        let g : c + (n + n) ≡ suc at = omega arith in
        subst (λ m. Seg (S L).xs m (code (S L).word w m d) op.close) g op.body

    near-close : h ≤ whole (S L) + L.off op.close
    near-close =
        omega (
          arith,
          op.near,
          rises-le (S L) c op.close (omega (arith, seg-length op.body))
              (omega (arith, inside (S L) op.closes)),
        )

  -- the last store of a VAR: its variables are 0
  module _ {s : World} {st : State} {μ : Mem} {t : Tree (S L) (root L) st.process} {path : List ℕ} {p n : ℕ} {d : Stmt}
      {k : List Frame} {b : Part}
      {i : Info} {ws : List ℕ} {at hi h c j : ℕ} (A : Acting L s st μ t path (before (VAR p n d) k) b i (Only path) ws at hi)
      (clean : Unmarked (S L) b i st μ) (op : Opening (S L) b (plain I.ldc 0) p n d i.vars i.chans k h c (cpu_of s).workspace)
      (fine : Fine (S L).word b (names p n ++ i.vars) i.chans (cpu_of s).workspace d) (l : j < n)
      (e : at ≡ suc (c + (j + j))) (val : (cpu_of s).a ≡ 0) (filled : (m : ℕ) → m < j → μ ((cpu_of s).workspace + m) ≡ 0) where
    abbrev xs : List Site
    xs = names p n

    abbrev σ₀ : Store
    σ₀ = zeros xs st.store

    -- their words are this process's own, so nobody has them in scope
    others : (other : List ℕ) (y : Label) → NodeAt L st t other y → (x : Site) → Memᴰ x (zone_of y).vars → σ₀ x ≡ st.store x
    others other y m x q = by_bool (is_in x xs) (λ g. absurd (no_name (is_in-mem x xs g))) (λ g. rw g)
      where
        no_name : Memᴰ x xs → ⊥
        no_name g = elim (named_in p n {x = x} g) [
          | named a z r ↦
              let word-is : (S L).word x ≡ (cpu_of s).workspace + a = ap (S L).word r ∙ op.sites a z in
              let above = outer A clean op l e 0 val filled in
              ⊎_elim
              (λ (o : path ≡ other).
              let same = some_same (sym m.label ∙ ap (label_at (S L) t) (sym o) ∙ A.leaf.label) in
              absurd (omega (arith, word-is, above.scoped.vars-above x (subst (λ z. Memᴰ x (zone_of z).vars) same q))))
              (λ o. (apart-zones L o (node L A.leaf) m).vars-in x q
              (omega (arith, word-is, op.room), omega (arith, word-is, above.low)))
              (same-path path other)
        ]

    abbrev st₀ : State
    st₀ = changed σ₀ st.offers st

    abbrev ν₀ : Mem
    ν₀ = upd μ ((cpu_of s).workspace + j) 0

    rest-var : Rest L st₀ ν₀ t (Only path) ws
    rest-var = fresh-names σ₀ others (rest₀ A clean op l e 0 val filled)

    leaf-var : LeafAt L st₀ t path (before (VAR p n d) k) b i
    leaf-var = after-leaf L A.leaf

    abbrev inside-info : Info
    inside-info = record { vars = xs ++ i.vars; chans = i.chans; w = (cpu_of s).workspace; left = whole (S L) }

    vars-ok : suc j ≡ n → (x : Site) → Memᴰ x (xs ++ i.vars) → (σ₀ x ≡ ν₀ ((S L).word x)) × (σ₀ x < 2 ^ 32)
    vars-ok last x m =
        ⊎_elim
        (λ g.
        let zero-now : σ₀ x ≡ 0 = rw (mem-is_in x xs g) in
        (zero-now ∙ sym (filled-name A clean op l e 0 val filled last x g), omega (arith, zero-now)))
        (λ g. rest-var.vars (node L leaf-var) x g) (Memᴰ.append_cases xs m)

    entered : Step st [] (putting path (begin d (in_var xs ∷ k)) st₀)
    unfolding go
    entered = begins path A.leaf.found

    pub did-var : suc j ≡ n → Did L (Executes L (plain I.stl j) s) s st (bytes_left (S L) t)
    did-var last =
        let here = outer A clean op l e 0 val filled in
        let placed = placed-vars (S L) p n (cpu_of s).workspace op.sites op.room here in
        let after : Cont (S L) b h (xs ++ i.vars) i.chans (in_var xs ∷ k) op.close (cpu_of s).workspace =
        c-var op.closes op.room op.sites op.after in
        let near_on = near-in A clean op l e 0 val filled op.near in
        let real = real-state L st.process σ₀ (real₀ A clean op l e 0 val filled) in
        let clean-var : Unmarked (S L) b i st₀ ν₀ = clean₀ A clean op l e 0 val filled in
        let few : whole (S L) ≤ whole (S L) = omega arith in
        let process = begin d (in_var xs ∷ k) in
        let live = live-begin d (in_var xs ∷ k) (xs ++ i.vars)
        (λ x m. ⊎_elim (λ g. Memᴰ.append_left i.vars g) (λ g. Memᴰ.append_right xs (A.rest.live A.leaf x g))
        (Memᴰ.append_cases xs m)) in
        let quiet : Silent process = λ c v f e. silent-begin d (in_var xs ∷ k) e in
        let lines = after-lined L A.lined in
        let now = goes-as L real leaf-var rest-var lines clean-var (before-silent (VAR p n d) k) (λ e. never (cc)) process
        (leaf-begin d (in_var xs ∷ k)) inside-info
        placed few (vars-ok last) (rest-var.chans (node L leaf-var)) live quiet (off-begin d (in_var xs ∷ k)) in
        let sound = sound-at L now (here-then L leaf-var process (leaf-begin d (in_var xs ∷ k)) inside-info _) in
        advances L real leaf-var rest-var lines clean-var (before-silent (VAR p n d) k) (λ e. never (cc)) process
        (leaf-begin d (in_var xs ∷ k)) inside-info placed few
        (vars-ok last) (rest-var.chans (node L leaf-var)) live quiet (off-begin d (in_var xs ∷ k)) entered
        (executed A clean op l e 0 val filled)
        (silent L s (u A clean op l e 0 val filled) refl)
        (record { run = A.run; operand = A.operand; place = A.placed; work = refl; inside = A.inside })
        (enters (S L) b σ₀ d (body_at A clean op l e 0 val filled last) fine after near_on sound
        (arrives (S L) b σ₀ after (near-close A clean op l e 0 val filled) sound)) clean-var near_on

  -- the last store of a CHAN: its channels are empty
  module _ {s : World} {st : State} {μ : Mem} {t : Tree (S L) (root L) st.process} {path : List ℕ} {p n : ℕ} {d : Stmt}
      {k : List Frame} {b : Part}
      {i : Info} {ws : List ℕ} {at hi h c j : ℕ} (A : Acting L s st μ t path (before (CHAN p n d) k) b i (Only path) ws at hi)
      (clean : Unmarked (S L) b i st μ) (op : Opening (S L) b (operation I.mint) p n d i.vars i.chans k h c (cpu_of s).workspace)
      (fine : Fine (S L).word b i.vars (names p n ++ i.chans) (cpu_of s).workspace d) (l : j < n) (e : at ≡ suc (c + (j + j)))
      (val : (cpu_of s).a ≡ not_process) (filled : (m : ℕ) → m < j → μ ((cpu_of s).workspace + m) ≡ not_process) where
    abbrev cs : List Site
    cs = names p n

    abbrev ν₁ : Mem
    ν₁ = upd μ ((cpu_of s).workspace + j) not_process

    rest-chan : Rest L st ν₁ t (Only path) ws
    rest-chan = rest₀ A clean op l e not_process val filled

    abbrev chan-info : Info
    chan-info = record { vars = i.vars; chans = cs ++ i.chans; w = (cpu_of s).workspace; left = whole (S L) }

    -- no name is there
    clean-chan : suc j ≡ n → Unmarked (S L) b chan-info st ν₁
    clean-chan last a m o =
        ⊎_elim
        (λ g. not_own b (omega (arith, part_small L A.leaf, small_size L))
        (subst (Own b) (filled-name A clean op l e not_process val filled last a g) o))
        (λ g. clean₀ A clean op l e not_process val filled a g o) (Memᴰ.append_cases cs m)

    entered-chan : Step st [] (putting path (begin d k) st)
    unfolding go
    entered-chan = begins path A.leaf.found

    pub did-chan : suc j ≡ n → Did L (Executes L (plain I.stl j) s) s st (bytes_left (S L) t)
    did-chan last =
        let here = outer A clean op l e not_process val filled in
        let placed = placed-chans (S L) p n (cpu_of s).workspace op.sites op.room here in
        let after : Cont (S L) b h i.vars (cs ++ i.chans) k op.close (cpu_of s).workspace =
        c-chan op.closes op.room op.sites op.after in
        let near_on = near-in A clean op l e not_process val filled op.near in
        let real = real₀ A clean op l e not_process val filled in
        let few : whole (S L) ≤ whole (S L) = omega arith in
        let live = live-begin d k i.vars (A.rest.live A.leaf) in
        let quiet : Silent (begin d k) = λ c v f e. silent-begin d k e in
        let chans-ok : (a : Site) → Memᴰ a (cs ++ i.chans) → (ν₁ ((S L).word a) ≡ not_process) ⊎ Owned L st t a (ν₁ ((S L).word a)) =
        λ a m. ⊎_elim (λ g. inl (filled-name A clean op l e not_process val filled last a g)) (λ g. rest-chan.chans (node L A.leaf) a g)
        (Memᴰ.append_cases cs m) in
        let quit = clean₀ A clean op l e not_process val filled in
        let now = goes-as L real A.leaf rest-chan A.lined quit (before-silent (CHAN p n d) k) (λ e. never (cc)) (begin d k)
        (leaf-begin d k) chan-info
        placed few (rest-chan.vars (node L A.leaf)) chans-ok live quiet (off-begin d k) in
        let sound = sound-at L now (here-then L A.leaf (begin d k) (leaf-begin d k) chan-info _) in
        advances L real A.leaf rest-chan A.lined quit (before-silent (CHAN p n d) k) (λ e. never (cc)) (begin d k) (leaf-begin d k)
        chan-info placed few
        (rest-chan.vars (node L A.leaf)) chans-ok live quiet (off-begin d k) entered-chan
        (executed A clean op l e not_process val filled)
        (silent L s (u A clean op l e not_process val filled) refl)
        (record { run = A.run; operand = A.operand; place = A.placed; work = refl; inside = A.inside })
        (enters (S L) b st.store d (body_at A clean op l e not_process val filled last) fine after near_on sound
        (arrives (S L) b st.store after (near-close A clean op l e not_process val filled) sound)) (clean-chan last) near_on

  -- the store of a VAR's or CHAN's initialisation
  module _ {s : World} {st : State} {μ : Mem} {t : Tree (S L) (root L) st.process} {path : List ℕ} {p n : ℕ} {d : Stmt}
      {k : List Frame} {b : Part}
      {i : Info} {ws : List ℕ} {at hi h c j : ℕ} where
    pub did-var-store : (A : Acting L s st μ t path (before (VAR p n d) k) b i (Only path) ws at hi) → Unmarked (S L) b i st μ
        → Opening (S L) b (plain I.ldc 0) p n d i.vars i.chans k h c (cpu_of s).workspace
        → Fine (S L).word b (names p n ++ i.vars) i.chans (cpu_of s).workspace d → h ≤ hi → j < n → at ≡ suc (c + (j + j))
        → (cpu_of s).a ≡ 0 → ((m : ℕ) → m < j → μ ((cpu_of s).workspace + m) ≡ 0)
        → Did L (Executes L (plain I.stl j) s) s st (bytes_left (S L) t)
    unfolding function_in operand_in
    did-var-store A clean op fine le l e val filled = by (dec_lt (suc j) n)
      where
        by : Dec (suc j < n) → Did L (Executes L (plain I.stl j) s) s st (bytes_left (S L) t)
        by (yes more) =
            let next : suc (suc at) ≡ suc (c + (suc j + suc j)) = omega arith in
            init-next A clean op l e 0 val filled more le (λ p. quiet-ldc 0) tt
            (λ r z a. subst (λ w. Point (S L) b st.store i.vars i.chans (before (VAR p n d) k) hi (ν A clean op l e 0 val filled)
            (suc (suc at)) (record { a = r.a; b = r.b; c = r.c; w = w })) (sym z)
            (pt-var op fine le more next a (filled_on A clean op l e 0 val filled)))
        by (no more) = did-var A clean op fine l e val filled (omega arith)

    pub did-chan-store : (A : Acting L s st μ t path (before (CHAN p n d) k) b i (Only path) ws at hi) → Unmarked (S L) b i st μ
        → Opening (S L) b (operation I.mint) p n d i.vars i.chans k h c (cpu_of s).workspace
        → Fine (S L).word b i.vars (names p n ++ i.chans) (cpu_of s).workspace d → h ≤ hi → j < n → at ≡ suc (c + (j + j))
        → (cpu_of s).a ≡ not_process → ((m : ℕ) → m < j → μ ((cpu_of s).workspace + m) ≡ not_process)
        → Did L (Executes L (plain I.stl j) s) s st (bytes_left (S L) t)
    unfolding function_in operand_in
    did-chan-store A clean op fine le l e val filled = by (dec_lt (suc j) n)
      where
        by : Dec (suc j < n) → Did L (Executes L (plain I.stl j) s) s st (bytes_left (S L) t)
        by (yes more) =
            let next : suc (suc at) ≡ suc (c + (suc j + suc j)) = omega arith in
            init-next A clean op l e not_process val filled more le (λ p. quiet-mint) tt
            (λ r z a. subst
            (λ w. Point (S L) b st.store i.vars i.chans (before (CHAN p n d) k) hi (ν A clean op l e not_process val filled)
            (suc (suc at)) (record { a = r.a; b = r.b; c = r.c; w = w })) (sym z)
            (pt-chan op fine le more next a (filled_on A clean op l e not_process val filled)))
        by (no more) = did-chan A clean op fine l e val filled (omega arith)
