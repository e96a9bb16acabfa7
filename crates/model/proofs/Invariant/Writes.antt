-- Single words and variables change, and all else that words hold stays.
use Prim.Native.Nat.{ℕ, ◌+◌, ◌^◌, ◌≤◌, ◌<◌}
use native.Mathlib.Omega.{arith}
use native.Mathlib.Decide.{ℕ_discrete}
use mathlib.Core.Path.{◌≡◌, refl, sym, ap, ◌∙◌, subst}
use mathlib.Core.Logic.{◌≢◌, ◌⊎◌, inl, inr, ⊎_elim}
use mathlib.Core.List.{List, Memᴰ}
use mathlib.Core.Option.{Option}
use Rattle.model.specs.Word.{not_process}
use Rattle.model.specs.Syntax.{Site}
use Rattle.model.specs.Usage.{same}
use Rattle.model.specs.Machine.{link_word, time_link_word, time_word}
use Rattle.model.specs.Occam.{Store, store, Process, State, Sender, process, outside, now, look}
use Rattle.model.proofs.Cases.{never, by_bool}
use Rattle.model.proofs.Tables.Sites.{same_refl, same-eq}
use Rattle.model.proofs.Quiet.Ways.{upd, upd_same, upd_other, Mem, front_word}
use Rattle.model.proofs.Occam.Paths.{leaves-apart, same-path, is_alt}
use Rattle.model.proofs.Words.Parts as Parts
use Rattle.model.proofs.Words.Parts.{Part}
use Rattle.model.proofs.Quiet.Marks.{Own}
use Rattle.model.proofs.Invariant.Trees.{some_same, Label, alone, parted, alone-info, alone-parted, Info, Tree, label_at, parts-apart}
use Rattle.model.proofs.Invariant.Zones.{zone_of, Distant, zones-distant, Differ, names-differ}
use Rattle.model.proofs.Effects.Timers.{Sorted, chain-stable, sorted-stable}
use Rattle.model.proofs.Invariant.Stays.{Intact, held_stays}
use Rattle.model.proofs.Invariant.Grounds.{var-in, chan-in, small_size}
use Rattle.model.proofs.Invariant.Kernel.{Loaded, S, root, LeafAt, NodeAt, Owned, owned, Rest, whose, Lined, sleeper, Sleepers, node}
use Rattle.model.proofs.Invariant.Kernel.{part_small, sits-at, Dozer, at-wait, in-alt, Plain, plain_of, rest_of}
use Rattle.model.proofs.Quiet.Timing.{linked-same, Onto, onto_same}
use mathlib.Core.Bool.{true}
use Rattle.model.specs.Limits.{word_limit}

-- a state with another store, other offers and another clock
abbrev pub state_with : Store → (ℕ → Option ℕ) → Option ℕ → State → State
state_with σ o k st = record { process = st.process; store = σ; offers = o; clock = k }

-- with another store and other offers
abbrev pub changed : Store → (ℕ → Option ℕ) → State → State
changed σ o st = state_with σ o st.clock st

module _ (L : Loaded) where
  -- the words of two at different paths
  pub apart-zones : {st : State} {t : Tree (S L) (root L) st.process} {path other : List ℕ} {l m : Label} → path ≢ other
      → NodeAt L st t path l → NodeAt L st t other m → Distant (S L) (zone_of l) (zone_of m)
  apart-zones {t = t} {path} {other} d e f = zones-distant (S L) t path other d e.label f.label

  -- their rights
  pub apart_parts : {st : State} {t : Tree (S L) (root L) st.process} {path other : List ℕ} {q r : Process} {b c : Part} {i j : Info}
      → LeafAt L st t path q b i → LeafAt L st t other r c j → path ≢ other → Parts.Apart b c
  apart_parts {st} {t} {path} {other} h k d =
      parts-apart (S L) t (leaves-apart path other st.process h.found h.leaf k.found k.leaf d)
      (rw h.label) (rw k.label)

  -- no word is a name of two parts that are apart
  pub own-one : {b c : Part} {n : ℕ} → Parts.Apart b c → Own b n → Own c n → ⊥
  own-one {b} {c} a h k =
      ⊎_elim (λ (l : b.top ≤ c.bottom). absurd (omega (arith, h.below, k.above)))
      (λ (l : c.top ≤ b.bottom). absurd (omega (arith, h.above, k.below)))
      a.words

  -- where the processes are the same
  module _ {st : State} {t : Tree (S L) (root L) st.process} {σ : Store} {o : ℕ → Option ℕ} {k : Option ℕ} where
    again : {c : Site} {n m : ℕ} → m ≡ n → Owned L st t c n → Owned L (state_with σ o k st) t c m
    again e (owned {b} h s o) = owned (record { found = h.found; leaf = h.leaf; label = h.label }) s (subst (Own b) (sym e) o)

    pub before-leaf : {path : List ℕ} {q : Process} {b : Part} {i : Info} → LeafAt L (state_with σ o k st) t path q b i
        → LeafAt L st t path q b i
    before-leaf h = record { found = h.found; leaf = h.leaf; label = h.label }

    pub after-leaf : {path : List ℕ} {q : Process} {b : Part} {i : Info} → LeafAt L st t path q b i
        → LeafAt L (state_with σ o k st) t path q b i
    after-leaf h = record { found = h.found; leaf = h.leaf; label = h.label }

    pub after-lined : {Out : List ℕ → Type 0} {ws : List ℕ} → Lined L st t Out ws → Lined L (state_with σ o k st) t Out ws
    after-lined h =
        record { each = λ w m. elim (h.each w m) [ whose k e n ↦ whose (after-leaf k) e n ]; once = h.once }

    before-node : {path : List ℕ} {l : Label} → NodeAt L (state_with σ o k st) t path l → NodeAt L st t path l
    before-node h = record { label = h.label }

  -- a process with room for them has time words of its own
  pub time-words : {st : State} {t : Tree (S L) (root L) st.process} {path : List ℕ} {q : Process} {b : Part} {i : Info}
      → LeafAt L st t path q b i → b.bottom + 5 ≤ i.w
      → (b.bottom ≤ time_link_word i.w) × (time_link_word i.w < b.top) × (b.bottom ≤ time_word i.w) × (time_word i.w < b.top)
  time-words at space =
      let low = (sits-at L at).placed.low in
      let small = part_small L at in (
        omega (arith, space, (S L).top_small),
        omega (arith, space, (S L).top_small),
        omega (arith, space, (S L).top_small),
        omega (arith, space, (S L).top_small),
      )

  -- the two words of a process stay
  abbrev pub TimeSame : (μ ν : Mem) (w : ℕ) → Type 0
  TimeSame μ ν w = (ν (time_link_word w) ≡ μ (time_link_word w)) × (ν (time_word w) ≡ μ (time_word w))

  -- the timer queue of another state and memory, where those that may be in it are the same and keep their words
  pub sleepers-by : {st st' : State} {μ ν : Mem} {t : Tree (S L) (root L) st.process} {t' : Tree (S L) (root L) st'.process}
      {Out Out' : List ℕ → Type 0} (z : Sleepers L st μ t Out) → now st' ≡ now st → ν front_word ≡ μ front_word
      → ((path : List ℕ) (q : Process) (b : Part) (i : Info) → LeafAt L st t path q b i → b.bottom + 5 ≤ i.w → Dozer L Out path q
      → TimeSame μ ν i.w)
      → ((path : List ℕ) (q : Process) (b : Part) (i : Info) → LeafAt L st t path q b i → Dozer L Out path q
      → LeafAt L st' t' path q b i × Dozer L Out' path q)
      → ((path : List ℕ) (q : Process) (b : Part) (i : Info) → LeafAt L st' t' path q b i → Dozer L Out' path q
      → LeafAt L st t path q b i × Dozer L Out path q)
      → Sleepers L st' ν t' Out'
  sleepers-by {st} {st'} {μ} {ν} z clock front same on back =
      record {
        asleep = z.asleep;
        chain = chain-stable front (λ w m. (words w m).0) z.chain;
        sorted = λ o. subst (λ c. Sorted c ν z.asleep) (sym clock)
            (sorted-stable μ ν (now st) z.asleep (λ w m. (words w m).1) (z.sorted o));
        once = z.once;
        each = λ w m. elim (z.each w m) [ sleeper k e a d ↦ let (l, f) = on _ _ _ _ k d in sleeper l e a f ];
        known = λ w m.
            let (a, b) = z.known w m in
            let e = (words w m).1 in (
              subst (λ n. n < 2 ^ 32) (sym e) a,
              subst (λ n. L.sleeps w n (now st')) (sym e)
                  (subst (L.sleeps w (μ (time_word w))) (sym clock) b),
            );
        all = λ {i = i} k a d f.
            let (l, g) = back _ _ _ _ k d in
            z.all l a g (λ e. linked-same L.times st ν μ i.w (sym (same _ _ _ _ l a g).0) (f e));
      }
    where
      words : (w : ℕ) → Memᴰ w z.asleep → TimeSame μ ν w
      words w m = elim (z.each w m) [ sleeper k e a d ↦ subst (TimeSame μ ν) e (same _ _ _ _ k a d) ]

  -- another store, other offers, another clock and another memory, where each process that is not left out sees nothing of it
  pub plain-changed : {st : State} {μ ν : Mem} {t : Tree (S L) (root L) st.process} {Out : List ℕ → Type 0} {ws : List ℕ} {σ : Store}
      {o : ℕ → Option ℕ} {clock : Option ℕ} (h : Plain L st μ t Out ws)
      → ((path : List ℕ) (q : Process) (b : Part) (i : Info) → LeafAt L st t path q b i → (Out path → ⊥)
      → Intact (S L) b i (link_word i.w) st (state_with σ o clock st) μ ν)
      → ((w : ℕ) → Onto L.times L.times w (now st) (now (state_with σ o clock st)))
      → ((path : List ℕ) (l : Label) → NodeAt L st t path l → (x : Site) → Memᴰ x (zone_of l).vars
      → st.store x ≡ μ ((S L).word x) → st.store x < 2 ^ 32 → (σ x ≡ ν ((S L).word x)) × (σ x < 2 ^ 32))
      → ((path : List ℕ) (l : Label) → NodeAt L st t path l → (c : Site) → Memᴰ c (zone_of l).chans
      → (ν ((S L).word c) ≡ μ ((S L).word c)) ⊎ ((ν ((S L).word c) ≡ not_process) ⊎ Owned L st t c (ν ((S L).word c))))
      → ((path : List ℕ) (a : Part) (vs cs : List Site) (w onward : ℕ) → NodeAt L st t path (parted a vs cs w onward)
      → (ν w ≡ μ w) × (ν (w + 1) ≡ μ (w + 1)))
      → Plain L (state_with σ o clock st) ν t Out ws
  plain-changed h intact onto vars chans par =
      record {
        vars = λ e x m. let k = before-node e in vars _ _ k x m (h.vars k x m).0 (h.vars k x m).1;
        chans = λ e c m.
            let k = before-node e in
            ⊎_elim (λ same. ⊎_elim (λ z. inl (same ∙ z)) (λ o. inr (again same o)) (h.chans k c m))
            (λ k. ⊎_elim (λ z. inl z) (λ o. inr (again refl o)) k) (chans _ _ k c m);
        live = λ e. h.live (before-leaf e);
        leaf = λ {i = i} e n.
            let k = before-leaf e in
            held_stays (S L) _ _ (omega (arith, part_small L k, (S L).top_small)) (sits-at L k) (intact _ _ _ _ k n) (onto i.w)
            (h.leaf k n);
        par = λ e m.
            let k = before-node m in
            let (z, y) = h.par e k in
            let (f, g) = par _ _ _ _ _ _ k in
            (f ∙ z, g ∙ y);
        sleepers = tt;
      }

  pub rest-changed : {st : State} {μ ν : Mem} {t : Tree (S L) (root L) st.process} {Out : List ℕ → Type 0} {ws : List ℕ} {σ : Store}
      {o : ℕ → Option ℕ} {clock : Option ℕ} (h : Rest L st μ t Out ws)
      → ((path : List ℕ) (q : Process) (b : Part) (i : Info) → LeafAt L st t path q b i → (Out path → ⊥)
      → Intact (S L) b i (link_word i.w) st (state_with σ o clock st) μ ν)
      → ((w : ℕ) → Onto L.times L.times w (now st) (now (state_with σ o clock st))) → Sleepers L (state_with σ o clock st) ν t Out
      → ((path : List ℕ) (l : Label) → NodeAt L st t path l → (x : Site) → Memᴰ x (zone_of l).vars
      → st.store x ≡ μ ((S L).word x) → st.store x < 2 ^ 32 → (σ x ≡ ν ((S L).word x)) × (σ x < 2 ^ 32))
      → ((path : List ℕ) (l : Label) → NodeAt L st t path l → (c : Site) → Memᴰ c (zone_of l).chans
      → (ν ((S L).word c) ≡ μ ((S L).word c)) ⊎ ((ν ((S L).word c) ≡ not_process) ⊎ Owned L st t c (ν ((S L).word c))))
      → ((path : List ℕ) (a : Part) (vs cs : List Site) (w onward : ℕ) → NodeAt L st t path (parted a vs cs w onward)
      → (ν w ≡ μ w) × (ν (w + 1) ≡ μ (w + 1)))
      → Rest L (state_with σ o clock st) ν t Out ws
  rest-changed h intact onto sleepers vars chans par = rest_of L (plain-changed (plain_of L h) intact onto vars chans par) sleepers

  module _ {st : State} {μ ν : Mem} {t : Tree (S L) (root L) st.process} {Out : List ℕ → Type 0} {ws : List ℕ} {σ : Store}
      {o : ℕ → Option ℕ} (h : Rest L st μ t Out ws)
      (intact : (path : List ℕ) (q : Process) (b : Part) (i : Info) → LeafAt L st t path q b i → (Out path → ⊥)
      → Intact (S L) b i (link_word i.w) st (changed σ o st) μ ν) (front : ν front_word ≡ μ front_word)
      (dozers : (path : List ℕ) (q : Process) (b : Part) (i : Info) → LeafAt L st t path q b i → b.bottom + 5 ≤ i.w
      → Dozer L Out path q → TimeSame μ ν i.w) where
    sleepers-same : Sleepers L (changed σ o st) ν t Out
    sleepers-same =
        sleepers-by h.sleepers refl front dozers (λ path q b i l d. (after-leaf l, d)) (λ path q b i l d. (before-leaf l, d))

    pub rest-same : ((path : List ℕ) (l : Label) → NodeAt L st t path l → (x : Site) → Memᴰ x (zone_of l).vars
        → st.store x ≡ μ ((S L).word x) → st.store x < 2 ^ 32 → (σ x ≡ ν ((S L).word x)) × (σ x < 2 ^ 32))
        → ((path : List ℕ) (l : Label) → NodeAt L st t path l → (c : Site) → Memᴰ c (zone_of l).chans
        → (ν ((S L).word c) ≡ μ ((S L).word c)) ⊎ ((ν ((S L).word c) ≡ not_process) ⊎ Owned L st t c (ν ((S L).word c))))
        → ((path : List ℕ) (a : Part) (vs cs : List Site) (w onward : ℕ) → NodeAt L st t path (parted a vs cs w onward)
        → (ν w ≡ μ w) × (ν (w + 1) ≡ μ (w + 1)))
        → Rest L (changed σ o st) ν t Out ws
    rest-same vars chans par = rest-changed h intact (λ w. onto_same refl) sleepers-same vars chans par

  -- senders depend on processes and offers alone
  pub sender-stored : {st : State} {σ : Store} {c : Site} → Sender st c → Sender (changed σ st.offers st) c
  sender-stored (process path e) = process path e
  sender-stored (outside e) = outside e

  pub sender-kept : {st : State} {σ : Store} {c : Site} → Sender (changed σ st.offers st) c → Sender st c
  sender-kept (process path e) = process path e
  sender-kept (outside e) = outside e

  -- a word that is none of the two of an ALT that has the processor
  abbrev pub Calm : Process → Info → ℕ → Type 0
  Calm q i v = is_alt q ≡ true → (time_link_word i.w ≢ v) × (time_word i.w ≢ v)

  -- a word of a process's own: the process is left out, or it is its link word
  pub data Free (Out : List ℕ → Type 0) (path : List ℕ) (q : Process) (i : Info) (v : ℕ) : Type 0 where
    left_out : Out path → Calm q i v → Free Out path q i v
    link : v ≡ link_word i.w → Free Out path q i v

  -- such a word is none of the two where the process may be in the timer queue
  dozer-off : {Out : List ℕ → Type 0} {path : List ℕ} {q : Process} {i : Info} {v : ℕ} → Dozer L Out path q → Free Out path q i v
      → 5 ≤ i.w → i.w ≤ word_limit → (time_link_word i.w ≢ v) × (time_word i.w ≢ v)
  dozer-off (at-wait n) (left_out f g) l h = absurd (n f)
  dozer-off (at-wait n) (link e) l h = ((λ z. absurd (omega (arith, z, e))), (λ z. absurd (omega (arith, z, e))))
  dozer-off (in-alt t) (left_out f g) l h = g t
  dozer-off (in-alt t) (link e) l h = ((λ z. absurd (omega (arith, z, e))), (λ z. absurd (omega (arith, z, e))))

  module _ {st : State} {μ : Mem} {t : Tree (S L) (root L) st.process} {Out : List ℕ → Type 0} {ws : List ℕ}
      {path : List ℕ} {q : Process}
      {b : Part} {i : Info} (at : LeafAt L st t path q b i) where
    -- a word of its own that is no name's, the timer queue apart
    pub plain-own : Plain L st μ t Out ws → (v z : ℕ) → b.bottom ≤ v → v < b.top → ((x : Site) → Memᴰ x i.vars → (S L).word x ≢ v)
        → ((c : Site) → Memᴰ c i.chans → (S L).word c ≢ v) → (Out path ⊎ (v ≡ link_word i.w))
        → Plain L st (upd μ v z) t Out ws
    plain-own h v z low high no-var no-chan free =
        plain-changed h intact (λ w. onto_same refl) vars chans par
      where
        ν : Mem
        ν = upd μ v z

        -- another's words
        vars-off : (other : List ℕ) (l : Label) → NodeAt L st t other l → (x : Site) → Memᴰ x (zone_of l).vars → (S L).word x ≢ v
        vars-off other l n x m e =
            ⊎_elim
            (λ (p : path ≡ other). no-var x
            (subst (λ z. Memᴰ x (zone_of z).vars) (some_same (sym n.label ∙ ap (label_at (S L) t) (sym p) ∙ at.label)) m) e)
            (λ d. (apart-zones d (node L at) n).vars-in x m (omega (arith, e), omega (arith, e))) (same-path path other)

        chans-off : (other : List ℕ) (l : Label) → NodeAt L st t other l → (x : Site) → Memᴰ x (zone_of l).chans → (S L).word x ≢ v
        chans-off other l n x m e =
            ⊎_elim
            (λ (p : path ≡ other). no-chan x
            (subst (λ z. Memᴰ x (zone_of z).chans) (some_same (sym n.label ∙ ap (label_at (S L) t) (sym p) ∙ at.label)) m) e)
            (λ d. (apart-zones d (node L at) n).chans-in x m (omega (arith, e), omega (arith, e))) (same-path path other)

        own-off : (other : List ℕ) (r : Process) (c : Part) (j : Info) → LeafAt L st t other r c j → (Out other → ⊥)
            → (a : ℕ) → c.bottom ≤ a → a < c.top → a ≢ link_word j.w → a ≢ v
        own-off other r c j k n a lo hi d e =
            ⊎_elim (λ (p : path ≡ other).
            let same : i ≡ j = alone-info (some_same (sym at.label ∙ ap (label_at (S L) t) p ∙ k.label)) in
            ⊎_elim (λ f. n (subst Out p f)) (λ f. d (e ∙ f ∙ ap (λ (y : Info). link_word y.w) same)) free)
            (λ u. (apart-zones u (node L at) (node L k)).words a (omega (arith, e), omega (arith, e)) (lo, hi)) (same-path path other)

        intact : (other : List ℕ) (r : Process) (c : Part) (j : Info) → LeafAt L st t other r c j → (Out other → ⊥)
            → Intact (S L) c j (link_word j.w) st (changed st.store st.offers st) μ ν
        intact other r c j k n =
            record {
              own = λ a lo hi d. upd_other μ v z a (own-off other r c j k n a lo hi d);
              reads = λ x m g. refl;
              chans = λ d m. inl (upd_other μ v z ((S L).word d) (chans-off other (alone c j) (node L k) d m));
              sends = λ d m s. sender-stored s;
              none-sends = λ d m g o s. sender-kept s;
            }

        vars : (other : List ℕ) (l : Label) → NodeAt L st t other l → (x : Site) → Memᴰ x (zone_of l).vars
            → st.store x ≡ μ ((S L).word x) → st.store x < 2 ^ 32 → (st.store x ≡ ν ((S L).word x)) × (st.store x < 2 ^ 32)
        vars other l n x m e k = (e ∙ sym (upd_other μ v z ((S L).word x) (vars-off other l n x m)), k)

        chans : (other : List ℕ) (l : Label) → NodeAt L st t other l → (c : Site) → Memᴰ c (zone_of l).chans
            → (ν ((S L).word c) ≡ μ ((S L).word c)) ⊎ ((ν ((S L).word c) ≡ not_process) ⊎ Owned L st t c (ν ((S L).word c)))
        chans other l n c m = inl (upd_other μ v z ((S L).word c) (chans-off other l n c m))

        par : (other : List ℕ) (a : Part) (vs cs : List Site) (w onward : ℕ) → NodeAt L st t other (parted a vs cs w onward)
            → (ν w ≡ μ w) × (ν (w + 1) ≡ μ (w + 1))
        par other a vs cs w onward n =
            let d : path ≢ other =
            λ p. never (alone-parted (some_same (sym n.label ∙ ap (label_at (S L) t) (sym p) ∙ at.label))) in
            let far = apart-zones d (node L at) n in (
              upd_other μ v z w (λ e. far.words w (omega (arith, e), omega (arith, e)) (omega arith, omega arith)),
              upd_other μ v z (w + 1) (λ e. far.words (w + 1) (omega (arith, e), omega (arith, e)) (omega arith, omega arith)),
            )

  module _ {st : State} {μ : Mem} {t : Tree (S L) (root L) st.process} {Out : List ℕ → Type 0} {ws : List ℕ}
      {path : List ℕ} {q : Process}
      {b : Part} {i : Info} (at : LeafAt L st t path q b i) (h : Rest L st μ t Out ws) where
    -- a word of its own that is no name's
    pub write-own : (v z : ℕ) → b.bottom ≤ v → v < b.top → ((x : Site) → Memᴰ x i.vars → (S L).word x ≢ v)
        → ((c : Site) → Memᴰ c i.chans → (S L).word c ≢ v) → Free Out path q i v → Rest L st (upd μ v z) t Out ws
    write-own v z low high no-var no-chan free =
        rest_of L
        (plain-own at (plain_of L h) v z low high no-var no-chan (elim free [ left_out f g ↦ inl f | link f ↦ inr f ]))
        (sleepers-by h.sleepers refl front dozers (λ path q b i l d. (l, d)) (λ path q b i l d. (l, d)))
      where
        ν : Mem
        ν = upd μ v z

        front : ν front_word ≡ μ front_word
        front = upd_other μ v z front_word (λ e. absurd (omega (arith, part_small L at, (S L).top_small)))

        -- the time words of those that may be in the timer queue
        dozers : (other : List ℕ) (r : Process) (c : Part) (j : Info) → LeafAt L st t other r c j → c.bottom + 5 ≤ j.w
            → Dozer L Out other r → TimeSame μ ν j.w
        dozers other r c j k space d =
            let words = time-words k space in
            ⊎_elim
            (λ p.
            let same : i ≡ j = alone-info (some_same (sym at.label ∙ ap (label_at (S L) t) p ∙ k.label)) in
            let one : r ≡ q = some_same (sym k.found ∙ ap (λ z. look z st.process) (sym p) ∙ at.found) in
            let mine = subst (λ z. Dozer L Out z q) (sym p) (subst (Dozer L Out other) one d) in
            let low : 5 ≤ i.w = omega (arith, space, ap (λ (y : Info). y.w) same) in
            let (a, b) = dozer-off mine free low (omega (arith, (sits-at L at).placed.low, part_small L at, (S L).top_small)) in
            subst (λ (y : Info). TimeSame μ ν y.w) same (
              upd_other μ v z (time_link_word i.w) a,
              upd_other μ v z (time_word i.w) b,
            ))
            (λ u.
            let far = apart-zones u (node L at) (node L k) in (
              upd_other μ v z (time_link_word j.w) (λ e. far.words v (low, high)
                  (omega (arith, e, words.0), omega (arith, e, words.1))),
              upd_other μ v z (time_word j.w) (λ e. far.words v (low, high) (omega (arith, e, words.2), omega (arith, e, words.3))),
            )) (same-path path other)

    -- where the path is the same or another
    elsewhere : (other : List ℕ) {l : Label} → NodeAt L st t other l → (path ≢ other → Distant (S L) (zone_of (alone b i)) (zone_of l))
    elsewhere other n d = apart-zones d (node L at) n

    differ : {other : List ℕ} {l : Label} → NodeAt L st t other l → Differ (S L) (zone_of (alone b i)) (zone_of l)
    differ {other} n = names-differ (S L) t path other at.label n.label

    -- a PAR's words are no name's
    par-off : {other : List ℕ} {a : Part} {vs cs : List Site} {w onward : ℕ} → NodeAt L st t other (parted a vs cs w onward) → path ≢ other
    par-off n p = never (alone-parted (some_same (sym n.label ∙ ap (label_at (S L) t) (sym p) ∙ at.label)))

    -- a name's word is no time word: it is above the workspace, or in no other's part
    above-words : {other : List ℕ} {r : Process} {c : Part} {j : Info} → LeafAt L st t other r c j → c.bottom + 5 ≤ j.w → path ≡ other
        → i ≡ j
    above-words {j = j} k space p = alone-info (some_same (sym at.label ∙ ap (label_at (S L) t) p ∙ k.label))

    time-off : (v : ℕ) → i.w ≤ v
        → ((other : List ℕ) (l : Label) → NodeAt L st t other l → path ≢ other → (zone_of l).lo ≤ v → v < (zone_of l).hi → ⊥) → (z : ℕ)
        → (other : List ℕ) (r : Process) (c : Part) (j : Info) → LeafAt L st t other r c j → c.bottom + 5 ≤ j.w → Dozer L Out other r
        → TimeSame μ (upd μ v z) j.w
    time-off v high far z other r c j k space d =
        let words = time-words k space in
        let low = (sits-at L k).placed.low in
        let small = part_small L k in
        ⊎_elim
        (λ p.
        let same : i.w ≡ j.w = ap (λ (y : Info). y.w) (above-words k space p) in (
          upd_other μ v z (time_link_word j.w) (λ e. absurd (omega (arith, e, same, space, (S L).top_small))),
          upd_other μ v z (time_word j.w) (λ e. absurd (omega (arith, e, same, space, (S L).top_small))),
        ))
        (λ u. (
          upd_other μ v z (time_link_word j.w) (λ e. far other _ (node L k) u (omega (arith, e, words.0)) (omega (arith, e, words.1))),
          upd_other μ v z (time_word j.w) (λ e. far other _ (node L k) u (omega (arith, e, words.2)) (omega (arith, e, words.3))),
        )) (same-path path other)

    -- a variable that it may change
    pub write-var : (y : Site) (z : ℕ) → Memᴰ y i.vars → Memᴰ y b.changes → z < 2 ^ 32 → Out path
        → Rest L (changed (store y z st.store) st.offers st) (upd μ ((S L).word y) z) t Out ws
    write-var y z mine mine' small out =
        rest-same h intact front
        (time-off ((S L).word y) ((sits-at L at).placed.scoped.vars-above y mine)
        (λ other l n d lo hi. (elsewhere other n d).vars-out y mine (lo, hi)) z) vars chans par
      where
        v : ℕ
        v = (S L).word y

        ν : Mem
        ν = upd μ v z

        front : ν front_word ≡ μ front_word
        front = upd_other μ v z front_word (λ e. absurd (omega (arith, var-in L (node L at) y mine, small_size L)))

        chans-off : (other : List ℕ) (l : Label) → NodeAt L st t other l → (c : Site) → Memᴰ c (zone_of l).chans → (S L).word c ≢ v
        chans-off other l n c m e = (differ n).cross y c mine m (sym e)

        intact : (other : List ℕ) (r : Process) (c : Part) (j : Info) → LeafAt L st t other r c j → (Out other → ⊥)
            → Intact (S L) c j (link_word j.w) st (changed (store y z st.store) st.offers st) μ ν
        intact other r c j k n =
            let d : path ≢ other = λ p. n (subst Out p out) in
            record {
              own = λ a lo hi u. upd_other μ v z a (λ e. (elsewhere other (node L k) d).vars-out y mine
                  (omega (arith, e), omega (arith, e)));
              reads = λ x m g.
                  by_bool (same x y)
                  (λ e. absurd ((apart_parts at k d).left y mine' (subst (λ u. Memᴰ u c.reads) (same-eq x y e) g))) (λ e. rw e);
              chans = λ d m. inl (upd_other μ v z ((S L).word d) (chans-off other (alone c j) (node L k) d m));
              sends = λ d m s. sender-stored s;
              none-sends = λ d m g o s. sender-kept s;
            }

        vars : (other : List ℕ) (l : Label) → NodeAt L st t other l → (x : Site) → Memᴰ x (zone_of l).vars
            → st.store x ≡ μ ((S L).word x) → st.store x < 2 ^ 32
            → (store y z st.store x ≡ ν ((S L).word x)) × (store y z st.store x < 2 ^ 32)
        vars other l n x m e k =
            by_bool (same x y)
            (λ u. (rw u (sym (upd_same μ v z) ∙ ap (λ w. ν ((S L).word w)) (sym (same-eq x y u))), rw u small))
            (λ u. (
              rw u (e ∙ sym (upd_other μ v z ((S L).word x)
                  (λ w. never (cc (u, same_refl x, ap (same x) (sym ((differ n).vars y x mine m (sym w)))))))),
              rw u k,
            ))

        chans : (other : List ℕ) (l : Label) → NodeAt L st t other l → (c : Site) → Memᴰ c (zone_of l).chans
            → (ν ((S L).word c) ≡ μ ((S L).word c)) ⊎ ((ν ((S L).word c) ≡ not_process) ⊎ Owned L st t c (ν ((S L).word c)))
        chans other l n c m = inl (upd_other μ v z ((S L).word c) (chans-off other l n c m))

        par : (other : List ℕ) (a : Part) (vs cs : List Site) (w onward : ℕ) → NodeAt L st t other (parted a vs cs w onward)
            → (ν w ≡ μ w) × (ν (w + 1) ≡ μ (w + 1))
        par other a vs cs w onward n =
            let far = elsewhere other n (par-off n) in (
              upd_other μ v z w (λ e. far.vars-out y mine (omega (arith, e), omega (arith, e))),
              upd_other μ v z (w + 1) (λ e. far.vars-out y mine (omega (arith, e), omega (arith, e))),
            )

    -- a channel in scope: others' names neither go nor come
    pub write-chan : (y : Site) (z : ℕ) → Memᴰ y i.chans
        → ((other : List ℕ) (r : Process) (c : Part) (j : Info) → LeafAt L st t other r c j → (Out other → ⊥)
        → (Own c (μ ((S L).word y)) → ⊥) × (Own c z → ⊥))
        → (z ≡ not_process) ⊎ Owned L st t y z → Out path → Rest L st (upd μ ((S L).word y) z) t Out ws
    write-chan y z mine strange owner out =
        rest-same h intact front
        (time-off ((S L).word y) ((sits-at L at).placed.scoped.chans-above y mine)
        (λ other l n d lo hi. (elsewhere other n d).chans-out y mine (lo, hi)) z) vars chans par
      where
        v : ℕ
        v = (S L).word y

        ν : Mem
        ν = upd μ v z

        front : ν front_word ≡ μ front_word
        front = upd_other μ v z front_word (λ e. absurd (omega (arith, chan-in L (node L at) y mine, small_size L)))

        vars-off : (other : List ℕ) (l : Label) → NodeAt L st t other l → (x : Site) → Memᴰ x (zone_of l).vars → (S L).word x ≢ v
        vars-off other l n x m e = (differ n).crossed y x mine m (sym e)

        here : (d : Site) → d ≡ y → ν ((S L).word d) ≡ z
        here d e = ap (λ w. ν ((S L).word w)) e ∙ upd_same μ v z

        intact : (other : List ℕ) (r : Process) (c : Part) (j : Info) → LeafAt L st t other r c j → (Out other → ⊥)
            → Intact (S L) c j (link_word j.w) st (changed st.store st.offers st) μ ν
        intact other r c j k n =
            let d : path ≢ other = λ p. n (subst Out p out) in
            record {
              own = λ a lo hi u. upd_other μ v z a (λ e. (elsewhere other (node L k) d).chans-out y mine
                  (omega (arith, e), omega (arith, e)));
              reads = λ x m g. refl;
              chans = λ d m. by_word d m (ℕ_discrete ((S L).word d) v);
              sends = λ d m s. sender-stored s;
              none-sends = λ d m g o s. sender-kept s;
            }
          where
            by_word : (d : Site) → Memᴰ d j.chans → Dec ((S L).word d ≡ v)
                → (ν ((S L).word d) ≡ μ ((S L).word d)) ⊎ ((Own c (μ ((S L).word d)) → ⊥) × (Own c (ν ((S L).word d)) → ⊥))
            by_word d m (yes e) =
                let (old, new) = strange other r c j k n in
                inr (
                  (λ o. old (subst (λ w. Own c (μ w)) e o)),
                  (λ o. new (subst (Own c) (ap ν e ∙ upd_same μ v z) o)),
                )
            by_word d m (no e) = inl (upd_other μ v z ((S L).word d) e)

        vars : (other : List ℕ) (l : Label) → NodeAt L st t other l → (x : Site) → Memᴰ x (zone_of l).vars
            → st.store x ≡ μ ((S L).word x) → st.store x < 2 ^ 32 → (st.store x ≡ ν ((S L).word x)) × (st.store x < 2 ^ 32)
        vars other l n x m e k = (e ∙ sym (upd_other μ v z ((S L).word x) (vars-off other l n x m)), k)

        chans : (other : List ℕ) (l : Label) → NodeAt L st t other l → (c : Site) → Memᴰ c (zone_of l).chans
            → (ν ((S L).word c) ≡ μ ((S L).word c)) ⊎ ((ν ((S L).word c) ≡ not_process) ⊎ Owned L st t c (ν ((S L).word c)))
        chans other l n c m = by (ℕ_discrete ((S L).word c) v)
          where
            by : Dec ((S L).word c ≡ v) → (ν ((S L).word c) ≡ μ ((S L).word c))
                ⊎ ((ν ((S L).word c) ≡ not_process) ⊎ Owned L st t c (ν ((S L).word c)))
            by (yes e) =
                let same-one : c ≡ y = sym ((differ n).chans y c mine m (sym e)) in
                let now : ν ((S L).word c) ≡ z = ap ν e ∙ upd_same μ v z in
                inr
                (⊎_elim (λ f. inl (now ∙ f))
                (λ f. inr (subst (λ d. Owned L st t d (ν ((S L).word c))) (sym same-one) (subst (Owned L st t y) (sym now) f))) owner)
            by (no e) = inl (upd_other μ v z ((S L).word c) e)

        par : (other : List ℕ) (a : Part) (vs cs : List Site) (w onward : ℕ) → NodeAt L st t other (parted a vs cs w onward)
            → (ν w ≡ μ w) × (ν (w + 1) ≡ μ (w + 1))
        par other a vs cs w onward n =
            let far = elsewhere other n (par-off n) in (
              upd_other μ v z w (λ e. far.chans-out y mine (omega (arith, e), omega (arith, e))),
              upd_other μ v z (w + 1) (λ e. far.chans-out y mine (omega (arith, e), omega (arith, e))),
            )

  -- other offers
  pub change-offers : {st : State} {μ : Mem} {t : Tree (S L) (root L) st.process} {Out : List ℕ → Type 0}
      {ws : List ℕ} (o : ℕ → Option ℕ) (h : Rest L st μ t Out ws)
      → ((other : List ℕ) (r : Process) (c : Part) (j : Info) → LeafAt L st t other r c j → (Out other → ⊥)
      → ((d : Site) → Memᴰ d c.inputs → Sender st d → Sender (changed st.store o st) d)
      × ((d : Site) → Memᴰ d j.chans → Memᴰ d c.inputs → Own c (μ ((S L).word d)) → Sender (changed st.store o st) d
      → Sender st d))
      → Rest L (changed st.store o st) μ t Out ws
  change-offers {μ = μ} o h senders =
      rest-same h
      (λ other r c j l n. record {
        own = λ a lo hi d. refl;
        reads = λ x m g. refl;
        chans = λ d m. inl refl;
        sends = (senders other r c j l n).0;
        none-sends = (senders other r c j l n).1;
      }) refl (λ other r c j l space d. (refl, refl))
      (λ other l n x m e k. (e, k)) (λ other l n c m. inl refl) (λ other a vs cs w onward n. (refl, refl))
