-- The first process of the timer queue leaves it at a run's beginning: the front is what was behind it, and its two words are others.
use Prim.Native.Nat.{ℕ, ◌+◌, ◌^◌, ◌≤◌, ◌<◌}
use native.Mathlib.Omega.{arith}
use mathlib.Core.Path.{◌≡◌, refl, sym, ap, ◌∙◌, subst}
use mathlib.Core.Logic.{◌≢◌, inl, inr, ⊎_elim}
use mathlib.Core.Bool.{true}
use mathlib.Core.List.Memᴰ
use mathlib.Core.List.{List, ◌∷◌, Memᴰ}
use Rattle.model.specs.Limits.{word_limit}
use Rattle.model.specs.Machine.{World, link_word, state_word, time_link_word, time_word}
use Rattle.model.specs.Timer.{time_set}
use Rattle.model.specs.Occam.{Process, State, now}
use Rattle.model.proofs.Quiet.Names.{name-given, name-injective}
use Rattle.model.proofs.Quiet.Ways.{Mem, front_word, upd, upd_same, upd_other}
use Rattle.model.proofs.Quiet.Timing.{Linked, linked-same}
use Rattle.model.proofs.Occam.Paths.{same-path, is_alt}
use Rattle.model.proofs.Words.Parts.{Part}
use Rattle.model.proofs.Effects.OneWord.{stored}
use Rattle.model.proofs.Effects.Queues.{queue-same}
use Rattle.model.proofs.Effects.Timers.{Chain, ends, next, Sorted, Once, chain-stable, sorted-stable}
use Rattle.model.proofs.Effects.Waking.{fronted, timed_at}
use Rattle.model.proofs.Invariant.Trees.{Info, Tree}
use Rattle.model.proofs.Invariant.Leaves.{member, Held}
use Rattle.model.proofs.Invariant.Stays.{Intact, intact-trans}
use Rattle.model.proofs.Invariant.Kernel.{Loaded, S, root, size, LeafAt, Dozer, dozer-out, sleeper, Sleepers, linked-in, Plain}
use Rattle.model.proofs.Invariant.Kernel.{plain_of, Rest, Lined, Real, node, part_small, sits-at}
use Rattle.model.proofs.Invariant.Grounds.{chan-in, small_size}
use Rattle.model.proofs.Invariant.Writes.{time-words, TimeSame, plain-own}
use Rattle.model.proofs.Invariant.Moving.{same-leaf, other-w}
use Rattle.model.proofs.Invariant.Sleeping.{at_front, plain-relinked, fits}
use Rattle.model.proofs.Invariant.Reals.{offer-world, real-stored, link-any}
use Rattle.model.proofs.Steps.Meets.{var-above, chan-above}
use Rattle.model.proofs.Outside.Wakings.{With, intact-own}
use Rattle.model.proofs.Outside.Timeouts.{Timeout}

-- a chain from a word is the only one
chain-one : {μ : Mem} {a : ℕ} {ts us : List ℕ} → ((v : ℕ) → Memᴰ v ts → v ≤ word_limit) → ((v : ℕ) → Memᴰ v us → v ≤ word_limit)
    → Chain μ a ts → Chain μ a us → ts ≡ us
chain-one f g (ends e) (ends h) = refl
chain-one f g (ends e) (next {w} h d) = absurd (name-given w (g w (Memᴰ.head refl)) (sym h ∙ e))
chain-one f g (next {w} e c) (ends h) = absurd (name-given w (f w (Memᴰ.head refl)) (sym e ∙ h))
chain-one {μ} f g (next {w} {ts} e c) (next {w = u} {ts = us} h d) =
    let same : w ≡ u = name-injective w u (sym e ∙ h) in
    let rest : ts ≡ us =
    chain-one (λ v m. f v (Memᴰ.tail m)) (λ v m. g v (Memᴰ.tail m)) c (subst (λ z. Chain μ (time_link_word z) us) (sym same) d) in
    ap (λ z. z ∷ ts) same ∙ ap (λ z. u ∷ z) rest

module _ (L : Loaded) where
  -- another front of the timer queue
  real-fronted : {s : World} {st : State} {μ : Mem} {ws : List ℕ} (f : ℕ) → Real L s st μ ws
      → Real L (fronted f s) st (upd μ front_word f) ws
  real-fronted {s} {μ = μ} f r =
      record {
        setup-kept = r.setup-kept;
        no-fault = r.no-fault;
        room = r.room;
        mirror = λ v h. r.mirror v h ∙ sym (upd_other μ front_word f v (λ e. absurd (omega (arith, e, small_size L))));
        queue = queue-same (fronted f s) refl refl refl (λ w m. refl) r.queue;
        eight = r.eight;
        offers = λ n h. offer-world L refl refl (r.offers n h);
        beyond = r.beyond;
        timed = record { clock-same = r.timed.clock-same; clock-read = r.timed.clock-read; clock-word = r.timed.clock-word };
        front = sym (upd_same μ front_word f);
      }

  -- no process sees it
  pub intact-front : {st : State} {μ : Mem} {t : Tree (S L) (root L) st.process} {path : List ℕ} {q : Process} {b : Part} {i : Info}
      {skip : ℕ} (z : ℕ) → LeafAt L st t path q b i → Intact (S L) b i skip st st μ (upd μ front_word z)
  intact-front {μ = μ} z l =
      record {
        own = λ a lo hi d. upd_other μ front_word z a (λ e. absurd (omega (arith, e, part_small L l, small_size L)));
        reads = λ x m g. refl;
        chans = λ c m.
            inl (upd_other μ front_word z ((S L).word c) (λ e. absurd (omega (arith, e, chan-in L (node L l) c m, small_size L))));
        sends = λ c m s. s;
        none-sends = λ c m g o s. s;
      }

  -- a process is the first of the timer queue, and ts are behind it
  pub record First (s : World) (st : State) (μ : Mem) (t : Tree (S L) (root L) st.process) (Out : List ℕ → Type 0) (ws : List ℕ)
      (path : List ℕ) (q : Process) (b : Part) (i : Info) (ts : List ℕ) : Type 0 where
    pub real : Real L s st μ ws
    pub rest : Rest L st μ t Out ws
    pub lines : Lined L st t Out ws
    pub leaf : LeafAt L st t path q b i
    pub space : b.bottom + 5 ≤ i.w
    pub asleep : rest.sleepers.asleep ≡ i.w ∷ ts

  module _ (c : ℕ) {s : World} {st : State} {μ : Mem} {t : Tree (S L) (root L) st.process} {Out : List ℕ → Type 0} {ws : List ℕ}
      {path : List ℕ} {q : Process} {b : Part} {i : Info} {ts : List ℕ} (F : First s st μ t Out ws path q b i ts) where
    abbrev rest : Rest L st μ t Out ws
    rest = F.rest

    abbrev leaf : LeafAt L st t path q b i
    leaf = F.leaf

    abbrev space : b.bottom + 5 ≤ i.w
    space = F.space

    abbrev first : F.rest.sleepers.asleep ≡ i.w ∷ ts
    first = F.asleep

    abbrev w : ℕ
    w = i.w

    -- what is behind it
    abbrev behind : ℕ
    behind = μ (time_link_word w)

    -- its words are its own, below its workspace
    pub w-small : w ≤ b.top
    w-small = (sits-at L leaf).placed.low

    pub inside : {v : ℕ} → v < w → v < size L
    inside h = omega (arith, w-small, part_small L leaf)

    pub link-low : (b.bottom ≤ time_link_word w) × (time_link_word w < w)
    link-low = (
      omega (arith, space, w-small, part_small L leaf, small_size L),
      omega (arith, space, w-small, part_small L leaf, small_size L),
    )

    pub time-low : (b.bottom ≤ time_word w) × (time_word w < w)
    time-low = (
      omega (arith, space, w-small, part_small L leaf, small_size L),
      omega (arith, space, w-small, part_small L leaf, small_size L),
    )

    pub state-low : (b.bottom ≤ state_word w) × (state_word w < w)
    state-low = (
      omega (arith, space, w-small, part_small L leaf, small_size L),
      omega (arith, space, w-small, part_small L leaf, small_size L),
    )

    -- the words then
    abbrev pub fronting : Mem
    fronting = upd μ front_word behind

    abbrev linking : Mem
    linking = upd fronting (time_link_word w) time_set

    abbrev pub left : Mem
    left = upd linking (time_word w) c

    abbrev pub leaves : World
    leaves = timed_at c w (fronted behind s)

    -- it was in the timer queue
    was-linked : Linked μ w
    was-linked = linked-in L rest w (subst (Memᴰ w) (sym first) (Memᴰ.head refl))

    -- a word of its own below its workspace that links no queue
    pub real-put : {u : World} {st' : State} {κ : Mem} (v z : ℕ) → b.bottom ≤ v → v < w → v ≢ link_word w → Real L u st' κ ws
        → Real L (stored v z u) st' (upd κ v z) ws
    real-put v z low below off r =
        real-stored L v z (inside below) (link-any L F.lines leaf v low (omega (arith, below, w-small)) off) r

    pub plain-put : {κ : Mem} (v z : ℕ) → b.bottom ≤ v → v < w → Plain L st κ t (With Out path) ws
        → Plain L st (upd κ v z) t (With Out path) ws
    plain-put v z low below h =
        let placed = (sits-at L leaf).placed in
        plain-own L leaf h v z low (omega (arith, below, w-small)) (var-above L placed v below) (chan-above L placed v below)
        (inl (inr refl))

    pub real-left : Real L leaves st left ws
    real-left =
        real-put (time_word w) c time-low.0 time-low.1
        (λ e. absurd (omega (arith, e, space, w-small, part_small L leaf, small_size L)))
        (real-put (time_link_word w) time_set link-low.0 link-low.1
        (λ e. absurd (omega (arith, e, space, w-small, part_small L leaf, small_size L))) (real-fronted behind F.real))

    pub plain-left : Plain L st left t (With Out path) ws
    plain-left =
        let (no-set, no-unset) = was-linked in
        plain-put (time_word w) c time-low.0 time-low.1
        (plain-put (time_link_word w) time_set link-low.0 link-low.1
        (plain-relinked L (plain_of L rest) behind no-set no-unset at_front (λ other p d j k n. inl (λ o. n (inl o)))))

    -- the words apart from the front
    pub timed-out : Timeout c w fronting left
    timed-out =
        record {
          was = linked-same L.times st μ fronting w (upd_other μ front_word behind (time_link_word w) (λ e. absurd (omega (arith, e))))
              was-linked;
          link = upd_other linking (time_word w) c (time_link_word w)
              (λ e. absurd (omega (arith, e, space, w-small, part_small L leaf, small_size L)))
              ∙ upd_same fronting (time_link_word w) time_set;
          time = upd_same linking (time_word w) c;
          others = λ u d e. upd_other linking (time_word w) c u e ∙ upd_other fronting (time_link_word w) time_set u d;
        }

    -- its other words are as they were
    pub word_kept : (v : ℕ) → v < size L → v ≢ time_link_word w → v ≢ time_word w → left v ≡ μ v
    word_kept v h d e =
        timed-out.others v d e ∙ upd_other μ front_word behind v (λ e. absurd (omega (arith, e, small_size L)))

    pub front-then : left front_word ≡ behind
    front-then =
        timed-out.others front_word (λ e. absurd (omega (arith, e))) (λ e. absurd (omega (arith, e))) ∙ upd_same μ front_word behind

    -- a process at another path sees nothing of it
    pub intact-left : {here : List ℕ} {p : Process} {d : Part} {j : Info} → LeafAt L st t here p d j → path ≢ here
        → Intact (S L) d j d.top st st μ left
    intact-left l off =
        intact-trans (intact-front behind l)
        (intact-trans (intact-own L leaf l off fronting (time_link_word w) time_set link-low.0 (omega (arith, link-low.1, w-small)))
        (intact-own L leaf l off linking (time_word w) c time-low.0 (omega (arith, time-low.1, w-small))))

    -- and so it keeps its two words
    times-kept : {κ : Mem} {here : List ℕ} {p : Process} {d : Part} {j : Info} → LeafAt L st t here p d j → d.bottom + 5 ≤ j.w
        → Intact (S L) d j d.top st st μ κ → TimeSame L μ κ j.w
    times-kept {d = d} {j} l a e =
        let (w₁, w₂, w₃, w₄) = time-words L l a in (
          e.own (time_link_word j.w) w₁ w₂ (λ z. absurd (omega (arith, z, w₂))),
          e.own (time_word j.w) w₃ w₄ (λ z. absurd (omega (arith, z, w₄))),
        )

    abbrev old : Sleepers L st μ t Out
    old = rest.sleepers

    pub once : Once (w ∷ ts)
    once = subst Once first old.once

    pub member_of : (v : ℕ) → Memᴰ v ts → Memᴰ v old.asleep
    member_of v m = subst (Memᴰ v) (sym first) (Memᴰ.tail m)

    not-it : {here : List ℕ} {p : Process} {d : Part} {j : Info} {v : ℕ} → LeafAt L st t here p d j → j.w ≡ v → Memᴰ v ts
        → path ≢ here
    not-it {v = v} l e m z = once.0 v m (same-leaf L (λ q b (y : Info). w ≡ y.w) z leaf l refl ∙ e)

    -- what the processes at other paths see nothing of
    abbrev pub Elsewhere : Mem → Type 0
    Elsewhere κ =
        (here : List ℕ) (p : Process) (d : Part) (j : Info) → LeafAt L st t here p d j → path ≢ here → Intact (S L) d j d.top st st μ κ

    pub words : {κ : Mem} → Elsewhere κ → (v : ℕ) → Memᴰ v ts → TimeSame L μ κ v
    words {κ} others v m = elim (old.each v (member_of v m)) [
      | sleeper l e a d ↦ subst (TimeSame L μ κ) e (times-kept l a (others _ _ _ _ l (not-it l e m)))
    ]

    tail : {a v : ℕ} {vs : List ℕ} → Chain μ a (v ∷ vs) → Chain μ (time_link_word v) vs
    tail (next e c) = c

    -- the timer queue of those behind it
    chain_left : {κ : Mem} → κ front_word ≡ behind → ((v : ℕ) → Memᴰ v ts → κ (time_link_word v) ≡ μ (time_link_word v))
        → Chain κ front_word ts
    chain_left e f = chain-stable e f (tail (subst (Chain μ front_word) first old.chain))

    pub asleep-left : {st' : State} {κ : Mem} {t' : Tree (S L) (root L) st'.process} {Out' : List ℕ → Type 0} {ws' : List ℕ}
        (then : Rest L st' κ t' Out' ws') → κ front_word ≡ behind
        → ((v : ℕ) → Memᴰ v ts → κ (time_link_word v) ≡ μ (time_link_word v)) → then.sleepers.asleep ≡ ts
    asleep-left then e f =
        chain-one (λ v m. (fits L then v m).small) (λ v m. (fits L rest v (member_of v m)).small) then.sleepers.chain (chain_left e f)

    module _ {κ : Mem} (front-is : κ front_word ≡ behind) (others : Elsewhere κ) {Out' : List ℕ → Type 0}
        (on : (here : List ℕ) → path ≢ here → (Out here → ⊥) → Out' here → ⊥)
        (back : (here : List ℕ) → path ≢ here → (Out' here → ⊥) → Out here → ⊥)
        (gone : Dozer L Out' path q → (is_alt q ≡ true → Linked κ w) → ⊥) where
      pub sleepers-left : Sleepers L st κ t Out'
      sleepers-left =
          record {
            asleep = ts;
            chain = chain_left front-is (λ v m. (words others v m).0);
            sorted = λ o. sorted-stable μ κ (now st) ts (λ v m. (words others v m).1) (subst (Sorted (now st) μ) first (old.sorted o)).1;
            once = once.1;
            each = λ v m. elim (old.each v (member_of v m)) [
              | sleeper {path = here} l e a d ↦ sleeper l e a (dozer-out L (λ tm k f n. on here (not-it l e m) n) d)
            ];
            known = λ v m.
                let (a, d) = old.known v (member_of v m) in
                let e = (words others v m).1 in
                (subst (λ n. n < 2 ^ 32) (sym e) a, subst (λ n. L.sleeps v n (now st)) (sym e) d);
            all = λ {path = here} {q = p} {b = d} {i = j} l a z f.
                ⊎_elim
                (λ e.
                let (z', f') = same-leaf L (λ p d (y : Info). Dozer L Out' path p × (is_alt p ≡ true → Linked κ y.w)) (sym e) l leaf
                (subst (λ h. Dozer L Out' h p) (sym e) z, f) in
                absurd (gone z' f'))
                (λ u.
                let same = times-kept l a (others here p d j l u) in
                ⊎_elim (λ g. absurd (other-w L leaf l u (sym g))) (λ m. m)
                (Memᴰ.cases_cons (subst (Memᴰ j.w) first
                (old.all l a (dozer-out L (λ tm k g n. back here u n) z)
                (λ x. linked-same L.times st κ μ j.w (sym same.0) (f x))))))
                (same-path path here);
          }

    -- one that is not left out comes in again
    pub plain_in : {κ : Mem} → ((Out path → ⊥) → Held (S L) L.times b i st κ (member w ws) q) → Plain L st κ t (With Out path) ws
        → Plain L st κ t Out ws
    plain_in {κ} held h =
        record {
          vars = h.vars;
          chans = h.chans;
          live = h.live;
          leaf = λ {path = here} k n.
              ⊎_elim
              (λ e. same-leaf L (λ q b (j : Info). Held (S L) L.times b j st κ (member j.w ws) q) e leaf k
              (held (λ o. n (subst Out e o))))
              (λ d. h.leaf k (λ o. ⊎_elim n d o)) (same-path path here);
          par = h.par;
          sleepers = tt;
        }
