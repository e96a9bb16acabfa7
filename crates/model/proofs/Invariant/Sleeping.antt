-- Processes come into the timer queue and leave it: one word that links it is another, and what words hold else stays.
use Prim.Native.Nat.{ℕ, ◌+◌, ◌^◌, ◌≤◌, ◌<◌}
use native.Mathlib.Omega.{arith}
use mathlib.Core.Path.{◌≡◌, refl, sym, ap, ◌∙◌, subst}
use mathlib.Core.Logic.{◌≢◌, ◌⊎◌, inl, inr, ⊎_elim}
use mathlib.Core.Bool.{Bool, true}
use mathlib.Core.List.{List, Memᴰ}
use Rattle.model.specs.Syntax.{Site, Guards, timed}
use Rattle.model.specs.Machine.{resume_word, link_word, state_word, time_link_word, time_word, name_of}
use Rattle.model.specs.Occam.{Frame, Process, at_wait, State, now, at_alt}
use Rattle.model.proofs.Cases.{never}
use Rattle.model.proofs.Quiet.Ways.{Mem, front_word, upd, upd_same, upd_other}
use Rattle.model.proofs.Occam.Paths.{same-path, is_alt}
use Rattle.model.proofs.Words.Parts.{Part}
use Rattle.model.proofs.Quiet.Marks.{Own, AnyFound, f-first, f-later, finds-present, finds-time, s-none}
use Rattle.model.proofs.Invariant.Trees.{some_same, Label, parted, alone-parted, Info, Tree, label_at, alone}
use Rattle.model.proofs.Invariant.Zones.{zone_of, zone-under}
use Rattle.model.proofs.Invariant.Leaves.{member, Asleep, Held, h-asleep, sleeping, held-sleeping, asleep-unqueued, Resumes}
use Rattle.model.proofs.Invariant.Leaves.{h-queued, h-woken, h-wait}
use Rattle.model.proofs.Invariant.Stays.{Intact, held_stays}
use Rattle.model.proofs.Invariant.Kernel.{Loaded, S, root, size, LeafAt, NodeAt, Owned, Sleeper, sleeper, Sleepers, Rest, node}
use Rattle.model.proofs.Invariant.Kernel.{part_small, sits-at, Dozer, at-wait, in-alt, dozer-out, linked-in, Plain, plain_of}
use Rattle.model.proofs.Invariant.Kernel.{rest_of}
use Rattle.model.proofs.Invariant.Grounds.{var-in, chan-in, small_size}
use Rattle.model.proofs.Invariant.Writes.{apart-zones, time-words, plain-own}
use Rattle.model.specs.Timer.{Stop, time_set, time_not_set}
use Rattle.model.proofs.Words.Times.{Near}
use Rattle.model.proofs.Effects.Walking.{stop_in, stop-link, inserted, link_of, Fit, inserted-in, in-inserted, once-inserted}
use Rattle.model.proofs.Effects.Walking.{sorted-inserted, inserted_in, chain-inserted, stop-names, later}
use mathlib.Core.Option.{none}
use Rattle.model.proofs.Invariant.Moving.{same-leaf, other-w}
use Rattle.model.proofs.Quiet.Timing.{Linked, Dozing, no-time, until, Passed, p-unset, p-set, p-linked, least-same, linked-same}
use Rattle.model.proofs.Quiet.Timing.{onto_same}
use Rattle.model.proofs.Quiet.Onwards.{marked-same, guarded-fine}
use Rattle.model.proofs.Quiet.Arrivals.{Comes, comes}
use Rattle.model.proofs.Quiet.Names.{name-unset}
use native.Mathlib.Decide.{ℕ_discrete}

module _ (L : Loaded) where
  -- a word that links the timer queue: its front, or the time link of a process in it
  pub data Spot (st : State) (t : Tree (S L) (root L) st.process) (Out : List ℕ → Type 0) (μ : Mem) : ℕ → Type 0 where
    at_front : Spot st t Out μ front_word
    behind : {path : List ℕ} {q : Process} {b : Part} {i : Info} → LeafAt L st t path q b i → b.bottom + 5 ≤ i.w → Dozer L Out path q
        → Linked μ i.w → Spot st t Out μ (time_link_word i.w)

  -- a memory that agrees on the words that are known of a process in it
  asleep-by : {st : State} {μ ν : Mem} {tm : ℕ} {k : List Frame} {b : Part} {i : Info} {hi at : ℕ}
      → ν (resume_word i.w) ≡ μ (resume_word i.w) → ν (state_word i.w) ≡ μ (state_word i.w) → ν (time_word i.w) ≡ μ
      (time_word i.w)
      → ((c : Site) → Memᴰ c i.chans → ν ((S L).word c) ≡ μ ((S L).word c)) → Asleep (S L) b i st μ tm k at hi
      → Asleep (S L) b i st ν tm k at hi
  asleep-by {b = b} e f g chans a =
      record {
        onward = a.onward;
        near = a.near;
        resumes = record { place = e ∙ a.resumes.place; soon = a.resumes.soon };
        space = a.space;
        state-is = f ∙ a.state-is;
        time-is = g ∙ a.time-is;
        small = a.small;
        unmarked = λ c m o. a.unmarked c m (subst (Own b) (chans c m) o);
      }

  asleep-linked : {st : State} {μ : Mem} {t : Tree (S L) (root L) st.process} {path : List ℕ} {tm : ℕ} {k : List Frame} {b : Part}
      {i : Info} {hi at : ℕ} → LeafAt L st t path (at_wait tm k) b i → (z : ℕ)
      → ((c : Site) → Memᴰ c i.chans → upd μ (time_link_word i.w) z ((S L).word c) ≡ μ ((S L).word c))
      → Asleep (S L) b i st μ tm k at hi → Asleep (S L) b i st (upd μ (time_link_word i.w) z) tm k at hi
  asleep-linked {μ = μ} {i = i} l z chans a =
      let low = (sits-at L l).placed.low in
      let small = part_small L l in
      let v = time_link_word i.w in
      let off : (u : ℕ) → u ≢ v → upd μ v z u ≡ μ u = λ u d. upd_other μ v z u d in
      asleep-by (off (resume_word i.w) (λ e. absurd (omega (arith, e, a.space, (S L).top_small))))
      (off (state_word i.w) (λ e. absurd (omega (arith, e, a.space, (S L).top_small))))
      (off (time_word i.w) (λ e. absurd (omega (arith, e, a.space, (S L).top_small)))) chans a

  -- an ALT in the timer queue keeps what is known of it where its link is another
  module _ {st : State} (μ : Mem) {t : Tree (S L) (root L) st.process} {path : List ℕ} {gs : Guards} {k : List Frame} {b : Part}
      {i : Info} (l : LeafAt L st t path (at_alt gs k) b i) (z : ℕ) (no-set : z ≢ time_set) (no-unset : z ≢ time_not_set)
      (space : b.bottom + 5 ≤ i.w) (linked : Linked μ i.w)
      (off : (c : Site) → Memᴰ c i.chans → (S L).word c ≢ time_link_word i.w) where
    abbrev ν₀ : Mem
    ν₀ = upd μ (time_link_word i.w) z

    same_at : (v : ℕ) → v ≢ time_link_word i.w → ν₀ v ≡ μ v
    same_at v d = upd_other μ (time_link_word i.w) z v d

    low : i.w ≤ b.top
    low = (sits-at L l).placed.low

    small : b.top ≤ (S L).top
    small = part_small L l

    resume-at : ν₀ (resume_word i.w) ≡ μ (resume_word i.w)
    resume-at = same_at (resume_word i.w) (λ e. absurd (omega (arith, e, space, low, small, (S L).top_small)))

    state-at : ν₀ (state_word i.w) ≡ μ (state_word i.w)
    state-at = same_at (state_word i.w) (λ e. absurd (omega (arith, e, space, low, small, (S L).top_small)))

    time-at : ν₀ (time_word i.w) ≡ μ (time_word i.w)
    time-at = same_at (time_word i.w) (λ e. absurd (omega (arith, e, space, low, small, (S L).top_small)))

    base-at : ν₀ i.w ≡ μ i.w
    base-at = same_at i.w (λ e. absurd (omega (arith, e, space, low, small, (S L).top_small)))

    chan-at : (c : Site) → Memᴰ c i.chans → ν₀ ((S L).word c) ≡ μ ((S L).word c)
    chan-at c m = same_at ((S L).word c) (off c m)

    linked-at : Linked ν₀ i.w
    linked-at =
        let e = upd_same μ (time_link_word i.w) z in ((λ f. no-set (sym e ∙ f)), (λ f. no-unset (sym e ∙ f)))

    found_at : {hs : Guards} → AnyFound st μ i.w hs → AnyFound st ν₀ i.w hs
    found_at (f-first (finds-present h)) = f-first (finds-present h)
    found_at (f-first (finds-time x y z)) = absurd (linked.0 y)
    found_at (f-later h) = f-later (found_at h)

    dozing-at : Dozing L.times st gs μ i.w → Dozing L.times st gs ν₀ i.w
    dozing-at (no-time e n) = absurd (linked.1 e)
    dozing-at (until x m) = until linked-at (least-same L.times st time-at m)

    passed-at : {hs : Guards} → Passed L.times st gs hs μ i.w → Passed L.times st gs hs ν₀ i.w
    passed-at (p-unset e) = absurd (linked.1 e)
    passed-at (p-set e h) = absurd (linked.0 e)
    passed-at (p-linked x u m) = p-linked linked-at u m

    resumes-at : {at hi : ℕ} → Resumes (S L) b i st μ at hi → Resumes (S L) b i st ν₀ at hi
    resumes-at r = record { place = resume-at ∙ r.place; soon = r.soon }

    relinked-held : {f : Bool} → Held (S L) L.times b i st μ f (at_alt gs k) → Held (S L) L.times b i st ν₀ f (at_alt gs k)
    relinked-held (h-queued c r h u) = absurd (no-alt c)
      where
        no-alt : {hi at w : ℕ} {gs : Guards} {k : List Frame} {vars chans : List Site} → Comes (S L) b st.store vars chans hi
            (at_alt gs k) at w → ⊥
        no-alt (comes s-none settled sub way) = settled
    relinked-held (h-woken c r s d) =
        h-woken c (resumes-at r) (state-at ∙ s)
        (record {
          marks = marked-same (S L) b st i.vars i.chans gs μ ν₀ i.w chan-at d.marks;
          state = state-at ∙ d.state;
          chosen = ⊎_elim (λ x. let (t, p, y, z) = x in inl (t, p, y, base-at ∙ z)) (λ x. inr (base-at ∙ x.0, found_at x.1))
              d.chosen;
          times = λ e. passed-at (d.times e);
          known = d.known;
        })
    relinked-held (h-wait c r s v m n x y g) =
        h-wait c (resumes-at r) (state-at ∙ s) (base-at ∙ v)
        (λ d e. chan-at d (guarded-fine (S L).word b i.vars i.chans (i.w + 1) e c.fine.1).0 ∙ m d e) n
        (marked-same (S L) b st i.vars i.chans gs μ ν₀ i.w chan-at x) (λ e. dozing-at (y e)) g

  module _ {st : State} {μ : Mem} {t : Tree (S L) (root L) st.process} {Out : List ℕ → Type 0} {ws : List ℕ}
      (h : Plain L st μ t Out ws) where
    -- it is no name's word: one of its own process is above its workspace, one of another's not in its part
    off-name : {v : ℕ} → Spot st t Out μ v → {other : List ℕ} (x : Site) → (S L).word x < size L
        → ((path : List ℕ) (q : Process) (b : Part) (i : Info) → LeafAt L st t path q b i → path ≡ other → i.w ≤ (S L).word x)
        → ((path : List ℕ) (q : Process) (b : Part) (i : Info) → LeafAt L st t path q b i → path ≢ other
        → (b.bottom ≤ (S L).word x) × ((S L).word x < b.top) → ⊥)
        → (S L).word x ≢ v
    off-name at_front x inside own far e = absurd (omega (arith, e, inside, small_size L))
    off-name (behind {path} {q} {b} {i} k space d₀ z₀) {other} x inside own far e =
        let words = time-words L k space in
        let low = (sits-at L k).placed.low in
        ⊎_elim (λ p. absurd (omega (arith, e, own path q b i k p, space, low, part_small L k, (S L).top_small)))
        (λ d. far path q b i k d (omega (arith, e, words.0), omega (arith, e, words.1))) (same-path path other)

    -- the label of the process itself
    that-label : {path other : List ℕ} {l : Label} {q : Process} {b : Part} {i : Info} → NodeAt L st t other l → LeafAt L st t path q b i
        → path ≡ other → l ≡ alone b i
    that-label n k p = some_same (sym n.label ∙ ap (label_at (S L) t) (sym p) ∙ k.label)

    off-vars : {v : ℕ} → Spot st t Out μ v → {other : List ℕ} {l : Label} → NodeAt L st t other l → (x : Site)
        → Memᴰ x (zone_of l).vars → (S L).word x ≢ v
    off-vars spot n x m =
        off-name spot x (omega (arith, var-in L n x m))
        (λ path q b i k p.
        (sits-at L k).placed.scoped.vars-above x (subst (λ z. Memᴰ x (zone_of z).vars) (that-label n k p) m))
        (λ path q b i k d. (apart-zones L d (node L k) n).vars-in x m)

    pub off-chans : {v : ℕ} → Spot st t Out μ v → {other : List ℕ} {l : Label} → NodeAt L st t other l → (c : Site)
        → Memᴰ c (zone_of l).chans → (S L).word c ≢ v
    off-chans spot n c m =
        off-name spot c (chan-in L n c m)
        (λ path q b i k p.
        (sits-at L k).placed.scoped.chans-above c (subst (λ z. Memᴰ c (zone_of z).chans) (that-label n k p) m))
        (λ path q b i k d. (apart-zones L d (node L k) n).chans-in c m)

    -- nor a PAR's
    off-par : {v : ℕ} → Spot st t Out μ v → {other : List ℕ} {a : Part} {vs cs : List Site} {w onward : ℕ}
        → NodeAt L st t other (parted a vs cs w onward) → (w ≢ v) × (w + 1 ≢ v)
    off-par at_front {other} n =
        let under = (zone-under (S L) t other n.label).below in
        ((λ e. absurd (omega (arith, under, (S L).top_small))), (λ e. absurd (omega (arith, under, (S L).top_small))))
    off-par (behind {path} {i = i} k space d₀ z₀) {other} {w = w} n =
        let words = time-words L k space in
        let d : path ≢ other = λ p. never (alone-parted (some_same (sym n.label ∙ ap (label_at (S L) t) (sym p) ∙ k.label))) in
        let far = apart-zones L d (node L k) n in (
          (λ e. far.words w (omega (arith, e, words.0), omega (arith, e, words.1)) (omega arith, omega arith)),
          (λ e. far.words (w + 1) (omega (arith, e, words.0), omega (arith, e, words.1)) (omega arith, omega arith)),
        )

    -- a process sees nothing of it but where it is that one
    spot-intact : {v : ℕ} (z : ℕ) → Spot st t Out μ v → {other : List ℕ} {q : Process} {b : Part} {i : Info} → LeafAt L st t other q b i
        → ((a : ℕ) → b.bottom ≤ a → a < b.top → a ≢ v) → Intact (S L) b i (link_word i.w) st st μ (upd μ v z)
    spot-intact {v} z spot k off =
        record {
          own = λ a lo hi d. upd_other μ v z a (off a lo hi);
          reads = λ x m g. refl;
          chans = λ c m. inl (upd_other μ v z ((S L).word c) (off-chans spot (node L k) c m));
          sends = λ c m s. s;
          none-sends = λ c m g o s. s;
        }

    -- names in scope of a process are above its time words
    off-words : {path : List ℕ} {q : Process} {b : Part} {i : Info} → LeafAt L st t path q b i → b.bottom + 5 ≤ i.w → (c : Site)
        → Memᴰ c i.chans → (S L).word c ≢ time_link_word i.w
    off-words l space c m e =
        absurd (omega (
          arith,
          e,
          (sits-at L l).placed.scoped.chans-above c m,
          space,
          (sits-at L l).placed.low,
          part_small L l,
          (S L).top_small,
        ))

    -- one that waits for the clock; what is known of it does not speak of the link
    held-wait : {path : List ℕ} {tm : ℕ} {k : List Frame} {b : Part} {i : Info} (z : ℕ) → LeafAt L st t path (at_wait tm k) b i
        → (Out path → ⊥) → b.bottom + 5 ≤ i.w
        → Held (S L) L.times b i st (upd μ (time_link_word i.w) z) (member i.w ws) (at_wait tm k)
    held-wait {tm = tm} {k} {b} {i} z l n space =
        let held = h.leaf l n in
        let off = off-words l space in
        elim (held-sleeping (S L) L.times b i st μ held) [
          | sleeping a ↦
              subst (λ f. Held (S L) L.times b i st (upd μ (time_link_word i.w) z) f (at_wait tm k))
              (sym (asleep-unqueued (S L) L.times b i st μ held))
              (h-asleep (asleep-linked l z (λ c m. upd_other μ (time_link_word i.w) z ((S L).word c) (off c m)) a))
        ]

    -- one in an ALT: the link is another
    held-alt : {path : List ℕ} {gs : Guards} {k : List Frame} {b : Part} {i : Info} (z : ℕ) → z ≢ time_set → z ≢ time_not_set
        → LeafAt L st t path (at_alt gs k) b i → (Out path → ⊥) → b.bottom + 5 ≤ i.w → timed gs ≡ true → Linked μ i.w
        → Held (S L) L.times b i st (upd μ (time_link_word i.w) z) (member i.w ws) (at_alt gs k)
    held-alt {gs = gs} {k} {b} {i} z no-set no-unset l n space timed-gs linked =
        relinked-held μ l z no-set no-unset space linked (off-words l space) (h.leaf l n)

    -- one that is not left out keeps what is known of it
    held-relinked : {v : ℕ} (z : ℕ) → z ≢ time_set → z ≢ time_not_set → Spot st t Out μ v → {other : List ℕ} {q : Process} {b : Part}
        {i : Info} → LeafAt L st t other q b i
        → (Out other → ⊥) → Held (S L) L.times b i st (upd μ v z) (member i.w ws) q
    held-relinked z no-set no-unset at_front {b = b} {i} k n =
        let small = part_small L k in
        held_stays (S L) b i (omega (arith, small, (S L).top_small)) (sits-at L k)
        (spot-intact z at_front k (λ a lo hi e. absurd (omega (arith, e, small, (S L).top_small)))) (onto_same refl) (h.leaf k n)
    held-relinked z no-set no-unset (behind {path} {q = p} {i = me} l space d₀ z₀) {other} {q} {b} {i} k n =
        let words = time-words L l space in
        ⊎_elim
        (λ e.
        same-leaf L (λ q b (j : Info). Held (S L) L.times b j st (upd μ (time_link_word me.w) z) (member j.w ws) q) e l k
        (that-one l space d₀ z₀ (λ o. n (subst Out e o))))
        (λ d.
        let far = apart-zones L d (node L l) (node L k) in
        held_stays (S L) b i (omega (arith, part_small L k, (S L).top_small)) (sits-at L k)
        (spot-intact z (behind l space d₀ z₀) k
        (λ u lo hi e. far.words u (omega (arith, e, words.0), omega (arith, e, words.1)) (lo, hi)))
        (onto_same refl) (h.leaf k n)) (same-path path other)
      where
        that-one : {path : List ℕ} {q : Process} {b : Part} {i : Info} → LeafAt L st t path q b i → b.bottom + 5 ≤ i.w
            → Dozer L Out path q → Linked μ i.w → (Out path → ⊥)
            → Held (S L) L.times b i st (upd μ (time_link_word i.w) z) (member i.w ws) q
        that-one l space (at-wait u) k n = held-wait z l n space
        that-one l space (in-alt x) k n = held-alt z no-set no-unset l n space x k

    -- the word leads elsewhere, and some processes come in or are left out
    pub plain-relinked : {v : ℕ} (z : ℕ) → z ≢ time_set → z ≢ time_not_set → Spot st t Out μ v → {Out' : List ℕ → Type 0}
        → ((other : List ℕ) (q : Process) (b : Part) (i : Info) → LeafAt L st t other q b i → (Out' other → ⊥)
        → (Out other → ⊥) ⊎ Held (S L) L.times b i st (upd μ v z) (member i.w ws) q)
        → Plain L st (upd μ v z) t Out' ws
    plain-relinked {v} z no-set no-unset spot known =
        record {
          vars = λ n x m. let (e, s) = h.vars n x m in (e ∙ sym (upd_other μ v z ((S L).word x) (off-vars spot n x m)), s);
          chans = λ n c m.
              let e = upd_other μ v z ((S L).word c) (off-chans spot n c m) in
              ⊎_elim (λ f. inl (e ∙ f)) (λ o. inr (subst (Owned L st t c) (sym e) o)) (h.chans n c m);
          live = h.live;
          leaf = λ k n. ⊎_elim (λ m. held-relinked z no-set no-unset spot k m) (λ g. g) (known _ _ _ _ k n);
          par = λ {w = w} e n.
              let (a, b) = h.par e n in
              let (f, g) = off-par spot n in
              (upd_other μ v z w f ∙ a, upd_other μ v z (w + 1) g ∙ b);
          sleepers = tt;
        }

  module _ {st : State} {μ : Mem} {t : Tree (S L) (root L) st.process} {Out : List ℕ → Type 0} {ws : List ℕ}
      (h : Rest L st μ t Out ws) where
    -- what a walk finds: workspaces with time words in memory
    pub fits : (v : ℕ) → Memᴰ v h.sleepers.asleep → Fit (size L) v
    fits v m = elim (h.sleepers.each v m) [
      | sleeper l e a d ↦
          let low = (sits-at L l).placed.low in
          record {
            small = omega (arith, e, low, part_small L l, small_size L);
            space = omega (arith, e, a);
            inside = omega (arith, e, low, part_small L l);
          }
    ]

    pub times-near : L.times.sure → (v : ℕ) → Memᴰ v h.sleepers.asleep
        → (μ (time_word v) < 2 ^ 32) × Near (now st) (μ (time_word v))
    times-near o v m = let (a, b) = h.sleepers.known v m in (a, L.sleeps-near o v (μ (time_word v)) (now st) b)

    pub links-apart : (u v : ℕ) → Memᴰ u h.sleepers.asleep → Memᴰ v h.sleepers.asleep
        → time_link_word u ≡ time_link_word v → u ≡ v
    links-apart u v m n e =
        let f = fits u m in
        let g = fits v n in
        omega (arith, e, f.small, f.space, g.small, g.space)

    pub times-off : (u v : ℕ) → Memᴰ u h.sleepers.asleep → Memᴰ v h.sleepers.asleep → time_word v ≢ time_link_word u
    times-off u v m n z = by (h.sleepers.each u m) (h.sleepers.each v n)
      where
        by : Sleeper L st t Out u → Sleeper L st t Out v → ⊥
        by (sleeper {path} {i = i} l e a d) (sleeper {path = other} {i = j} l₂ e₂ a₂ d₂) =
            let words = time-words L l a in
            let words₂ = time-words L l₂ a₂ in
            ⊎_elim
            (λ p.
            let same : i.w ≡ j.w = same-leaf L (λ q b (y : Info). i.w ≡ y.w) p l l₂ refl in
            absurd (omega (arith, z, e, e₂, same, (fits u m).space, (fits u m).small)))
            (λ d. (apart-zones L d (node L l) (node L l₂)).words (time_link_word i.w) (words.0, words.1)
            (omega (arith, z, e, e₂, words₂.2), omega (arith, z, e, e₂, words₂.3))) (same-path path other)

  -- a process goes into the timer queue with the time in its word, and is left out no more
  module _ {st : State} {μ : Mem} {t : Tree (S L) (root L) st.process} {Out : List ℕ → Type 0} {ws : List ℕ}
      (h : Rest L st μ t Out ws) {path : List ℕ} {q : Process} {b : Part} {i : Info} (leaf : LeafAt L st t path q b i)
      (out : Out path) (space : b.bottom + 5 ≤ i.w) (absent : (v : ℕ) → Memᴰ v h.sleepers.asleep → i.w ≢ v)
      (tm : ℕ) (time-is : μ (time_word i.w) ≡ tm) (tm-small : tm < 2 ^ 32) (knows : L.sleeps i.w tm (now st))
      (clock-word : now st < 2 ^ 32) where
    abbrev w : ℕ
    w = i.w

    abbrev ts : List ℕ
    ts = h.sleepers.asleep

    -- where it has its place
    abbrev place : Stop
    place = stop_in μ tm none ts

    abbrev ν : Mem
    ν = upd μ (time_link_word w) place.at

    -- the words then
    abbrev η : Mem
    η = inserted_in w place μ

    own-words : (b.bottom ≤ time_link_word w) × (time_link_word w < b.top) × (time_link_word w < w)
    own-words =
        let words = time-words L leaf space in
        (words.0, words.1, omega (arith, space, (sits-at L leaf).placed.low, part_small L leaf, (S L).top_small))

    vars-off : (x : Site) → Memᴰ x i.vars → (S L).word x ≢ time_link_word w
    vars-off x m e = absurd (omega (arith, e, (sits-at L leaf).placed.scoped.vars-above x m, own-words.2))

    chans-off : (c : Site) → Memᴰ c i.chans → (S L).word c ≢ time_link_word w
    chans-off c m e = absurd (omega (arith, e, (sits-at L leaf).placed.scoped.chans-above c m, own-words.2))

    -- the word that leads to it then
    pub spot : Spot st t Out μ (link_of place.before)
    spot = stop-link (later μ tm) none ts (Spot st t Out μ) at_front (λ v m f. elim (h.sleepers.each v m) [
      | sleeper l e a d ↦
          subst (λ z. Spot st t Out μ (time_link_word z)) e (behind l a d (subst (Linked μ) (sym e) (linked-in L h v m)))
    ])

    -- that word is in no part of its own
    off-spot : (v : ℕ) → b.bottom ≤ v → v < b.top → v ≢ link_of place.before
    off-spot v lo hi = stop-link (later μ tm) none ts (λ z. v ≢ z) (λ e. absurd (omega (arith, e, hi, part_small L leaf, (S L).top_small)))
        (λ u m passed. elim (h.sleepers.each u m) [
          | sleeper {path = other} l e a d ↦ λ f.
              let words = time-words L l a in
              ⊎_elim (λ p. absent u m (same-leaf L (λ q b (y : Info). y.w ≡ u) (sym p) l leaf e))
              (λ c. (apart-zones L c (node L leaf) (node L l)).words v (lo, hi)
              (omega (arith, f, e, words.0), omega (arith, f, e, words.1)))
              (same-path path other)
        ])

    -- its own words stay but its link, and the words of channels
    pub own-stays : (v : ℕ) → b.bottom ≤ v → v < b.top → v ≢ time_link_word w → η v ≡ μ v
    own-stays v lo hi d =
        upd_other ν (link_of place.before) (name_of w) v (off-spot v lo hi) ∙ upd_other μ (time_link_word w) place.at v d

    spot-then : Spot st t Out ν (link_of place.before)
    spot-then = stop-link (later μ tm) none ts (Spot st t Out ν) at_front (λ v m f. elim (h.sleepers.each v m) [
      | sleeper {path = other} l e a d ↦
          let words = time-words L l a in
          let far : time_link_word v ≢ time_link_word w = λ f.
          absent v m (sym (omega (
            arith,
            f,
            e,
            a,
            space,
            (sits-at L l).placed.low,
            part_small L l,
            (sits-at L leaf).placed.low,
            part_small L leaf,
            (S L).top_small,
          ))) in
          subst (λ z. Spot st t Out ν (time_link_word z)) e (behind l a d (subst (Linked ν) (sym e)
          (linked-same L.times st μ ν v (upd_other μ (time_link_word w) place.at (time_link_word v) far) (linked-in L h v m))))
    ])

    pub chan-stays : (c : Site) → Memᴰ c i.chans → η ((S L).word c) ≡ μ ((S L).word c)
    chan-stays c m =
        upd_other ν (link_of place.before) (name_of w) ((S L).word c) (off-chans (plain_of L h) spot (node L leaf) c m)
        ∙ upd_other μ (time_link_word w) place.at ((S L).word c) (chans-off c m)

    -- its link is one
    at-link : (place.at ≢ time_set) × (place.at ≢ time_not_set)
    at-link = stop-names (later μ tm) none ts (λ v m. (fits h v m).small)

    pub linked-then : Linked η w
    linked-then =
        let e : η (time_link_word w) ≡ place.at =
        upd_other ν (link_of place.before) (name_of w) (time_link_word w) (off-spot (time_link_word w) own-words.0 own-words.1)
        ∙ upd_same μ (time_link_word w) place.at in
        ((λ f. at-link.0 (sym e ∙ f)), (λ f. at-link.1 (sym e ∙ f)))

    -- time words are no link words
    times-same : (v : ℕ) → Memᴰ v ts → η (time_word v) ≡ μ (time_word v)
    times-same v m = elim (h.sleepers.each v m) [
      | sleeper {path = other} l e a d ↦
          let words = time-words L l a in
          upd_other ν (link_of place.before) (name_of w) (time_word v)
          (stop-link (later μ tm) none ts (λ z. time_word v ≢ z) (λ z. absurd (omega (arith, z))) (λ u o f. times-off h u v o m))
          ∙ upd_other μ (time_link_word w) place.at (time_word v)
          (λ z. ⊎_elim (λ p. absent v m (same-leaf L (λ q b (y : Info). y.w ≡ v) (sym p) l leaf e))
          (λ c. (apart-zones L c (node L leaf) (node L l)).words (time_link_word w) (own-words.0, own-words.1)
          (omega (arith, z, e, words.2), omega (arith, z, e, words.3))) (same-path path other))
    ]

    time-now : η (time_word w) ≡ tm
    time-now =
        let words = time-words L leaf space in
        own-stays (time_word w) words.2 words.3
        (λ e. absurd (omega (arith, e, space, (sits-at L leaf).placed.low, part_small L leaf, (S L).top_small))) ∙ time-is

    module _ {Out' : List ℕ → Type 0} (dozes : Dozer L Out' path q) (more : (other : List ℕ) → path ≢ other → Out other → Out' other)
        (fewer : (other : List ℕ) → Out' other → Out other)
        (held : (Out' path → ⊥) → Held (S L) L.times b i st η (member w ws) q) where
      queue : Sleepers L st η t Out'
      queue =
          record {
            asleep = inserted μ tm w ts;
            chain = chain-inserted μ tm w ts none front_word refl h.sleepers.chain
                (record {
                  first = λ e. absurd (omega (arith, e));
                  own = λ v m e.
                      let low = (sits-at L leaf).placed.low in
                      absent v m (sym (omega (arith, e, (fits h v m).small, (fits h v m).space, space, part_small L leaf, small_size L)));
                  others = λ v m e. absurd (omega (arith, e));
                }) (links-apart h) h.sleepers.once;
            sorted = λ o.
                sorted-inserted μ η (now st) tm w ts clock-word tm-small (L.sleeps-near o w tm (now st) knows)
                (λ v m. let (s, n) = times-near h o v m in (s, n, times-same v m)) time-now (h.sleepers.sorted o);
            once = once-inserted μ tm w ts absent h.sleepers.once;
            each = λ v m. ⊎_elim (λ e. sleeper leaf (sym e) space dozes)
                (λ n. elim (h.sleepers.each v n) [
                  | sleeper {path = other} l e a d ↦ sleeper l e a (dozer-out L (λ tm k f o u. o (fewer other u)) d)
                ]) (inserted-in μ tm w ts v m);
            known = λ v m. ⊎_elim
                (λ e. subst (λ z. (η (time_word z) < 2 ^ 32) × L.sleeps z (η (time_word z)) (now st)) (sym e)
                (subst (λ n. n < 2 ^ 32) (sym time-now) tm-small, subst (λ n. L.sleeps w n (now st)) (sym time-now) knows))
                (λ n.
                let (a, b) = h.sleepers.known v n in
                let e = times-same v n in
                (subst (λ n. n < 2 ^ 32) (sym e) a, subst (λ n. L.sleeps v n (now st)) (sym e) b)) (inserted-in μ tm w ts v m);
            all = λ {path = other} {i = j} l a d f.
                in-inserted μ tm w ts _
                (⊎_elim (λ e. inl (same-leaf L (λ q b (y : Info). y.w ≡ w) e leaf l refl))
                (λ u. inr (link-of l a u d f (ℕ_discrete (time_link_word j.w) (link_of place.before)))) (same-path path other));
          }
        where
          -- another whose link leads to it now was there before
          link-of : {other : List ℕ} {p : Process} {c : Part} {j : Info} → LeafAt L st t other p c j → c.bottom + 5 ≤ j.w → path ≢ other
              → Dozer L Out' other p → (is_alt p ≡ true → Linked η j.w) → Dec (time_link_word j.w ≡ link_of place.before)
              → Memᴰ j.w ts
          link-of {j = j} l a u d f (yes e) =
              stop-link (later μ tm) none ts (λ z. time_link_word j.w ≡ z → Memᴰ j.w ts) (λ z. absurd (omega (arith, z)))
              (λ v m passed z.
              subst (λ y. Memᴰ y ts)
              (omega (arith, z, a, (sits-at L l).placed.low, part_small L l, (S L).top_small, (fits h v m).small, (fits h v m).space)) m) e
          link-of {other} {j = j} l a u d f (no e) =
              let far : time_link_word j.w ≢ time_link_word w = λ z.
              other-w L leaf l u (omega (
                arith,
                z,
                a,
                space,
                (sits-at L l).placed.low,
                part_small L l,
                (sits-at L leaf).placed.low,
                part_small L leaf,
                (S L).top_small,
              )) in
              let same : η (time_link_word j.w) ≡ μ (time_link_word j.w) =
              upd_other ν (link_of place.before) (name_of w) (time_link_word j.w) e
              ∙ upd_other μ (time_link_word w) place.at (time_link_word j.w) far in
              h.sleepers.all l a (dozer-out L (λ tm k g o v. o (more other u v)) d)
              (λ x. linked-same L.times st η μ j.w (sym same) (f x))

      pub rest-asleep : Rest L st η t Out' ws
      rest-asleep =
          let (no-set, no-unset) = name-unset w (omega (arith, (sits-at L leaf).placed.low, part_small L leaf, small_size L)) in
          rest_of L
          (plain-relinked
          (plain-own L leaf (plain_of L h) (time_link_word w) place.at own-words.0 own-words.1 vars-off chans-off (inl out))
          (name_of w) no-set no-unset spot-then
          (λ other p c j l n.
          ⊎_elim (λ e. inr (same-leaf L (λ q b (y : Info). Held (S L) L.times b y st η (member y.w ws) q) e leaf l
          (held (λ o. n (subst Out' e o)))))
          (λ d. inl (λ o. n (more other d o))) (same-path path other))) queue
