-- Processes are left out and taken in again, get the processor and lose it, and join the queue.
use Prim.Native.Nat.{ℕ, ◌+◌, ◌≤◌}
use native.Mathlib.Omega.{arith}
use mathlib.Core.Path.{◌≡◌, refl, sym, ap, ◌∙◌, subst}
use mathlib.Core.Logic.{◌≢◌, ◌⊎◌, inl, inr, ⊎_elim}
use mathlib.Core.Bool.{true, false, ◌||◌}
use mathlib.Core.List.Memᴰ
use mathlib.Core.List.{List, [], ◌∷◌, ◌++◌, Memᴰ}
use lib.Dec.{eqb}
use borrow.Author.Tests.{eq-eqb, ne_eqb, eqb-true, eqb-false}
use Rattle.model.specs.Syntax.{Site}
use Rattle.model.specs.Occam.{Frame, Process, before, finished, at_output, look, State, frames_of, to_read, has_read, at_wait}
use Rattle.model.specs.Occam.{at_input, at_stop, at_alt, in_par}
use Rattle.model.proofs.Cases.{never, by_bool}
use Rattle.model.proofs.Quiet.Ways.{Mem}
use Rattle.model.proofs.Quiet.Setting.{whole}
use Rattle.model.proofs.Occam.Paths.{Leaf, l-before, l-finished, leaf-par, put-found, same-path, l-to-read, l-has-read, Awake, is_alt}
use Rattle.model.specs.Demand.{live_in}
use Rattle.model.proofs.Words.Parts.{Part, Within}
use Rattle.model.proofs.Quiet.Continuations.{Placed}
use Rattle.model.proofs.Quiet.Marks.{Own, Skips, s-none, s-skip, s-par, Settled, own_name}
use Rattle.model.proofs.Invariant.Trees.{some_same, Label, alone, alone-part, alone-info, Info, Tree, label_at, bytes_left, leaf-bytes}
use Rattle.model.proofs.Invariant.Trees.{Kept, kept}
use Rattle.model.proofs.Invariant.Zones.{zone_of}
use Rattle.model.proofs.Invariant.Leaves.{member, Held}
use Rattle.model.proofs.Invariant.Kernel.{Loaded, S, root, LeafAt, NodeAt, Owned, owned, Rest, whose, Lined, node, sits-at, Sleepers}
use Rattle.model.proofs.Invariant.Kernel.{dozer-out, Dozer, at-wait, in-alt, Sleeper, sleeper}
use Rattle.model.proofs.Invariant.Writes.{apart_parts, own-one, sleepers-by}
use Rattle.model.proofs.Quiet.Timing.{Linked}

-- membership by a test
pub member-in : (w : ℕ) (ws : List ℕ) → member w ws ≡ true → Memᴰ w ws
unfolding member
member-in w [] e = never (cc)
member-in w (v ∷ vs) e =
    by_bool (eqb w v) (λ h. Memᴰ.head (eqb-true w v h)) (λ h. Memᴰ.tail (member-in w vs (rw h at e)))

pub in-member : (w : ℕ) (ws : List ℕ) → Memᴰ w ws → member w ws ≡ true
unfolding member
in-member w [] m = absurd (Memᴰ.not-nil m)
in-member w (v ∷ vs) m =
    by_bool (eqb w v) (λ h. rw h)
    (λ h. ⊎_elim (λ e. absurd (eqb-false w v h e)) (λ k. rw h (in-member w vs k)) (Memᴰ.cases_cons m))

-- another one in front or behind changes nothing
pub member-cons : (w v : ℕ) (ws : List ℕ) → w ≢ v → member w (v ∷ ws) ≡ member w ws
unfolding member
member-cons w v ws d = rw (ne_eqb w v d)

pub member-snoc : (w v : ℕ) (ws : List ℕ) → w ≢ v → member w (ws ++ v ∷ []) ≡ member w ws
unfolding member
member-snoc w v [] d = rw (ne_eqb w v d)
member-snoc w v (u ∷ us) d = ap (λ z. eqb w u || z) (member-snoc w v us d)

pub member-head : (w : ℕ) (ws : List ℕ) → member w (w ∷ ws) ≡ true
unfolding member
member-head w ws = rw (eq-eqb w w refl)

pub member-last : (w : ℕ) (ws : List ℕ) → member w (ws ++ w ∷ []) ≡ true
unfolding member
member-last w [] = rw (eq-eqb w w refl)
member-last w (u ∷ us) = by_bool (eqb w u) (λ h. rw h) (λ h. rw (h, member-last w us))

-- a process at another workspace, and with another bound on its bytes
abbrev pub relaid : (w left : ℕ) → Info → Info
relaid w n i = record { vars = i.vars; chans = i.chans; w = w; left = n }

-- processes that skip steps without code, or are led on, are no outputs
pub settled-silent : {q : Process} {c : Site} {v : ℕ} {k : List Frame} → Settled q → q ≡ at_output c v k → ⊥
settled-silent {c = c} {v} {k} h e = subst (λ z. Settled z) e h

pub skips-silent : {p q : Process} {c : Site} {v : ℕ} {k : List Frame} → Skips p q → Settled q → p ≡ at_output c v k → ⊥
skips-silent s-none h e = settled-silent h e
skips-silent (s-skip s) h e = never (cc)
skips-silent (s-par s) h e = never (cc)

-- a process that settles has not come to an ALT, nor one that skips steps without code
pub settled-off : (q : Process) → Settled q → is_alt q ≡ false
settled-off (before s k) h = refl
settled-off (to_read x k) h = refl
settled-off (has_read x v k) h = refl
settled-off finished h = refl
settled-off (at_input c x k) h = elim h [ ]
settled-off (at_output c v k) h = elim h [ ]
settled-off (at_stop k) h = elim h [ ]
settled-off (at_alt gs k) h = elim h [ ]
settled-off (at_wait tm k) h = elim h [ ]
settled-off (in_par ps k) h = elim h [ ]

pub skips-off : {p q : Process} → Skips p q → Settled q → is_alt p ≡ false
skips-off {q = q} s-none h = settled-off q h
skips-off (s-skip r) h = refl
skips-off (s-par r) h = refl

pub settled-leaf : (q : Process) → Settled q → Leaf q
settled-leaf (before s k) h = l-before
settled-leaf (to_read x k) h = l-to-read
settled-leaf (has_read x v k) h = l-has-read
settled-leaf finished h = l-finished
settled-leaf (at_input c x k) h = elim h [ ]
settled-leaf (at_output c v k) h = elim h [ ]
settled-leaf (at_stop k) h = elim h [ ]
settled-leaf (at_alt gs k) h = elim h [ ]
settled-leaf (at_wait tm k) h = elim h [ ]
settled-leaf (in_par ps k) h = elim h [ ]

module _ (L : Loaded) where
  -- different processes have different workspaces
  pub other-w : {st : State} {t : Tree (S L) (root L) st.process} {path other : List ℕ} {q r : Process} {b c : Part} {i j : Info}
      → LeafAt L st t path q b i → LeafAt L st t other r c j → path ≢ other → i.w ≢ j.w
  other-w {i = i} {j} h k d e =
      let p = (sits-at L h).placed in
      let r = (sits-at L k).placed in
      own-one L (apart_parts L h k d) (own_name _ i.w (omega (arith, p.room)) p.low)
      (own_name _ i.w (omega (arith, r.room, e)) (omega (arith, r.low, e)))

  -- what is found at the same path is the same
  pub same-leaf : {st : State} {t : Tree (S L) (root L) st.process} {path other : List ℕ} {q r : Process} {b c : Part} {i j : Info}
      (P : Process → Part → Info → Type 0) → path ≡ other → LeafAt L st t path q b i → LeafAt L st t other r c j → P q b i → P r c j
  same-leaf {st} {t} {q = q} {r} {b} {c} {i} {j} P e h k x =
      let f = some_same (sym h.found ∙ ap (λ z. look z st.process) e ∙ k.found) in
      let g = some_same (sym h.label ∙ ap (label_at (S L) t) e ∙ k.label) in
      subst (λ z. P z c j) f (subst (λ z. P q z j) (alone-part g) (subst (λ z. P q b z) (alone-info g) x))

  -- other processes are left out, none that waits for the clock
  pub sleepers-out : {st : State} {μ : Mem} {t : Tree (S L) (root L) st.process} {Out Out' : List ℕ → Type 0}
      → ((other : List ℕ) (tm : ℕ) (k : List Frame) (b : Part) (i : Info) → LeafAt L st t other (at_wait tm k) b i → (Out other → ⊥)
      → Out' other → ⊥)
      → ((other : List ℕ) (tm : ℕ) (k : List Frame) (b : Part) (i : Info) → LeafAt L st t other (at_wait tm k) b i → (Out' other → ⊥)
      → Out other → ⊥)
      → Sleepers L st μ t Out → Sleepers L st μ t Out'
  sleepers-out {st} {t = t} more fewer z =
      sleepers-by L z refl refl (λ path q b i l a d. (refl, refl))
      (λ other q b i l d. (l, dozer-out L (λ tm k e. more other tm k b i (subst (λ p. LeafAt L st t other p b i) e l)) d))
      (λ other q b i l d. (l, dozer-out L (λ tm k e. fewer other tm k b i (subst (λ p. LeafAt L st t other p b i) e l)) d))

  module _ {st : State} {μ : Mem} {t : Tree (S L) (root L) st.process} {ws : List ℕ} where
    -- more are left out, none that waits for the clock
    pub rest_out : {Out Out' : List ℕ → Type 0} → ((other : List ℕ) → Out other → Out' other)
        → ((other : List ℕ) (tm : ℕ) (k : List Frame) (b : Part) (i : Info) → LeafAt L st t other (at_wait tm k) b i → (Out other → ⊥)
        → Out' other → ⊥)
        → Rest L st μ t Out ws → Rest L st μ t Out' ws
    rest_out f none h =
        record {
          vars = h.vars;
          chans = h.chans;
          live = h.live;
          leaf = λ {path = other} k n. h.leaf k (λ o. n (f other o));
          par = h.par;
          sleepers = sleepers-out none (λ other tm k b i l n o. n (f other o)) h.sleepers;
        }

    -- one more
    pub rest-with : {Out : List ℕ → Type 0} {path : List ℕ} {q : Process} {b : Part} {i : Info} → LeafAt L st t path q b i → Awake q
        → Rest L st μ t Out ws → Rest L st μ t (λ other. Out other ⊎ (path ≡ other)) ws
    rest-with at awake h =
        rest_out (λ other o. inl o) (λ other tm k c j l n o.
        ⊎_elim n (λ e. awake tm k (some_same (sym at.found ∙ ap (λ z. look z st.process) e ∙ l.found))) o) h

    -- other paths are left out, but no others at which a process is
    pub rest-narrow : {Out Out' : List ℕ → Type 0}
        → ((other : List ℕ) (q : Process) (b : Part) (i : Info) → LeafAt L st t other q b i → Out other → Out' other)
        → ((other : List ℕ) → Out' other → Out other) → Rest L st μ t Out ws → Rest L st μ t Out' ws
    rest-narrow f fewer h =
        record {
          vars = h.vars;
          chans = h.chans;
          live = h.live;
          leaf = λ {path = other} {q = q} {b = b} {i = i} k n. h.leaf k (λ o. n (f other q b i k o));
          par = h.par;
          sleepers = sleepers-out (λ other tm k b i l n o. n (fewer other o)) (λ other tm k b i l n o. n (f other _ b i l o)) h.sleepers;
        }

    -- one is taken in again
    pub rest_in : {Out Out' : List ℕ → Type 0} {path : List ℕ} {q : Process} {b : Part} {i : Info} → LeafAt L st t path q b i
        → Held (S L) L.times b i st μ (member i.w ws) q → ((other : List ℕ) → path ≢ other → Out other → Out' other)
        → ((other : List ℕ) → Out' other → Out other) → Awake q → Rest L st μ t Out ws → Rest L st μ t Out' ws
    rest_in {path = path} at held f fewer awake h =
        record {
          vars = h.vars;
          chans = h.chans;
          live = h.live;
          leaf = λ {path = other} k n.
              ⊎_elim (λ e. same-leaf (λ q b (i : Info). Held (S L) L.times b i st μ (member i.w ws) q) e at k held)
              (λ d. h.leaf k (λ o. n (f other d o))) (same-path path other);
          par = h.par;
          sleepers = sleepers-out (λ other tm k b i l n o. n (fewer other o))
              (λ other tm k b i l n o.
              ⊎_elim (λ e. awake tm k (some_same (sym at.found ∙ ap (λ z. look z st.process) e ∙ l.found))) (λ d. n (f other d o))
              (same-path path other)) h.sleepers;
        }

  module _ {st : State} {t : Tree (S L) (root L) st.process} {ws : List ℕ} where
    -- the queue of those that are left
    pub lined-in : {Out Out' : List ℕ → Type 0} → ((other : List ℕ) → Out' other → Out other) → Lined L st t Out ws → Lined L st t Out' ws
    lined-in f h =
        record {
          each = λ w m. elim (h.each w m) [ whose {path = other} k e n ↦ whose k e (λ o. n (f other o)) ];
          once = h.once;
        }

    -- with one more left out, who is not queued
    pub lined-out : {Out Out' : List ℕ → Type 0} {path : List ℕ} {q : Process} {b : Part} {i : Info} → LeafAt L st t path q b i
        → member i.w ws ≡ false → ((other : List ℕ) → Out' other → (path ≡ other) ⊎ Out other) → Lined L st t Out ws
        → Lined L st t Out' ws
    lined-out {i = i} at e f h =
        record {
          each = λ w m. elim (h.each w m) [
            | whose {path = other} {i = j} k g n ↦ whose k g (λ o.
                ⊎_elim
                (λ p.
                never (cc (
                  e,
                  in-member i.w ws
                      (subst (λ v. Memᴰ v ws) (sym (same-leaf (λ q b (z : Info). z.w ≡ w) (sym p) k at g)) m),
                ))) n (f other o))
          ];
          once = h.once;
        }

  -- what is known of a process's workspace and bytes
  pub data Relabelled (st : State) (μ : Mem) (t : Tree (S L) (root L) st.process) (path : List ℕ) (q : Process)
      (b : Part) (i : Info) (w n : ℕ)
      (Out : List ℕ → Type 0) (ws : List ℕ) : Type 0 where
    relabelled : (u : Tree (S L) (root L) st.process) → LeafAt L st u path q b (relaid w n i)
        → Rest L st μ u Out ws → Lined L st u Out ws
        → bytes_left (S L) u + i.left ≡ bytes_left (S L) t + n
        → ((other : List ℕ) (r : Process) (c : Part) (j : Info) → path ≢ other → LeafAt L st t other r c j → LeafAt L st u other r c j)
        → Relabelled st μ t path q b i w n Out ws

  module _ {st : State} {t : Tree (S L) (root L) st.process} {path : List ℕ} {q : Process} {b : Part} {i : Info} (w n : ℕ)
      (at : LeafAt L st t path q b i) (k : Kept (S L) t path b (relaid w n i) st.process) where
    here-new : LeafAt L st k.tree path q b (relaid w n i)
    here-new = record { found = at.found; leaf = at.leaf; label = k.here }

    here_label : {other : List ℕ} {l : Label} → NodeAt L st k.tree other l → path ≡ other → l ≡ alone b (relaid w n i)
    here_label m e = some_same (sym m.label ∙ ap (label_at (S L) k.tree) (sym e) ∙ k.here)

    node-back : {other : List ℕ} {l : Label} → path ≢ other → NodeAt L st k.tree other l → NodeAt L st t other l
    node-back {other} d m = record { label = sym (k.same other d) ∙ m.label }

    leaf-back : {other : List ℕ} {r : Process} {c : Part} {j : Info} → path ≢ other → LeafAt L st k.tree other r c j
        → LeafAt L st t other r c j
    leaf-back {other} d m = record { found = m.found; leaf = m.leaf; label = sym (k.same other d) ∙ m.label }

    leaf-on : {other : List ℕ} {r : Process} {c : Part} {j : Info} → path ≢ other → LeafAt L st t other r c j
        → LeafAt L st k.tree other r c j
    leaf-on {other} d m = record { found = m.found; leaf = m.leaf; label = k.same other d ∙ m.label }

    owned-on : {c : Site} {v : ℕ} → Owned L st t c v → Owned L st k.tree c v
    owned-on {c} {v} (owned {path = other} {b = d} m l o) =
        ⊎_elim (λ e.
        let (l', o') = same-leaf (λ q d (j : Info). Memᴰ c j.chans × Own d v) (sym e) m at (l, o) in owned here-new l' o')
        (λ d. owned (leaf-on d m) l o) (same-path path other)

    -- an ALT's workspace stays
    sleepers-new : {μ : Mem} {Out : List ℕ → Type 0} → (is_alt q ≡ true → w ≡ i.w) → Out path → Sleepers L st μ t Out
        → Sleepers L st μ k.tree Out
    sleepers-new {μ} {Out} same out z =
        record {
          asleep = z.asleep;
          chain = z.chain;
          sorted = z.sorted;
          once = z.once;
          each = λ v m. elim (z.each v m) [
            | sleeper {path = other} l e a d ↦
                ⊎_elim (λ p. here p l e a d) (λ u. sleeper (leaf-on u l) e a d) (same-path path other)
          ];
          known = z.known;
          all = λ {path = other} l a d f.
              ⊎_elim (λ p. there p l a d f) (λ u. z.all (leaf-back u l) a d f) (same-path path other);
        }
      where
        here : {other : List ℕ} {r : Process} {c : Part} {j : Info} {v : ℕ} → path ≡ other → LeafAt L st t other r c j → j.w ≡ v
            → c.bottom + 5 ≤ j.w → Dozer L Out other r → Sleeper L st k.tree Out v
        here p l e a (at-wait u) = absurd (u (subst Out p out))
        here {v = v} p l e a (in-alt x) =
            let (q-is, room, w-is, gs-timed) =
            same-leaf (λ q b (j : Info). (is_alt q ≡ true) × (b.bottom + 5 ≤ j.w) × (j.w ≡ v) × Dozer L Out path q) (sym p) l at
            (x, a, e, in-alt x) in
            let f = same q-is in
            sleeper here-new (f ∙ w-is) (omega (arith, f, room)) gs-timed

        there : {other : List ℕ} {r : Process} {c : Part} {j : Info} → path ≡ other → LeafAt L st k.tree other r c j
            → c.bottom + 5 ≤ j.w → Dozer L Out other r → (is_alt r ≡ true → Linked μ j.w) → Memᴰ j.w z.asleep
        there p l a (at-wait u) f = absurd (u (subst Out p out))
        there {j = j} p l a (in-alt x) f =
            let (q-is, room, linked, dozes, w-is) =
            same-leaf (λ q b (y : Info). (is_alt q ≡ true) × (b.bottom + 5 ≤ y.w) × Linked μ y.w × Dozer L Out path q × (y.w ≡ j.w))
            (sym p) l here-new (x, a, f x, in-alt x, refl) in
            let g = same q-is in
            subst (λ y. Memᴰ y z.asleep) (sym g ∙ w-is) (z.all at (omega (arith, g, room)) dozes (λ e. subst (Linked μ) g linked))

    rest-new : {μ : Mem} {Out : List ℕ → Type 0} {ws : List ℕ} → (is_alt q ≡ true → w ≡ i.w) → Out path → Rest L st μ t Out ws
        → Rest L st μ k.tree Out ws
    rest-new {Out = Out} same out h =
        record {
          vars = λ {path = other} m x l.
              ⊎_elim (λ e. h.vars (node L at) x (subst (λ z. Memᴰ x (zone_of z).vars) (here_label m e) l))
              (λ d. h.vars (node-back d m) x l) (same-path path other);
          chans = λ {path = other} m c l.
              ⊎_elim (λ z. inl z) (λ o. inr (owned-on o))
              (⊎_elim (λ e. h.chans (node L at) c (subst (λ z. Memᴰ c (zone_of z).chans) (here_label m e) l))
              (λ d. h.chans (node-back d m) c l) (same-path path other));
          live = λ {path = other} m.
              ⊎_elim (λ e. same-leaf (λ q b (j : Info). Within (live_in (frames_of q)) j.vars) e here-new m (h.live at))
              (λ d. h.live (leaf-back d m)) (same-path path other);
          leaf = λ {path = other} m o.
              ⊎_elim
              (λ e. absurd (o (subst Out e out)))
              (λ d. h.leaf (leaf-back d m) o) (same-path path other);
          par = λ {path = other} e m.
              h.par e (node-back (λ p. leaf-par at.leaf (some_same (sym at.found ∙ ap (λ z. look z st.process) p ∙ e))) m);
          sleepers = sleepers-new same out h.sleepers;
        }

    lined-new : {Out : List ℕ → Type 0} {ws : List ℕ} → Out path → Lined L st t Out ws → Lined L st k.tree Out ws
    lined-new {Out} out lines =
        record {
          each = λ v m. elim (lines.each v m) [ whose l e o ↦ whose (leaf-on (λ p. o (subst Out p out)) l) e o ];
          once = lines.once;
        }

    relabelling : {μ : Mem} {Out : List ℕ → Type 0} {ws : List ℕ} → (is_alt q ≡ true → w ≡ i.w) → Out path → Rest L st μ t Out ws
        → Lined L st t Out ws → Relabelled st μ t path q b i w n Out ws
    relabelling same out h lines =
        relabelled k.tree here-new (rest-new same out h) (lined-new out lines)
        (omega (arith, k.bytes, leaf-bytes (S L) t path at.label))
        (λ other r c j d m. leaf-on d m)

  -- a process's workspace and the bound on its bytes are others
  pub relabel : {st : State} {μ : Mem} {t : Tree (S L) (root L) st.process} {path : List ℕ} {q : Process} {b : Part} {i : Info}
      {Out : List ℕ → Type 0} {ws : List ℕ} → LeafAt L st t path q b i → Out path → (w n : ℕ) → (is_alt q ≡ true → w ≡ i.w)
      → Placed (S L) b w i.vars i.chans
      → n ≤ whole (S L) → Rest L st μ t Out ws → Lined L st t Out ws → Relabelled st μ t path q b i w n Out ws
  relabel {st} {t = t} {path} {q} {b} {i} at out w n same placed few h lines =
      relabelling w n at
      (subst (λ z. Kept (S L) t path b (relaid w n i) z) (put-found path st.process at.found)
      (kept (S L) t path at.found at.leaf at.leaf b (relaid w n i) (rw at.label)
      (record { placed = placed; few = few }))) same out h lines

  -- one that is left out is not queued
  pub unqueued : {st : State} {t : Tree (S L) (root L) st.process} {Out : List ℕ → Type 0} {ws : List ℕ}
      {path : List ℕ} {q : Process} {b : Part}
      {i : Info} → LeafAt L st t path q b i → Out path → Lined L st t Out ws → member i.w ws ≡ false
  unqueued {Out = Out} {ws} {i = i} at out lines =
      by_bool (member i.w ws)
      (λ e. elim (lines.each i.w (member-in i.w ws e)) [
        | whose k f n ↦ absurd (other-w at k (λ p. n (subst Out p out)) (sym f))
      ])
      (λ e. e)
