-- A process goes on to another: what words hold of the others stays.
use Prim.Native.Nat.{ℕ, ◌^◌, ◌<◌}
use native.Mathlib.Omega.{arith}
use mathlib.Core.Path.{◌≡◌, refl, sym, ap, ◌∙◌, subst}
use mathlib.Core.Logic.{◌≢◌, ◌⊎◌, inl, inr, ⊎_elim}
use mathlib.Core.List.{List, [], ◌++◌, append-nil, Memᴰ}
use mathlib.Core.Option.{Option, some}
use Rattle.model.specs.Word.{not_process}
use Rattle.model.specs.Syntax.{Site}
use Rattle.model.specs.Machine.{link_word}
use Rattle.model.specs.Occam.{Frame, Process, at_output, frames_of, look, put, State, Sender, process, outside}
use Rattle.model.specs.Demand.{live_in}
use Rattle.model.proofs.Cases.{never}
use Rattle.model.proofs.Quiet.Ways.{Mem}
use Rattle.model.proofs.Occam.Paths.{Leaf, l-output, leaf-found, look-put-same, look-put-other, look-after, into, aside}
use Rattle.model.proofs.Occam.Paths.{leaves-apart, same-path, par-after, same-par, is_alt}
use Rattle.model.proofs.Words.Parts.{Part, Within}
use Rattle.model.proofs.Quiet.Marks.{Own}
use Rattle.model.proofs.Invariant.Trees.{some_same, Label, alone, alone-part, alone-info, alone-parted, Info, Sits, Tree, label_at}
use Rattle.model.proofs.Invariant.Trees.{kept, Kept, running}
use Rattle.model.proofs.Invariant.Zones.{zone_of}
use Rattle.model.proofs.Invariant.Stays.{Intact, held_stays}
use Rattle.model.proofs.Invariant.Kernel.{Loaded, S, root, LeafAt, NodeAt, Owned, owned, Rest, whose, Lined, part_small, sits-at}
use Rattle.model.proofs.Invariant.Kernel.{Unlinked, Dozer, at-wait, in-alt, sleeper, Sleepers, linked-in, Plain, plain_of, rest_of}
use Rattle.model.proofs.Quiet.Timing.{Linked, onto_same}
use mathlib.Core.Bool.{true}

some-process : {x y : Process} → ◌≡◌ {A = Option Process} (some x) (some y) → x ≡ y
some-process e = cc

-- a state with another process at a path
abbrev pub putting : List ℕ → Process → State → State
putting path r st = record { process = put path r st.process; store = st.store; offers = st.offers; clock = st.clock }

module _ (L : Loaded) {st : State} {t : Tree (S L) (root L) st.process} {path : List ℕ} {q : Process} {b : Part} {i : Info}
    (at : LeafAt L st t path q b i) (r : Process) (leaf : Leaf r) (j : Info) (sits : Sits (S L) b j) where
  pub part-is : running (label_at (S L) t path) ≡ some b
  part-is = rw at.label

  pub moved : Kept (S L) t path b j (put path r st.process)
  moved = kept (S L) t path at.found at.leaf leaf b j part-is sits

  -- the tree then
  abbrev pub tree_then : Tree (S L) (root L) (put path r st.process)
  tree_then = moved.tree

  pub here-then : LeafAt L (putting path r st) tree_then path r b j
  here-then = record { found = look-put-same path st.process r at.found; leaf = leaf; label = moved.here }

  -- the other processes are as they were
  pub other-then : {other : List ℕ} {p : Process} {c : Part} {k : Info} → path ≢ other → LeafAt L st t other p c k
      → LeafAt L (putting path r st) tree_then other p c k
  other-then {other} d h =
      record {
        found =
            look-put-other r st.process (leaves-apart path other st.process at.found at.leaf h.found h.leaf d)
            ∙ h.found;
        leaf = h.leaf;
        label = moved.same other d ∙ h.label;
      }

  pub other-before : {other : List ℕ} {p : Process} {c : Part} {k : Info} → path ≢ other
      → LeafAt L (putting path r st) tree_then other p c k
      → LeafAt L st t other p c k
  other-before {other} d h = elim (look-after path other r st.process at.found h.found h.leaf) [
    | into rest e f ↦ absurd (d (sym (e ∙ append-to-nil (leaf-found rest r leaf f).0)))
    | aside a f ↦ record { found = f; leaf = h.leaf; label = sym (moved.same other d) ∙ h.label }
  ]
    where
      append-to-nil : {rest : List ℕ} → rest ≡ [] → path ++ rest ≡ path
      append-to-nil e = ap (λ z. path ++ z) e ∙ append-nil path

  node-before : {other : List ℕ} {l : Label} → path ≢ other → NodeAt L (putting path r st) tree_then other l → NodeAt L st t other l
  node-before {other} d h = record { label = sym (moved.same other d) ∙ h.label }

  -- those that are queued stay so
  pub lined_then : {Out : List ℕ → Type 0} {ws : List ℕ} → Out path → Lined L st t Out ws → Lined L (putting path r st) tree_then Out ws
  lined_then {Out} out h =
      record {
        each = λ w m. elim (h.each w m) [ whose k e n ↦ whose (other-then (λ p. n (subst Out p out)) k) e n ];
        once = h.once;
      }

  -- who sends
  pub sender-then : (c : Site) → ((v : ℕ) (k : List Frame) → q ≡ at_output c v k → ⊥) → Sender st c → Sender (putting path r st) c
  sender-then c lost (process other {v} {k} e) =
      ⊎_elim (λ p. absurd (lost v k (some-process (sym at.found ∙ ap (λ z. look z st.process) p ∙ e))))
      (λ d. process other (look-put-other r st.process (leaves-apart path other st.process at.found at.leaf e l-output d) ∙ e))
      (same-path path other)
  sender-then c lost (outside e) = outside e

  pub sender-before : (c : Site) → ((v : ℕ) (k : List Frame) → r ≡ at_output c v k → ⊥) → Sender (putting path r st) c → Sender st c
  sender-before c gained (process other {v} {k} e) = elim (look-after path other r st.process at.found e l-output) [
    | into rest x f ↦ absurd (gained v k (leaf-found rest r leaf f).1)
    | aside a f ↦ process other f
  ]
  sender-before c gained (outside e) = outside e

  module _ {μ : Mem} {Out : List ℕ → Type 0} {ws : List ℕ} (h : Plain L st μ t Out ws) (out : Out path)
      (vars-ok : (x : Site) → Memᴰ x j.vars → (st.store x ≡ μ ((S L).word x)) × (st.store x < 2 ^ 32))
      (chans-ok : (c : Site) → Memᴰ c j.chans → (μ ((S L).word c) ≡ not_process) ⊎ Owned L st t c (μ ((S L).word c)))
      (live-ok : Within (live_in (frames_of r)) j.vars)
      (keeps : (c : Site) → Memᴰ c i.chans → Own b (μ ((S L).word c)) → Memᴰ c j.chans)
      (lost : (c : Site) (v : ℕ) (k : List Frame) → q ≡ at_output c v k → (other : List ℕ) (p : Process) (d : Part) (n : Info)
      → LeafAt L st t other p d n → (Out other → ⊥) → Memᴰ c d.inputs → ⊥)
      (gained : (c : Site) (v : ℕ) (k : List Frame) → r ≡ at_output c v k → (other : List ℕ) (p : Process) (d : Part) (n : Info)
      → LeafAt L st t other p d n → (Out other → ⊥) → Memᴰ c n.chans → Memᴰ c d.inputs → Own d (μ ((S L).word c)) → ⊥) where
    owned-then : {c : Site} {n : ℕ} → μ ((S L).word c) ≡ n → Owned L st t c n → Owned L (putting path r st) tree_then c n
    owned-then {c} {n} e (owned {path = other} {b = d} {i = k} x m o) =
        ⊎_elim (λ p.
        let same = some_same (sym x.label ∙ ap (label_at (S L) t) (sym p) ∙ at.label) in
        let mine : Own b n = subst (λ z. Own z n) (alone-part same) o in
        owned here-then (keeps c (subst (λ (z : Info). Memᴰ c z.chans) (alone-info same) m) (subst (Own b) (sym e) mine)) mine)
        (λ u. owned (other-then u x) m o) (same-path path other)

    empty-or : (c : Site) → (μ ((S L).word c) ≡ not_process) ⊎ Owned L st t c (μ ((S L).word c))
        → (μ ((S L).word c) ≡ not_process) ⊎ Owned L (putting path r st) tree_then c (μ ((S L).word c))
    empty-or c k = ⊎_elim (λ e. inl e) (λ o. inr (owned-then refl o)) k

    intact-then : {other : List ℕ} {p : Process} {d : Part} {n : Info} → LeafAt L st t other p d n → (Out other → ⊥)
        → Intact (S L) d n (link_word n.w) st (putting path r st) μ μ
    intact-then k u =
        record {
          own = λ v a z y. refl;
          reads = λ x m g. refl;
          chans = λ c m. inl refl;
          sends = λ c m s. sender-then c (λ v f e. lost c v f e _ _ _ _ k u m) s;
          none-sends = λ c m g o s. sender-before c (λ v f e. gained c v f e _ _ _ _ k u m g o) s;
        }

    pub plain_then : Plain L (putting path r st) μ tree_then Out ws
    plain_then =
        record {
          vars = λ {path = other} n x m.
              ⊎_elim (λ p. vars-ok x (subst (λ z. Memᴰ x (zone_of z).vars) (here_label n p) m)) (λ d. h.vars (node-before d n) x m)
              (same-path path other);
          chans = λ {path = other} n c m.
              ⊎_elim (λ p. empty-or c (chans-ok c (subst (λ z. Memᴰ c (zone_of z).chans) (here_label n p) m)))
              (λ d. empty-or c (h.chans (node-before d n) c m)) (same-path path other);
          live = λ {path = other} n.
              ⊎_elim (λ e x m. subst (λ (z : Info). Memᴰ x z.vars) (sym (alone-info (here_label (node_of n) e)))
              (live-ok x (subst (λ z. Memᴰ x (live_in (frames_of z))) (here-process n e) m)))
              (λ d. h.live (other-before d n)) (same-path path other);
          leaf = λ {path = other} n u.
              let k = other-before (λ e. u (subst Out e out)) n in
              held_stays (S L) _ _ (omega (arith, part_small L k, (S L).top_small)) (sits-at L k) (intact-then k u) (onto_same refl)
              (h.leaf k u);
          par = λ {path = other} e n.
              let d : path ≢ other = λ p. never (alone-parted (here_label n p)) in
              elim (par-after path other st.process at.found at.leaf leaf e) [
                | same-par cs f g ↦ let (x, y) = h.par f (node-before d n) in (x, y ∙ g)
              ];
          sleepers = tt;
        }
      where
        here_label : {other : List ℕ} {l : Label} → NodeAt L (putting path r st) tree_then other l → path ≡ other → l ≡ alone b j
        here_label n e = some_same (sym n.label ∙ ap (label_at (S L) tree_then) (sym e) ∙ moved.here)

        node_of : {other : List ℕ} {p : Process} {c : Part} {k : Info} → LeafAt L (putting path r st) tree_then other p c k
            → NodeAt L (putting path r st) tree_then other (alone c k)
        node_of n = record { label = n.label }

        here-process : {other : List ℕ} {p : Process} {c : Part} {k : Info}
            → LeafAt L (putting path r st) tree_then other p c k → path ≡ other
            → p ≡ r
        here-process n e =
            some-process
            (sym n.found ∙ ap (λ z. look z (put path r st.process)) (sym e) ∙ look-put-same path st.process r at.found)

  module _ {μ : Mem} {Out : List ℕ → Type 0} {ws : List ℕ} (h : Rest L st μ t Out ws) (out : Out path)
      (vars-ok : (x : Site) → Memᴰ x j.vars → (st.store x ≡ μ ((S L).word x)) × (st.store x < 2 ^ 32))
      (chans-ok : (c : Site) → Memᴰ c j.chans → (μ ((S L).word c) ≡ not_process) ⊎ Owned L st t c (μ ((S L).word c)))
      (live-ok : Within (live_in (frames_of r)) j.vars)
      (keeps : (c : Site) → Memᴰ c i.chans → Own b (μ ((S L).word c)) → Memᴰ c j.chans)
      (lost : (c : Site) (v : ℕ) (k : List Frame) → q ≡ at_output c v k → (other : List ℕ) (p : Process) (d : Part) (n : Info)
      → LeafAt L st t other p d n → (Out other → ⊥) → Memᴰ c d.inputs → ⊥)
      (gained : (c : Site) (v : ℕ) (k : List Frame) → r ≡ at_output c v k → (other : List ℕ) (p : Process) (d : Part) (n : Info)
      → LeafAt L st t other p d n → (Out other → ⊥) → Memᴰ c n.chans → Memᴰ c d.inputs → Own d (μ ((S L).word c)) → ⊥)
      (gone : Unlinked L q μ i.w) (came : Unlinked L r μ j.w) where
    -- the process is not in the timer queue, before and after
    sleepers-then : Sleepers L (putting path r st) μ tree_then Out
    sleepers-then =
        let z = h.sleepers in
        record {
          asleep = z.asleep;
          chain = z.chain;
          sorted = z.sorted;
          once = z.once;
          each = λ w m. elim (z.each w m) [
            | sleeper {path = other} k e a d ↦
                ⊎_elim (λ p. absurd (not-here w m p k e d)) (λ u. sleeper (other-then u k) e a d) (same-path path other)
          ];
          known = z.known;
          all = λ {path = other} {q = p} {b = d} {i = n} k a y f.
              ⊎_elim (λ e. absurd (not-then e k y f)) (λ u. z.all (other-before u k) a y f) (same-path path other);
        }
      where
        -- the one that was there is not in the queue
        not-here : (w : ℕ) → Memᴰ w h.sleepers.asleep → {other : List ℕ} {p : Process} {d : Part} {n : Info} → path ≡ other
            → LeafAt L st t other p d n → n.w ≡ w → Dozer L Out other p → ⊥
        not-here w m e k f (at-wait u) = u (subst Out e out)
        not-here w m e k f (in-alt x) =
            let same = alone-info (some_same (sym at.label ∙ ap (label_at (S L) t) e ∙ k.label)) in
            let one = some_same (sym at.found ∙ ap (λ z. look z st.process) e ∙ k.found) in
            gone (ap is_alt one ∙ x) (subst (Linked μ) (sym (ap (λ (y : Info). y.w) same ∙ f)) (linked-in L h w m))

        not-then : {other : List ℕ} {p : Process} {d : Part} {n : Info} → path ≡ other
            → LeafAt L (putting path r st) tree_then other p d n → Dozer L Out other p → (is_alt p ≡ true → Linked μ n.w) → ⊥
        not-then e k (at-wait u) f = u (subst Out e out)
        not-then e k (in-alt x) f =
            let same = alone-info (some_same (sym moved.here ∙ ap (label_at (S L) tree_then) e ∙ k.label)) in
            let one = some_same (sym here-then.found ∙ ap (λ z. look z (putting path r st).process) e ∙ k.found) in
            came (ap is_alt one ∙ x) (subst (Linked μ) (sym (ap (λ (y : Info). y.w) same)) (f x))

    pub rest_then : Rest L (putting path r st) μ tree_then Out ws
    rest_then = rest_of L (plain_then (plain_of L h) out vars-ok chans-ok live-ok keeps lost gained) sleepers-then
