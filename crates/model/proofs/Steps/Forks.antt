-- A PAR is started: each branch is a process, and nothing of it is in memory yet.
use Prim.Native.Nat.{ℕ, suc, ◌+◌, ◌-◌, ◌^◌, ◌<◌}
use native.Mathlib.Omega.{arith}
use mathlib.Core.Path.{◌≡◌, refl, sym, ap, ◌∙◌, subst}
use mathlib.Core.Logic.{◌≢◌, ◌⊎◌, inl, inr, ⊎_elim}
use mathlib.Core.List.Memᴰ
use mathlib.Core.List.{List, [], ◌∷◌, ◌++◌, append-nil, Memᴰ}
use mathlib.Core.Option.{Option, some}
use Rattle.model.specs.Word.{not_process}
use Rattle.model.specs.Syntax.{Site, Stmt, PAR, Stmts, stmt}
use Rattle.model.specs.Scheme.{how_many}
use Rattle.model.specs.Machine.{link_word}
use Rattle.model.specs.Occam.{Frame, Process, before, at_output, in_par, Branches, begin, branches, frames_of, look, put, State, Sender}
use Rattle.model.specs.Occam.{process, outside}
use Rattle.model.specs.Demand.{live_in}
use Rattle.model.proofs.Cases.{never}
use Rattle.model.proofs.Quiet.Ways.{Mem}
use Rattle.model.proofs.Quiet.Setting.{Setting}
use Rattle.model.proofs.Quiet.Timing.{onto_same}
use Rattle.model.proofs.Occam.Paths.{l-output, leaf-par, leaf-begin, live-begin, silent-begin, left, left-branches, same-path}
use Rattle.model.proofs.Occam.Paths.{stmt_at, begun, started-found, look-started, look-put-same, look-put-other, look-put-below}
use Rattle.model.proofs.Occam.Paths.{look-after, into, aside, Compared, equal, below, above, apart, compare, leaves-apart, Apart}
use Rattle.model.proofs.Occam.Paths.{apart-differ, same-par, par-above, leaf-below, is_alt, off-begin}
use Rattle.model.proofs.Words.Parts.{Part, joins, part_of}
use Rattle.model.proofs.Quiet.Marks.{Own, ParCode}
use Rattle.model.proofs.Invariant.Trees.{some_same, distance_of, Label, alone, parted, Info, new_info, Tree, label_at, rebuild, Rebuilt}
use Rattle.model.proofs.Invariant.Trees.{started, started-label, started-scope, started-alone}
use Rattle.model.proofs.Invariant.Zones.{Zone, zone_of}
use Rattle.model.proofs.Invariant.Leaves.{Unmarked}
use Rattle.model.proofs.Invariant.Stays.{Intact, held_stays}
use Rattle.model.proofs.Invariant.Kernel.{Loaded, S, root, LeafAt, NodeAt, Owned, owned, Rest, whose, Lined, node, part_small}
use Rattle.model.proofs.Invariant.Kernel.{sits-at, Dozer, at-wait, in-alt, dozer-out}
use Rattle.model.proofs.Invariant.Puts.{putting}
use Rattle.model.proofs.Invariant.Running.{Only}
use Rattle.model.proofs.Invariant.Moving.{same-leaf}
use Rattle.model.proofs.Invariant.Writes.{sleepers-by}

parted-w : {a b : Part} {vs us cs ds : List Site} {v w on to : ℕ} → parted a vs cs v on ≡ parted b us ds w to → v ≡ w
parted-w e = cc

parted-to : {a b : Part} {vs us cs ds : List Site} {v w on to : ℕ} → parted a vs cs v on ≡ parted b us ds w to → on ≡ to
parted-to e = cc

pub look_self : {x y : Process} → look [] x ≡ some y → x ≡ y
unfolding look
look_self e = some_same e

pub same-branches : {bs cs : Branches} {k l : List Frame} → ◌≡◌ {A = Option Process} (some (in_par bs k)) (some (in_par cs l)) → bs ≡ cs
same-branches e = cc

-- what holds of a PAR's words holds of the same PAR's
pub parted-same : (S : Setting) (μ : Mem) {n : ℕ} {a b : Part} {vs us cs ds : List Site} {v w on to : ℕ}
    → parted a vs cs v on ≡ parted b us ds w to
    → (μ v ≡ S.off on) × (μ (v + 1) ≡ n) → (μ w ≡ S.off to) × (μ (w + 1) ≡ n)
parted-same S μ e (p, q) =
    let x = parted-w e in
    let y = parted-to e in
    (ap μ (sym x) ∙ p ∙ ap S.off y, ap (λ z. μ (z + 1)) (sym x) ∙ q)

-- the branches of the PAR at a path are left out
pub data Branch (path : List ℕ) (other : List ℕ) : Type 0 where
  branch-of : (i : ℕ) → other ≡ path ++ i ∷ [] → Branch path other

module _ (L : Loaded) {st : State} {t : Tree (S L) (root L) st.process} {path : List ℕ} {p : ℕ} {s : Stmt} {ss : Stmts}
    {k : List Frame} {b : Part}
    {i : Info} (at : LeafAt L st t path (before (PAR p (stmt s ss)) k) b i) {hi n w : ℕ}
    (c : ParCode (S L) b s ss i.vars i.chans k hi n w) where
  abbrev parted-process : Process
  parted-process = in_par (branches (stmt s ss)) k

  pub forked : Rebuilt (S L) t path (started (S L) c) (put path parted-process st.process)
  forked = rebuild (S L) t path (started (S L) c) (rw at.label)

  abbrev pub fork_tree : Tree (S L) (root L) (put path parted-process st.process)
  fork_tree = forked.tree

  abbrev pub fork_state : State
  fork_state = putting path parted-process st

  -- the PAR's label
  pub fork-here : label_at (S L) fork_tree path ≡ some (parted b i.vars i.chans w c.over)
  unfolding label_at
  fork-here = ap (label_at (S L) fork_tree) (sym (append-nil path)) ∙ forked.below []

  -- a branch
  pub fork-branch : (m : ℕ) {r : Stmt} → stmt_at m (stmt s ss) ≡ some r
      → LeafAt L fork_state fork_tree (path ++ m ∷ []) (begin r [])
      (part_of i.vars i.chans (w - distance_of m (stmt s ss)) (joins (distance_of m (stmt s ss))) r)
      (new_info (S L) i.vars i.chans (w - distance_of m (stmt s ss)))
  fork-branch m {r} e =
      record {
        found = look-put-below path (m ∷ []) parted-process st.process at.found ∙ look-started m (stmt s ss) k e;
        leaf = leaf-begin r [];
        label = forked.below (m ∷ []) ∙ started-label (S L) c m e;
      }

  -- a process aside
  fork-aside : {other : List ℕ} {q : Process} {d : Part} {j : Info} → Apart path other → LeafAt L fork_state fork_tree other q d j
      → LeafAt L st t other q d j
  fork-aside {other} a h =
      record {
        found = sym (look-put-other parted-process st.process a) ∙ h.found;
        leaf = h.leaf;
        label = sym (forked.aside other a) ∙ h.label;
      }

  pub fork-other : {other : List ℕ} {q : Process} {d : Part} {j : Info} → path ≢ other → LeafAt L st t other q d j
      → LeafAt L fork_state fork_tree other q d j
  fork-other {other} n h =
      let a = leaves-apart path other st.process at.found at.leaf h.found h.leaf n in
      record {
        found = look-put-other parted-process st.process a ∙ h.found;
        leaf = h.leaf;
        label = forked.aside other a ∙ h.label;
      }

  -- every process then: a branch, or one aside
  pub data Forked (other : List ℕ) (q : Process) (d : Part) (j : Info) : Type 0 where
    a-branch : (m : ℕ) (r : Stmt) → stmt_at m (stmt s ss) ≡ some r → other ≡ path ++ m ∷ [] → q ≡ begin r [] → Forked other q d j
    aside-one : Apart path other → LeafAt L st t other q d j → Forked other q d j

  pub which : {other : List ℕ} {q : Process} {d : Part} {j : Info} → LeafAt L fork_state fork_tree other q d j → Forked other q d j
  which {other} {q} {d} {j} h = elim (look-after path other parted-process st.process at.found h.found h.leaf) [
    | aside a f ↦ aside-one a (fork-aside a h)
    | into rest e f ↦ inner rest e f
  ]
    where
      inner : (rest : List ℕ) → other ≡ path ++ rest → look rest parted-process ≡ some q → Forked other q d j
      inner [] e f = absurd (leaf-par h.leaf (sym (look_self f)))
      inner (m ∷ rest) e f =
          let g = started-found m rest (stmt s ss) k f in
          elim g.1 [ begun r x y ↦ a-branch m r x (e ∙ ap (λ z. path ++ m ∷ z) g.0) y ]

  -- the names in scope then are those of a process before, or of the one that is parted
  fork-names : (P : Zone → Type 0) {other : List ℕ} {l : Label} → NodeAt L fork_state fork_tree other l
      → ((path' : List ℕ) (l' : Label) → NodeAt L st t path' l' → P (zone_of l'))
      → ((z y : Zone) → z.vars ≡ y.vars → z.chans ≡ y.chans → P z → P y) → P (zone_of l)
  fork-names P {other} {l} h f g = by (compare path other)
    where
      here : P (zone_of (alone b i))
      here = f path (alone b i) (node L at)

      under : (m : ℕ) (rest : List ℕ) (l : Label) → label_at (S L) (started (S L) c) (m ∷ rest) ≡ some l → P (zone_of l)
      under m rest (alone d j) e = let z = started-scope (S L) c m rest e in g _ _ (sym z.0) (sym z.1) here
      under m rest (parted a vs cs v n) e = never (started-alone (S L) c m rest e)

      by : Compared path other → P (zone_of l)
      by (equal e) =
          let z = some_same (sym fork-here ∙ ap (label_at (S L) fork_tree) e
          ∙ h.label) in subst (λ y. P (zone_of y)) z (g _ _ refl refl here)
      by (below m rest e) = under m rest l (sym (forked.below (m ∷ rest)) ∙ ap (label_at (S L) fork_tree) (sym e) ∙ h.label)
      by (above m rest e) = f other l (record { label = sym (forked.above other m rest e) ∙ h.label })
      by (apart a) = f other l (record { label = sym (forked.aside other a) ∙ h.label })

  sender-fork : {a : Site} → Sender st a → Sender fork_state a
  sender-fork (process other {v} {k = f} e) =
      ⊎_elim (λ x. never (cc (sym at.found, ap (λ y. look y st.process) x, e)))
      (λ x. process other
      (look-put-other parted-process st.process (leaves-apart path other st.process at.found at.leaf e l-output x) ∙ e))
      (same-path path other)
  sender-fork (outside e) = outside e

  sender-unfork : {a : Site} → Sender fork_state a → Sender st a
  sender-unfork {a} (process other {v} {k = f} e) = elim (look-after path other parted-process st.process at.found e l-output) [
    | aside x y ↦ process other y
    | into rest x y ↦ inner rest y
  ]
    where
      inner : (rest : List ℕ) → look rest parted-process ≡ some (at_output a v f) → Sender st a
      inner [] y = absurd (leaf-par l-output (sym (look_self y)))
      inner (m ∷ rest) y = elim (started-found m rest (stmt s ss) k y).1 [ begun r x z ↦ absurd (silent-begin r [] (sym z)) ]
  sender-unfork (outside e) = outside e

  module _ {μ : Mem} {ws : List ℕ} (rest : Rest L st μ t (Only path) ws) (clean : Unmarked (S L) b i st μ)
      (place : μ w ≡ (S L).off c.over)
      (count : μ (w + 1) ≡ suc (how_many ss)) where
    fork-owned : {a : Site} {v : ℕ} → μ ((S L).word a) ≡ v → Owned L st t a v → Owned L fork_state fork_tree a v
    fork-owned {a} {v} e (owned {path = other} h m o) =
        ⊎_elim
        (λ x. absurd (let (m', o') = same-leaf L (λ q d (j : Info). Memᴰ a j.chans × Own d v) (sym x) h at (m, o) in
        clean a m' (subst (Own b) (sym e) o')))
        (λ x. owned (fork-other x h) m o) (same-path path other)

    fork-intact : {other : List ℕ} {q : Process} {d : Part} {j : Info} → LeafAt L st t other q d j
        → Intact (S L) d j (link_word j.w) st fork_state μ μ
    fork-intact h =
        record {
          own = λ v lo hi n. refl;
          reads = λ x m g. refl;
          chans = λ a m. inl refl;
          sends = λ a m g. sender-fork g;
          none-sends = λ a m g o y. sender-unfork y;
        }

    fork-par : {other : List ℕ} {bs : Branches} {f : List Frame} {a : Part} {vs cs : List Site} {v on : ℕ}
        → look other fork_state.process ≡ some (in_par bs f) → NodeAt L fork_state fork_tree other (parted a vs cs v on)
        → (μ v ≡ (S L).off on) × (μ (v + 1) ≡ left bs)
    unfolding how_many left
    fork-par {other} {bs} {f} {a} {vs} {cs} {v} {on} e h = by (compare path other)
      where
        by : Compared path other → (μ v ≡ (S L).off on) × (μ (v + 1) ≡ left bs)
        by (equal x) =
            let z = some_same (sym fork-here ∙ ap (label_at (S L) fork_tree) x ∙ h.label) in
            let y = same-branches
            (sym (look-put-same path st.process parted-process at.found) ∙ ap (λ o. look o fork_state.process) x ∙ e) in
            parted-same (S L) μ z (place, count ∙ sym (left-branches (stmt s ss)) ∙ ap left y)
        by (below m rest x) =
            never (started-alone (S L) c m rest (sym (forked.below (m ∷ rest)) ∙ ap (label_at (S L) fork_tree) (sym x) ∙ h.label))
        by (above m rest' x) = elim (par-above path other m rest' parted-process st.process x at.found e) [
          | same-par cs' g y ↦
              let (p₁, p₂) = rest.par g (record { label = sym (forked.above other m rest' x) ∙ h.label }) in (p₁, p₂ ∙ y)
        ]
        by (apart x) =
            rest.par (sym (look-put-other parted-process st.process x) ∙ e) (record { label = sym (forked.aside other x) ∙ h.label })

    -- who was there is no branch
    not-branch : {other : List ℕ} {q : Process} {d : Part} {j : Info} → LeafAt L st t other q d j → Branch path other → ⊥
    not-branch h (branch-of l x) =
        never (cc (leaf-below path l [] st.process at.found at.leaf, ap (λ y. look y st.process) x, h.found))

    -- nor is one that may be in the timer queue the process that is parted
    dozer-off : {other : List ℕ} {q : Process} {d : Part} {j : Info} → LeafAt L st t other q d j → Dozer L (Only path) other q
        → path ≢ other
    dozer-off h (at-wait n) e = n e
    dozer-off h (in-alt x) e = never (cc (some_same (sym at.found ∙ ap (λ y. look y st.process) e ∙ h.found)))

    dozer-back : {other : List ℕ} {q : Process} {d : Part} {j : Info} → Forked other q d j → Dozer L (Branch path) other q
        → LeafAt L st t other q d j × Dozer L (Only path) other q
    dozer-back (a-branch m r e f g) (at-wait n) = absurd (n (branch-of m f))
    dozer-back (a-branch m r e f g) (in-alt x) = never (cc (x, ap is_alt g, off-begin r []))
    dozer-back (aside-one a y) d = (y, dozer-out L (λ tm f e n. apart-differ a) d)

    pub fork-rest : Rest L fork_state μ fork_tree (Branch path) ws
    fork-rest =
        record {
          vars = λ h. fork-names (λ z. (x : Site) → Memᴰ x z.vars → (st.store x ≡ μ ((S L).word x)) × (st.store x < 2 ^ 32)) h
              (λ p l y. rest.vars y) (λ z y e f g x m. g x (subst (λ l. Memᴰ x l) (sym e) m));
          chans = λ h. fork-names
              (λ z. (a : Site) → Memᴰ a z.chans → (μ ((S L).word a) ≡ not_process) ⊎ Owned L fork_state fork_tree a (μ ((S L).word a))) h
              (λ p l y a m. ⊎_elim (λ e. inl e) (λ o. inr (fork-owned refl o)) (rest.chans y a m))
              (λ z y e f g a m. g a (subst (λ l. Memᴰ a l) (sym f) m));
          live = λ h x m. elim (which h) [
            | a-branch n r e f g ↦
                absurd (Memᴰ.not-nil (live-begin r [] [] (λ x m. m) x (subst (λ z. Memᴰ x (live_in (frames_of z))) g m)))
            | aside-one a y ↦ rest.live y x m
          ];
          leaf = λ h n. elim (which h) [
            | a-branch m r e f g ↦ absurd (n (branch-of m f))
            | aside-one a y ↦
                held_stays (S L) _ _ (omega (arith, part_small L y, (S L).top_small)) (sits-at L y) (fork-intact y) (onto_same refl)
                (rest.leaf y (apart-differ a))
          ];
          par = fork-par;
          sleepers = sleepers-by L rest.sleepers refl refl (λ other q d j h space z. (refl, refl))
              (λ other q d j h z. (fork-other (dozer-off h z) h, dozer-out L (λ tm f e n. not-branch h) z))
              (λ other q d j h z. dozer-back (which h) z);
        }

    pub fork-lined : Lined L st t (Only path) ws → Lined L fork_state fork_tree (Branch path) ws
    fork-lined lines =
        record {
          each = λ v m. elim (lines.each v m) [
            | whose h e n ↦ whose (fork-other n h) e (not-branch h)
          ];
          once = lines.once;
        }
