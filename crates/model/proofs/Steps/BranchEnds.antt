-- ENDP: a branch of a PAR is over. The PAR that it is of, and what the end of a branch leaves as it is.
use Prim.Native.Nat.{ℕ, zero, suc, ◌+◌, ◌^◌, ◌≤◌, ◌<◌}
use native.Mathlib.Omega.{arith}
use native.Mathlib.Decide.{ℕ_discrete}
use mathlib.Core.Path.{◌≡◌, refl, sym, ap, ◌∙◌, subst}
use mathlib.Core.Logic.{◌≢◌, ◌⊎◌, inl, inr, ⊎_elim}
use mathlib.Core.List.{List, [], ◌∷◌, ◌++◌, append-nil, append_assoc, Memᴰ}
use mathlib.Core.Option.{some}
use Rattle.model.specs.Word.{not_process}
use Rattle.model.specs.Syntax.{Site, Stmt, Stmts, no_stmt, stmt}
use Rattle.model.specs.Counts.{sum_need}
use Rattle.model.specs.Machine.{link_word}
use Rattle.model.specs.Occam.{Frame, Process, finished, in_par, Branches, branch_at, end_branch, branches_of, frames_of, resume, look, put}
use Rattle.model.specs.Occam.{State, Sender, process, outside}
use Rattle.model.specs.Demand.{live_in}
use Rattle.model.proofs.Cases.{never}
use Rattle.model.proofs.Quiet.Ways.{upd_same, upd_other, upd, Mem, front_word}
use Rattle.model.proofs.Quiet.Setting.{Setting}
use Rattle.model.proofs.Quiet.Timing.{onto_same}
use Rattle.model.proofs.Occam.Paths.{l-output, leaf-par, leaf-resume, leaf-below, leaf-found, look-append, look-prefix, prefixed}
use Rattle.model.proofs.Occam.Paths.{look-under, under, par-whole, look-put-same, look-put-other, look-after, into, aside}
use Rattle.model.proofs.Occam.Paths.{look-end-same, look-end-other, Compared, equal, below, above, apart, compare, Apart, here}
use Rattle.model.proofs.Occam.Paths.{apart-append, apart-under, apart-differ, left, only-left, same-path, same-par, par-above}
use Rattle.model.proofs.Occam.Paths.{live-resume, silent-resume, stmt_at, is_alt, off-resume}
use Rattle.model.proofs.Words.Parts.{sum_first, Part, joins}
use Rattle.model.proofs.Quiet.Marks.{Own, ParCode}
use Rattle.model.proofs.Quiet.Arrivals.{cont-live}
use Rattle.model.proofs.Invariant.Trees.{some_same, distance_of, BranchPart, Label, alone, parted, alone-parted, Info, Sits, Tree}
use Rattle.model.proofs.Invariant.Trees.{t-leaf, t-par, Forest, label_at, running, part_at, part-nil, parts-apart, label-alone}
use Rattle.model.proofs.Invariant.Trees.{labelled, owner_of, owner, par-part, rebuild, Rebuilt, EndedAt, ended_at}
use Rattle.model.proofs.Invariant.Zones.{zone_of, zone-under}
use Rattle.model.proofs.Invariant.Leaves.{Unmarked}
use Rattle.model.proofs.Invariant.Stays.{Intact, held_stays, time-words-same}
use Rattle.model.proofs.Invariant.Kernel.{Loaded, S, root, LeafAt, NodeAt, Owned, owned, Rest, whose, Lined, node, part_small}
use Rattle.model.proofs.Invariant.Kernel.{sits-at, Dozer, at-wait, in-alt, dozer-out}
use Rattle.model.proofs.Invariant.Writes.{own-one, apart-zones, sleepers-by}
use Rattle.model.proofs.Invariant.Puts.{putting}
use Rattle.model.proofs.Invariant.Running.{Only, Nobody}
use Rattle.model.proofs.Invariant.Moving.{same-leaf}
use Rattle.model.proofs.Steps.Forks.{parted-same, look_self, same-branches}
use Rattle.model.proofs.Invariant.Grounds.{small_size}
use Rattle.model.proofs.Invariant.Reals.{link-word}
use Rattle.model.proofs.Steps.Meets.{not_own}
use Rattle.model.proofs.Steps.ParStarts.{beside}

-- a path is empty or has a last number
pub data Last (path : List ℕ) : Type 0 where
  at_top : path ≡ [] → Last path
  last : (ρ : List ℕ) (n : ℕ) → path ≡ ρ ++ n ∷ [] → Last path

pub lastly : (path : List ℕ) → Last path
lastly [] = at_top refl
lastly (i ∷ path) = elim (lastly path) [
  | at_top e ↦ last [] i (ap (λ z. i ∷ z) e)
  | last ρ n e ↦ last (i ∷ ρ) n (ap (λ z. i ∷ z) e)
]

-- the branches before one need no more than all do
pub distance-in : (n : ℕ) (ss : Stmts) {r : Stmt} → stmt_at n ss ≡ some r → distance_of n ss ≤ sum_need ss
unfolding stmt_at distance_of
distance-in n no_stmt e = never (cc)
distance-in zero (stmt s ss) e = omega arith
distance-in (suc n) (stmt s ss) e = omega (arith, distance-in n ss e, sum_first s ss)

-- the PAR whose branch the process at a path is
pub data Father (S : Setting) {a : Part} {p : Process} (t : Tree S a p) (path : List ℕ) (q : Process) (b : Part) : Type 0 where
  father : (ρ : List ℕ) (n : ℕ) {h : Part} {s : Stmt} {ss : Stmts} {vars chans : List Site} {k : List Frame} {hi at w : ℕ} {bs : Branches}
      (c : ParCode S h s ss vars chans k hi at w) (f : Forest S vars chans w 0 (stmt s ss) bs) → path ≡ ρ ++ n ∷ []
      → look ρ p ≡ some (in_par bs k) → branch_at n bs ≡ some q → part_at S t ρ ≡ some h
      → label_at S t ρ ≡ some (parted h vars chans w c.over) → BranchPart vars chans w 0 (stmt s ss) n b → Father S t path q b

module _ (S : Setting) {a : Part} {p : Process} (t : Tree S a p) where
  in-par : (ρ : List ℕ) (n : ℕ) {q : Process} {b h : Part} {i : Info} {bs : Branches} {k : List Frame}
      → label_at S t (ρ ++ n ∷ []) ≡ some (alone b i)
      → look ρ p ≡ some (in_par bs k) → branch_at n bs ≡ some q → (u : Tree S h (in_par bs k)) → part_at S t ρ ≡ some h
      → ((rest : List ℕ) → label_at S t (ρ ++ rest) ≡ label_at S u rest) → Father S t (ρ ++ n ∷ []) q b
  unfolding label_at
  in-par ρ n e f g (t-leaf l i m) z x = absurd (leaf-par l refl)
  in-par ρ n e f g (t-par c w) z x =
      father ρ n c w refl f g z (ap (label_at S t) (sym (append-nil ρ)) ∙ x []) (par-part S c w n (rw (sym (x (n ∷ [])) ∙ e)))

  pub father-of : (path : List ℕ) {q : Process} {b : Part} {i : Info} {d : ℕ} → label_at S t path ≡ some (alone b i) → look path p ≡ some q
      → b.ending ≡ joins d → ((n : ℕ) → a.ending ≢ joins n) → Father S t path q b
  father-of path {q} {b} {i} {d} e f g not_root = by (lastly path)
    where
      by : Last path → Father S t path q b
      by (at_top z) =
          let same : a ≡ b = some_same (sym (part-nil S t) ∙ ap (λ y. running (label_at S t y)) (sym z) ∙ rw e) in
          absurd (not_root d (ap (λ (y : Part). y.ending) same ∙ g))
      by (last ρ n z) = elim (look-prefix ρ (n ∷ []) p (ap (λ y. look y p) (sym z) ∙ f)) [
        | prefixed r x y ↦ elim (look-under n [] r y) [
          | under m u v ↦
              let here-par : look ρ p ≡ some (in_par (branches_of r) (frames_of r)) = x ∙ ap some (sym (par-whole n r u)) in
              elim (owner_of S t ρ here-par) [
                | owner h tree inner part labels ↦
                    subst (λ o. Father S t o q b) (sym z)
                    (in-par ρ n (ap (label_at S t) (sym z) ∙ e) here-par (u ∙ ap some (look_self v)) tree part labels)
              ]
        ]
      ]

-- the process at a path, a branch of the PAR at ρ, has finished
module _ (L : Loaded) {st : State} {t : Tree (S L) (root L) st.process} {path : List ℕ} {b : Part} {i : Info}
    (at : LeafAt L st t path finished b i) (ρ : List ℕ) (n : ℕ) {a : Part} {s : Stmt} {ss : Stmts} {vars chans : List Site} {k : List Frame}
    {hi m w : ℕ} {bs : Branches} (c : ParCode (S L) a s ss vars chans k hi m w) (is : path ≡ ρ ++ n ∷ [])
    (par : look ρ st.process ≡ some (in_par bs k)) (branch : branch_at n bs ≡ some finished) (part : part_at (S L) t ρ ≡ some a)
    (label : label_at (S L) t ρ ≡ some (parted a vars chans w c.over)) where
  pub par-node : NodeAt L st t ρ (parted a vars chans w c.over)
  par-node = record { label = label }

  -- a process is not the PAR
  leaf-off : {other : List ℕ} {q : Process} {d : Part} {j : Info} → LeafAt L st t other q d j → ρ ≢ other
  leaf-off h e = never (alone-parted (some_same (sym label ∙ ap (label_at (S L) t) e ∙ h.label)))

  -- nor around it
  leaf-not-above : {other : List ℕ} {q : Process} {d : Part} {j : Info} (l : ℕ) (rest : List ℕ)
      → LeafAt L st t other q d j → ρ ≡ other ++ l ∷ rest
      → ⊥
  leaf-not-above {other} l rest h e =
      never (cc (leaf-below other l rest st.process h.found h.leaf, ap (λ z. look z st.process) e, par))

  -- in its branch there is no other
  branch_alone : {other : List ℕ} {q : Process} {d : Part} {j : Info} (rest : List ℕ) → LeafAt L st t other q d j → other ≡ ρ ++ n ∷ rest
      → path ≡ other
  branch_alone [] h e = is ∙ sym e
  branch_alone {other} (l ∷ rest) h e =
      let below-path : other ≡ path ++ l ∷ rest = e ∙ sym (append_assoc ρ (n ∷ []) (l ∷ rest)) ∙ ap (λ z. z ++ l ∷ rest) (sym is) in
      never (cc (leaf-below path l rest st.process at.found at.leaf, ap (λ z. look z st.process) below-path, h.found))

  -- one that may be in the timer queue is another
  dozer-off : {other : List ℕ} {q : Process} {d : Part} {j : Info} → LeafAt L st t other q d j → Dozer L (Only path) other q → path ≢ other
  dozer-off h (at-wait z) e = z e
  dozer-off h (in-alt z) e = never (cc (some_same (sym at.found ∙ ap (λ y. look y st.process) e ∙ h.found)))

  -- the last branch: the PAR goes on
  module _ (one : left bs ≡ 1) (few : ℕ) (sits : Sits (S L) a (record { vars = vars; chans = chans; w = w; left = few })) where
    abbrev pub last_info : Info
    last_info = record { vars = vars; chans = chans; w = w; left = few }

    abbrev pub last_state : State
    last_state = putting ρ (resume k) st

    pub last_built : Rebuilt (S L) t ρ (t-leaf (leaf-resume k) last_info sits) (put ρ (resume k) st.process)
    last_built = rebuild (S L) t ρ (t-leaf (leaf-resume k) last_info sits) part

    abbrev pub last_tree : Tree (S L) (root L) (put ρ (resume k) st.process)
    last_tree = last_built.tree

    pub last_leaf : LeafAt L last_state last_tree ρ (resume k) a last_info
    unfolding label_at
    last_leaf =
        record {
          found = look-put-same ρ st.process (resume k) par;
          leaf = leaf-resume k;
          label = ap (label_at (S L) last_tree) (sym (append-nil ρ)) ∙ last_built.below [];
        }

    -- a process then: the one of the PAR, or one that was there
    last-back : {other : List ℕ} {q : Process} {d : Part} {j : Info} → LeafAt L last_state last_tree other q d j
        → (ρ ≡ other) ⊎ (Apart ρ other × LeafAt L st t other q d j)
    last-back {other} h = elim (look-after ρ other (resume k) st.process par h.found h.leaf) [
      | aside x y ↦ inr (x, record { found = y; leaf = h.leaf; label = sym (last_built.aside other x) ∙ h.label })
      | into rest e y ↦ inl (sym (e ∙ ap (λ z. ρ ++ z) (leaf-found rest (resume k) (leaf-resume k) y).0 ∙ append-nil ρ))
    ]

    -- those that were there are
    last_on : {other : List ℕ} {q : Process} {d : Part} {j : Info} → path ≢ other → LeafAt L st t other q d j
        → LeafAt L last_state last_tree other q d j
    last_on {other} {q} {d} {j} ne h = by (compare ρ other)
      where
        by : Compared ρ other → LeafAt L last_state last_tree other q d j
        by (equal e) = absurd (leaf-off h e)
        by (above l rest e) = absurd (leaf-not-above l rest h e)
        by (apart x) =
            record {
              found = look-put-other (resume k) st.process x ∙ h.found;
              leaf = h.leaf;
              label = last_built.aside other x ∙ h.label;
            }
        by (below l rest e) = in-branch (ℕ_discrete n l)
          where
            in-branch : Dec (n ≡ l) → LeafAt L last_state last_tree other q d j
            in-branch (yes z) = absurd (ne (branch_alone rest h (e ∙ ap (λ y. ρ ++ y ∷ rest) (sym z))))
            in-branch (no z) =
                elim (look-under l rest (in_par bs k)
                (sym (look-append ρ (l ∷ rest) st.process par) ∙ ap (λ y. look y st.process) (sym e) ∙ h.found)) [
                  | under x u v ↦ never (cc (u, only-left n l bs branch one z))
                ]

    last-names : (P : List Site → List Site → Type 0) {other : List ℕ} {l : Label} → NodeAt L last_state last_tree other l
        → ((there : List ℕ) (l' : Label) → NodeAt L st t there l' → P (zone_of l').vars (zone_of l').chans)
        → P (zone_of l).vars (zone_of l).chans
    unfolding label_at
    last-names P {other} {l} h f = by (compare ρ other)
      where
        by : Compared ρ other → P (zone_of l).vars (zone_of l).chans
        by (equal e) =
            let z = some_same (sym last_leaf.label ∙ ap (label_at (S L) last_tree) e ∙ h.label) in
            subst (λ (y : Label). P (zone_of y).vars (zone_of y).chans) z (f ρ _ par-node)
        by (below x rest e) = never (cc (sym (last_built.below (x ∷ rest)) ∙ ap (label_at (S L) last_tree) (sym e) ∙ h.label))
        by (above x rest e) = f other l (record { label = sym (last_built.above other x rest e) ∙ h.label })
        by (apart x) = f other l (record { label = sym (last_built.aside other x) ∙ h.label })

    last-sender : {d : Site} → Sender st d → Sender last_state d
    last-sender (process other e) = elim (label-alone (S L) t other e l-output) [
      | labelled d j x ↦
          let differs : path ≢ other = λ z. never (cc (sym at.found ∙ ap (λ y. look y st.process) z ∙ e)) in
          process other (last_on differs (record { found = e; leaf = l-output; label = x })).found
    ]
    last-sender (outside e) = outside e

    sender-last : {d : Site} → Sender last_state d → Sender st d
    sender-last {d} (process other {v} {k = f} e) = elim (look-after ρ other (resume k) st.process par e l-output) [
      | aside x y ↦ process other y
      | into rest x y ↦ absurd (silent-resume k (leaf-found rest (resume k) (leaf-resume k) y).1)
    ]
    sender-last (outside e) = outside e

    module _ {μ : Mem} {ws : List ℕ} (rest : Rest L st μ t (Only path) ws) (clean : Unmarked (S L) b i st μ) where
      last-owned : {d : Site} → Owned L st t d (μ ((S L).word d)) → Owned L last_state last_tree d (μ ((S L).word d))
      last-owned {d} (owned {path = other} h l o) =
          ⊎_elim
          (λ x. absurd (let (l', o') = same-leaf L (λ q e (j : Info). Memᴰ d j.chans × Own e (μ ((S L).word d)))
          (sym x) h at (l, o) in clean d l' o'))
          (λ x. owned (last_on x h) l o) (same-path path other)

      last-intact : {other : List ℕ} {q : Process} {d : Part} {j : Info} → LeafAt L st t other q d j
          → Intact (S L) d j (link_word j.w) st last_state μ μ
      last-intact h =
          record {
            own = λ v lo hi y. refl;
            reads = λ x l g. refl;
            chans = λ d l. inl refl;
            sends = λ d l g. last-sender g;
            none-sends = λ d l g o y. sender-last y;
          }

      last-par : {other : List ℕ} {cs : Branches} {f : List Frame} {e : Part} {vs ds : List Site} {v on : ℕ}
          → look other last_state.process ≡ some (in_par cs f) → NodeAt L last_state last_tree other (parted e vs ds v on)
          → (μ v ≡ (S L).off on) × (μ (v + 1) ≡ left cs)
      unfolding label_at
      last-par {other} {cs} {f} {e} {vs} {ds} {v} {on} x h = by (compare ρ other)
        where
          by : Compared ρ other → (μ v ≡ (S L).off on) × (μ (v + 1) ≡ left cs)
          by (equal z) = never (alone-parted (some_same (sym h.label ∙ ap (label_at (S L) last_tree) (sym z) ∙ last_leaf.label)))
          by (below l inner z) = never (cc (sym (last_built.below (l ∷ inner)) ∙ ap (label_at (S L) last_tree) (sym z) ∙ h.label))
          by (above l inner z) = elim (par-above ρ other l inner (resume k) st.process z par x) [
            | same-par cs' g y ↦
                let (p₁, p₂) = rest.par g (record { label = sym (last_built.above other l inner z) ∙ h.label }) in (p₁, p₂ ∙ y)
          ]
          by (apart z) =
              rest.par (sym (look-put-other (resume k) st.process z) ∙ x)
              (record { label = sym (last_built.aside other z) ∙ h.label })

      last-live : {other : List ℕ} {q : Process} {d : Part} {j : Info} → LeafAt L last_state last_tree other q d j → (x : Site)
          → Memᴰ x (live_in (frames_of q)) → Memᴰ x j.vars
      last-live h x l =
          ⊎_elim
          (λ e. same-leaf L (λ q d (j : Info). (x : Site) → Memᴰ x (live_in (frames_of q)) → Memᴰ x j.vars) e last_leaf h
          (λ x l. live-resume k vars (cont-live (S L) a c.after) x l) x l)
          (λ y. rest.live y.1 x l) (last-back h)

      pub last_rest : Rest L last_state μ last_tree (Only ρ) ws
      last_rest =
          record {
            vars = λ h. last-names (λ vs cs. (x : Site) → Memᴰ x vs → (st.store x ≡ μ ((S L).word x)) × (st.store x < 2 ^ 32)) h
                (λ p l y. rest.vars y);
            chans = λ h. last-names
                (λ vs cs. (d : Site) → Memᴰ d cs → (μ ((S L).word d) ≡ not_process) ⊎ Owned L last_state last_tree d (μ ((S L).word d))) h
                (λ p l y d z. ⊎_elim (λ e. inl e) (λ o. inr (last-owned o)) (rest.chans y d z));
            live = last-live;
            leaf = λ h out. ⊎_elim (λ e. absurd (out e))
                (λ y. held_stays (S L) _ _ (omega (arith, part_small L y.1, (S L).top_small)) (sits-at L y.1) (last-intact y.1)
                (onto_same refl) (rest.leaf y.1 (λ e. beside n y.0 (sym e ∙ is)))) (last-back h);
            par = last-par;
            sleepers = sleepers-by L rest.sleepers refl refl (λ other q d j h space z. (refl, refl))
                (λ other q d j h z. (last_on (dozer-off h z) h, dozer-out L (λ tm f e y x. leaf-off h x) z))
                (λ other q d j h z. ⊎_elim (λ e. absurd (not_last e h z))
                (λ y. (y.1, dozer-out L (λ tm f e o x. beside n y.0 (sym x ∙ is)) z)) (last-back h));
          }
        where
          -- the one that goes on is not in the timer queue
          not_last : {other : List ℕ} {q : Process} {d : Part} {j : Info} → ρ ≡ other → LeafAt L last_state last_tree other q d j
              → Dozer L (Only ρ) other q → ⊥
          not_last e h (at-wait z) = z e
          not_last e h (in-alt z) =
              let it = some_same (sym last_leaf.found ∙ ap (λ y. look y last_state.process) e ∙ h.found) in
              never (cc (z, ap is_alt it, off-resume k))

      pub last-lined : Lined L st t (Only path) ws → Lined L last_state last_tree (Only ρ) ws
      last-lined lines =
          record {
            each = λ v z. elim (lines.each v z) [ whose h e y ↦ whose (last_on y h) e (λ x. leaf-off h x) ];
            once = lines.once;
          }

      -- it holds no channel
      pub last-clean : Unmarked (S L) a last_info last_state μ
      last-clean d l o =
          ⊎_elim (λ e. not_own a (omega (arith, part_small L last_leaf, small_size L)) (subst (Own a) e o)) held_by
          (rest.chans par-node d l)
        where
          held_by : Owned L st t d (μ ((S L).word d)) → ⊥
          held_by (owned {path = other} {b = e} h m z) = by (same-path path other)
            where
              by : (path ≡ other) ⊎ (path ≢ other) → ⊥
              by (inl x) =
                  let (m', z') = same-leaf L (λ q e (j : Info). Memᴰ d j.chans × Own e (μ ((S L).word d))) (sym x) h at (m, z) in
                  clean d m' z'
              by (inr x) =
                  ⊎_elim (λ e. absurd (leaf-off h e)) (λ y. own-one L (parts-apart (S L) t y.0 {c = e} part (rw h.label)) o z)
                  (last-back (last_on x h))

  -- another branch: the PAR waits for the others, and its count is one less
  module _ (more : left bs ≢ 1) where
    abbrev pub more_state : State
    more_state = putting ρ (in_par (end_branch n bs) k) st

    pub more-ended : EndedAt (S L) t ρ n (put ρ (in_par (end_branch n bs) k) st.process)
    more-ended = ended_at (S L) t ρ n par

    abbrev pub more_tree : Tree (S L) (root L) (put ρ (in_par (end_branch n bs) k) st.process)
    more_tree = more-ended.tree

    aside-branch : {other : List ℕ} → Apart ρ other → Apart (ρ ++ n ∷ []) other
    aside-branch {other} x = subst (λ z. Apart (ρ ++ n ∷ []) z) (append-nil other) (apart-append (n ∷ []) [] x)

    beside-branch : {other : List ℕ} (l : ℕ) (inner : List ℕ) → n ≢ l → other ≡ ρ ++ l ∷ inner → Apart (ρ ++ n ∷ []) other
    beside-branch l inner d e = subst (λ z. Apart (ρ ++ n ∷ []) z) (sym e) (apart-under ρ (here d))

    -- a process or PAR then was there
    more-node : {other : List ℕ} {l : Label} → NodeAt L more_state more_tree other l → NodeAt L st t other l
    more-node {other} {l} h = by (compare ρ other)
      where
        by : Compared ρ other → NodeAt L st t other l
        by (equal e) = record { label = ap (label_at (S L) t) (sym e) ∙ sym more-ended.at-par ∙ ap (label_at (S L) more_tree) e ∙ h.label }
        by (above x inner e) = record { label = sym (more-ended.above other x inner e) ∙ h.label }
        by (apart x) = record { label = sym (more-ended.others other (aside-branch x)) ∙ h.label }
        by (below x inner e) = in-branch (ℕ_discrete n x)
          where
            in-branch : Dec (n ≡ x) → NodeAt L st t other l
            in-branch (yes z) =
                never (cc (sym (more-ended.gone inner) ∙ ap (λ y. label_at (S L) more_tree (ρ ++ y ∷ inner)) z
                ∙ ap (label_at (S L) more_tree) (sym e) ∙ h.label))
            in-branch (no z) = record { label = sym (more-ended.others other (beside-branch x inner z e)) ∙ h.label }

    -- and was another
    more-back : {other : List ℕ} {q : Process} {d : Part} {j : Info} → LeafAt L more_state more_tree other q d j
        → (path ≢ other) × LeafAt L st t other q d j
    more-back {other} {q} {d} {j} h = elim (look-after ρ other (in_par (end_branch n bs) k) st.process par h.found h.leaf) [
      | aside x y ↦ ((λ e. beside n x (sym e ∙ is)), record { found = y; leaf = h.leaf; label = (more-node (node L h)).label })
      | into inner e y ↦ in-par-back inner e y
    ]
      where
        in-par-back : (inner : List ℕ) → other ≡ ρ ++ inner → look inner (in_par (end_branch n bs) k) ≡ some q
            → (path ≢ other) × LeafAt L st t other q d j
        in-par-back [] e y = absurd (leaf-par h.leaf (sym (look_self y)))
        in-par-back (x ∷ inner) e y = by (ℕ_discrete n x)
          where
            by : Dec (n ≡ x) → (path ≢ other) × LeafAt L st t other q d j
            by (yes z) = never (cc (look-end-same ρ n inner st.process par, z, ap (λ y. look y more_state.process) e, h.found))
            by (no z) = (
              (λ f. apart-differ (beside-branch x inner z e) (sym is ∙ f)),
              record {
                found = ap (λ y. look y st.process) e ∙ sym (look-end-other ρ n x inner st.process z par)
                    ∙ ap (λ y. look y more_state.process) (sym e) ∙ h.found;
                leaf = h.leaf;
                label = (more-node (node L h)).label;
              },
            )

    more-on : {other : List ℕ} {q : Process} {d : Part} {j : Info} → path ≢ other → LeafAt L st t other q d j
        → LeafAt L more_state more_tree other q d j
    more-on {other} {q} {d} {j} ne h = by (compare ρ other)
      where
        by : Compared ρ other → LeafAt L more_state more_tree other q d j
        by (equal e) = absurd (leaf-off h e)
        by (above l rest e) = absurd (leaf-not-above l rest h e)
        by (apart x) =
            record {
              found = look-put-other (in_par (end_branch n bs) k) st.process x ∙ h.found;
              leaf = h.leaf;
              label = more-ended.others other (aside-branch x) ∙ h.label;
            }
        by (below l rest e) = in-branch (ℕ_discrete n l)
          where
            in-branch : Dec (n ≡ l) → LeafAt L more_state more_tree other q d j
            in-branch (yes z) = absurd (ne (branch_alone rest h (e ∙ ap (λ y. ρ ++ y ∷ rest) (sym z))))
            in-branch (no z) =
                record {
                  found = ap (λ y. look y more_state.process) e ∙ look-end-other ρ n l rest st.process z par
                      ∙ ap (λ y. look y st.process) (sym e) ∙ h.found;
                  leaf = h.leaf;
                  label = more-ended.others other (beside-branch l rest z e) ∙ h.label;
                }

    more-sender : {d : Site} → Sender st d → Sender more_state d
    more-sender (process other e) = elim (label-alone (S L) t other e l-output) [
      | labelled d j x ↦
          let differs : path ≢ other = λ z. never (cc (sym at.found ∙ ap (λ y. look y st.process) z ∙ e)) in
          process other (more-on differs (record { found = e; leaf = l-output; label = x })).found
    ]
    more-sender (outside e) = outside e

    sender-more : {d : Site} → Sender more_state d → Sender st d
    sender-more (process other e) = elim (label-alone (S L) more_tree other e l-output) [
      | labelled d j x ↦ process other (more-back (record { found = e; leaf = l-output; label = x })).1.found
    ]
    sender-more (outside e) = outside e

    -- the PAR's words are no names', and no process's own
    names-off : {other : List ℕ} {l : Label} → NodeAt L st t other l
        → ((x : Site) → Memᴰ x (zone_of l).vars → (S L).word x ≢ w + 1)
        × ((x : Site) → Memᴰ x (zone_of l).chans → (S L).word x ≢ w + 1)
    names-off {other} {l} h = ⊎_elim here-names (λ d. (
      (λ x z e. (apart-zones L d par-node h).vars-in x z (omega (arith, e), omega (arith, e))),
      (λ x z e. (apart-zones L d par-node h).chans-in x z (omega (arith, e), omega (arith, e))),
    )) (same-path ρ other)
      where
        here-names : ρ ≡ other
            → ((x : Site) → Memᴰ x (zone_of l).vars → (S L).word x ≢ w + 1)
            × ((x : Site) → Memᴰ x (zone_of l).chans → (S L).word x ≢ w + 1)
        here-names e =
            subst (λ (y : Label). ((x : Site) → Memᴰ x (zone_of y).vars → (S L).word x ≢ w + 1)
            × ((x : Site) → Memᴰ x (zone_of y).chans → (S L).word x ≢ w + 1))
            (some_same (sym label ∙ ap (label_at (S L) t) e ∙ h.label)) (
              (λ x z f. absurd (omega (arith, c.placed.scoped.vars-above x z, f))),
              (λ x z f. absurd (omega (arith, c.placed.scoped.chans-above x z, f))),
            )

    module _ {μ : Mem} {ws : List ℕ} (rest : Rest L st μ t (Only path) ws) (clean : Unmarked (S L) b i st μ) where
      abbrev pub ν : Mem
      ν = upd μ (w + 1) (left (end_branch n bs))

      more-owned : {d : Site} → ν ((S L).word d) ≡ μ ((S L).word d) → Owned L st t d (μ ((S L).word d))
          → Owned L more_state more_tree d (ν ((S L).word d))
      more-owned {d} same (owned {path = other} {b = e} h l o) =
          ⊎_elim
          (λ x. absurd (let (l', o') = same-leaf L (λ q e (j : Info). Memᴰ d j.chans × Own e (μ ((S L).word d)))
          (sym x) h at (l, o) in clean d l' o'))
          (λ x. owned (more-on x h) l (subst (Own e) (sym same) o)) (same-path path other)

      more-intact : {other : List ℕ} {q : Process} {d : Part} {j : Info} → LeafAt L st t other q d j
          → Intact (S L) d j (link_word j.w) st more_state μ ν
      more-intact h =
          record {
            own = λ v lo hi y. upd_other μ (w + 1) (left (end_branch n bs)) v
                (λ e. (apart-zones L (leaf-off h) par-node (node L h)).words v (omega (arith, e), omega (arith, e)) (lo, hi));
            reads = λ x l g. refl;
            chans = λ d l. inl (upd_other μ (w + 1) (left (end_branch n bs)) ((S L).word d) ((names-off (node L h)).1 d l));
            sends = λ d l g. more-sender g;
            none-sends = λ d l g o y. sender-more y;
          }

      more-par : {other : List ℕ} {cs : Branches} {f : List Frame} {e : Part} {vs ds : List Site} {v on : ℕ}
          → look other more_state.process ≡ some (in_par cs f) → NodeAt L more_state more_tree other (parted e vs ds v on)
          → (ν v ≡ (S L).off on) × (ν (v + 1) ≡ left cs)
      more-par {other} {cs} {f} {e} {vs} {ds} {v} {on} x h = by (same-path ρ other)
        where
          before : NodeAt L st t other (parted e vs ds v on)
          before = more-node h

          elsewhere : ρ ≢ other → {bs' : Branches} {f' : List Frame} → look other st.process ≡ some (in_par bs' f') → left bs' ≡ left cs
              → (ν v ≡ (S L).off on) × (ν (v + 1) ≡ left cs)
          elsewhere d g y =
              let (p₁, p₂) = rest.par g before in
              let far = apart-zones L d par-node before in (
                upd_other μ (w + 1) (left (end_branch n bs)) v
                    (λ z. far.words v (omega (arith, z), omega (arith, z)) (omega arith, omega arith)) ∙ p₁,
                upd_other μ (w + 1) (left (end_branch n bs)) (v + 1)
                    (λ z. far.words (v + 1) (omega (arith, z), omega (arith, z)) (omega arith, omega arith))
                    ∙ p₂ ∙ y,
              )

          by : (ρ ≡ other) ⊎ (ρ ≢ other) → (ν v ≡ (S L).off on) × (ν (v + 1) ≡ left cs)
          by (inl z) =
              let same = some_same (sym label ∙ ap (label_at (S L) t) z ∙ before.label) in
              let y = same-branches
              (sym (look-put-same ρ st.process (in_par (end_branch n bs) k) par) ∙ ap (λ o. look o more_state.process) z ∙ x) in
              let first : w ≢ w + 1 = λ e. absurd (omega (arith, e)) in
              parted-same (S L) ν same (
                upd_other μ (w + 1) (left (end_branch n bs)) w first ∙ (rest.par par par-node).0,
                upd_same μ (w + 1) (left (end_branch n bs)) ∙ ap left y,
              )
          by (inr z) = at_other (compare ρ other)
            where
              at_other : Compared ρ other → (ν v ≡ (S L).off on) × (ν (v + 1) ≡ left cs)
              at_other (equal y) = absurd (z y)
              at_other (above l inner y) = elim (par-above ρ other l inner (in_par (end_branch n bs) k) st.process y par x) [
                | same-par cs' g u ↦ elsewhere z g u
              ]
              at_other (apart y) = elsewhere z (sym (look-put-other (in_par (end_branch n bs) k) st.process y) ∙ x) refl
              at_other (below l inner y) = in-branch (ℕ_discrete n l)
                where
                  in-branch : Dec (n ≡ l) → (ν v ≡ (S L).off on) × (ν (v + 1) ≡ left cs)
                  in-branch (yes u) =
                      never (cc (look-end-same ρ n inner st.process par, u, ap (λ y. look y more_state.process) y, x))
                  in-branch (no u) =
                      elsewhere z (ap (λ o. look o st.process) y ∙ sym (look-end-other ρ n l inner st.process u par)
                      ∙ ap (λ o. look o more_state.process) (sym y) ∙ x) refl

      pub more-rest : Rest L more_state ν more_tree Nobody ws
      more-rest =
          record {
            vars = λ h x z.
                let y = more-node h in
                let (e, small) = rest.vars y x z in
                (e ∙ sym (upd_other μ (w + 1) (left (end_branch n bs)) ((S L).word x) ((names-off y).0 x z)), small);
            chans = λ h d z.
                let y = more-node h in
                let same = upd_other μ (w + 1) (left (end_branch n bs)) ((S L).word d) ((names-off y).1 d z) in
                ⊎_elim (λ e. inl (same ∙ e)) (λ o. inr (more-owned same o)) (rest.chans y d z);
            live = λ h x z. rest.live (more-back h).1 x z;
            leaf = λ h out.
                let (d, y) = more-back h in
                held_stays (S L) _ _ (omega (arith, part_small L y, (S L).top_small)) (sits-at L y) (more-intact y) (onto_same refl)
                (rest.leaf y d);
            par = more-par;
            sleepers = sleepers-by L rest.sleepers refl
                (upd_other μ (w + 1) (left (end_branch n bs)) front_word
                (λ e. absurd (omega (arith, (zone-under (S L) t ρ par-node.label).below, (S L).top_small))))
                (λ other q d j h space z.
                time-words-same (S L) d j (omega (arith, part_small L h, (S L).top_small)) (sits-at L h) (more-intact h) space)
                (λ other q d j h z. (more-on (dozer-off h z) h, dozer-out L (λ tm f e y x. x) z))
                (λ other q d j h z. let (y, l) = more-back h in (l, dozer-out L (λ tm f e o. y) z));
          }

      pub more-lined : Lined L st t (Only path) ws → Lined L more_state more_tree Nobody ws
      more-lined lines =
          record {
            each = λ v z. elim (lines.each v z) [ whose h e y ↦ whose (more-on y h) e (λ x. x) ];
            once = lines.once;
          }

      pub link-off : Lined L st t (Only path) ws → (v : ℕ) → Memᴰ v ws → link_word v ≢ w + 1
      link-off lines v z f = elim (lines.each v z) [
        | whose h e y ↦
            let p = link-word L lines h e in
            (apart-zones L (leaf-off h) par-node (node L h)).words (link_word v) (omega (arith, f), omega (arith, f)) p
      ]
