-- A process that has the processor stays as it is while the outside acts on other processes.
use Prim.Native.Nat.{ℕ, zero, suc, ◌+◌, ◌-◌, ◌^◌, ◌≤◌, ◌<◌}
use native.Mathlib.Omega.{arith}
use native.Mathlib.Decide.{ℕ_discrete}
use mathlib.Core.Path.{◌≡◌, refl, sym, ap, ◌∙◌, subst}
use mathlib.Core.Logic.{◌≢◌, ◌⊎◌, inl, inr, ⊎_elim}
use mathlib.Core.Bool.{true, false, cond}
use lib.Dec.{eqb}
use mathlib.Core.List.Memᴰ
use mathlib.Core.List.{List, [], ◌∷◌, ◌++◌, Memᴰ}
use mathlib.Core.Option.{some}
use Rattle.model.specs.Syntax.{Site, Stmt, Stmts, no_stmt, stmt, Guards}
use Rattle.model.specs.Counts.{need}
use Rattle.model.specs.Scheme.{size, how_many}
use Rattle.model.specs.Machine.{World, state_word, name_of, time_link_word, time_word}
use Rattle.model.specs.Occam.{Store, Frame, Process, at_output, begin, look, State, now}
use Rattle.model.proofs.Cases.{never}
use Rattle.model.proofs.Quiet.Ways.{Regs, regs_of, Mem, upd, upd_other, Way, arrived, through, quiet, loads, stores, reloads, jumps}
use Rattle.model.proofs.Quiet.Ways.{falls, way-stable}
use Rattle.model.proofs.Quiet.Setting.{Setting}
use Rattle.model.proofs.Occam.Paths.{same-path, silent-begin, is_alt}
use Rattle.model.proofs.Words.Parts.{Part, joins, part_of, FineGuards}
use Rattle.model.proofs.Quiet.Continuations.{cont-low}
use Rattle.model.proofs.Quiet.Marks.{Own, AltCode, Enabling, Enables, e-input, e-skip, Disables, d-input, d-skip, AltPoint, own_name}
use Rattle.model.proofs.Quiet.Marks.{pt-enable, pt-wait, pt-disable, pt-choose, e-time, d-time}
use Rattle.model.proofs.Quiet.Arrivals.{Goes, comes}
use Rattle.model.proofs.Quiet.Onwards.{AltGoes, alt-goes, Starts, rest-fine, guarded-fine}
use Rattle.model.proofs.Invariant.Trees.{some_same, Info, new_info, Sits, Tree, bytes_left}
use Rattle.model.proofs.Invariant.Stays.{value_same, Intact, goes-stays, comes-stays, unmarked-stays, noticed-stays, marked-stays}
use Rattle.model.proofs.Invariant.Stays.{disabling-stays, present-stays, bringing-stays, guarding-stays}
use Rattle.model.proofs.Effects.OneWord.{cpu_of}
use Rattle.model.proofs.Effects.Queues.{apart_none}
use Rattle.model.proofs.Quiet.PathEnds.{Moving, begins, alters, ends, alt-kind, alt-moving}
use Rattle.model.proofs.Invariant.Kernel.{Loaded, S, root, LeafAt, Rest, Lined, Real, part_small, sits-at}
use Rattle.model.proofs.Invariant.Grounds.{small_size}
use Rattle.model.proofs.Invariant.Running.{Only, Nobody, StartsLeft, Later, l-here, l-next, NotStarted, not-started, Starting, Here}
use Rattle.model.proofs.Invariant.Running.{ToStart, Now, now-goes, now-alt, NowStarts, Inv, runs, starts, idle}
use Rattle.model.proofs.Invariant.Moving.{same-leaf, settled-silent, skips-silent, skips-off}
use Rattle.model.proofs.Quiet.Timing.{Times, Onto, onto_same}
use Rattle.model.proofs.Quiet.Onwards.{timed-fine}

-- what holds of the memory at the significant instruction of a path without jumps, and is not told by spare words, holds on it
pub way-holds : (S : Setting) {P : ℕ → Mem → ℕ → Regs → Type 0} {E : Type 0} {σ : Store} {R : Site → Type 0} {Spare : ℕ → Type 0}
    {hi : ℕ} {μ : Mem} {i : ℕ} {r : Regs} (K : Mem → Type 0) → ((ν : Mem) (v z : ℕ) → Spare v → K (upd ν v z) → K ν)
    → ((h : ℕ) (ν : Mem) (i : ℕ) (r : Regs) → P h ν i r → K ν) → ((ν : Mem) → E → K ν)
    → Way S.xs S.off S.word P E σ R Spare (λ w. ⊥) hi μ i r → K μ
way-holds S K back l f (arrived p b) = l _ _ _ _ p
way-holds S {μ = μ} K back l f (through e b g) = f μ g
way-holds S K back l f (quiet g at q v) = way-holds S K back l f v
way-holds S K back l f (loads x at a m v) = way-holds S K back l f v
way-holds S {μ = μ} {r = r} K back l f (stores v at a m w) = back μ v r.a m (way-holds S K back l f w)
way-holds S K back l f (reloads v at a m w) = way-holds S K back l f w
way-holds S K back l f (jumps at i c e v) = absurd c
way-holds S K back l f (falls at i a e v) = way-holds S K back l f v

-- the guards that an ALT is at
module _ (S : Setting) (b : Part) (vars chans : List Site) {st st' : State}
    (same : (x : Site) → Memᴰ x vars → Memᴰ x b.reads → st.store x ≡ st'.store x) where
  pub enables-stays : {gs : Guards} {j j' : ℕ} {r : Regs} (vw : ℕ) → FineGuards S.word b vars chans vw gs
      → Enables S b st vars chans gs j r j' → Enables S b st' vars chans gs j r j'
  enables-stays vw f (e-input {e} x v c g) = e-input x (v ∙ value_same b vars same e f.0) c g
  enables-stays vw f (e-skip {e} x v g) = e-skip x (v ∙ value_same b vars same e f.0) g
  enables-stays vw f (e-time {e} {t} x v u z g) =
      let same-time = value_same b vars same t (f.1.0, f.1.1, tt {0}) in
      e-time x (v ∙ value_same b vars same e f.0) (u ∙ same-time) (subst (λ n. n < 2 ^ 32) same-time z) g

  pub disables-stays : {gs : Guards} {c m j j' : ℕ} {r : Regs} (vw : ℕ) → FineGuards S.word b vars chans vw gs
      → Disables S b st vars chans gs c m j r j' → Disables S b st' vars chans gs c m j r j'
  disables-stays vw f (d-input {e} x u v c g) = d-input x u (v ∙ value_same b vars same e f.0) c g
  disables-stays vw f (d-skip {e} x u v g) = d-skip x u (v ∙ value_same b vars same e f.0) g
  disables-stays vw f (d-time {e} {t} x u v z g) =
      d-time x u (v ∙ value_same b vars same e f.0) (z ∙ value_same b vars same t (f.1.0, f.1.1, tt {0})) g

module _ (S : Setting) (b : Part) (i : Info) (high : b.top < 2 ^ 32) (sits : Sits S b i) {T T' : Times}
    {st st' : State} {μ ν : Mem} (onto : (w : ℕ) → Onto T T' w (now st) (now st')) (intact : Intact S b i b.top st st' μ ν) where
  pub all_same : (v : ℕ) → b.bottom ≤ v → v < b.top → ν v ≡ μ v
  all_same v lo hi = intact.own v lo hi (λ e. absurd (omega arith))

  -- an ALT's code has room for its words
  module _ (w : ℕ) {gs : Guards} {k : List Frame} {hi at : ℕ} (c : AltCode S b gs i.vars i.chans k hi at (w + 1)) where
    alt-own : Own b (name_of w)
    alt-own = own_name b w (omega (arith, c.fine.0)) (omega (arith, cont-low S b c.after))

    alt-base : ν w ≡ μ w
    alt-base = all_same w (omega (arith, c.fine.0)) (omega (arith, cont-low S b c.after))

    alt-state : ν (state_word w) ≡ μ (state_word w)
    alt-state = let l = cont-low S b c.after in all_same (state_word w) (omega (arith, c.fine.0)) (omega (arith, c.fine.0))

    -- its two words for times, where it has room for them
    alt-times : b.bottom + 5 ≤ w → (ν (time_link_word w) ≡ μ (time_link_word w)) × (ν (time_word w) ≡ μ (time_word w))
    alt-times space =
        let l = cont-low S b c.after in
        let link = all_same (time_link_word w) (omega (arith, space)) (omega (arith, space)) in
        (link, all_same (time_word w) (omega (arith, space)) (omega (arith, space)))

    enabling-stays : {hs : Guards} → Enabling S b T st i.vars i.chans gs hs μ w
        → Enabling S b T' st' i.vars i.chans gs hs ν w
    enabling-stays n =
        record {
          rest = n.rest;
          marks = marked-stays S b i high sits intact (w + 1) w c.fine.1 n.marks;
          state = ⊎_elim
              (λ e. inl (alt-state ∙ e.0, noticed-stays S b i high sits intact (w + 1) alt-own c.fine.1 e.1))
              (λ e. inr (alt-state ∙ e.0, present-stays S b i high sits intact (w + 1) c.fine.1 e.1)) n.state;
          times = λ z.
              let (link, time) = alt-times (omega (arith, timed-fine S.word b i.vars i.chans (w + 1) gs c.fine.1 z)) in
              bringing-stays S b i high sits intact (w + 1) (onto w) c.fine.1 link time (n.times z);
          known = guarding-stays S b i high sits intact (w + 1) (onto w) c.fine.1 n.known;
        }

  -- the significant instructions of an ALT
  alt-point-stays : {q : Process} (up j : ℕ) (r : Regs) → AltPoint S b T st i.vars i.chans q up μ j r
      → AltPoint S b T' st' i.vars i.chans q up ν j r
  alt-point-stays up j r (pt-enable c l n e) =
      pt-enable c l (enabling-stays r.w c n)
      (enables-stays S b i.vars i.chans intact.reads (r.w + 1) (rest-fine S.word b i.vars i.chans (r.w + 1)
      n.rest.1 c.fine.1) e)
  alt-point-stays up j r (pt-wait c n) = pt-wait c (enabling-stays r.w c n)
  alt-point-stays up j r (pt-disable c l t n d) =
      let f = rest-fine S.word b i.vars i.chans (r.w + 1) t c.fine.1 in
      pt-disable c l t
      (disabling-stays S b i high sits intact (r.w + 1) (onto r.w) refl c.fine.1 f (alt-base r.w c) (alt-state r.w c)
      (alt-times r.w c) n)
      (disables-stays S b i.vars i.chans intact.reads (r.w + 1) f d)
  alt-point-stays up j r (pt-choose c n) =
      pt-choose c
      (disabling-stays S b i high sits intact (r.w + 1) (onto r.w) refl c.fine.1 tt (alt-base r.w c) (alt-state r.w c)
      (alt-times r.w c) n)

-- where all words but a part's link word stay, they stay with one more value in a word that is no channel's
intact-upd : {S : Setting} {b : Part} {i : Info} {skip : ℕ} {st st' : State} {μ ν : Mem} (v z : ℕ)
    → ((c : Site) → Memᴰ c i.chans → v < S.word c) → Intact S b i skip st st' μ ν
    → Intact S b i skip st st' (upd μ v z) (upd ν v z)
intact-upd {S} {b} {i} {μ = μ} {ν = ν} v z off k =
    record {
      own = λ u l h d. ap (λ n. cond (eqb u v) z n) (k.own u l h d);
      reads = k.reads;
      chans = λ c m.
          ⊎_elim (λ e. inl (there ν c m ∙ e ∙ sym (there μ c m)))
          (λ e. inr ((λ o. e.0 (subst (Own b) (there μ c m) o)), (λ o. e.1 (subst (Own b) (there ν c m) o)))) (k.chans c m);
      sends = k.sends;
      none-sends = λ c m n o s. k.none-sends c m n (subst (Own b) (there μ c m) o) s;
    }
  where
    there : (κ : Mem) (c : Site) → Memᴰ c i.chans → upd κ v z (S.word c) ≡ κ (S.word c)
    there κ c m = upd_other κ v z (S.word c) (λ e. absurd (omega (arith, off c m, e)))

pub alt-stays : (S : Setting) (b : Part) (i : Info) → b.top < 2 ^ 32 → Sits S b i → {T T' : Times} {st st' : State} {μ ν : Mem}
    → ((w : ℕ) → Onto T T' w (now st) (now st')) → Intact S b i b.top st st' μ ν → {q : Process} {v hi j : ℕ} {r : Regs}
    → AltGoes S b T st i.vars i.chans q v hi μ j r → AltGoes S b T' st' i.vars i.chans q v hi ν j r
alt-stays S b i high sits {st = st} {st'} onto intact (alt-goes w tied way) =
    alt-goes w tied
    (way-stable S.xs S.off S.word (Intact S b i b.top st st') (λ μ ν v z s k. intact-upd v z s.0.no-chan k)
    (λ μ ν v s k. all_same S b i high sits onto k v s.0.above s.0.below) (λ x m. intact.reads x m.0 m.1) (λ w c. absurd c)
    (λ h μ ν j r k p. (alt-point-stays S b i high sits onto k h j r p.0, p.1)) intact way)

-- the k-th of some statements
later-few : {ss : Stmts} {d b k d' b' : ℕ} {r : Stmt} → Later ss d b k r d' b' → k < how_many ss
unfolding how_many
later-few l-here = omega arith
later-few (l-next h) = omega (arith, later-few h)

data Nth (ss : Stmts) (d b k : ℕ) : Type 0 where
  nth : {r : Stmt} {d' b' : ℕ} → Later ss d b k r d' b' → Nth ss d b k

later-found : (ss : Stmts) (d b k : ℕ) → k < how_many ss → Nth ss d b k
unfolding how_many
later-found no_stmt d b k h = absurd (omega arith)
later-found (stmt s ss) d b zero h = nth l-here
later-found (stmt s ss) d b (suc k) h = elim (later-found ss (d + need s) (b + size s + 2) k (omega arith)) [ nth l ↦ nth (l-next l) ]

-- whether a branch is still to be started
not-started-upto : (B : StartsLeft) (other : List ℕ) (n : ℕ) → n ≤ how_many B.ss
    → NotStarted B other ⊎ ((k : ℕ) → k ≤ n → other ≢ B.par ++ (B.next + k) ∷ [])
not-started-upto B other zero h =
    ⊎_elim (λ e. inl (not-started 0 h e)) (λ d. inr (λ k l e. d (e ∙ ap (λ z. B.par ++ (B.next + z) ∷ []) (omega arith))))
    (same-path other (B.par ++ (B.next + 0) ∷ []))
not-started-upto B other (suc n) h =
    ⊎_elim (λ e. inl (not-started (suc n) h e))
    (λ d. ⊎_elim (λ u. inl u) (λ g. inr (λ k l e. by d g k l e (ℕ_discrete k (suc n)))) (not-started-upto B other n (omega arith)))
    (same-path other (B.par ++ (B.next + suc n) ∷ []))
  where
    by : other ≢ B.par ++ (B.next + suc n) ∷ [] → ((k : ℕ) → k ≤ n → other ≢ B.par ++ (B.next + k) ∷ []) → (k : ℕ) → k ≤ suc n
        → other ≡ B.par ++ (B.next + k) ∷ [] → Dec (k ≡ suc n) → ⊥
    by d g k l e (yes z) = d (e ∙ ap (λ z. B.par ++ (B.next + z) ∷ []) z)
    by d g k l e (no z) = g k (omega arith) e

not-started-known : (B : StartsLeft) (other : List ℕ) → NotStarted B other ⊎ (NotStarted B other → ⊥)
not-started-known B other =
    ⊎_elim (λ u. inl u) (λ n. inr (λ u. elim u [ not-started k l e ↦ n k l e ])) (not-started-upto B other (how_many B.ss) (omega arith))

-- whether a process is left out
pub starting-known : (path : List ℕ) (B : StartsLeft) (other : List ℕ) → Starting path B other ⊎ (Starting path B other → ⊥)
starting-known path B other =
    ⊎_elim (λ e. inl (inl e))
    (λ d. ⊎_elim (λ u. inl (inr u)) (λ n. inr (λ o. ⊎_elim d n o)) (not-started-known B other)) (same-path path other)

module _ (L : Loaded) where
  -- nothing happens
  pub intact-refl : {b : Part} {i : Info} {skip : ℕ} {st : State} {μ : Mem} → Intact (S L) b i skip st st μ μ
  intact-refl =
      record {
        own = λ a lo hi d. refl;
        reads = λ x m g. refl;
        chans = λ d m. inl refl;
        sends = λ d m z. z;
        none-sends = λ d m g z y. y;
      }

  -- two machines whose processes see the same registers
  pub record SameRegs (u s : World) : Type 0 where
    pub run : (cpu_of u).running ≡ (cpu_of s).running
    pub place : (cpu_of u).place ≡ (cpu_of s).place
    pub operand : (cpu_of u).operand ≡ (cpu_of s).operand
    pub regs : regs_of (cpu_of u) ≡ regs_of (cpu_of s)

  module _ {u s : World} (same : SameRegs u s) where
    here-same : {at : ℕ} → Here L at (cpu_of s).place (cpu_of s).operand → Here L at (cpu_of u).place (cpu_of u).operand
    here-same {at} h =
        subst (λ z. Here L at (cpu_of u).place z) (sym same.operand) (subst (λ z. Here L at z (cpu_of s).operand) (sym same.place) h)

    soon-same : {hi : ℕ} (n : ℕ) → hi ≤ n + (cpu_of s).place → hi ≤ n + (cpu_of u).place
    soon-same n h = omega (arith, same.place)

    pub now-stays : {st st' : State} {μ ν : Mem} {b : Part} {i : Info} {q : Process} → b.top < 2 ^ 32 → Sits (S L) b i
        → ((w : ℕ) → Onto L.times L.times w (now st) (now st')) → Intact (S L) b i b.top st st' μ ν → Now L s st μ b i q
        → Now L u st' ν b i q
    now-stays {st' = st'} {ν = ν} {b} {i} {q} high sits onto intact (now-goes {hi} {at} h way settled clean soon) =
        now-goes (here-same h)
        (subst (λ r. Goes (S L) b st'.store i.vars i.chans q hi ν at r) (sym same.regs)
        (goes-stays (S L) b i.vars i.chans intact.reads (all_same (S L) b i high sits onto intact) way))
        settled (unmarked-stays (S L) b i high sits intact clean) (soon-same i.left soon)
    now-stays {st' = st'} {ν = ν} {b} {i} {q} high sits onto intact (now-alt {hi} {at} h way soon) =
        now-alt (here-same h)
        (subst (λ r. AltGoes (S L) b L.times st' i.vars i.chans q i.w hi ν at r) (sym same.regs)
        (alt-stays (S L) b i high sits onto intact way))
        (soon-same i.left soon)

  -- a part is below the end of words
  pub part-high : {st : State} {t : Tree (S L) (root L) st.process} {path : List ℕ} {q : Process} {b : Part} {i : Info}
      → LeafAt L st t path q b i → b.top < 2 ^ 32
  part-high k = omega (arith, part_small L k, small_size L)

  -- what the processes that are left out keep
  abbrev pub Keeps : (st st' : State) (μ ν : Mem) (t : Tree (S L) (root L) st.process) (t' : Tree (S L) (root L) st'.process)
      (Out : List ℕ → Type 0) → Type 0
  Keeps st st' μ ν t t' Out =
      (path : List ℕ) (q : Process) (b : Part) (i : Info) → LeafAt L st t path q b i → Out path
      → LeafAt L st' t' path q b i × Intact (S L) b i b.top st st' μ ν

  -- the first branch of a PAR, and those that it has still to start
  pub starts-stays : {u s : World} → SameRegs u s → {st st' : State} {μ ν : Mem} {t : Tree (S L) (root L) st.process}
      {t' : Tree (S L) (root L) st'.process} {path : List ℕ} {q : Process} {b : Part} {i : Info} {B : StartsLeft}
      → LeafAt L st t path q b i → Keeps st st' μ ν t t' (Starting path B) → NowStarts L s st μ t path q b i B
      → NowStarts L u st' ν t' path q b i B
  unfolding how_many
  starts-stays {u} {s} same {st} {st'} {μ} {ν} {t} {t'} {path} {q} {b} {i} {B} leaf keeps now =
      let intact = (keeps path q b i leaf (inl refl)).1 in
      record {
        hi = now.hi;
        at = now.at;
        first-branch = now.first-branch;
        next_one = now.next_one;
        same_w = now.same_w;
        here = here-same same now.here;
        way = subst (λ r. Starts (S L) st'.store B.s B.ss B.d B.b B.first B.w now.hi ν now.at r)
            (sym same.regs)
            (way-stable (S L).xs (S L).off (S L).word (λ μ ν. Unit {0}) (λ μ ν v z s. absurd s) (λ μ ν v s. absurd s) (λ x m. absurd m)
            (λ w c. absurd c) (λ h μ ν j r k p. p) tt now.way);
        all-to-start = λ k r d c l. next_start k r d c l (now.all-to-start k r d c l);
        own = comes-stays (S L) b i.vars i.chans intact.reads now.own;
        inner = now.inner;
        near = now.near;
        unmarked = unmarked-stays (S L) b i (part-high leaf) (sits-at L leaf) intact now.unmarked;
        soon = soon-same same i.left now.soon;
      }
    where
      next_start : (k : ℕ) (r : Stmt) (d c : ℕ) → Later (stmt B.s B.ss) B.d B.b k r d c → ToStart L st μ t B k r d c
          → ToStart L st' ν t' B k r d c
      next_start k r d c l h =
          let a = part_of B.vars B.chans (B.w - d) (joins d) r in
          let j = new_info (S L) B.vars B.chans (B.w - d) in
          let (leaf', intact) = keeps (B.par ++ (B.next + k) ∷ []) (begin r []) a j h.leaf
          (inr (not-started k (omega (arith, later-few l)) refl)) in
          record {
            leaf = leaf';
            comes = comes-stays (S L) a B.vars B.chans intact.reads h.comes;
            inner = h.inner;
            room = h.room;
            unmarked = unmarked-stays (S L) a j (part-high h.leaf) (sits-at L h.leaf) intact h.unmarked;
          }

  -- the processor is free: no process is left out, and none is queued
  pub record Free (s : World) (Out : List ℕ → Type 0) (ws : List ℕ) : Type 0 where
    pub stopped : (cpu_of s).running ≡ false
    pub operand : (cpu_of s).operand ≡ 0
    pub nobody : (other : List ℕ) → Out other → ⊥
    pub unqueued : ws ≡ []

  -- all that the invariant says, with what it comes to where the processes that are left out keep what they have
  pub record Ground (s : World) (st : State) (μ : Mem) (t : Tree (S L) (root L) st.process) (Out : List ℕ → Type 0)
      (ws : List ℕ) : Type 0 where
    pub real : Real L s st μ ws
    pub rest : Rest L st μ t Out ws
    pub lined : Lined L st t Out ws
    pub known : (other : List ℕ) → Out other ⊎ (Out other → ⊥)
    pub silent : (path : List ℕ) (c : Site) (v : ℕ) (k : List Frame) → look path st.process ≡ some (at_output c v k) → Out path → ⊥
    -- a channel that holds a name of theirs is one of their inputs
    pub marks : (path : List ℕ) (q : Process) (b : Part) (i : Info) → LeafAt L st t path q b i → Out path → (c : Site)
        → Memᴰ c i.chans
        → Own b (μ ((S L).word c)) → Memᴰ c b.inputs
    pub free : ((cpu_of s).running ≡ true) ⊎ Free s Out ws
    pub stays : (u : World) (st' : State) (ν : Mem) (t' : Tree (S L) (root L) st'.process) (us : List ℕ) → SameRegs u s
        → now st' ≡ now st → Keeps st st' μ ν t t' Out → ((cpu_of s).running ≡ false → us ≡ []) → Real L u st' ν us → Rest L st' ν t' Out us
        → Lined L st' t' Out us → Inv L u st' (bytes_left (S L) t')

  -- a process that goes on sends nothing
  moving-silent : {q : Process} {c : Site} {v : ℕ} {k : List Frame} → Moving q → q ≡ at_output c v k → ⊥
  moving-silent begins e = never (cc)
  moving-silent alters e = never (cc)
  moving-silent ends e = never (cc)

  now-silent : {s : World} {st : State} {μ : Mem} {b : Part} {i : Info} {q : Process} {c : Site} {v : ℕ} {k : List Frame}
      → Now L s st μ b i q
      → q ≡ at_output c v k → ⊥
  now-silent (now-goes h way settled clean soon) e = settled-silent settled e
  now-silent {b = b} {q = q} (now-alt h way soon) e =
      moving-silent (alt-kind (S L) b (Moving q) (alt-moving (S L) b) way) e

  -- an ALT's marks are at its guards
  point-marks : {st : State} {μ : Mem} {b : Part} (i : Info) {q : Process} (c : Site) → Memᴰ c i.chans → Own b (μ ((S L).word c))
      → (up j : ℕ)
      (r : Regs) → AltPoint (S L) b L.times st i.vars i.chans q up μ j r → Memᴰ c b.inputs
  point-marks {b = b} i c m o up j r (pt-enable a l n e) =
      (guarded-fine (S L).word b i.vars i.chans (r.w + 1) (n.marks c m o).1 a.fine.1).1
  point-marks {b = b} i c m o up j r (pt-wait a n) =
      (guarded-fine (S L).word b i.vars i.chans (r.w + 1) (n.marks c m o).1 a.fine.1).1
  point-marks {b = b} i c m o up j r (pt-disable a l t n d) =
      (guarded-fine (S L).word b i.vars i.chans (r.w + 1) (n.marks c m o).1
      (rest-fine (S L).word b i.vars i.chans (r.w + 1) t a.fine.1)).1
  point-marks {b = b} i c m o up j r (pt-choose a n) =
      (guarded-fine (S L).word b i.vars i.chans (r.w + 1) (n.marks c m o).1 tt).1

  now-marks : {s : World} {st : State} {μ : Mem} {b : Part} {i : Info} {q : Process} → Now L s st μ b i q → (c : Site)
      → Memᴰ c i.chans
      → Own b (μ ((S L).word c)) → Memᴰ c b.inputs
  now-marks (now-goes h way settled clean soon) c m o = absurd (clean c m o)
  now-marks {b = b} {i} (now-alt h (alt-goes w tied way) soon) c m o =
      way-holds (S L) (λ ν. Own b (ν ((S L).word c)) → Memᴰ c b.inputs)
      (λ ν v z s k o. k
      (subst (Own b) (sym (upd_other ν v z ((S L).word c) (λ e. absurd (omega (arith, s.0.no-chan c m, e))))) o))
      (λ h ν j r p o. point-marks i c m o h j r p.0) (λ ν z. absurd z) way o

  -- a first branch and those that it has still to start have not come to an ALT
  pub starts-off : {s : World} {st : State} {μ : Mem} {t : Tree (S L) (root L) st.process} {path : List ℕ} {q : Process} {b : Part}
      {i : Info} → LeafAt L st t path q b i → (B : StartsLeft) → NowStarts L s st μ t path q b i B
      → {other : List ℕ} {p : Process} {a : Part} {j : Info} → LeafAt L st t other p a j → Starting path B other → is_alt p ≡ false
  unfolding how_many
  starts-off leaf B now k (inl e) =
      same-leaf L (λ z a (j : Info). is_alt z ≡ false) e leaf k (elim now.own [ comes sk settled sub way ↦ skips-off sk settled ])
  starts-off leaf B now k (inr (not-started n l e)) = elim (later-found (stmt B.s B.ss) B.d B.b n (omega arith)) [
    | nth {r} h ↦
        let next_start = now.all-to-start n r _ _ h in
        same-leaf L (λ z a (j : Info). is_alt z ≡ false) (sym e) next_start.leaf k
        (elim next_start.comes [ comes sk settled sub way ↦ skips-off sk settled ])
  ]

  module _ {s : World} {st : State} {μ : Mem} {t : Tree (S L) (root L) st.process} {path : List ℕ} {q : Process} {b : Part} {i : Info}
      {ws : List ℕ} (real : Real L s st μ ws) (run : (cpu_of s).running ≡ true) (leaf : LeafAt L st t path q b i) where
    pub runs-ground : Rest L st μ t (Only path) ws → Lined L st t (Only path) ws → Now L s st μ b i q → Ground s st μ t (Only path) ws
    runs-ground rest lines now =
        record {
          real = real;
          rest = rest;
          lined = lines;
          known = same-path path;
          silent = λ other c v k e o. now-silent now (some_same (sym leaf.found ∙ ap (λ z. look z st.process) o ∙ e));
          marks = λ other p a j k o c m n.
              same-leaf L (λ z a (j : Info). Memᴰ c a.inputs) o leaf k
              (now-marks now c (same-leaf L (λ z a (j : Info). Memᴰ c j.chans) (sym o) k leaf m)
              (same-leaf L (λ z a (j : Info). Own a (μ ((S L).word c))) (sym o) k leaf n));
          free = inl run;
          stays = λ u st' ν t' us same clock keeps f real' rest' lines'.
              let (leaf', intact) = keeps path q b i leaf refl in
              runs real' (same.run ∙ run) leaf' rest' lines'
              (now-stays same (part-high leaf) (sits-at L leaf) (λ w. onto_same (sym clock)) intact now);
        }

    -- no channel holds a name of the first branch or of those that it has still to start
    pub starts-unmarked : (B : StartsLeft) → NowStarts L s st μ t path q b i B → (other : List ℕ) (p : Process) (a : Part) (j : Info)
        → LeafAt L st t other p a j → Starting path B other → (c : Site) → Memᴰ c j.chans → Own a (μ ((S L).word c)) → ⊥
    unfolding how_many
    starts-unmarked B now other p a j k (inl e) c m o =
        now.unmarked c (same-leaf L (λ z a (j : Info). Memᴰ c j.chans) (sym e) k leaf m)
        (same-leaf L (λ z a (j : Info). Own a (μ ((S L).word c))) (sym e) k leaf o)
    starts-unmarked B now other p a j k (inr (not-started n l e)) c m o = elim
        (later-found (stmt B.s B.ss) B.d B.b n (omega arith)) [
          | nth {r} h ↦
              let next_start = now.all-to-start n r _ _ h in
              next_start.unmarked c (same-leaf L (λ z a (j : Info). Memᴰ c j.chans) e k next_start.leaf m)
              (same-leaf L (λ z a (j : Info). Own a (μ ((S L).word c))) e k next_start.leaf o)
        ]

    pub starts-ground : (B : StartsLeft) → Rest L st μ t (Starting path B) ws → Lined L st t (Starting path B) ws
        → NowStarts L s st μ t path q b i B
        → Ground s st μ t (Starting path B) ws
    unfolding how_many
    starts-ground B rest lines now =
        record {
          real = real;
          rest = rest;
          lined = lines;
          known = starting-known path B;
          silent = λ other c v k e o. ⊎_elim
              (λ p. elim now.own [
                | comes sk settled sub way ↦ skips-silent sk settled (some_same (sym leaf.found ∙ ap (λ z. look z st.process) p ∙ e))
              ]) (λ u. not-started-silent other c v k e u) o;
          marks = λ other p a j k o c m n. absurd (starts-unmarked B now other p a j k o c m n);
          free = inl run;
          stays = λ u st' ν t' us same clock keeps f real' rest' lines'.
              starts B real' (same.run ∙ run) (keeps path q b i leaf (inl refl)).0 rest' lines' (starts-stays same leaf keeps now);
        }
      where
        not-started-silent : (other : List ℕ) (c : Site) (v : ℕ) (k : List Frame) → look other st.process ≡ some (at_output c v k)
            → NotStarted B other → ⊥
        not-started-silent other c v k e (not-started n l p) = elim (later-found (stmt B.s B.ss) B.d B.b n (omega arith)) [
          | nth {r} h ↦
              silent-begin r [] (some_same (sym (now.all-to-start n r _ _ h).leaf.found ∙ ap (λ z. look z st.process) (sym p) ∙ e))
        ]

  -- nobody is queued
  pub none-lined : {st : State} {t : Tree (S L) (root L) st.process} {Out : List ℕ → Type 0} → Lined L st t Out []
  none-lined = record { each = λ w m. absurd (Memᴰ.not-nil m); once = apart_none }

  pub idle-ground : {s : World} {st : State} {μ : Mem} {t : Tree (S L) (root L) st.process} → Real L s st μ [] → (cpu_of s).running ≡ false
      → (cpu_of s).operand ≡ 0 → Rest L st μ t Nobody [] → Ground s st μ t Nobody []
  idle-ground real stop operand rest =
      record {
        real = real;
        rest = rest;
        lined = none-lined;
        known = λ other. inr (λ o. o);
        silent = λ other c v k e o. o;
        marks = λ other p a j k o c m n. absurd o;
        free = inr (record { stopped = stop; operand = operand; nobody = λ other o. o; unqueued = refl });
        stays = λ u st' ν t' us same clock keeps f real' rest' lines'.
            idle (subst (λ l. Real L u st' ν l) (f stop) real') (same.run ∙ stop) (same.operand ∙ operand)
            (subst (λ l. Rest L st' ν t' Nobody l) (f stop) rest');
      }
