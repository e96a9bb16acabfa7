-- Processes that meet at a channel: the one that waited is woken.
use Prim.Native.Nat.{ℕ, ◌≤◌, ◌<◌}
use native.Mathlib.Omega.{arith}
use mathlib.Core.Path.{◌≡◌, refl, sym, ◌∙◌, subst}
use mathlib.Core.Logic.{◌≢◌, ◌⊎◌, inl, inr, ⊎_elim}
use mathlib.Core.Bool.{true, false}
use mathlib.Core.List.{List, Memᴰ}
use Rattle.model.specs.Word.{not_process}
use Rattle.model.specs.Limits.{word_limit}
use Rattle.model.specs.Syntax.{Site}
use Rattle.model.specs.Machine.{World, resume_word}
use Rattle.model.specs.Occam.{Frame, Process, at_output, frames_of, put, resume, State}
use Rattle.model.specs.Demand.{live_in}
use Rattle.model.proofs.Cases.{never}
use Rattle.model.proofs.Quiet.Names.{none-high}
use Rattle.model.proofs.Quiet.Ways.{upd_other, upd, Mem}
use Rattle.model.proofs.Quiet.Setting.{Setting}
use Rattle.model.proofs.Occam.Paths.{leaf-resume, live-resume, silent-resume, is_alt, off-resume}
use Rattle.model.proofs.Quiet.Timing.{Times}
use Rattle.model.proofs.Words.Parts.{Part}
use Rattle.model.proofs.Quiet.Continuations.{Placed, cont-inside}
use Rattle.model.proofs.Quiet.Marks.{Own}
use Rattle.model.proofs.Quiet.Arrivals.{Sound, arrives}
use Rattle.model.proofs.Invariant.Trees.{Info, Tree}
use Rattle.model.proofs.Invariant.Leaves.{Unmarked, Waits, Held, h-queued}
use Rattle.model.proofs.Invariant.Kernel.{Loaded, S, root, LeafAt, owned, Rest, Lined, Real, node, part_small, sits-at}
use Rattle.model.proofs.Invariant.Writes.{apart_parts, own-one, write-own, write-chan, left_out, Calm}
use Rattle.model.proofs.Invariant.Puts.{putting, tree_then, here-then, lined_then, rest_then}
use Rattle.model.proofs.Invariant.Grounds.{small_size, sound-at}
use Rattle.model.proofs.Invariant.Running.{Only}
use Rattle.model.proofs.Invariant.Reals.{real-stored, real-state, link-own}
use Rattle.model.proofs.Invariant.Scheduling.{Woken, wakes}
use Rattle.model.proofs.Effects.OneWord.{stored}

-- two processes are left out
abbrev pub Both : List ℕ → List ℕ → List ℕ → Type 0
Both path other here = (path ≡ here) ⊎ (other ≡ here)

-- NotProcess is no workspace
pub not_own : (b : Part) → b.top ≤ word_limit → Own b not_process → ⊥
not_own b h o = absurd (omega (arith, o.below, none-high))

-- a process that waited goes on, once its channel's word is another
pub resumed : (S : Setting) {T : Times} (b : Part) (i : Info) {st st' : State} {μ ν : Mem} {c : Site}
    {k : List Frame} {at hi m : ℕ}
    → Waits S b i st μ c k at hi m → ν (resume_word i.w) ≡ μ (resume_word i.w) → Unmarked S b i st' ν
    → Sound S b st'.store i.vars i.chans → Held S T b i st' ν true (resume k)
resumed S b i {st' = st'} w same clean sound =
    h-queued (arrives S b st'.store w.onward w.near sound)
    (record { place = same ∙ w.resumes.place; soon = w.resumes.soon }) (cont-inside S b w.onward) clean

module _ (L : Loaded) where
  -- a channel's word gets a name, or none, which was held by a process that is left out or by nobody
  module _ {st : State} {μ : Mem} {t : Tree (S L) (root L) st.process} {Out : List ℕ → Type 0} {ws : List ℕ}
      {path : List ℕ} {q : Process}
      {b : Part} {i : Info} (leaf : LeafAt L st t path q b i) (out : Out path) (rest : Rest L st μ t Out ws) where
    others-not : {other : List ℕ} {r : Process} {c : Part} {j : Info} → LeafAt L st t other r c j → (Out other → ⊥)
        → {n : ℕ} → Own b n → Own c n
        → ⊥
    others-not k n h o = own-one L (apart_parts L leaf k (λ p. n (subst Out p out))) h o

    small_top : {other : List ℕ} {r : Process} {c : Part} {j : Info} → LeafAt L st t other r c j → c.top ≤ word_limit
    small_top k = omega (arith, part_small L k, small_size L)

    -- what it held before is of nobody, or of this process
    pub clear-chan : (c : Site) → Memᴰ c i.chans → (μ ((S L).word c) ≡ not_process) ⊎ Own b (μ ((S L).word c))
        → Rest L st (upd μ ((S L).word c) not_process) t Out ws
    clear-chan c m old =
        write-chan L leaf rest c not_process m
        (λ other r d j k n. (
          (λ o. ⊎_elim (λ e. not_own d (small_top k) (subst (Own d) e o)) (λ h. others-not k n h o) old),
          (λ o. not_own d (small_top k) o),
        ))
        (inl refl) out

    -- its own name
    pub mark-chan : (c : Site) → Memᴰ c i.chans → (w : ℕ) → Own b w → μ ((S L).word c) ≡ not_process
        → Rest L st (upd μ ((S L).word c) w) t Out ws
    mark-chan c m w mine old =
        write-chan L leaf rest c w m
        (λ other r d j k n. ((λ o. not_own d (small_top k) (subst (Own d) old o)), (λ o. others-not k n mine o)))
        (inr (owned leaf m mine)) out

  -- names are above a workspace
  pub var-above : {b : Part} {w : ℕ} {vars chans : List Site} → Placed (S L) b w vars chans → (v : ℕ) → v < w
      → (x : Site) → Memᴰ x vars
      → (S L).word x ≢ v
  var-above placed v below x m e = absurd (omega (arith, placed.scoped.vars-above x m))

  pub chan-above : {b : Part} {w : ℕ} {vars chans : List Site} → Placed (S L) b w vars chans → (v : ℕ) → v < w
      → (c : Site) → Memᴰ c chans
      → (S L).word c ≢ v
  chan-above placed v below c m e = absurd (omega (arith, placed.scoped.chans-above c m))

  -- a word of a process's own below its workspace
  pub rest_below : {st : State} {μ : Mem} {t : Tree (S L) (root L) st.process} {Out : List ℕ → Type 0} {ws : List ℕ} {path : List ℕ}
      {q : Process} {b : Part} {i : Info} {w : ℕ} → LeafAt L st t path q b i → Out path → Placed (S L) b w i.vars i.chans → (v z : ℕ)
      → b.bottom ≤ v → v < w → Calm L q i v → Rest L st μ t Out ws → Rest L st (upd μ v z) t Out ws
  rest_below leaf out placed v z low below calm rest =
      write-own L leaf rest v z low (omega (arith, placed.low)) (var-above placed v below) (chan-above placed v below) (left_out out calm)

  pub real-below : {s : World} {st : State} {μ : Mem} {t : Tree (S L) (root L) st.process} {Out : List ℕ → Type 0} {ws : List ℕ}
      {path : List ℕ} {q : Process} {b : Part} {i : Info} {w : ℕ} → LeafAt L st t path q b i → Out path
      → Placed (S L) b w i.vars i.chans → (v z : ℕ) → b.bottom ≤ v → v < w → Lined L st t Out ws → Real L s st μ ws
      → Real L (stored v z s) st (upd μ v z) ws
  real-below leaf out placed v z low below lines real =
      real-stored L v z (omega (arith, placed.low, part_small L leaf)) (link-own L lines leaf out v low (omega (arith, placed.low))) real

  pub clean-below : {b : Part} {w : ℕ} (i : Info) (st st' : State) (μ : Mem) → Placed (S L) b w i.vars i.chans → (v z : ℕ) → v < w
      → Unmarked (S L) b i st μ → Unmarked (S L) b i st' (upd μ v z)
  clean-below {b} i st st' μ placed v z below clean c m o =
      clean c m (subst (Own b) (upd_other μ v z ((S L).word c) (chan-above placed v below c m)) o)

  -- the process that waited goes on and joins the queue, while another has the processor
  module _ {s : World} {st : State} {μ : Mem} {t : Tree (S L) (root L) st.process} {path other : List ℕ}
      {ws : List ℕ} {r : Process} {d : Part}
      {j : Info} (real : Real L s st μ ws) (rest : Rest L st μ t (Both path other) ws) (lines : Lined L st t (Both path other) ws)
      (leaf : LeafAt L st t other r d j) (apart : path ≢ other) {st₀ : State} {μ₀ : Mem}
      {c : Site} {k : List Frame}
      {at hi m : ℕ} (waits : Waits (S L) d j st₀ μ₀ c k at hi m) (same : μ (resume_word j.w) ≡ μ₀ (resume_word j.w))
      (frames : frames_of r ≡ k) (off : is_alt r ≡ false) (clean : Unmarked (S L) d j st μ)
      (lost : (a : Site) (v : ℕ) (l : List Frame) → r ≡ at_output a v l → (here : List ℕ) (p : Process) (e : Part) (n : Info)
      → LeafAt L st t here p e n → (Both path other here → ⊥) → Memᴰ a e.inputs → ⊥) where
    abbrev pub then : State
    then = putting other (resume k) st

    pub partner-rest : Rest L then μ (tree_then L leaf (resume k) (leaf-resume k) j (sits-at L leaf)) (Both path other) ws
    partner-rest =
        rest_then L leaf (resume k) (leaf-resume k) j (sits-at L leaf) rest (inr refl) (rest.vars (node L leaf))
        (rest.chans (node L leaf))
        (live-resume k j.vars (λ x m. rest.live leaf x (subst (λ z. Memᴰ x (live_in z)) (sym frames) m))) (λ a m o. m) lost
        (λ a v l e here p q n y z m g o. silent-resume k e) (λ e. never (cc (e, off))) (λ e. never (cc (e, off-resume k)))

    pub partner-leaf : LeafAt L then (tree_then L leaf (resume k) (leaf-resume k) j (sits-at L leaf)) other (resume k) d j
    partner-leaf = here-then L leaf (resume k) (leaf-resume k) j (sits-at L leaf)

    pub partner-held : Held (S L) L.times d j then μ true (resume k)
    partner-held = resumed (S L) d j waits same clean (sound-at L partner-rest partner-leaf)

    pub partner-lines : Lined L then (tree_then L leaf (resume k) (leaf-resume k) j (sits-at L leaf)) (Both path other) ws
    partner-lines = lined_then L leaf (resume k) (leaf-resume k) j (sits-at L leaf) (inr refl) lines

    pub partner-real : Real L s then μ ws
    partner-real = real-state L (put other (resume k) st.process) st.store real

    pub partner-goes : Woken L s then μ (tree_then L leaf (resume k) (leaf-resume k) j (sits-at L leaf)) (Only path) j.w ws
    partner-goes =
        wakes L {Out' = Only path} partner-real partner-rest partner-lines partner-leaf (inr refl) partner-held
        (λ here n o. ⊎_elim (λ e. e) (λ e. absurd (n e)) o) (λ here e. inl e) (λ e. apart e)
