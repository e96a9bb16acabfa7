-- A process takes a step and goes on: the names in scope may be others.
use Prim.Native.Nat.{ℕ, ◌+◌, ◌^◌, ◌≤◌, ◌<◌}
use native.Mathlib.Omega.{arith}
use mathlib.Core.Path.{◌≡◌, refl, sym, subst}
use mathlib.Core.Logic.{◌⊎◌}
use mathlib.Core.List.{List, ◌++◌, map, Memᴰ, []}
use Rattle.model.specs.Word.{not_process}
use Rattle.model.specs.Syntax.{Site}
use mathlib.Core.Bool.{false}
use Rattle.model.specs.Machine.{World, done, release}
use Rattle.model.specs.Occam.{Frame, Process, at_output, frames_of, put, State, Step}
use Rattle.model.specs.Demand.{live_in, talk_of}
use Rattle.model.proofs.Cases.{never}
use Rattle.model.proofs.Quiet.Ways.{Mem}
use Rattle.model.proofs.Quiet.Setting.{whole}
use Rattle.model.proofs.Occam.Paths.{Leaf, Awake, is_alt}
use Rattle.model.proofs.Words.Parts.{Part, Within}
use Rattle.model.proofs.Quiet.Continuations.{Placed}
use Rattle.model.proofs.Quiet.Arrivals.{Comes}
use Rattle.model.proofs.Invariant.Trees.{Info, Sits, Tree}
use Rattle.model.proofs.Invariant.Leaves.{Unmarked, Held}
use Rattle.model.proofs.Effects.OneWord.{cpu_of}
use Rattle.model.proofs.Invariant.Kernel.{Loaded, S, root, setup, LeafAt, Owned, Rest, Lined, Real, Unlinked}
use Rattle.model.proofs.Invariant.Puts.{putting, tree_then, here-then, lined_then, rest_then}
use Rattle.model.proofs.Invariant.Running.{Only, Nobody, Did}
use Rattle.model.proofs.Invariant.Reals.{real-state}
use Rattle.model.proofs.Invariant.Scheduling.{Stands, settle, lets_go}
use Rattle.model.proofs.Invariant.Finish.{step-settles, step-lets-go}
use Rattle.model.proofs.Invariant.Moving.{unqueued, rest_in, lined-in}

-- a process that sends nothing
abbrev pub Silent : Process → Type 0
Silent q = (c : Site) (v : ℕ) (k : List Frame) → q ≡ at_output c v k → ⊥

module _ (L : Loaded) {u : World} {st : State} {ν : Mem} {t : Tree (S L) (root L) st.process} {path : List ℕ} {q : Process} {b : Part}
    {i : Info} {ws : List ℕ} (real : Real L u st ν ws) (leaf : LeafAt L st t path q b i) (rest : Rest L st ν t (Only path) ws)
    (lines : Lined L st t (Only path) ws) (clean : Unmarked (S L) b i st ν) (no-sender : Silent q)
    (gone : Unlinked L q ν i.w) where
  -- it goes on as p, with these names in scope
  module _ (p : Process) (l : Leaf p) (j : Info) (placed : Placed (S L) b j.w j.vars j.chans) (few : j.left ≤ whole (S L))
      (vars-ok : (x : Site) → Memᴰ x j.vars → (st.store x ≡ ν ((S L).word x)) × (st.store x < 2 ^ 32))
      (chans-ok : (c : Site) → Memᴰ c j.chans → (ν ((S L).word c) ≡ not_process) ⊎ Owned L st t c (ν ((S L).word c)))
      (live-ok : Within (live_in (frames_of p)) j.vars) (silent : Silent p) (off : is_alt p ≡ false) where
    pub sits : Sits (S L) b j
    sits = record { placed = placed; few = few }

    pub goes-as : Rest L (putting path p st) ν (tree_then L leaf p l j sits) (Only path) ws
    goes-as =
        rest_then L leaf p l j sits rest refl vars-ok chans-ok live-ok (λ c m o. absurd (clean c m o))
        (λ c v k e other r d z y n m. no-sender c v k e) (λ c v k e other r d z y n m h o. silent c v k e)
        gone (λ e. never (cc (e, off)))

    -- by a step, to where its code leads it
    pub advances : {did : World → Type 0} {s : World} {st₀ : State} {nx hi n₀ : ℕ}
        → Step st₀ [] (putting path p st) → did u → u.talk ≡ s.talk ++ map (talk_of L.prog) [] → Stands L u j nx
        → Comes (S L) b st.store j.vars j.chans hi p nx j.w → Unmarked (S L) b j st ν → hi ≤ whole (S L) + L.off nx
        → Did L did s st₀ n₀
    advances one ran talk stands code unmarked near =
        step-settles L one ran talk
        (settle L (real-state L (put path p st.process) st.store real) (here-then L leaf p l j sits) goes-as
        (lined_then L leaf p l j sits refl lines) (whole (S L)) stands code unmarked near (omega arith))

-- a process takes a step to where it waits, and leaves the processor
module _ (L : Loaded) {u : World} {st : State} {ν : Mem} {t : Tree (S L) (root L) st.process} {path : List ℕ} {q : Process} {b : Part}
    {i : Info} {ws : List ℕ} (real : Real L u st ν ws) (leaf : LeafAt L st t path q b i) (lines : Lined L st t (Only path) ws)
    (p : Process) (l : Leaf p) (j : Info) (sits : Sits (S L) b j)
    (rest : Rest L (putting path p st) ν (tree_then L leaf p l j sits) (Only path) ws) where
  pub leaves-as : {did : World → Type 0} {s : World} {st₀ : State} {n₀ : ℕ} → Awake p
      → Held (S L) L.times b j (putting path p st) ν false p → (cpu_of u).operand ≡ 0 → Step st₀ [] (putting path p st)
      → ((v : World) → release u ≡ done tt v → v.machine.setup ≡ setup L → did v) → u.talk ≡ s.talk ++ map (talk_of L.prog) []
      → Did L did s st₀ n₀
  leaves-as awake held operand one ran talk =
      let here = here-then L leaf p l j sits in
      let lined = lined_then L leaf p l j sits refl lines in
      let unheld = unqueued L {Out = Only path} here refl lined in
      step-lets-go L one ran talk
      (lets_go L operand (real-state L (put path p st.process) st.store real)
      (rest_in L {Out' = Nobody} here (subst (λ f. Held (S L) L.times b j (putting path p st) ν f p) (sym unheld) held)
      (λ other d e. absurd (d e)) (λ other o. absurd o) awake rest)
      (lined-in L (λ other o. absurd o) lined))
