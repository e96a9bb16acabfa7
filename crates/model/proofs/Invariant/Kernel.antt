-- The machine and the processes of an Occam run: whose words hold what, who is queued, and what the outside offers.
use Prim.Native.Nat.{ℕ, ◌+◌, ◌^◌, ◌≤◌, ◌<◌}
use native.Mathlib.Omega.{arith}
use mathlib.Core.Path.{◌≡◌, refl, sym, ◌∙◌, subst}
use mathlib.Core.Logic.{◌⊎◌, ⊎_elim}
use mathlib.Core.Bool.{true, false, cond}
use mathlib.Core.List.Memᴰ
use mathlib.Core.List.{List, [], Memᴰ}
use mathlib.Core.Option.{Option, none, some}
use lib.ListN.{length, get_or}
use Rattle.model.specs.Word.{not_process}
use Rattle.model.specs.Limits.{code_limit, word_limit}
use Rattle.model.specs.Syntax.{Site, input_of, output_of, Program, Guards, timed}
use Rattle.model.specs.Counts.{processes}
use Rattle.model.specs.Accept.{limit, memory_words}
use Rattle.model.specs.Layout.{base, word_of}
use Rattle.model.specs.Code.{Realises}
use Rattle.model.specs.Scheme.{scheme}
use Rattle.model.specs.Machine.{World, memory_size, time_word, time_link_word}
use Rattle.model.specs.Occam.{Frame, Process, in_par, Branches, frames_of, look, State, at_wait, now, at_alt}
use Rattle.model.specs.Demand.{live_in}
use Rattle.model.specs.declared.Setup.{Setup}
use Rattle.model.specs.declared.Timer.{Timer}
use Rattle.std.specs.Prelude.{None}
use Rattle.model.proofs.Words.Times.{Near}
use Rattle.model.proofs.Quiet.Ways.{Mem, front_word}
use Rattle.model.proofs.Quiet.Setting.{Setting}
use Rattle.model.proofs.Occam.Paths.{Leaf, left, is_alt}
use Rattle.model.proofs.Words.Parts.{Part, Within, Fine}
use Rattle.model.proofs.Words.FineParts.{whole_part, outside_names}
use Rattle.model.proofs.Quiet.Marks.{Own}
use Rattle.model.proofs.Invariant.Trees.{Label, alone, parted, Info, Tree, label_at, Sits, label-sits}
use Rattle.model.proofs.Invariant.Zones.{zone_of, zone-under}
use Rattle.model.proofs.Invariant.Leaves.{member, Held}
use Rattle.model.proofs.Effects.Queues.{Queue, Apart}
use Rattle.model.proofs.Effects.Timers.{Chain, Sorted, Once, ends, next}
use Rattle.model.proofs.Quiet.Timing.{Times, Linked}
use Rattle.model.proofs.Quiet.Names.{name-unset}

-- the last clock word that a machine was given, if one was
abbrev pub last_clock : Timer → Option ℕ
last_clock t = cond t.given (some t.clock) none

-- the clock is Occam's, a word that TIME reads as Occam's TIME does
pub record Timed (t : Timer) (clock : Option ℕ) : Type 0 where
  pub clock-same : last_clock t ≡ clock
  pub clock-read : t.clock ≡ elim clock [ none ↦ 0 | some c ↦ c ]
  pub clock-word : t.clock < 2 ^ 32

-- a program whose code is in a machine: the code realises the scheme, and both are small enough
pub record Loaded : Type 1 where
  pub prog : Program
  pub code : List ℕ
  pub off : ℕ → ℕ
  pub realises : Realises code (scheme prog) off
  pub rises : (i k : ℕ) → i < k → k ≤ length (scheme prog) → off i < off k
  pub slice : ℕ
  -- what is known of a process in the timer queue: its workspace, its time, and the clock
  pub sleeps : (w t clock : ℕ) → Type 0
  -- what is known of the time of a true time guard, and whether times are known to be near the clock: then the timer queue is in their
  -- order
  pub times : Times
  pub sleeps-near : times.sure → (w t clock : ℕ) → sleeps w t clock → Near clock t
  pub guarded-near : times.sure → (w t clock : ℕ) → times.guarded w t clock → Near clock t
  pub fine : Fine (word_of prog) (whole_part prog) [] (outside_names prog) (base prog) prog.body
  pub code-small : length code ≤ code_limit
  pub words_small : memory_words prog ≤ word_limit
  pub few-inputs : prog.inputs ≤ 8
  pub few : processes prog.body ≤ limit
  -- no output to an outside input
  pub one_way : (l : ℕ) → Memᴰ (input_of l) (whole_part prog).outputs → ⊥
  -- no input from an outside output
  pub no_return : (l : ℕ) → Memᴰ (output_of l) (whole_part prog).inputs → ⊥

-- a lemma of the program alone, so that settings are the same whatever is known of processes that wait for the clock
pub base-small : (p : Program) → memory_words p ≤ word_limit → base p ≤ word_limit
base-small p h = omega arith

module _ (L : Loaded) where
  -- its instructions, their places, and the words of names
  abbrev pub S : Setting
  S =
      record {
        xs = scheme L.prog;
        off = L.off;
        word = word_of L.prog;
        top = base L.prog;
        top_small = base-small L.prog L.words_small;
        rises = L.rises;
      }

  -- the whole program as a part
  abbrev pub root : Part
  root = whole_part L.prog

  -- what a start fixes
  abbrev pub setup : Setup
  setup =
      record {
        code = length L.code;
        base = base L.prog;
        inputs = L.prog.inputs;
        outputs = L.prog.outputs;
        slice = L.slice;
      }

  -- the machine's memory
  abbrev pub size : ℕ
  size = memory_size setup

  -- a process is found at a path, and what is known of it
  pub record LeafAt (st : State) (t : Tree S root st.process) (path : List ℕ) (q : Process) (b : Part) (i : Info) : Type 0 where
    pub found : look path st.process ≡ some q
    pub leaf : Leaf q
    pub label : label_at S t path ≡ some (alone b i)

  -- a process or a PAR
  pub record NodeAt (st : State) (t : Tree S root st.process) (path : List ℕ) (l : Label) : Type 0 where
    pub label : label_at S t path ≡ some l

  -- a channel word's holder: a process for which the channel is in scope
  pub data Owned (st : State) (t : Tree S root st.process) (c : Site) (n : ℕ) : Type 0 where
    owned : {path : List ℕ} {q : Process} {b : Part} {i : Info} → LeafAt st t path q b i → Memᴰ c i.chans → Own b n → Owned st t c n

  -- a process that may be in the timer queue: one that waits for the clock and is not left out, or has come to an ALT with a time guard
  pub data Dozer (Out : List ℕ → Type 0) (path : List ℕ) : Process → Type 0 where
    at-wait : {tm : ℕ} {k : List Frame} → (Out path → ⊥) → Dozer Out path (at_wait tm k)
    in-alt : {gs : Guards} {k : List Frame} → timed gs ≡ true → Dozer Out path (at_alt gs k)

  -- such a process, with room for its two words
  pub data Sleeper (st : State) (t : Tree S root st.process) (Out : List ℕ → Type 0) (w : ℕ) : Type 0 where
    sleeper : {path : List ℕ} {q : Process} {b : Part} {i : Info} → LeafAt st t path q b i → i.w ≡ w → b.bottom + 5 ≤ i.w
        → Dozer Out path q → Sleeper st t Out w

  -- the timer queue: all that wait for the clock, and the ALTs whose words say so, each once, in the order of their times
  pub record Sleepers (st : State) (μ : Mem) (t : Tree S root st.process) (Out : List ℕ → Type 0) : Type 0 where
    pub asleep : List ℕ
    pub chain : Chain μ front_word asleep
    pub sorted : L.times.sure → Sorted (now st) μ asleep
    pub once : Once asleep
    pub each : (w : ℕ) → Memᴰ w asleep → Sleeper st t Out w
    pub known : (w : ℕ) → Memᴰ w asleep → (μ (time_word w) < 2 ^ 32) × L.sleeps w (μ (time_word w)) (now st)
    pub all : {path : List ℕ} {q : Process} {b : Part} {i : Info} → LeafAt st t path q b i → b.bottom + 5 ≤ i.w → Dozer Out path q
        → (is_alt q ≡ true → Linked μ i.w) → Memᴰ i.w asleep

  -- what all words hold, where the processes at some paths (`Out`) are left out. `ws` are the workspaces that are queued, `Queue` is what
  -- is known of the timer queue
  pub record Holds (st : State) (μ : Mem) (t : Tree S root st.process) (Out : List ℕ → Type 0) (ws : List ℕ) (Queue : Type 0)
      : Type 0 where
    -- variables in scope are words, and stand in their words
    pub vars : {path : List ℕ} {l : Label} → NodeAt st t path l → (x : Site) → Memᴰ x (zone_of l).vars
        → (st.store x ≡ μ (S.word x)) × (st.store x < 2 ^ 32)
    -- a channel in scope is empty, or some process waits at it
    pub chans : {path : List ℕ} {l : Label} → NodeAt st t path l → (c : Site) → Memᴰ c (zone_of l).chans
        → (μ (S.word c) ≡ not_process) ⊎ Owned st t c (μ (S.word c))
    -- live variables are in scope
    pub live : {path : List ℕ} {q : Process} {b : Part} {i : Info} → LeafAt st t path q b i → Within (live_in (frames_of q)) i.vars
    pub leaf : {path : List ℕ} {q : Process} {b : Part} {i : Info} → LeafAt st t path q b i → (Out path → ⊥)
        → Held S L.times b i st μ (member i.w ws) q
    -- a PAR's words: where it goes on, and how many branches are not over
    pub par : {path : List ℕ} {bs : Branches} {k : List Frame} {a : Part} {vs cs : List Site} {w onward : ℕ}
        → look path st.process ≡ some (in_par bs k) → NodeAt st t path (parted a vs cs w onward)
        → (μ w ≡ S.off onward) × (μ (w + 1) ≡ left bs)
    pub sleepers : Queue

  abbrev pub Rest : (st : State) → Mem → (t : Tree S root st.process) → (Out : List ℕ → Type 0) → (ws : List ℕ) → Type 0
  Rest st μ t Out ws = Holds st μ t Out ws (Sleepers st μ t Out)

  -- the timer queue apart
  abbrev pub Plain : (st : State) → Mem → (t : Tree S root st.process) → (Out : List ℕ → Type 0) → (ws : List ℕ) → Type 0
  Plain st μ t Out ws = Holds st μ t Out ws (Unit {0})

  pub plain_of : {st : State} {μ : Mem} {t : Tree S root st.process} {Out : List ℕ → Type 0} {ws : List ℕ} → Rest st μ t Out ws
      → Plain st μ t Out ws
  plain_of h = record { vars = h.vars; chans = h.chans; live = h.live; leaf = h.leaf; par = h.par; sleepers = tt }

  abbrev pub rest_of : {st : State} {μ : Mem} {t : Tree S root st.process} {Out : List ℕ → Type 0} {ws : List ℕ} → Plain st μ t Out ws
      → Sleepers st μ t Out → Rest st μ t Out ws
  rest_of h z = record { vars = h.vars; chans = h.chans; live = h.live; leaf = h.leaf; par = h.par; sleepers = z }

  -- the process whose workspace is queued
  pub data Whose (st : State) (t : Tree S root st.process) (Out : List ℕ → Type 0) (w : ℕ) : Type 0 where
    whose : {path : List ℕ} {q : Process} {b : Part} {i : Info} → LeafAt st t path q b i → i.w ≡ w → (Out path → ⊥) → Whose st t Out w

  -- each workspace that is queued is a process's, and none is queued twice
  pub record Lined (st : State) (t : Tree S root st.process) (Out : List ℕ → Type 0) (ws : List ℕ) : Type 0 where
    pub each : (w : ℕ) → Memᴰ w ws → Whose st t Out w
    pub once : Apart ws

  -- an outside input: nothing is offered, or the machine holds what is
  pub data Offer (s : World) (st : State) (k : ℕ) : Type 0 where
    no-offer : get_or s.machine.held k false ≡ false → st.offers k ≡ none → Offer s st k
    held-offer : (v : ℕ) → v < 2 ^ 32 → get_or s.machine.held k false ≡ true → get_or s.machine.offers k 0 ≡ v → st.offers k ≡ some v
        → Offer s st k

  -- the machine shows it
  pub record Real (s : World) (st : State) (μ : Mem) (ws : List ℕ) : Type 0 where
    pub setup-kept : s.machine.setup ≡ setup
    pub no-fault : s.machine.fault ≡ None
    pub room : size ≤ length s.memory
    pub mirror : (v : ℕ) → v < size → get_or s.memory v 0 ≡ μ v
    pub queue : Queue s ws
    pub eight : (length s.machine.offers ≡ 8) × (length s.machine.held ≡ 8)
    pub offers : (k : ℕ) → k < L.prog.inputs → Offer s st k
    pub beyond : (k : ℕ) → L.prog.inputs ≤ k → st.offers k ≡ none
    pub timed : Timed s.machine.timer st.clock
    pub front : s.machine.timer.front ≡ μ front_word

  -- a process is a node
  pub node : {st : State} {t : Tree S root st.process} {path : List ℕ} {q : Process} {b : Part} {i : Info}
      → LeafAt st t path q b i
      → NodeAt st t path (alone b i)
  node h = record { label = h.label }

  -- parts are below the program's workspace
  pub part_small : {st : State} {t : Tree S root st.process} {path : List ℕ} {q : Process} {b : Part} {i : Info}
      → LeafAt st t path q b i → b.top ≤ S.top
  part_small {t = t} {path} h = (zone-under S t path h.label).below

  pub sits-at : {st : State} {t : Tree S root st.process} {path : List ℕ} {q : Process} {b : Part} {i : Info}
      → LeafAt st t path q b i → Sits S b i
  sits-at {t = t} {path} h = label-sits S t path h.label

  -- a process that is not in the timer queue, if it has come to an ALT with a time guard
  abbrev pub Unlinked : Process → Mem → (w : ℕ) → Type 0
  Unlinked q μ w = is_alt q ≡ true → Linked μ w → ⊥

  -- who may be in the timer queue where others are left out
  pub dozer-out : {Out Out' : List ℕ → Type 0} {path : List ℕ} {q : Process}
      → ((tm : ℕ) (k : List Frame) → q ≡ at_wait tm k → (Out path → ⊥) → Out' path → ⊥) → Dozer Out path q → Dozer Out' path q
  dozer-out f (at-wait {tm} {k} n) = at-wait (f tm k refl n)
  dozer-out f (in-alt t) = in-alt t

  -- the link word of a process in the timer queue is a name, or none
  chain-linked : {μ : Mem} {a : ℕ} {ts : List ℕ} → Chain μ a ts → ((v : ℕ) → Memᴰ v ts → v ≤ word_limit) → (w : ℕ) → Memᴰ w ts
      → Linked μ w
  chain-linked (ends z) small w m = elim m [ ]
  chain-linked {μ} {a} (next e c) small w m =
      ⊎_elim (λ f. subst (Linked μ) (sym f) (by _ c (λ v n. small v (Memᴰ.tail n))))
      (λ n. chain-linked c (λ v k. small v (Memᴰ.tail k)) w n) (Memᴰ.cases_cons m)
    where
      by : (v : ℕ) {ts : List ℕ} → Chain μ (time_link_word v) ts → ((u : ℕ) → Memᴰ u ts → u ≤ word_limit) → Linked μ v
      by v (ends z) small = ((λ f. absurd (omega (arith, z, f))), (λ f. absurd (omega (arith, z, f))))
      by v (next {w = u} z d) small =
          let low = small u (Memᴰ.head refl) in
          let (a, b) = name-unset u low in
          ((λ f. a (sym z ∙ f)), (λ f. b (sym z ∙ f)))

  pub linked-in : {st : State} {μ : Mem} {t : Tree S root st.process} {Out : List ℕ → Type 0} {ws : List ℕ} (h : Rest st μ t Out ws)
      (w : ℕ) → Memᴰ w h.sleepers.asleep → Linked μ w
  linked-in h w m =
      chain-linked h.sleepers.chain
      (λ v n. elim (h.sleepers.each v n) [
        | sleeper l e a d ↦ omega (arith, e, (sits-at l).placed.low, part_small l, base-small L.prog L.words_small)
      ]) w m
