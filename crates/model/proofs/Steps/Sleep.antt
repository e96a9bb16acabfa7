-- A process goes into the timer queue: the machine's walk finds its place, and what words hold then.
use Prim.Native.Nat.{ℕ, suc, ◌+◌, ◌^◌, ◌≤◌, ◌<◌}
use native.Mathlib.Omega.{arith}
use mathlib.Core.Path.{◌≡◌, refl, sym, ap, ◌∙◌, subst}
use mathlib.Core.Logic.{◌≢◌, ◌⊎◌, inl, inr, ⊎_elim}
use mathlib.Core.List.{List, [], Memᴰ}
use mathlib.Core.Option.{Option, none, some}
use Rattle.model.specs.Machine.{World, done, with_timer, link_word, time_link_word, time_word, name_of, space_of, release}
use Rattle.model.specs.Timer.{Stop, along, is_later, walk, link, sleep}
use Rattle.model.specs.Occam.{Process, State, now, Step}
use Rattle.model.proofs.Cases.{never}
use Rattle.model.proofs.Quiet.Ways.{Mem, front_word, upd, upd_same, upd_other}
use Rattle.model.proofs.Words.Parts.{Part}
use Rattle.model.proofs.Invariant.Trees.{Info, Tree}
use Rattle.model.proofs.Effects.OneWord.{cpu_of, size_of, stored, poke-in}
use Rattle.model.proofs.Effects.Queues.{queue-same}
use Rattle.model.proofs.Effects.Walking.{link_of, along-in, stop_in, inserted_in, Walk}
use Rattle.model.proofs.Invariant.Kernel.{Loaded, S, root, size, LeafAt, Rest, Lined, Real, part_small, sits-at, Dozer}
use Rattle.model.proofs.Invariant.Grounds.{small_size}
use Rattle.model.proofs.Invariant.Running.{Only, Nobody, Did}
use Rattle.model.proofs.Invariant.Reals.{size_is, real-stored, link-any, offer-world}
use Rattle.model.proofs.Invariant.Writes.{time-words}
use Rattle.model.proofs.Invariant.Few.{few-asleep}
use Rattle.model.proofs.Invariant.Sleeping.{Spot, at_front, behind, fits, spot, own-stays, chan-stays, linked-then, rest-asleep}
use Rattle.model.proofs.Quiet.Timing.{Linked}
use Rattle.model.specs.Syntax.{Site}
use Rattle.model.specs.declared.Cpu.{Cpu}
use mathlib.Core.Bool.{false}
use Rattle.model.proofs.Invariant.Leaves.{Held}
use Rattle.model.proofs.Invariant.Moving.{lined-in, unqueued}
use Rattle.model.proofs.Invariant.Scheduling.{lets_go}
use Rattle.model.proofs.Invariant.Finish.{step-lets-go, silent}

-- what a link leaves
abbrev pub linked_to : Option ℕ → ℕ → World → World
linked_to none p s = with_timer (record { clock = s.machine.timer.clock; given = s.machine.timer.given; front = p }) s
linked_to (some b) p s = stored (time_link_word (space_of b)) p s

pub linked-cpu : (b : Option ℕ) (p : ℕ) (s : World) → cpu_of (linked_to b p s) ≡ cpu_of s
linked-cpu none p s = refl
linked-cpu (some v) p s = refl

pub linked-talk : (b : Option ℕ) (p : ℕ) (s : World) → (linked_to b p s).talk ≡ s.talk
linked-talk none p s = refl
linked-talk (some v) p s = refl

pub link-in : (b : Option ℕ) (p : ℕ) (s : World) → ((v : ℕ) → b ≡ some v → time_link_word (space_of v) < size_of s)
    → link b p s ≡ done tt (linked_to b p s)
link-in none p s h = refl
link-in (some v) p s h = poke-in (time_link_word (space_of v)) p s (h v refl)

module _ (L : Loaded) {st : State} {t : Tree (S L) (root L) st.process} {Out : List ℕ → Type 0} {ws : List ℕ}
    (lines : Lined L st t Out ws) {κ : Mem} where
  -- a word that links the timer queue is its front, or a word of memory that does not link the queue
  links-time : {v : ℕ} → Spot L st t Out κ v → (v ≡ front_word) ⊎ ((v < size L) × ((w : ℕ) → Memᴰ w ws → link_word w ≢ v))
  links-time at_front = inl refl
  links-time (behind {i = i} l space d z) =
      let words = time-words L l space in
      let low = (sits-at L l).placed.low in
      let small = part_small L l in
      inr (
        omega (arith, words.1),
        link-any L lines l (time_link_word i.w) words.0 words.1 (λ e. absurd (omega (arith, e, space, (S L).top_small))),
      )

  -- the machine shows the link
  pub real-linked : {s : World} {μ : Mem} (z : ℕ) (b : Option ℕ) → Spot L st t Out κ (link_of b) → Real L s st μ ws
      → Real L (linked_to b z s) st (upd μ (link_of b) z) ws
  real-linked {s} {μ} z none spot real =
      record {
        setup-kept = real.setup-kept;
        no-fault = real.no-fault;
        room = real.room;
        mirror = λ v l. real.mirror v l ∙ sym (upd_other μ front_word z v (λ e. absurd (omega (arith, e, l, small_size L))));
        queue = queue-same (linked_to none z s) refl refl refl (λ w m. refl) real.queue;
        eight = real.eight;
        offers = λ n h. offer-world L refl refl (real.offers n h);
        beyond = real.beyond;
        timed = record {
          clock-same = real.timed.clock-same;
          clock-read = real.timed.clock-read;
          clock-word = real.timed.clock-word;
        };
        front = sym (upd_same μ front_word z);
      }
  real-linked z (some v) spot real =
      ⊎_elim (λ e. absurd (omega (arith, e))) (λ (inside, off). real-stored L (time_link_word (space_of v)) z inside off real)
      (links-time spot)

  -- the place where the queue is joined is a word of memory where it is not the front
  pub link-inside : (b : Option ℕ) → Spot L st t Out κ (link_of b) → (v : ℕ) → b ≡ some v → time_link_word (space_of v) < size L
  link-inside none spot v e = never (cc)
  link-inside (some u) spot v e =
      let same : u ≡ v = cc in
      subst (λ z. time_link_word (space_of z) < size L) same
      (⊎_elim (λ e. absurd (omega (arith, e))) (λ (inside, off). inside) (links-time spot))

-- the world in which the process at work is in the queue
abbrev pub queued_at : Stop → World → World
queued_at p s =
    let w = (cpu_of s).workspace in linked_to p.before (name_of w) (stored (time_link_word w) p.at s)

sleep-in : (t : ℕ) (p : Stop) (s : World) → time_link_word (cpu_of s).workspace < size_of s
    → along (suc (size_of s)) (is_later t) s.machine.timer.front [] none s.machine.timer.front s ≡ done p s
    → ((v : ℕ) → p.before ≡ some v → time_link_word (space_of v) < size_of s) → sleep t s ≡ done tt (queued_at p s)
unfolding sleep walk
sleep-in t p s inside found links =
    let w = (cpu_of s).workspace in
    rw (
      found,
      poke-in (time_link_word w) p.at s inside,
      link-in p.before (name_of w) (stored (time_link_word w) p.at s) links,
    )

-- the timer queue is one to walk along
pub walk_of : (L : Loaded) {s : World} {st : State} {μ : Mem} {t : Tree (S L) (root L) st.process} {Out : List ℕ → Type 0} {ws : List ℕ}
    → Real L s st μ ws → (rest : Rest L st μ t Out ws) → Walk s μ rest.sleepers.asleep
walk_of L real rest =
    record {
      mirror = λ v l. real.mirror v (omega (arith, l, size_is L real));
      fit = λ v m. rw (size_is L real) (fits L rest v m);
      once = rest.sleepers.once;
    }

-- a process at work that is to join the timer queue: its time is in its word, and it is not there yet
pub record Joining (L : Loaded) (s : World) (st : State) (μ : Mem) (t : Tree (S L) (root L) st.process) (path : List ℕ) (q : Process)
    (b : Part) (i : Info) (ws : List ℕ) : Type 0 where
  pub real : Real L s st μ ws
  pub rest : Rest L st μ t (Only path) ws
  pub lines : Lined L st t (Only path) ws
  pub leaf : LeafAt L st t path q b i
  pub work : (cpu_of s).workspace ≡ i.w
  pub room : b.bottom + 5 ≤ i.w
  pub absent : (v : ℕ) → Memᴰ v rest.sleepers.asleep → i.w ≢ v
  pub tm : ℕ
  pub time-is : μ (time_word i.w) ≡ tm
  pub small : tm < 2 ^ 32
  pub knows : L.sleeps i.w tm (now st)

module _ (L : Loaded) {s : World} {st : State} {μ : Mem} {t : Tree (S L) (root L) st.process} {path : List ℕ} {q : Process} {b : Part}
    {i : Info} {ws : List ℕ} (J : Joining L s st μ t path q b i ws) where
  clock-small : now st < 2 ^ 32
  clock-small = omega (arith, J.real.timed.clock-read, J.real.timed.clock-word)

  -- where it has its place
  abbrev pub stop : Stop
  stop = stop_in μ J.tm none J.rest.sleepers.asleep

  -- the words then
  abbrev pub joined : Mem
  joined = inserted_in i.w stop μ

  -- the word that leads to it then
  link_at : Spot L st t (Only path) μ (link_of stop.before)
  link_at = spot L J.rest J.leaf refl J.room J.absent J.tm J.time-is J.small J.knows clock-small

  own-link : time_link_word i.w < size L
  own-link = omega (arith, (time-words L J.leaf J.room).1, part_small L J.leaf)

  -- the walk finds that place
  walked : along (suc (size_of s)) (is_later J.tm) s.machine.timer.front [] none s.machine.timer.front s ≡ done stop s
  walked =
      let front = s.machine.timer.front in
      along-in (suc (size_of s)) J.tm front none J.rest.sleepers.asleep s μ front_word front J.real.front
      J.rest.sleepers.chain (walk_of L J.real J.rest) (omega (arith, few-asleep L J.rest, size_is L J.real))

  pub sleeps-in : sleep J.tm s ≡ done tt (queued_at stop s)
  sleeps-in =
      sleep-in J.tm stop s (rw (size_is L J.real, J.work) own-link) walked
      (λ u q. rw (size_is L J.real) (link-inside L J.lines stop.before link_at u q))

  pub real-joined : Real L (queued_at stop s) st joined ws
  real-joined =
      let low = (sits-at L J.leaf).placed.low in
      subst (λ w. Real L (linked_to stop.before (name_of w) (stored (time_link_word w) stop.at s)) st joined ws) (sym J.work)
      (real-linked L J.lines (name_of i.w) stop.before link_at
      (real-stored L (time_link_word i.w) stop.at own-link
      (link-any L J.lines J.leaf (time_link_word i.w) (time-words L J.leaf J.room).0 (time-words L J.leaf J.room).1
      (λ e. absurd (omega (arith, e, J.room, low, part_small L J.leaf, (S L).top_small)))) J.real))

  -- its words stay but its link, and the words of its channels
  pub own-joined : (v : ℕ) → b.bottom ≤ v → v < b.top → v ≢ time_link_word i.w → joined v ≡ μ v
  own-joined =
      own-stays L J.rest J.leaf refl J.room J.absent J.tm J.time-is J.small J.knows clock-small

  pub chan-joined : (c : Site) → Memᴰ c i.chans → joined ((S L).word c) ≡ μ ((S L).word c)
  chan-joined =
      chan-stays L J.rest J.leaf refl J.room J.absent J.tm J.time-is J.small J.knows clock-small

  pub link-joined : Linked joined i.w
  link-joined =
      linked-then L J.rest J.leaf refl J.room J.absent J.tm J.time-is J.small J.knows clock-small

  -- it leaves the processor
  module _ (dozes : Dozer L Nobody path q) (held : Held (S L) L.times b i st joined false q) where
    rest-joined : Rest L st joined t Nobody ws
    rest-joined =
        rest-asleep L J.rest J.leaf refl J.room J.absent J.tm J.time-is J.small J.knows clock-small
        {Out' = Nobody} dozes (λ other d e. absurd (d e)) (λ other o. absurd o)
        (λ o. subst (λ f. Held (S L) L.times b i st joined f q) (sym (unqueued L {Out = Only path} J.leaf refl J.lines)) held)

    pub joins : {did : World → Type 0} {s₀ : World} {st₀ : State} {n₀ : ℕ} → (cpu_of s).operand ≡ 0 → Step st₀ [] st
        → ((v : World) → release (queued_at stop s) ≡ done tt v → did v) → s.talk ≡ s₀.talk
        → Did L did s₀ st₀ n₀
    joins {s₀ = s₀} operand coming ran talk =
        step-lets-go L coming (λ v e z. ran v e)
        (silent L s₀ (queued_at stop s) (linked-talk stop.before (name_of (cpu_of s).workspace) _ ∙ talk))
        (lets_go L {s = queued_at stop s}
        (ap (λ (r : Cpu). r.operand) (linked-cpu stop.before (name_of (cpu_of s).workspace) _) ∙ operand) real-joined rest-joined
        (lined-in L (λ other o. absurd o) J.lines))
