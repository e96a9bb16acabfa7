-- The machine's words and registers change as the invariant's do.
use Prim.Native.Nat.{ℕ, ◌≤◌, ◌<◌}
use native.Mathlib.Omega.{arith}
use native.Mathlib.Decide.{ℕ_discrete}
use mathlib.Core.Path.{◌≡◌, refl, sym, ap, ◌∙◌, subst}
use mathlib.Core.Logic.{◌≢◌, ⊎_elim}
use mathlib.Core.Bool.{false, cond}
use mathlib.Core.List.{List, Memᴰ}
use mathlib.Core.Option.{Option, none}
use lib.ListN.{length, get_or, set, length-set}
use lib.Seq.{get_or-set_same, get_or-set_other}
use lib.Dec.{eqb}
use borrow.Author.Tests.{eq-eqb, ne_eqb}
use Rattle.model.specs.Syntax.{Site}
use Rattle.model.specs.Machine.{Talk, World, with_cpu, with_memory, with_offers, link_word, memory_size}
use Rattle.model.specs.Occam.{Store, Process, State}
use Rattle.model.specs.declared.Cpu.{Cpu}
use Rattle.model.proofs.Quiet.Ways.{upd_same, upd_other, upd, Mem, front_word}
use Rattle.model.proofs.Words.Parts.{Part}
use Rattle.model.proofs.Invariant.Trees.{Info, Tree}
use Rattle.model.proofs.Effects.OneWord.{cpu_of, size_of, stored}
use Rattle.model.proofs.Effects.Queues.{Queue, queue-cpu, queue-stored, queue-same}
use Rattle.model.proofs.Invariant.Kernel.{Loaded, S, root, size, LeafAt, whose, Lined, Real, Offer, no-offer, held-offer, node}
use Rattle.model.proofs.Invariant.Kernel.{part_small, sits-at}
use Rattle.model.proofs.Invariant.Writes.{apart-zones}
use Rattle.model.proofs.Invariant.Grounds.{small_size}
use Rattle.model.proofs.Occam.Paths.{same-path}
use Rattle.model.proofs.Invariant.Moving.{same-leaf}

module _ (L : Loaded) where
  -- the machine's memory is as large as the program's
  pub size_is : {s : World} {st : State} {μ : Mem} {ws : List ℕ} → Real L s st μ ws → size_of s ≡ size L
  size_is r = ap memory_size r.setup-kept

  -- a word of it is what the invariant says
  pub mirrored : {s : World} {st : State} {μ : Mem} {ws : List ℕ} → Real L s st μ ws → (v : ℕ) {z : ℕ} → v < size L → μ v ≡ z
      → get_or s.memory v 0 ≡ z
  mirrored r v h e = r.mirror v h ∙ e

  pub offer-same : {s : World} {st : State} {o : ℕ → Option ℕ} {k : ℕ} (σ : Store) (p : Process) → Offer L s st k
      → st.offers k ≡ o k → Offer L s (record { process = p; store = σ; offers = o; clock = st.clock }) k
  offer-same σ p (no-offer h e) f = no-offer h (sym f ∙ e)
  offer-same σ p (held-offer v m h g e) f = held-offer v m h g (sym f ∙ e)

  pub offer-world : {s u : World} {st : State} {k : ℕ} → u.machine.held ≡ s.machine.held → u.machine.offers ≡ s.machine.offers
      → Offer L s st k → Offer L u st k
  offer-world {k = k} e f (no-offer h g) = no-offer (ap (λ l. get_or l k false) e ∙ h) g
  offer-world {k = k} e f (held-offer v m h g z) = held-offer v m (ap (λ l. get_or l k false) e ∙ h) (ap (λ l. get_or l k 0) f ∙ g) z

  -- another process or store
  pub real-state : {s : World} {st : State} {μ : Mem} {ws : List ℕ} (p : Process) (σ : Store) → Real L s st μ ws
      → Real L s (record { process = p; store = σ; offers = st.offers; clock = st.clock }) μ ws
  real-state p σ r =
      record {
        setup-kept = r.setup-kept;
        no-fault = r.no-fault;
        room = r.room;
        mirror = r.mirror;
        queue = r.queue;
        eight = r.eight;
        offers = λ k h. offer-same σ p (r.offers k h) refl;
        beyond = r.beyond;
        timed = r.timed;
        front = r.front;
      }

  -- other registers
  pub real-cpu : {s : World} {st : State} {μ : Mem} {ws : List ℕ} (c : Cpu) → c.front ≡ (cpu_of s).front → c.back ≡ (cpu_of s).back
      → c.queued ≡ (cpu_of s).queued → Real L s st μ ws → Real L (with_cpu c s) st μ ws
  real-cpu {s} c f k q r =
      record {
        setup-kept = r.setup-kept;
        no-fault = r.no-fault;
        room = r.room;
        mirror = r.mirror;
        queue = queue-cpu c s f k q r.queue;
        eight = r.eight;
        offers = λ n h. offer-world refl refl (r.offers n h);
        beyond = r.beyond;
        timed = r.timed;
        front = r.front;
      }

  -- a word that is no link of the queue
  pub real-stored : {s : World} {st : State} {μ : Mem} {ws : List ℕ} (v z : ℕ) → v < size L → ((w : ℕ) → Memᴰ w ws → link_word w ≢ v)
      → Real L s st μ ws → Real L (stored v z s) st (upd μ v z) ws
  real-stored {s} {μ = μ} v z h d r =
      record {
        setup-kept = r.setup-kept;
        no-fault = r.no-fault;
        room = rw (length-set s.memory v z) r.room;
        mirror = λ a k. by a k (ℕ_discrete a v);
        queue = queue-stored v z s d r.queue;
        eight = r.eight;
        offers = λ n h. offer-world refl refl (r.offers n h);
        beyond = r.beyond;
        timed = r.timed;
        front = r.front ∙ sym (upd_other μ v z front_word (λ e. absurd (omega (arith, small_size L))));
      }
    where
      by : (a : ℕ) → a < size L → Dec (a ≡ v) → get_or (set s.memory v z) a 0 ≡ upd μ v z a
      by a k (yes e) = rw e (get_or-set_same s.memory v z 0 (omega (arith, r.room)) ∙ sym (upd_same μ v z))
      by a k (no e) = get_or-set_other s.memory v a z 0 e ∙ r.mirror a k ∙ sym (upd_other μ v z a e)

  -- a queued workspace's link word is in its process's zone
  module _ {st : State} {t : Tree (S L) (root L) st.process} {Out : List ℕ → Type 0} {ws : List ℕ} (lines : Lined L st t Out ws) where
    pub link-word : {path : List ℕ} {q : Process} {b : Part} {i : Info} {w : ℕ} → LeafAt L st t path q b i → i.w ≡ w
        → (b.bottom ≤ link_word w) × (link_word w < b.top)
    link-word k e =
        let p = (sits-at L k).placed in
        (omega (arith, p.room, p.low, part_small L k, small_size L), omega (arith, p.room, p.low, part_small L k, small_size L))

    pub links-in : (w : ℕ) → Memᴰ w ws → link_word w < size L
    links-in w m = elim (lines.each w m) [
      | whose k e n ↦ let p = link-word k e in omega (arith, p.1, part_small L k)
    ]

    -- a word of a process that is not its link word
    pub link-any : {path : List ℕ} {q : Process} {b : Part} {i : Info} → LeafAt L st t path q b i → (v : ℕ) → b.bottom ≤ v → v < b.top
        → v ≢ link_word i.w → (w : ℕ) → Memᴰ w ws → link_word w ≢ v
    link-any {path} {i = i} at v lo hi n w m f = elim (lines.each w m) [
      | whose {path = other} k e o ↦
          let p = link-word k e in
          ⊎_elim (λ z. n (sym f ∙ ap link_word (sym (same-leaf L (λ q b (j : Info). j.w ≡ w) (sym z) k at e))))
          (λ z. (apart-zones L z (node L at) (node L k)).words (link_word w) (omega (arith, f), omega (arith, f)) p) (same-path path other)
    ]

    -- so no word of a process that is left out is one, and no name
    module _ {path : List ℕ} {q : Process} {b : Part} {i : Info} (at : LeafAt L st t path q b i) (out : Out path) where
      pub link-own : (v : ℕ) → b.bottom ≤ v → v < b.top → (w : ℕ) → Memᴰ w ws → link_word w ≢ v
      link-own v lo hi w m f = elim (lines.each w m) [
        | whose {path = other} k e n ↦
            let p = link-word k e in
            (apart-zones L (λ z. n (subst Out z out)) (node L at) (node L k)).words (link_word w) (omega (arith, f), omega (arith, f)) p
      ]

      pub link-var : (x : Site) → Memᴰ x i.vars → (w : ℕ) → Memᴰ w ws → link_word w ≢ (S L).word x
      link-var x l w m f = elim (lines.each w m) [
        | whose k e n ↦
            let p = link-word k e in
            (apart-zones L (λ z. n (subst Out z out)) (node L at) (node L k)).vars-out x l (omega (arith, f, p.0), omega (arith, f, p.1))
      ]

      pub link-chan : (c : Site) → Memᴰ c i.chans → (w : ℕ) → Memᴰ w ws → link_word w ≢ (S L).word c
      link-chan c l w m f = elim (lines.each w m) [
        | whose k e n ↦
            let p = link-word k e in
            (apart-zones L (λ z. n (subst Out z out)) (node L at) (node L k)).chans-out c l (omega (arith, f, p.0), omega (arith, f, p.1))
      ]

  -- the same machine with another queue
  pub real-queue : {s : World} {st : State} {μ : Mem} {ws us : List ℕ} (c : Cpu) → Queue (with_cpu c s) us → Real L s st μ ws
      → Real L (with_cpu c s) st μ us
  real-queue c q r =
      record {
        setup-kept = r.setup-kept;
        no-fault = r.no-fault;
        room = r.room;
        mirror = r.mirror;
        queue = q;
        eight = r.eight;
        offers = λ n h. offer-world refl refl (r.offers n h);
        beyond = r.beyond;
        timed = r.timed;
        front = r.front;
      }

  -- another memory that is as long, and another queue
  pub real-memory : {s : World} {st : State} {μ ν : Mem} {ws us : List ℕ} → Real L s st μ ws → (l : List ℕ) (c : Cpu)
      → length l ≡ length s.memory → ((a : ℕ) → a < size L → get_or l a 0 ≡ ν a) → Queue (with_cpu c (with_memory l s)) us
      → ν front_word ≡ μ front_word → Real L (with_cpu c (with_memory l s)) st ν us
  real-memory r l c e m q f =
      record {
        setup-kept = r.setup-kept;
        no-fault = r.no-fault;
        room = rw e r.room;
        mirror = m;
        queue = q;
        eight = r.eight;
        offers = λ n h. offer-world refl refl (r.offers n h);
        beyond = r.beyond;
        timed = r.timed;
        front = r.front ∙ sym f;
      }

  -- a communication is of no word
  pub real-talk : {s : World} {st : State} {μ : Mem} {ws : List ℕ} (l : List Talk) → Real L s st μ ws
      → Real L (record { machine = s.machine; memory = s.memory; talk = l }) st μ ws
  real-talk {s} {ws = ws} l r =
      record {
        setup-kept = r.setup-kept;
        no-fault = r.no-fault;
        room = r.room;
        mirror = r.mirror;
        queue = queue-same (record { machine = s.machine; memory = s.memory; talk = l }) refl refl refl (λ v m. refl) r.queue;
        eight = r.eight;
        offers = λ n h. offer-world refl refl (r.offers n h);
        beyond = r.beyond;
        timed = r.timed;
        front = r.front;
      }

  -- an offer that is held no more
  abbrev pub without_offer : ℕ → (ℕ → Option ℕ) → ℕ → Option ℕ
  without_offer n o = λ j. cond (eqb j n) none (o j)

  pub real-dropped : {s : World} {st : State} {μ : Mem} {ws : List ℕ} (n : ℕ) → n < L.prog.inputs → Real L s st μ ws
      → Real L (with_offers s.machine.offers (set s.machine.held n false) s)
      (record { process = st.process; store = st.store; offers = without_offer n st.offers; clock = st.clock }) μ ws
  real-dropped {s} {st} n h r =
      record {
        setup-kept = r.setup-kept;
        no-fault = r.no-fault;
        room = r.room;
        mirror = r.mirror;
        queue = queue-same (with_offers s.machine.offers (set s.machine.held n false) s) refl refl refl (λ v m. refl) r.queue;
        eight = (r.eight.0, length-set s.machine.held n false ∙ r.eight.1);
        offers = λ k l. by k (ℕ_discrete k n) (r.offers k l);
        beyond = λ k l. rw (ne_eqb k n (λ e. absurd (omega arith))) (r.beyond k l);
        timed = r.timed;
        front = r.front;
      }
    where
      by : (k : ℕ) → Dec (k ≡ n) → Offer L s st k → Offer L (with_offers s.machine.offers (set s.machine.held n false) s)
          (record { process = st.process; store = st.store; offers = without_offer n st.offers; clock = st.clock }) k
      by k (yes e) o =
          no-offer (rw e (get_or-set_same s.machine.held n false false (omega (arith, r.eight.1, L.few-inputs)))) (rw (eq-eqb k n e))
      by k (no e) (no-offer f g) = no-offer (get_or-set_other s.machine.held n k false false e ∙ f) (rw (ne_eqb k n e) g)
      by k (no e) (held-offer v m f g z) =
          held-offer v m (get_or-set_other s.machine.held n k false false e ∙ f) g (rw (ne_eqb k n e) z)
