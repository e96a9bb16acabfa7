-- What is known of the processes in the timer queue and of the times of guards may change: the invariant stays where the new is known of
-- each of them.
use Prim.Native.Nat.{ℕ, ◌^◌, ◌<◌}
use mathlib.Core.Logic.{inl, inr, ⊎_elim}
use mathlib.Core.Bool.{Bool}
use mathlib.Core.List.{List, Memᴰ}
use Rattle.model.specs.Syntax.{Site, Stmt}
use Rattle.model.specs.Machine.{World, time_word}
use Rattle.model.specs.Occam.{Process, State, now}
use Rattle.model.proofs.Words.Times.{Near}
use Rattle.model.proofs.Quiet.Ways.{Mem}
use Rattle.model.proofs.Quiet.Timing.{Times, Onto}
use Rattle.model.proofs.Words.Parts.{Part}
use Rattle.model.proofs.Invariant.Trees.{Label, Info, Sits, Tree}
use Rattle.model.proofs.Invariant.Leaves.{Held}
use Rattle.model.proofs.Invariant.Stays.{held_stays}
use Rattle.model.proofs.Invariant.Kernel.{Loaded, S, root, LeafAt, NodeAt, Owned, owned, Dozer, at-wait, in-alt, sleeper, Sleepers}
use Rattle.model.proofs.Invariant.Kernel.{Plain, plain_of, Rest, rest_of, whose, Lined, Offer, no-offer, held-offer, Real, sits-at}
use Rattle.model.proofs.Invariant.Running.{StartsLeft, Here, within, at-end, ToStart, Now, now-goes, now-alt, NowStarts, Inv, runs}
use Rattle.model.proofs.Invariant.Running.{starts, idle}
use Rattle.model.proofs.Outside.Bystanders.{alt-stays, intact-refl, part-high}

-- the same program with something else known of them
abbrev pub sleeping : (L : Loaded) (Q : (w t clock : ℕ) → Type 0) (T : Times) → (T.sure → (w t clock : ℕ) → Q w t clock → Near clock t)
    → (T.sure → (w t clock : ℕ) → T.guarded w t clock → Near clock t) → Loaded
sleeping L Q T near near-G =
    record {
      prog = L.prog;
      code = L.code;
      off = L.off;
      realises = L.realises;
      rises = L.rises;
      slice = L.slice;
      sleeps = Q;
      times = T;
      sleeps-near = near;
      guarded-near = near-G;
      fine = L.fine;
      code-small = L.code-small;
      words_small = L.words_small;
      few-inputs = L.few-inputs;
      few = L.few;
      one_way = L.one_way;
      no_return = L.no_return;
    }

module _ (L : Loaded) (Q : (w t clock : ℕ) → Type 0) (T : Times) (near : T.sure → (w t clock : ℕ) → Q w t clock → Near clock t)
    (near-G : T.sure → (w t clock : ℕ) → T.guarded w t clock → Near clock t) where
  abbrev M : Loaded
  M = sleeping L Q T near near-G

  pub offer-context : {s : World} {st : State} {k : ℕ} → Offer L s st k → Offer M s st k
  offer-context (no-offer h e) = no-offer h e
  offer-context (held-offer v m h g e) = held-offer v m h g e

  pub real-context : {s : World} {st : State} {μ : Mem} {ws : List ℕ} → Real L s st μ ws → Real M s st μ ws
  real-context r =
      record {
        setup-kept = r.setup-kept;
        no-fault = r.no-fault;
        room = r.room;
        mirror = r.mirror;
        queue = r.queue;
        eight = r.eight;
        offers = λ k h. offer-context (r.offers k h);
        beyond = r.beyond;
        timed = r.timed;
        front = r.front;
      }

  pub here-context : {at place operand : ℕ} → Here L at place operand → Here M at place operand
  here-context (within f g) = within f g
  here-context (at-end e f) = at-end e f

  pub now-context : {s : World} {st : State} {μ : Mem} {b : Part} {i : Info} {q : Process} → b.top < 2 ^ 32 → Sits (S L) b i
      → ((w : ℕ) → Onto L.times T w (now st) (now st)) → Now L s st μ b i q → Now M s st μ b i q
  now-context high sits onto (now-goes h way settled clean soon) = now-goes (here-context h) way settled clean soon
  now-context {b = b} {i} high sits onto (now-alt h way soon) =
      now-alt (here-context h) (alt-stays (S L) b i high sits onto (intact-refl L) way) soon

  pub held-context : {b : Part} {i : Info} {st : State} {μ : Mem} {f : Bool} {q : Process} → b.top < 2 ^ 32 → Sits (S L) b i
      → Onto L.times T i.w (now st) (now st) → Held (S L) L.times b i st μ f q → Held (S L) T b i st μ f q
  held-context {b} {i} high sits onto h = held_stays (S L) b i high sits (intact-refl L) onto h

  -- who may be in the timer queue
  dozer-context : {Out : List ℕ → Type 0} {path : List ℕ} {q : Process} → Dozer L Out path q → Dozer M Out path q
  dozer-context (at-wait n) = at-wait n
  dozer-context (in-alt e) = in-alt e

  dozer-back : {Out : List ℕ → Type 0} {path : List ℕ} {q : Process} → Dozer M Out path q → Dozer L Out path q
  dozer-back (at-wait n) = at-wait n
  dozer-back (in-alt e) = in-alt e

  module _ {st : State} {t : Tree (S L) (root L) st.process} where
    pub leaf-context : {path : List ℕ} {q : Process} {b : Part} {i : Info} → LeafAt L st t path q b i → LeafAt M st t path q b i
    leaf-context h = record { found = h.found; leaf = h.leaf; label = h.label }

    pub leaf-back : {path : List ℕ} {q : Process} {b : Part} {i : Info} → LeafAt M st t path q b i → LeafAt L st t path q b i
    leaf-back h = record { found = h.found; leaf = h.leaf; label = h.label }

    node-back : {path : List ℕ} {l : Label} → NodeAt M st t path l → NodeAt L st t path l
    node-back h = record { label = h.label }

    owned-context : {c : Site} {n : ℕ} → Owned L st t c n → Owned M st t c n
    owned-context (owned h m o) = owned (leaf-context h) m o

    pub lined-context : {Out : List ℕ → Type 0} {ws : List ℕ} → Lined L st t Out ws → Lined M st t Out ws
    lined-context h =
        record { each = λ w m. elim (h.each w m) [ whose k e n ↦ whose (leaf-context k) e n ]; once = h.once }

    pub sleepers-context : {μ : Mem} {Out : List ℕ → Type 0} (h : Sleepers L st μ t Out) → (T.sure → L.times.sure)
        → ((w : ℕ) → Memᴰ w h.asleep → L.sleeps w (μ (time_word w)) (now st) → Q w (μ (time_word w)) (now st))
        → Sleepers M st μ t Out
    sleepers-context h less known =
        record {
          asleep = h.asleep;
          chain = h.chain;
          sorted = λ o. h.sorted (less o);
          once = h.once;
          each = λ w m. elim (h.each w m) [ sleeper k e a d ↦ sleeper (leaf-context k) e a (dozer-context d) ];
          known = λ w m. let (a, b) = h.known w m in (a, known w m b);
          all = λ k a d f. h.all (leaf-back k) a (dozer-back d) f;
        }

    -- of each process that is not left out
    pub plain-context : {μ : Mem} {Out : List ℕ → Type 0} {ws : List ℕ}
        → ((path : List ℕ) (q : Process) (b : Part) (i : Info) → LeafAt L st t path q b i → (Out path → ⊥)
        → Onto L.times T i.w (now st) (now st))
        → Plain L st μ t Out ws → Plain M st μ t Out ws
    plain-context onto h =
        record {
          vars = λ n x m. h.vars (node-back n) x m;
          chans = λ n c m. ⊎_elim (λ e. inl e) (λ o. inr (owned-context o)) (h.chans (node-back n) c m);
          live = λ k. h.live (leaf-back k);
          leaf = λ k n.
              let l = leaf-back k in
              held-context (part-high L l) (sits-at L l) (onto _ _ _ _ l n) (h.leaf l n);
          par = λ e n. h.par e (node-back n);
          sleepers = tt;
        }

    pub rest-context : {μ : Mem} {Out : List ℕ → Type 0} {ws : List ℕ} (h : Rest L st μ t Out ws) → (T.sure → L.times.sure)
        → ((path : List ℕ) (q : Process) (b : Part) (i : Info) → LeafAt L st t path q b i → (Out path → ⊥)
        → Onto L.times T i.w (now st) (now st))
        → ((w : ℕ) → Memᴰ w h.sleepers.asleep → L.sleeps w (μ (time_word w)) (now st) → Q w (μ (time_word w)) (now st))
        → Rest M st μ t Out ws
    rest-context h less onto known = rest_of M (plain-context onto (plain_of L h)) (sleepers-context h.sleepers less known)

    start-context : {μ : Mem} {B : StartsLeft} {k : ℕ} {s : Stmt} {d b : ℕ} → ToStart L st μ t B k s d b → ToStart M st μ t B k s d b
    start-context h =
        record { leaf = leaf-context h.leaf; comes = h.comes; inner = h.inner; room = h.room; unmarked = h.unmarked }

    pub starts-context : {s : World} {μ : Mem} {path : List ℕ} {q : Process} {b : Part} {i : Info} {B : StartsLeft}
        → NowStarts L s st μ t path q b i B → NowStarts M s st μ t path q b i B
    starts-context h =
        record {
          hi = h.hi;
          at = h.at;
          first-branch = h.first-branch;
          next_one = h.next_one;
          same_w = h.same_w;
          here = here-context h.here;
          way = h.way;
          all-to-start = λ k r d b l. start-context (h.all-to-start k r d b l);
          own = h.own;
          inner = h.inner;
          near = h.near;
          unmarked = h.unmarked;
          soon = h.soon;
        }

-- the whole invariant
module _ {L : Loaded} {Q : (w t clock : ℕ) → Type 0} {T : Times} {near : T.sure → (w t clock : ℕ) → Q w t clock → Near clock t}
    {near-G : T.sure → (w t clock : ℕ) → T.guarded w t clock → Near clock t} where
  pub inv-context : {s : World} {st : State} {n : ℕ} → ((w : ℕ) → Onto L.times T w (now st) (now st))
      → ((w t : ℕ) → L.sleeps w t (now st) → Q w t (now st)) → Inv L s st n → Inv (sleeping L Q T near near-G) s st n
  inv-context {st = st} onto known inv = by inv
    where
      on : {μ : Mem} {t : Tree (S L) (root L) st.process} {Out : List ℕ → Type 0} {ws : List ℕ} → Rest L st μ t Out ws
          → Rest (sleeping L Q T near near-G) st μ t Out ws
      on {μ} rest =
          rest-context L Q T near near-G rest (onto 0).less (λ path q b i l n. onto i.w) (λ w m. known w (μ (time_word w)))

      by : {s : World} {n : ℕ} → Inv L s st n → Inv (sleeping L Q T near near-G) s st n
      by (runs real run leaf rest lines now) =
          runs (real-context L Q T near near-G real) run (leaf-context L Q T near near-G leaf) (on rest)
          (lined-context L Q T near near-G lines) (now-context L Q T near near-G (part-high L leaf) (sits-at L leaf) onto now)
      by (starts B real run leaf rest lines now) =
          starts B (real-context L Q T near near-G real) run (leaf-context L Q T near near-G leaf) (on rest)
          (lined-context L Q T near near-G lines) (starts-context L Q T near near-G now)
      by (idle real stop operand rest) = idle (real-context L Q T near near-G real) stop operand (on rest)
