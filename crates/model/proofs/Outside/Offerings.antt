-- What an offer does to the machine, to senders and to what the machine shows.
use Prim.Native.Nat.{ℕ, ◌+◌, ◌^◌, ◌<◌}
use native.Mathlib.Omega.{arith}
use native.Mathlib.Decide.{ℕ_discrete}
use mathlib.Core.Path.{◌≡◌, refl, sym, ap, ◌∙◌}
use mathlib.Core.Logic.{◌≢◌}
use mathlib.Core.Bool.{true, false, cond}
use mathlib.Core.List.{List}
use mathlib.Core.Option.{Option, none, some}
use lib.ListN.{get_or, set, length-set}
use lib.Seq.{get_or-set_same, get_or-set_other}
use lib.Dec.{eqb}
use borrow.Author.Tests.{eq-eqb, ne_eqb, eqb-true}
use Rattle.model.specs.Word.{not_process}
use Rattle.model.specs.Syntax.{Site, input_of}
use Rattle.model.specs.Machine.{World, done, with_offers, join, state_word, name_of}
use Rattle.model.specs.Alternative.{is_alt_state, notify}
use Rattle.model.specs.Execute.{deliver}
use Rattle.model.specs.Run.{land}
use Rattle.model.specs.Outside.{offering}
use Rattle.model.specs.Occam.{State, Sender, process, outside}
use Rattle.model.proofs.Cases.{never, by_bool}
use Rattle.model.proofs.Quiet.Names.{name_back}
use Rattle.model.proofs.Quiet.Ways.{Mem}
use Rattle.model.proofs.Effects.OneWord.{size_of, stored, poke-in}
use Rattle.model.proofs.Effects.Acts.{peek-at}
use Rattle.model.proofs.Effects.Queues.{queue-same}
use Rattle.model.proofs.Invariant.Kernel.{Loaded, Real, Offer, no-offer, held-offer}
use Rattle.model.proofs.Invariant.Writes.{changed}
use Rattle.model.proofs.Invariant.Running.{Inv, runs, starts, idle}
use Rattle.model.proofs.Invariant.Reals.{offer-same}
use Rattle.model.proofs.Outside.Takes.{waking-does, communicated, received-does}

-- an offer is held
abbrev pub holding : (k v : ℕ) → World → World
holding k v s = with_offers (set s.machine.offers k v) (set s.machine.held k true) s

-- what an offer does to the machine: nobody is at the channel
pub offer-holds : (k v c : ℕ) (s : World) → s.machine.setup.base + k ≡ c → c < size_of s → get_or s.memory c 0 ≡ not_process
    → land (holding k v s) ≡ done tt (holding k v s) → offering k v s ≡ done tt (holding k v s)
unfolding offering
offer-holds k v c s at h empty l = waking-does _ s (holding k v s) (rw (peek-at s at h empty)) l

-- an ALT is
pub offer-tells : (k v c p t : ℕ) (s u : World) → s.machine.setup.base + k ≡ c → c < size_of s → get_or s.memory c 0 ≡ name_of p
    → name_of p ≢ not_process
    → state_word p < size_of s → get_or s.memory (state_word p) 0 ≡ t → is_alt_state t ≡ true → notify (name_of p) t (holding k v s)
    ≡ done tt u
    → land u ≡ done tt u → offering k v s ≡ done tt u
unfolding offering
offer-tells k v c p t s u at h name n hs state alt told l =
    let state-at = ap state_word (name_back p) in
    waking-does _ s u (rw (peek-at s at h name, ne_eqb (name_of p) not_process n, peek-at s state-at hs state, alt, told)) l

-- a process in IN is
pub offer-delivers : (k v c p m : ℕ) (s u : World) → s.machine.setup.base + k ≡ c → c < size_of s → get_or s.memory c 0 ≡ name_of p
    → name_of p ≢ not_process
    → state_word p < size_of s → get_or s.memory (state_word p) 0 ≡ m → is_alt_state m ≡ false → m < size_of s
    → join (name_of p) (stored c not_process (stored m v s)) ≡ done tt u → land (communicated c v u) ≡ done tt (communicated c v u)
    → offering k v s ≡ done tt (communicated c v u)
unfolding offering deliver
offer-delivers k v c p m s u at h name n hs state alt hm joined l =
    waking-does _ s (communicated c v u)
    (rw (
      peek-at s at h name,
      ne_eqb (name_of p) not_process n,
      peek-at s (ap state_word (name_back p)) hs state,
      alt,
      poke-in m v s hm,
      at,
      received-does c (name_of p) v (stored m v s) u h joined,
    )) l

-- with an offer more
abbrev pub with_offer : ℕ → ℕ → (ℕ → Option ℕ) → ℕ → Option ℕ
with_offer k v o = λ j. cond (eqb j k) (some v) (o j)

-- offered and received at once
abbrev pub passed_offer : ℕ → ℕ → (ℕ → Option ℕ) → ℕ → Option ℕ
passed_offer k v o = λ j. cond (eqb j k) none (cond (eqb j k) (some v) (o j))

pub passed-same : (k v : ℕ) (o : ℕ → Option ℕ) → o k ≡ none → (j : ℕ) → o j ≡ passed_offer k v o j
passed-same k v o e j = by_bool (eqb j k) (λ z. rw z (ap o (eqb-true j k z) ∙ e)) (λ z. rw z)

-- senders where one offer is more
module _ (st : State) (k v : ℕ) where
  pub more-senders : {c : Site} → Sender st c → Sender (changed st.store (with_offer k v st.offers) st) c
  more-senders (process p g) = process p g
  more-senders (outside {n} {v = u} g) =
      by_bool (eqb n k) (λ z. outside {n = n} {v = v} (rw z)) (λ z. outside {n = n} {v = u} (rw z g))

  pub fewer-senders : {c : Site} → c ≢ input_of k → Sender (changed st.store (with_offer k v st.offers) st) c → Sender st c
  fewer-senders d (process p g) = process p g
  fewer-senders d (outside {n} {v = u} g) =
      by_bool (eqb n k) (λ z. absurd (d (ap input_of (eqb-true n k z)))) (λ z. outside {n = n} {v = u} (rw z at g))

  pub offer-sends : Sender (changed st.store (with_offer k v st.offers) st) (input_of k)
  offer-sends = outside {n = k} {v = v} (rw (eq-eqb k k refl))

-- and where all are the same
pub same-senders : {st : State} {o : ℕ → Option ℕ} → ((j : ℕ) → st.offers j ≡ o j) → {c : Site} → Sender st c
    → Sender (changed st.store o st) c
same-senders e (process p g) = process p g
same-senders e (outside {n} {v = u} g) = outside {n = n} {v = u} (sym (e n) ∙ g)

pub senders-same : {st : State} {o : ℕ → Option ℕ} → ((j : ℕ) → st.offers j ≡ o j) → {c : Site} → Sender (changed st.store o st) c
    → Sender st c
senders-same e (process p g) = process p g
senders-same e (outside {n} {v = u} g) = outside {n = n} {v = u} (e n ∙ g)

module _ (L : Loaded) where
  -- the machine where the offers are the same
  pub real-offers : {s : World} {st : State} {μ : Mem} {ws : List ℕ} (o : ℕ → Option ℕ) → ((j : ℕ) → st.offers j ≡ o j) → Real L s st μ ws
      → Real L s (changed st.store o st) μ ws
  real-offers {st = st} o e r =
      record {
        setup-kept = r.setup-kept;
        no-fault = r.no-fault;
        room = r.room;
        mirror = r.mirror;
        queue = r.queue;
        eight = r.eight;
        offers = λ n h. offer-same L st.store st.process (r.offers n h) (e n);
        beyond = λ n h. sym (e n) ∙ r.beyond n h;
        timed = r.timed;
        front = r.front;
      }

  -- and where one is held
  pub real-held : {s : World} {st : State} {μ : Mem} {ws : List ℕ} (k v : ℕ) → k < L.prog.inputs → v < 2 ^ 32 → Real L s st μ ws
      → Real L (holding k v s) (changed st.store (with_offer k v st.offers) st) μ ws
  real-held {s} {st} k v h small r =
      record {
        setup-kept = r.setup-kept;
        no-fault = r.no-fault;
        room = r.room;
        mirror = r.mirror;
        queue = queue-same (holding k v s) refl refl refl (λ w m. refl) r.queue;
        eight = (length-set s.machine.offers k v ∙ r.eight.0, length-set s.machine.held k true ∙ r.eight.1);
        offers = λ n l. by n (ℕ_discrete n k) (r.offers n l);
        beyond = λ n l. rw (ne_eqb n k (λ e. absurd (omega arith))) (r.beyond n l);
        timed = r.timed;
        front = r.front;
      }
    where
      by : (n : ℕ) → Dec (n ≡ k) → Offer L s st n → Offer L (holding k v s) (changed st.store (with_offer k v st.offers) st) n
      by n (yes e) o =
          held-offer v small (rw e (get_or-set_same s.machine.held k true false (omega (arith, r.eight.1, L.few-inputs))))
          (rw e (get_or-set_same s.machine.offers k v 0 (omega (arith, r.eight.0, L.few-inputs)))) (rw (eq-eqb n k e))
      by n (no e) (no-offer f g) = no-offer (get_or-set_other s.machine.held k n true false e ∙ f) (rw (ne_eqb n k e) g)
      by n (no e) (held-offer u m f g z) =
          held-offer u m (get_or-set_other s.machine.held k n true false e ∙ f) (get_or-set_other s.machine.offers k n v 0 e ∙ g)
          (rw (ne_eqb n k e) z)

  -- an offer that the machine does not hold is none, and one that it holds is one
  pub unheld : {s : World} {st : State} {k : ℕ} → get_or s.machine.held k false ≡ false → Offer L s st k → st.offers k ≡ none
  unheld e (no-offer f g) = g
  unheld e (held-offer v m f g z) = never (cc (e, f))

  offer-is : {s : World} {st : State} {k : ℕ} → get_or s.machine.held k false ≡ true → Offer L s st k → (u : ℕ) × (st.offers k ≡ some u)
  offer-is e (no-offer f g) = never (cc (e, f))
  offer-is e (held-offer v m f g z) = (v, z)

  pub offer-held : {s : World} {st : State} {n : ℕ} → Inv L s st n → (k : ℕ) → k < L.prog.inputs → get_or s.machine.held k false ≡ true
      → (u : ℕ) × (st.offers k ≡ some u)
  offer-held (runs real run leaf rest lines now) k h e = offer-is e (real.offers k h)
  offer-held (starts B real run leaf rest lines now) k h e = offer-is e (real.offers k h)
  offer-held (idle real stop operand rest) k h e = offer-is e (real.offers k h)
