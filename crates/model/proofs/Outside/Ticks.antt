-- The clock moves at a run's beginning. Processes in the timer queue keep their order, and what is past stays past, where times are near
-- both clock words.
use Prim.Native.Nat.{ℕ, ◌^◌, ◌<◌}
use mathlib.Core.Path.{◌≡◌, refl, subst}
use mathlib.Core.Logic.{inl}
use mathlib.Core.List.{List, [], ◌∷◌, Memᴰ}
use mathlib.Core.Option.{some}
use mathlib.Core.Bool.{false}
use Rattle.model.specs.Word.{after}
use Rattle.model.specs.Syntax.{Site}
use Rattle.model.specs.Machine.{World, time_word}
use Rattle.model.specs.declared.Timer.{Timer}
use Rattle.model.specs.Occam.{State, Sender, process, outside, now}
use Rattle.model.proofs.Quiet.Ways.{Mem}
use Rattle.model.proofs.Quiet.Timing.{Onto}
use Rattle.model.proofs.Words.Parts.{Part}
use Rattle.model.proofs.Words.Times.{Near, order-kept, stays-past}
use Rattle.model.proofs.Effects.Queues.{queue-same}
use Rattle.model.proofs.Effects.Timers.{Sorted}
use Rattle.model.proofs.Invariant.Trees.{Info, Tree}
use Rattle.model.proofs.Invariant.Stays.{Intact}
use Rattle.model.proofs.Invariant.Kernel.{Loaded, S, root, Timed, sleeper, Rest, Real, Offer, no-offer, held-offer, sits-at}
use Rattle.model.proofs.Invariant.Writes.{state_with, before-leaf, after-leaf, after-lined, rest-changed}
use Rattle.model.proofs.Invariant.Running.{Inv, runs, starts, idle}
use Rattle.model.proofs.Outside.Bystanders.{SameRegs, now-stays, starts-stays, part-high}
use Rattle.model.proofs.Outside.Wakings.{intact-offers}
use Rattle.model.proofs.Laws.Made.{clocked}

-- times that rise seen from one clock word rise seen from another
sorted-on : (μ : Mem) {c d : ℕ} → c < 2 ^ 32 → d < 2 ^ 32 → (ts : List ℕ)
    → ((v : ℕ) → Memᴰ v ts → (μ (time_word v) < 2 ^ 32) × Near c (μ (time_word v)) × Near d (μ (time_word v))) → Sorted c μ ts
    → Sorted d μ ts
sorted-on μ cw dw [] known s = tt
sorted-on μ cw dw (w ∷ ts) known s =
    let (small, near, near') = known w (Memᴰ.head refl) in (
      (λ v m.
          let (low, close, close') = known v (Memᴰ.tail m) in
          order-kept cw dw small low near close near' close' (s.0 v m)),
      sorted-on μ cw dw ts (λ v m. known v (Memᴰ.tail m)) s.1,
    )

-- the clock is a word
now-word : {m : Timer} (st : State) → Timed m st.clock → now st < 2 ^ 32
now-word st t = subst (λ c. c < 2 ^ 32) t.clock-read t.clock-word

-- Occam's state with that clock
abbrev pub ticking : (clock : ℕ) → State → State
ticking c st = state_with st.store st.offers (some c) st

-- what is known of those in the timer queue and of guards says that their times are near the new clock word too, and the clock does not go
-- back where a guard's time is known
module _ (L : Loaded) (c : ℕ) (word : c < 2 ^ 32) (st : State) (on : (w t : ℕ) → L.sleeps w t (now st) → L.sleeps w t c)
    (on-guards : (w t : ℕ) → L.times.guarded w t (now st) → L.times.guarded w t c)
    (no-back : L.times.sure → (w t : ℕ) → L.times.guarded w t (now st) → after (now st) c ≡ false) where
  more : {d : Site} → Sender st d → Sender (ticking c st) d
  more (process path e) = process path e
  more (outside e) = outside e

  fewer : {d : Site} → Sender (ticking c st) d → Sender st d
  fewer (process path e) = process path e
  fewer (outside e) = outside e

  intact : {b : Part} {i : Info} {skip : ℕ} {μ : Mem} → Intact (S L) b i skip st (ticking c st) μ μ
  intact = intact-offers L st.offers (λ d m g. more g) (λ d m n o g. fewer g)

  -- what is past stays past
  onto : now st < 2 ^ 32 → (w : ℕ) → Onto L.times L.times w (now st) c
  onto was w =
      record {
        less = λ o. o;
        on = on-guards w;
        past = λ u small g o a.
            stays-past was word small (L.guarded-near o w u (now st) g) (L.guarded-near o w u c (on-guards w u g)) (no-back o w u g) a;
      }

  rest-ticks : {μ : Mem} {t : Tree (S L) (root L) st.process} {Out : List ℕ → Type 0} {ws : List ℕ} → now st < 2 ^ 32
      → Rest L st μ t Out ws → Rest L (ticking c st) μ t Out ws
  rest-ticks {μ} was h =
      rest-changed L h (λ path q b i l n. intact) (onto was)
      (record {
        asleep = h.sleepers.asleep;
        chain = h.sleepers.chain;
        sorted = λ o. sorted-on μ was word h.sleepers.asleep (near o) (h.sleepers.sorted o);
        once = h.sleepers.once;
        each = λ w m. elim (h.sleepers.each w m) [ sleeper k e a d ↦ sleeper (after-leaf L k) e a d ];
        known = λ w m. let (a, b) = h.sleepers.known w m in (a, on w (μ (time_word w)) b);
        all = λ k a d f. h.sleepers.all (before-leaf L k) a d f;
      })
      (λ path l n x m e k. (e, k)) (λ path l n d m. inl refl) (λ path a vs cs w onward n. (refl, refl))
    where
      near : L.times.sure → (v : ℕ) → Memᴰ v h.sleepers.asleep
          → (μ (time_word v) < 2 ^ 32) × Near (now st) (μ (time_word v)) × Near c (μ (time_word v))
      near o v m =
          let (a, b) = h.sleepers.known v m in
          let tm = μ (time_word v) in
          (a, L.sleeps-near o v tm (now st) b, L.sleeps-near o v tm c (on v tm b))

  real-ticks : {s : World} {μ : Mem} {ws : List ℕ} → Real L s st μ ws → Real L (clocked c s) (ticking c st) μ ws
  real-ticks {s} r =
      record {
        setup-kept = r.setup-kept;
        no-fault = r.no-fault;
        room = r.room;
        mirror = r.mirror;
        queue = queue-same (clocked c s) refl refl refl (λ w m. refl) r.queue;
        eight = r.eight;
        offers = λ n h. by (r.offers n h);
        beyond = r.beyond;
        timed = record { clock-same = refl; clock-read = refl; clock-word = word };
        front = r.front;
      }
    where
      by : {n : ℕ} → Offer L s st n → Offer L (clocked c s) (ticking c st) n
      by (no-offer f g) = no-offer f g
      by (held-offer u m f g z) = held-offer u m f g z

  same_regs : {s : World} → SameRegs L (clocked c s) s
  same_regs = record { run = refl; place = refl; operand = refl; regs = refl }

  pub inv-ticks : {s : World} {n : ℕ} → Inv L s st n → Inv L (clocked c s) (ticking c st) n
  inv-ticks (runs real run leaf rest lines now) =
      runs (real-ticks real) run (after-leaf L leaf) (rest-ticks (now-word st real.timed) rest) (after-lined L lines)
      (now-stays L same_regs (part-high L leaf) (sits-at L leaf) (onto (now-word st real.timed)) intact now)
  inv-ticks (starts B real run leaf rest lines now) =
      starts B (real-ticks real) run (after-leaf L leaf) (rest-ticks (now-word st real.timed) rest) (after-lined L lines)
      (starts-stays L same_regs leaf (λ path q b i k o. (after-leaf L k, intact)) now)
  inv-ticks (idle real stop operand rest) = idle (real-ticks real) stop operand (rest-ticks (now-word st real.timed) rest)
