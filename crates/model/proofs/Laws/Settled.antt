-- No machine that calls reach from a start is without a process while one is queued (specs/Laws.antt, law 6).
use Prim.Native.Nat.{ℕ, zero, suc}
use mathlib.Core.Path.{◌≡◌, refl, sym, ◌∙◌}
use mathlib.Core.Logic.{⊎_elim}
use mathlib.Core.Bool.{Bool, true, false, cond, ◌||◌}
use mathlib.Core.List.Memᴰ
use mathlib.Core.List.{List, [], ◌∷◌, ◌++◌, Memᴰ}
use mathlib.Core.Option.{Option}
use lib.ListN as L
use lib.ListN.{drop}
use Rattle.model.specs.Word.{low}
use Rattle.model.specs.Machine.{World, Result, done, faults, Act, return, release}
use Rattle.model.specs.Timer.{wake_sleepers}
use Rattle.model.specs.Run.{byte, ended, waits, beginning, run_from, After, world_of, run, fresh, blank, start}
use Rattle.model.specs.Outside.{offering, offered, offer, taking, took, take}
use Rattle.model.specs.History.{Call, call_run, call_offer, call_take, Moment, bytes, during, call, history}
use Rattle.model.specs.Laws.{WaitsWithEmptyQueue}
use Rattle.model.specs.declared.Cpu.{Cpu}
use Rattle.model.specs.declared.Machine.{Machine}
use Rattle.model.specs.Answers.{StartAnswer, OfferAnswer, TakeAnswer}
use Rattle.model.proofs.Cases.{by_bool, never}
use Rattle.model.proofs.Laws.Keeping.{Left, Keeps, Brings, brings-keeps, at_first, at_last, returning, picks, brings-weaker, Runs}
use Rattle.model.proofs.Laws.Keeping.{take_front-runs, join_runs, keeps}
use Rattle.model.proofs.Laws.Made.{Made, of-byte, of-offering, of-taking, of-land, begins, clocked, beginning-is}
use Rattle.model.proofs.Laws.Runs.{by_result, run-goes, by-run, by-offer, by-take, by-start}
use Rattle.model.proofs.Laws.Recorded.{during-refused, during-kept, during-stays, during-goes}

-- a processor without a process has an empty queue
abbrev Settled : Cpu → Type 0
Settled r = r.running ≡ false → r.queued ≡ false

-- where a process has the processor
busy : (r : Cpu) → Runs r → Settled r
busy r e z = never (cc)

release-settles : Brings Settled release
unfolding release
release-settles =
    record {
      from = λ s.
          by_bool s.machine.cpu.queued (λ e. rw e ((brings-weaker busy take_front-runs).from _)) (λ e. rw e (λ z. refl));
    }

-- every act of the machine keeps it
kept : {A : Type 0} {a : Act A} → Made Settled (Unit {0}) A a → Keeps Settled a
kept h = keeps (λ u. brings-keeps release-settles) (λ w. brings-keeps (brings-weaker busy (join_runs w))) h

flags : (r q : Cpu) → Settled r → q.running ≡ r.running → q.queued ≡ r.queued → Settled q
flags r q h e f z = f ∙ h (sym e ∙ z)

-- a machine whose registers are settled
abbrev Rests : Machine → Type 0
Rests m = Settled m.cpu

-- every moment has such a machine
abbrev All : List Moment → Type 0
All [] = Unit {0}
All (a ∷ l) = Rests a.machine × All l

all_append : (l k : List Moment) → All l → All k → All (l ++ k)
all_append [] k h g = g
all_append (a ∷ l) k (x, h) g = (x, all_append l k h g)

all-each : (l : List Moment) → All l → (a : Moment) → Memᴰ a l → Rests a.machine
all-each [] h a m = absurd (Memᴰ.not-nil m)
all-each (b ∷ l) (x, h) a m = ⊎_elim (λ e. rw e x) (λ t. all-each l h a t) (Memᴰ.cases_cons m)

module _ (code : List ℕ) where
  byte-settled : (s : World) → Settled s.machine.cpu → Left Settled (byte code s)
  byte-settled s h = (kept (of-byte flags tt code)).from s h

  run_settled : (b n : ℕ) (s : World) → Settled s.machine.cpu → Rests (run_from b code n s).world.machine
  unfolding run_from
  run_settled zero n s h =
      by_bool (ended s.machine) (λ e. rw e h) (λ e. by_bool (waits s.machine) (λ w. rw (e, w) h) (λ w. rw (e, w) h))
  run_settled (suc b) n s h =
      by_bool (ended s.machine) (λ e. rw e h)
      (λ e. by_bool (waits s.machine) (λ w. rw (e, w) h)
      (λ w. by_result (byte code s)
      (λ u t d. rw (e, w, d) (run_settled b (suc n) t (rw d at (byte-settled s h))))
      (λ k d. rw (e, w, d) h)))

  bytes-settled : (b : ℕ) (rest : List ℕ) (s : World) → Settled s.machine.cpu → All (bytes b code rest s)
  unfolding bytes
  bytes-settled zero rest s h = tt
  bytes-settled (suc b) rest s h =
      by_bool (ended s.machine || waits s.machine) (λ e. rw e tt)
      (λ e. by_result (byte code s)
      (λ u t d.
      let g = rw d at (byte-settled s h) in
      rw (e, d) (g, bytes-settled b rest (world_of t.machine t.memory) g))
      (λ k d. rw (e, d) tt))

-- a run's beginning leaves registers that are settled, whatever they were while it woke sleepers
settled-begins : (r : Cpu) → Brings Settled (begins r)
settled-begins r =
    at_first (at_last wake_sleepers _ (λ u. record { from = λ s. settles s.machine.cpu.running s (λ e. busy s.machine.cpu e) }))
    (λ u. picks r.running (returning tt) (kept of-land))
  where
    settles : (b : Bool) (s : World) → (b ≡ true → Settled s.machine.cpu) → Left Settled (cond b (return tt) release s)
    settles true s h = h refl
    settles false s h = release-settles.from s

begun-settled : (c : ℕ) (s : World) {t : World} → beginning c s ≡ done tt t → Settled t.machine.cpu
begun-settled c s e = let h = (settled-begins s.machine.cpu).from (clocked c s) in rw (← beginning-is c s, e) at h

-- a run, an offer and a take, whatever they are lent
module _ (m : Machine) (h : Rests m) (memory : List ℕ) where
  run-rests : (code : List ℕ) (b c : ℕ) → Rests (run m code memory b c).machine
  run-rests code b c =
      by-run m code memory c (λ k i z e. rw (e b) h) (λ k f e. rw (e b) h) (λ k i n f e. rw (e b) h)
      (λ g. rw (run-goes g b) (run_settled code b 0 g.begun (begun-settled c (world_of m memory) g.begins)))

  during-rests : (code rest : List ℕ) (b c : ℕ) → All (during m code memory rest b c)
  during-rests code rest b c =
      by-run m code memory c (λ k i z e. rw (during-refused m code memory rest c z b) (h, tt))
      (λ k f e. rw (during-kept m code memory rest c f b) (h, tt)) (λ k i n f e. rw (during-stays m code memory rest c i n f b) (h, tt))
      (λ g.
      let s = begun-settled c (world_of m memory) g.begins in
      rw (during-goes m code memory rest c g b) (s, bytes-settled code b rest (world_of g.begun.machine g.begun.memory) s))

  offered-rests : (r : Result (Unit {0})) → Left Settled r → Rests (offered r m memory).machine
  offered-rests (done a s) g = g
  offered-rests (faults k) g = h

  offer-rests : (k v : ℕ) → Rests (offer m memory k v).machine
  offer-rests k v =
      let w = world_of m memory in
      by-offer m memory k v (λ (f : After OfferAnswer). Rests f.machine) (λ a. h)
      (offered-rests (offering k v w) ((kept (of-offering flags tt k v)).from w h))

  took-rests : (r : Result (Option ℕ)) → Left Settled r → Rests (took r m memory).machine
  took-rests (done a s) g = g
  took-rests (faults k) g = h

  take-rests : (k : ℕ) → Rests (take m memory k).machine
  take-rests k =
      let w = world_of m memory in
      by-take m memory k (λ (f : After TakeAnswer). Rests f.machine) (λ a n. h)
      (took-rests (taking k w) ((kept (of-taking flags tt k)).from w h))

call-rests : (code : List ℕ) (c : Call) (m : Machine) (memory : List ℕ) → Rests m
    → let r = call code c m memory in All r.moments × Rests r.machine
unfolding call
call-rests code (call_run behind code_lent lent b c) m memory h =
    let lent-code = L.take code_lent (code ++ behind) in
    let lent-memory = L.take lent memory in
    let g = run-rests m h lent-memory lent-code b (low c) in
    let found = during-rests m h lent-memory lent-code (drop lent memory) b (low c) in
    (all_append (during m lent-code lent-memory (drop lent memory) b (low c)) _ found (g, tt), g)
call-rests code (call_offer lent k v) m memory h = let g = offer-rests m h (L.take lent memory) k (low v) in ((g, tt), g)
call-rests code (call_take lent k) m memory h = let g = take-rests m h (L.take lent memory) k in ((g, tt), g)

history-rests : (code : List ℕ) (cs : List Call) (m : Machine) (memory : List ℕ) → Rests m → All (history code cs m memory)
unfolding history
history-rests code [] m memory h = tt
history-rests code (c ∷ cs) m memory h =
    let (here, g) = call-rests code c m memory h in
    let r = call code c m memory in
    all_append r.moments (history code cs r.machine r.memory) here (history-rests code cs r.machine r.memory g)

start-rests : (code memory : List ℕ) (w i o q : ℕ) → Rests (start code memory w i o q).machine
unfolding fresh blank
start-rests code memory w i o q =
    by-start code memory w i o q (λ (f : After StartAnswer). Rests f.machine) (λ a z. refl) (λ z. refl)

pub waits-with-empty-queue : WaitsWithEmptyQueue
waits-with-empty-queue code memory w i o q cs a mem z =
    let s = start code memory w i o q in
    let h = start-rests code memory w i o q in
    let g = all-each _ (h, history-rests code cs s.machine s.memory h) a mem in
    g (by_bool a.machine.cpu.running (λ r. never (cc (rw r at z))) (λ r. r))
