-- A byte, an offer, a take and a run's waking keep the setup, the kept fault, the clock and the words beyond the machine's memory, and only
-- add to the communications.
use Prim.Native.Nat.{ℕ, ◌<◌}
use mathlib.Core.Path.{◌≡◌, refl, ◌∙◌}
use mathlib.Core.Bool.{Bool, cond}
use mathlib.Core.List.{List, ◌++◌, append_assoc}
use lib.ListN.{length, set, drop, length-set}
use lib.Seq.{drop-set-lt}
use lib.Dec.{ltb, leb, eqb}
use borrow.Author.Tests.{ltb-true}
use Rattle.model.specs.Machine.{Talk, World, Result, done, faults, Act, next, ◌>>=◌, ◌>>◌, return, fault, with_memory}
use Rattle.model.specs.Machine.{registers, set_registers, setup, timer, set_front, communicate, read_clock, memory_size, peek, poke}
use Rattle.model.specs.Machine.{test_place, resume, take_front, release, join, held_at}
use Rattle.model.specs.Execute.{drop_offer}
use Rattle.model.specs.Run.{byte}
use Rattle.model.specs.Outside.{hold, offering, output_word_of, taking}
use Rattle.model.specs.declared.Cpu.{Cpu}
use Rattle.model.specs.declared.Timer.{Timer}
use Rattle.model.specs.declared.FaultKind.{FaultKind}
use Rattle.model.proofs.Cases.{by_bool, of-cond}
use Rattle.model.proofs.Laws.Made.{Made, binds, reads, sets, returns, fails, reads-setup, communicates, reads-clock, reads-timer}
use Rattle.model.proofs.Laws.Made.{fronts, drops, asks, holds, outputs, peeks, pokes, tests, releases, joins}
use Rattle.model.proofs.Laws.Made.{of-byte as made-byte, of-offering as made-offering, of-taking as made-taking}
use Rattle.model.proofs.Laws.Made.{begins, of-begins as made-begins}

-- a world with the communications t before its own
abbrev pub behind : List Talk → World → World
behind t s = record { machine = s.machine; memory = s.memory; talk = t ++ s.talk }

-- what no byte changes
pub record Same (s s' : World) : Type 0 where
  pub setup-same : s'.machine.setup ≡ s.machine.setup
  pub fault-same : s'.machine.fault ≡ s.machine.fault
  pub clock-same : s'.machine.timer.clock ≡ s.machine.timer.clock
  pub given-same : s'.machine.timer.given ≡ s.machine.timer.given
  pub length-same : length s'.memory ≡ length s.memory
  pub beyond-same : drop (memory_size s.machine.setup) s'.memory ≡ drop (memory_size s.machine.setup) s.memory

-- registers, offers, clock, timer queue and communications may change
same_rest : {r : Cpu} {o : List ℕ} {h : List Bool} {f : ℕ} {t : List Talk} {s : World}
    → let m = s.machine in
    let c : Timer = record { clock = m.timer.clock; given = m.timer.given; front = f } in
    Same s (record {
      machine = record { cpu = r; setup = m.setup; timer = c; offers = o; held = h; fault = m.fault };
      memory = s.memory;
      talk = t;
    })
same_rest =
    record { setup-same = refl; fault-same = refl; clock-same = refl; given-same = refl; length-same = refl; beyond-same = refl }

same-trans : {s s' s'' : World} → Same s s' → Same s' s'' → Same s s''
same-trans h k =
    record {
      setup-same = k.setup-same ∙ h.setup-same;
      fault-same = k.fault-same ∙ h.fault-same;
      clock-same = k.clock-same ∙ h.clock-same;
      given-same = k.given-same ∙ h.given-same;
      length-same = k.length-same ∙ h.length-same;
      beyond-same = (rw h.setup-same at k.beyond-same) ∙ h.beyond-same;
    }

-- what an act comes to from s, and from s with t before it
pub data Alike (t : List Talk) (s : World) {A : Type 0} : Result A → Result A → Type 0 where
  both-done : (a : A) {s' : World} → Same s s' → Alike t s (done a s') (done a (behind t s'))
  both-fault : (k : FaultKind) → Alike t s (faults k) (faults k)

pub by_alike : {t : List Talk} {s : World} {A R : Type 0} {r r' : Result A} → Alike t s r r'
    → ((a : A) (s' : World) → r ≡ done a s' → r' ≡ done a (behind t s') → Same s s' → R)
    → ((k : FaultKind) → r ≡ faults k → r' ≡ faults k → R) → R
by_alike (both-done a {s'} h) d f = d a s' refl refl h
by_alike (both-fault k) d f = f k refl refl

-- an act that keeps all that, and goes the same way whatever was communicated before
pub record Regular {A : Type 0} (act : Act A) : Type 0 where
  pub from : (t : List Talk) (s : World) → Alike t s (act s) (act (behind t s))

-- acts made of such acts
onward : {t : List Talk} {s : World} {A B : Type 0} {r r' : Result A} (f : A → Act B) → Alike t s r r' → ((a : A) → Regular (f a))
    → Alike t s (next r f) (next r' f)
onward {t} {s} {B} f (both-done a {s'} h) k = by ((k a).from t s')
  where
    by : {r r' : Result B} → Alike t s' r r' → Alike t s r r'
    by (both-done b g) = both-done b (same-trans h g)
    by (both-fault k) = both-fault k
onward f (both-fault k) g = both-fault k

bind : {A B : Type 0} {act : Act A} {f : A → Act B} → Regular act → ((a : A) → Regular (f a)) → Regular (◌>>=◌ act f)
bind {f} h k = record { from = λ t s. onward f (h.from t s) k }

pub seq : {A B : Type 0} {act : Act A} {f : Act B} → Regular act → Regular f → Regular (◌>>◌ act f)
seq h k = bind h (λ a. k)

picks : {A : Type 0} (b : Bool) {x y : Act A} → Regular x → Regular y → Regular (cond b x y)
picks b h k = of-cond Regular b h k

-- the acts that the others are made of
pub returned : {A : Type 0} (a : A) → Regular (return a)
returned a = record { from = λ t s. both-done a same_rest }

failed : {A : Type 0} (k : FaultKind) → Regular {A = A} (fault k)
failed k = record { from = λ t s. both-fault k }

of-registers : Regular registers
of-registers = record { from = λ t s. both-done _ same_rest }

of-set_registers : (r : Cpu) → Regular (set_registers r)
of-set_registers r = record { from = λ t s. both-done tt same_rest }

of-setup : Regular setup
of-setup = record { from = λ t s. both-done _ same_rest }

of-communicate : (c v : ℕ) → Regular (communicate c v)
of-communicate c v = record { from = λ t s. rw append_assoc (both-done tt same_rest) }

of-read_clock : (c : ℕ) → Regular (read_clock c)
of-read_clock c = record { from = λ t s. rw append_assoc (both-done tt same_rest) }

of-timer : Regular timer
of-timer = record { from = λ t s. both-done _ same_rest }

of-set_front : (f : ℕ) → Regular (set_front f)
of-set_front f = record { from = λ t s. both-done tt same_rest }

of-drop_offer : (c : ℕ) → Regular (drop_offer c)
of-drop_offer c = record { from = λ t s. both-done _ same_rest }

of-held_at : (c : ℕ) → Regular (held_at c)
of-held_at c = record { from = λ t s. both-done _ same_rest }

of-peek : (a : ℕ) → Regular (peek a)
unfolding peek
of-peek a =
    record {
      from = λ t s.
          by_bool (ltb a (memory_size s.machine.setup)) (λ e. rw e (both-done _ same_rest)) (λ e. rw e (both-fault _));
    }

of-poke : (a v : ℕ) → Regular (poke a v)
unfolding poke
of-poke a v =
    record {
      from = λ t s.
          by_bool (ltb a (memory_size s.machine.setup)) (λ e. rw e (both-done tt (kept s (ltb-true _ _ e)))) (λ e. rw e (both-fault _));
    }
  where
    kept : (s : World) → a < memory_size s.machine.setup → Same s (with_memory (set s.memory a v) s)
    kept s h =
        record {
          setup-same = refl;
          fault-same = refl;
          clock-same = refl;
          given-same = refl;
          length-same = length-set s.memory a v;
          beyond-same = drop-set-lt _ s.memory a v h;
        }

of-test_place : (p : ℕ) → Regular (test_place p)
unfolding test_place
of-test_place p =
    record {
      from = λ t s.
          by_bool (leb p s.machine.setup.code) (λ e. rw e (both-done tt same_rest)) (λ e. rw e (both-fault _));
    }

of-hold : (k v : ℕ) → Regular (hold k v)
of-hold k v = record { from = λ t s. both-done tt same_rest }

of-output_word_of : (k : ℕ) → Regular (output_word_of k)
of-output_word_of k = record { from = λ t s. both-done _ same_rest }

of-resume : (w : ℕ) → Regular (resume w)
unfolding resume
of-resume w = bind (of-peek _) (λ p. bind of-registers (λ r. of-set_registers _))

of-release : Regular release
unfolding release take_front
of-release =
    bind of-registers
    (λ r. picks r.queued
    (bind of-registers
    (λ q. seq (picks (eqb q.front q.back) (of-set_registers _) (bind (of-peek _) (λ f. of-set_registers _))) (of-resume q.front)))
    (of-set_registers _))

of-join : (w : ℕ) → Regular (join w)
unfolding join
of-join w =
    bind of-registers
    (λ r. picks r.running
    (picks r.queued (seq (of-poke _ _) (of-set_registers _)) (of-set_registers _))
    (seq (of-set_registers _) (of-resume w)))

-- every act of the machine is made of these
abbrev AnyRegisters : Cpu → Type 0
AnyRegisters r = Unit {0}

regular : {A : Type 0} {a : Act A} → Made AnyRegisters (Unit {0}) A a → Regular a
regular (binds h k) = bind (regular h) (λ x. regular (k x))
regular (reads k) = bind of-registers (λ r. regular (k r tt))
regular (sets r h) = of-set_registers r
regular (returns a) = returned a
regular (fails k) = failed k
regular reads-setup = of-setup
regular (communicates h c v) = of-communicate c v
regular (reads-clock h c) = of-read_clock c
regular reads-timer = of-timer
regular (fronts f) = of-set_front f
regular (drops c) = of-drop_offer c
regular (asks c) = of-held_at c
regular (holds k v) = of-hold k v
regular (outputs k) = of-output_word_of k
regular (peeks a) = of-peek a
regular (pokes a v) = of-poke a v
regular (tests p) = of-test_place p
regular (releases h) = of-release
regular (joins w) = of-join w

pub of-byte : (code : List ℕ) → Regular (byte code)
of-byte code = regular (made-byte (λ r q h e f. tt) tt code)

pub of-offering : (k v : ℕ) → Regular (offering k v)
of-offering k v = regular (made-offering (λ r q h e f. tt) tt k v)

pub of-taking : (k : ℕ) → Regular (taking k)
of-taking k = regular (made-taking (λ r q h e f. tt) tt k)

pub of-begins : (r : Cpu) → Regular (begins r)
of-begins r = regular (made-begins (λ r q h e. tt) tt r)
