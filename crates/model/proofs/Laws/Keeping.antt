-- What holds of the registers after an act: kept by it, or brought about by it whatever they were.
use Prim.Native.Nat.{ℕ}
use mathlib.Core.Path.{◌≡◌, refl}
use mathlib.Core.Bool.{Bool, true, false, cond}
use lib.Dec.{ltb, leb, eqb}
use Rattle.model.specs.Machine.{World, Result, done, faults, Act, next, ◌>>=◌, ◌>>◌, return, set_registers, memory_size, peek, poke}
use Rattle.model.specs.Machine.{space_of, test_place, queueing, resume_word, link_word, resume, take_front, release, join}
use Rattle.model.specs.declared.Cpu.{Cpu}
use Rattle.model.proofs.Cases.{by_bool, of-cond}
use Rattle.model.proofs.Laws.Made.{Made, binds, reads, sets, returns, fails, reads-setup, communicates, reads-clock, reads-timer}
use Rattle.model.proofs.Laws.Made.{fronts, drops, asks, holds, outputs, peeks, pokes, tests, releases, joins}

-- what an act comes to has such registers, or is a fault
abbrev pub Left : (P : Cpu → Type 0) {A : Type 0} → Result A → Type 0
Left P (done a s) = P s.machine.cpu
Left P (faults k) = Unit {0}

-- an act that keeps it: what held before holds after
pub record Keeps (P : Cpu → Type 0) {A : Type 0} (act : Act A) : Type 0 where
  pub from : (s : World) → P s.machine.cpu → Left P (act s)

-- an act after which it holds whatever was before
pub record Brings (P : Cpu → Type 0) {A : Type 0} (act : Act A) : Type 0 where
  pub from : (s : World) → Left P (act s)

module _ {P : Cpu → Type 0} {A : Type 0} where
  pub brings-keeps : {act : Act A} → Brings P act → Keeps P act
  brings-keeps k = record { from = λ s h. k.from s }

  module _ {B : Type 0} where
    onward : (r : Result A) (f : A → Act B) → Left P r → ((a : A) → Keeps P (f a)) → Left P (next r f)
    onward (done a s) f h k = (k a).from s h
    onward (faults e) f h k = tt

    pub bind : {act : Act A} {f : A → Act B} → Keeps P act → ((a : A) → Keeps P (f a)) → Keeps P (◌>>=◌ act f)
    bind {act = a} {f} h k = record { from = λ s g. onward (a s) f (h.from s g) k }

    pub seq : {act : Act A} {f : Act B} → Keeps P act → Keeps P f → Keeps P (◌>>◌ act f)
    seq h k = bind h (λ a. k)

    -- the first of two brings it about, or the last does
    pub at_first : {act : Act A} {f : A → Act B} → Brings P act → ((a : A) → Keeps P (f a)) → Brings P (◌>>=◌ act f)
    at_first {act = a} {f} h k = record { from = λ s. onward (a s) f (h.from s) k }

    last : (r : Result A) (f : A → Act B) → ((a : A) → Brings P (f a)) → Left P (next r f)
    last (done a s) f k = (k a).from s
    last (faults e) f k = tt

    pub at_last : (act : Act A) (f : A → Act B) → ((a : A) → Brings P (f a)) → Brings P (◌>>=◌ act f)
    at_last a f k = record { from = λ s. last (a s) f k }

  pub returning : (a : A) → Keeps P (return a)
  returning a = record { from = λ s h. h }

  pub picks : (b : Bool) {x y : Act A} → Keeps P x → Keeps P y → Keeps P (cond b x y)
  picks b h k = of-cond (Keeps P) b h k

module _ {P : Cpu → Type 0} where
  pub setting : (r : Cpu) → P r → Keeps P (set_registers r)
  setting r h = record { from = λ s k. h }

  pub of-peek : (a : ℕ) → Keeps P (peek a)
  unfolding peek
  of-peek a = record { from = λ s h. of-cond (Left P) (ltb a (memory_size s.machine.setup)) h tt }

  pub of-poke : (a v : ℕ) → Keeps P (poke a v)
  unfolding poke
  of-poke a v = record { from = λ s h. of-cond (Left P) (ltb a (memory_size s.machine.setup)) h tt }

  pub of-test_place : (p : ℕ) → Keeps P (test_place p)
  unfolding test_place
  of-test_place p = record { from = λ s h. of-cond (Left P) (leb p s.machine.setup.code) h tt }

module _ {P Q : Cpu → Type 0} (h : (r : Cpu) → P r → Q r) where
  weaker : {A : Type 0} (r : Result A) → Left P r → Left Q r
  weaker (done a s) k = h s.machine.cpu k
  weaker (faults e) k = tt

  pub brings-weaker : {A : Type 0} {act : Act A} → Brings P act → Brings Q act
  brings-weaker {act = a} k = record { from = λ s. weaker (a s) (k.from s) }

-- a process has the processor
abbrev pub Runs : Cpu → Type 0
Runs r = r.running ≡ true

-- one that goes on has it
pub resume-runs : (n : ℕ) → Brings Runs (resume n)
unfolding resume
resume-runs n = at_last (peek (resume_word (space_of n))) _ (λ p. record { from = λ s. refl })

-- the queue without its front
abbrev leave_front : Cpu → Act (Unit {0})
leave_front r =
    cond (eqb r.front r.back) (set_registers (queueing r.front r.back false r))
    (do f ← peek (link_word (space_of r.front)); set_registers (queueing f r.back true r))

-- the front of the queue gets it
pub take_front-runs : Brings Runs take_front
unfolding take_front
take_front-runs = record { from = λ s. (at_last (leave_front s.machine.cpu) _ (λ u. resume-runs s.machine.cpu.front)).from s }

-- a process joins the queue of a busy processor, or gets a free one
pub join_runs : (w : ℕ) → Brings Runs (join w)
unfolding join
join_runs w =
    record {
      from = λ s.
          by_bool s.machine.cpu.running
          (λ e. rw e ((picks s.machine.cpu.queued (seq (of-poke _ _) (setting _ refl)) (setting _ refl)).from _ refl))
          (λ e. rw e ((resume-runs w).from _));
    }

-- an act that is made of the few keeps what freeing the processor and joining keep
module _ {P : Cpu → Type 0} {More : Type 0} (frees : More → Keeps P release) (joined : (w : ℕ) → Keeps P (join w)) where
  pub keeps : {A : Type 0} {a : Act A} → Made P More A a → Keeps P a
  keeps (binds h k) = bind (keeps h) (λ x. keeps (k x))
  keeps (reads k) = record { from = λ s h. (keeps (k s.machine.cpu h)).from s h }
  keeps (sets r h) = setting r h
  keeps (returns a) = returning a
  keeps (fails k) = record { from = λ s h. tt }
  keeps reads-setup = record { from = λ s h. h }
  keeps (communicates t c v) = record { from = λ s h. h }
  keeps (reads-clock t c) = record { from = λ s h. h }
  keeps reads-timer = record { from = λ s h. h }
  keeps (fronts f) = record { from = λ s h. h }
  keeps (drops c) = record { from = λ s h. h }
  keeps (asks c) = record { from = λ s h. h }
  keeps (holds k v) = record { from = λ s h. h }
  keeps (outputs k) = record { from = λ s h. h }
  keeps (peeks a) = of-peek a
  keeps (pokes a v) = of-poke a v
  keeps (tests p) = of-test_place p
  keeps (releases h) = frees h
  keeps (joins w) = joined w
