-- Every act of the machine is made of a few: a byte, an offer and a take are. What is to be shown of all of them is shown of these few, and
-- of one act after another.
use Prim.Native.Nat.{ℕ, zero, suc, ◌/◌}
use mathlib.Core.Path.{◌≡◌, refl}
use mathlib.Core.Bool.{Bool, true, cond}
use mathlib.Core.List.{List, [], ◌∷◌}
use mathlib.Core.Option.{Option, none, some}
use lib.Dec.{eqb}
use Rattle.model.specs.Instruction.{Operation, rev, endp, diff, «in», prod, gt, startp, outword, stopp, ldpi, disc, diss, xor, mint}
use Rattle.model.specs.Instruction.{alt, altwt, altend, and, enbc, enbs, or, sum, operation_of, Function, j, ldlp, ldc, ldl, cj, ajw}
use Rattle.model.specs.Instruction.{eqc, stl, opr, ldtimer, tin, dist, enbt, talt, taltwt, function_of}
use Rattle.model.specs.Machine.{World, with_timer, Act, ◌>>=◌, ◌>>◌, return, fault, registers, set_registers, setup, timer, set_front}
use Rattle.model.specs.Machine.{communicate}
use Rattle.model.specs.Machine.{read_clock, memory_size, peek, poke, test_place, release, enqueue, join, held_at}
use Rattle.model.specs.Alternative.{notify, begin_alt, set_ready, enable_ready, enable_channel, enable_skip, wait_alt, select}
use Rattle.model.specs.Alternative.{disable_ready}
use Rattle.model.specs.Alternative.{disable_channel, disable_skip, end_alt}
use Rattle.model.specs.Execute.{jump, load_local, store_local, conditional_jump, start_process, end_process, stop_process, wait_at}
use Rattle.model.specs.Execute.{drop_offer, receive, received, input_word, input_message, deliver, output_word, operate, execute}
use Rattle.model.specs.Run.{fetch, act, land, byte, waking, settle, beginning}
use Rattle.model.specs.Timer.{was_at, Stop, along, walk, link, sleep, load_timer, timer_input, begin_timed_alt, bring_time, enable_time}
use Rattle.model.specs.Timer.{wait_time, wait_timed_alt, leave_timer, disable_set, disable_time, wake_one, wake_from, wake_sleepers}
use Rattle.model.specs.Word.{after, not_process}
use Rattle.model.specs.Outside.{hold, offering, output_word_of, looking, taken, taking}
use Rattle.model.specs.declared.Cpu.{Cpu}
use Rattle.model.specs.declared.Setup.{Setup}
use Rattle.model.specs.declared.Timer.{Timer}
use Rattle.model.specs.declared.FaultKind.{FaultKind}
use Rattle.model.proofs.Cases.{of-cond, by-option}

-- an act made of others. `Fine` holds of the registers that it finds, and of those that it sets; where `More` holds something is heard, and
-- the processor is freed
pub data Made (Fine : Cpu → Type 0) (More : Type 0) : (A : Type 0) → Act A → Type 1 where
  binds : {A B : Type 0} {a : Act A} {f : A → Act B} → Made Fine More A a → ((x : A) → Made Fine More B (f x))
      → Made Fine More B (◌>>=◌ a f)
  reads : {B : Type 0} {f : Cpu → Act B} → ((r : Cpu) → Fine r → Made Fine More B (f r)) → Made Fine More B (◌>>=◌ registers f)
  sets : (r : Cpu) → Fine r → Made Fine More (Unit {0}) (set_registers r)
  returns : {A : Type 0} (a : A) → Made Fine More A (return a)
  fails : {A : Type 0} (k : FaultKind) → Made Fine More A (fault k)
  reads-setup : Made Fine More Setup setup
  communicates : More → (c v : ℕ) → Made Fine More (Unit {0}) (communicate c v)
  reads-clock : More → (c : ℕ) → Made Fine More (Unit {0}) (read_clock c)
  reads-timer : Made Fine More Timer timer
  fronts : (f : ℕ) → Made Fine More (Unit {0}) (set_front f)
  drops : (c : ℕ) → Made Fine More ℕ (drop_offer c)
  asks : (c : ℕ) → Made Fine More Bool (held_at c)
  holds : (k v : ℕ) → Made Fine More (Unit {0}) (hold k v)
  outputs : (k : ℕ) → Made Fine More ℕ (output_word_of k)
  peeks : (a : ℕ) → Made Fine More ℕ (peek a)
  pokes : (a v : ℕ) → Made Fine More (Unit {0}) (poke a v)
  tests : (p : ℕ) → Made Fine More (Unit {0}) (test_place p)
  releases : More → Made Fine More (Unit {0}) release
  joins : (w : ℕ) → Made Fine More (Unit {0}) (join w)

module _ {Fine : Cpu → Type 0} {More : Type 0} where
  seq : {A B : Type 0} {a : Act A} {f : Act B} → Made Fine More A a → Made Fine More B f → Made Fine More B (◌>>◌ a f)
  seq h k = binds h (λ a. k)

  picks : {A : Type 0} (b : Bool) {x y : Act A} → Made Fine More A x → Made Fine More A y → Made Fine More A (cond b x y)
  picks {A} b h k = of-cond (Made Fine More A) b h k

  ruleset parts = (
    binds,
    seq,
    reads,
    picks,
    sets,
    returns,
    fails,
    reads-setup,
    communicates,
    reads-clock,
    reads-timer,
    fronts,
    drops,
    asks,
    holds,
    outputs,
    peeks,
    pokes,
    tests,
    releases,
    joins,
  )

  -- what follows the process before, or the front
  of-link : (b : Option ℕ) (p : ℕ) → Made Fine More (Unit {0}) (link b p)
  of-link none p = search parts
  of-link (some b) p = search parts

  -- a walk along the timer queue
  of-along : (n : ℕ) {stops : ℕ → Act Bool} (front : ℕ) (seen : List ℕ) (before : Option ℕ) (p : ℕ)
      → ((q : ℕ) → Made Fine More Bool (stops q)) → Made Fine More Stop (along n stops front seen before p)
  unfolding along
  of-along zero front seen before p h = fails _
  of-along (suc n) front seen before p h =
      picks (eqb p not_process) (returns _)
      (picks (was_at p seen) (fails _)
      (binds (h p) (λ b. picks b (returns _) (binds (peeks _) (λ q. of-along n front (p ∷ seen) (some p) q h)))))

  of-walk : {stops : ℕ → Act Bool} → ((q : ℕ) → Made Fine More Bool (stops q)) → Made Fine More Stop (walk stops)
  unfolding walk
  of-walk h = binds reads-setup (λ u. binds reads-timer (λ t. of-along (suc (memory_size u)) t.front [] none t.front h))

  pub of-land : Made Fine More (Unit {0}) land
  unfolding land
  of-land = search parts

  of-waking : {a : Act (Unit {0})} → Made Fine More (Unit {0}) a → Made Fine More (Unit {0}) (waking a)
  unfolding waking
  of-waking h = reads (λ r k. seq h (picks r.running (returns tt) of-land))

module _ {Fine : Cpu → Type 0} {More : Type 0} (flags : (r q : Cpu) → Fine r → q.running ≡ r.running → q.queued ≡ r.queued → Fine q)
    (more : More) where
  of-sleep : (t : ℕ) → Made Fine More (Unit {0}) (sleep t)
  unfolding sleep
  of-sleep t = search (parts, of-walk, of-link) depth 20

  of-leave_timer : (n : ℕ) → Made Fine More (Unit {0}) (leave_timer n)
  unfolding leave_timer
  of-leave_timer n = search (parts, of-walk, of-link) depth 20

  of-operate : (o : Operation) → Made Fine More (Unit {0}) (operate o)
  unfolding operate start_process end_process stop_process wait_at receive received input_word input_message notify deliver output_word
      begin_alt set_ready enable_ready enable_channel enable_skip wait_alt select disable_ready disable_channel disable_skip end_alt
      load_timer timer_input begin_timed_alt bring_time enable_time wait_time wait_timed_alt disable_set disable_time
  of-operate rev = search (parts, flags)
  of-operate sum = search (parts, flags)
  of-operate diff = search (parts, flags)
  of-operate prod = search (parts, flags)
  of-operate gt = search (parts, flags)
  of-operate and = search (parts, flags)
  of-operate or = search (parts, flags)
  of-operate xor = search (parts, flags)
  of-operate mint = search (parts, flags)
  of-operate ldpi = search (parts, flags)
  of-operate startp = search parts
  of-operate endp = search (parts, more) depth 10
  of-operate stopp = search (parts, more)
  of-operate «in» = search (parts, more) depth 20
  of-operate outword = search (parts, more) depth 20
  of-operate alt = search parts
  of-operate enbc = search (parts, flags) depth 20
  of-operate enbs = search parts depth 20
  of-operate altwt = search (parts, more) depth 20
  of-operate disc = search (parts, flags) depth 20
  of-operate diss = search (parts, flags) depth 20
  of-operate altend = search (parts, flags)
  of-operate ldtimer = search (parts, flags, more)
  of-operate tin = search (parts, of-sleep, more) depth 20
  of-operate talt = search parts
  of-operate enbt = search (parts, flags) depth 20
  of-operate taltwt = search (parts, of-sleep, more) depth 20
  of-operate dist = search (parts, flags, of-leave_timer) depth 20

  of-execute : (f : Function) (n : ℕ) → Made Fine More (Unit {0}) (execute f n)
  unfolding execute jump load_local store_local conditional_jump
  of-execute j n = search (parts, flags, more) depth 10
  of-execute ldlp n = search (parts, flags)
  of-execute ldc n = search (parts, flags)
  of-execute ldl n = search (parts, flags)
  of-execute cj n = search (parts, flags)
  of-execute ajw n = search (parts, flags)
  of-execute eqc n = search (parts, flags)
  of-execute stl n = search (parts, flags)
  of-execute opr n = by-option (operation_of n) (λ e. rw e (fails _)) (λ o e. rw e (of-operate o))

  of-act : (b : ℕ) → Made Fine More (Unit {0}) (act b)
  unfolding act
  of-act b =
      by-option (function_of (b / 16)) (λ e. rw e (search (parts, flags) depth 10))
      (λ f e. rw e (search (parts, flags, of-execute) depth 10))

  pub of-byte : (code : List ℕ) → Made Fine More (Unit {0}) (byte code)
  unfolding byte fetch
  of-byte code = search (parts, of-act, of-land) depth 10

  pub of-offering : (k v : ℕ) → Made Fine More (Unit {0}) (offering k v)
  unfolding offering notify deliver received
  of-offering k v = of-waking (search (parts, more) depth 20)

  of-looking : (k : ℕ) → Made Fine More (Option ℕ) (looking k)
  unfolding looking receive
  of-looking k = search parts depth 10

  of-received : (c p v : ℕ) → Made Fine More (Unit {0}) (received c p v)
  unfolding received
  of-received c p v = search (parts, more)

  of-taken : (k : ℕ) (v : Option ℕ) → Made Fine More (Option ℕ) (taken k v)
  of-taken k none = returns none
  of-taken k (some v) = binds (outputs k) (λ c. binds (peeks c) (λ p. seq (of-waking (of-received c p v)) (returns (some v))))

  pub of-taking : (k : ℕ) → Made Fine More (Option ℕ) (taking k)
  unfolding taking
  of-taking k = binds (of-looking k) (of-taken k)

-- a run's beginning once it has its clock, where the registers were r
abbrev pub begins : Cpu → Act (Unit {0})
begins r = do
  do wake_sleepers; settle
  cond r.running (return tt) land

abbrev pub clocked : (clock : ℕ) → World → World
clocked c s = with_timer (record { clock = c; given = true; front = s.machine.timer.front }) s

pub beginning-is : (c : ℕ) (s : World) → beginning c s ≡ begins s.machine.cpu (clocked c s)
unfolding beginning waking
beginning-is c s = refl

-- it is made so where what is fine does not depend on the queue: it queues processes while the processor is free
module _ {Fine : Cpu → Type 0} {More : Type 0} (queues : (r q : Cpu) → Fine r → q.running ≡ r.running → Fine q) where
  of-enqueue : (p : ℕ) (r : Cpu) → Fine r → Made Fine More (Unit {0}) (enqueue p r)
  of-enqueue p r h = picks r.queued (seq (pokes _ _) (sets _ (queues r _ h refl))) (sets _ (queues r _ h refl))

  of-wake_one : (c p : ℕ) → Made Fine More ℕ (wake_one c p)
  unfolding wake_one
  of-wake_one c p = search (parts, of-enqueue) depth 20

  of-wake_from : (n c front : ℕ) (seen : List ℕ) (p : ℕ) → Made Fine More ℕ (wake_from n c front seen p)
  unfolding wake_from
  of-wake_from zero c front seen p = fails _
  of-wake_from (suc n) c front seen p =
      picks (eqb p not_process) (returns p)
      (picks (was_at p seen) (fails _)
      (binds (peeks _)
      (λ t. picks (after c t) (search (parts, of-wake_one, of-wake_from n c front (p ∷ seen)) depth 10) (returns p))))

  pub of-wake_sleepers : Made Fine More (Unit {0}) wake_sleepers
  unfolding wake_sleepers
  of-wake_sleepers =
      binds reads-setup
      (λ u. binds reads-timer (λ t. binds (of-wake_from (suc (memory_size u)) t.clock t.front [] t.front) fronts))

  pub of-begins : More → (r : Cpu) → Made Fine More (Unit {0}) (begins r)
  of-begins more r =
      seq (seq of-wake_sleepers (reads (λ r k. picks r.running (returns tt) (releases more)))) (picks r.running (returns tt) of-land)
