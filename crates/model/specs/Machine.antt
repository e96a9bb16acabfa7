-- The machine's state, its memory and its queue (01, "The machine"; the guide's definitions, with words numbered and one priority).
use Rattle.std.specs.Prelude.{ℕ, ◌+◌, ◌-◌, Bool, true, false, cond, ◌&&◌, List, [], ◌∷◌, ◌++◌, get_or, set, ltb, leb, eqb}
use Rattle.model.specs.Word.{less}
use Rattle.model.specs.Answers.{KeptFault}
use Rattle.model.specs.declared.Cpu.{Cpu}
use Rattle.model.specs.declared.Setup.{Setup}
use Rattle.model.specs.declared.Timer.{Timer}
use Rattle.model.specs.declared.Machine.{Machine}
use Rattle.model.specs.declared.FaultKind.{FaultKind}
use Rattle.model.specs.declared.FaultKind.TheVariants.{Word, Place}

-- what is heard from a machine: a communication, with the channel's word and the value; or LDTIMER, with the clock word that it read
pub data Talk : Type 0 where
  talks : (channel value : ℕ) → Talk
  reads : (clock : ℕ) → Talk

-- the machine, the lent memory, and the communications so far
pub record World : Type 0 where
  pub machine : Machine
  pub memory : List ℕ
  pub talk : List Talk

-- what a byte, an offer or a take comes to: done, or the fault that kept it from beginning
pub data Result (A : Type 0) : Type 0 where
  done : A → World → Result A
  faults : FaultKind → Result A

-- an action on the machine and the lent memory
abbrev pub Act : Type 0 → Type 0
Act A = World → Result A

-- a fault ends the byte, offer or take, and nothing of it stands
abbrev pub next : {A B : Type 0} → Result A → (A → Act B) → Result B
next (done a s) f = f a s
next (faults k) f = faults k

-- one action, then another that uses what it gave
abbrev pub ◌>>=◌ : {A B : Type 0} → Act A → (A → Act B) → Act B
◌>>=◌ act f s = next (act s) f

-- one action, then another
abbrev pub ◌>>◌ : {A B : Type 0} → Act A → Act B → Act B
◌>>◌ act f s = next (act s) (λ a. f)

-- no action, with a result
abbrev pub return : {A : Type 0} → A → Act A
return a s = done a s

-- a fault (refusal 12)
abbrev pub fault : {A : Type 0} → FaultKind → Act A
fault k s = faults k

-- a machine with the parts that calls change replaced
abbrev pub machine_with : Cpu → List ℕ → List Bool → KeptFault → Machine → Machine
machine_with r offers held fault m =
    record { cpu = r; setup = m.setup; timer = m.timer; offers = offers; held = held; fault = fault }

-- with other registers
abbrev pub with_cpu : Cpu → World → World
with_cpu r s =
    let m = s.machine in
    record { machine = machine_with r m.offers m.held m.fault m; memory = s.memory; talk = s.talk }

-- with another memory
abbrev pub with_memory : List ℕ → World → World
with_memory l s = record { machine = s.machine; memory = l; talk = s.talk }

-- with other held offers
abbrev pub with_offers : List ℕ → List Bool → World → World
with_offers o h s =
    let m = s.machine in
    record { machine = machine_with m.cpu o h m.fault m; memory = s.memory; talk = s.talk }

-- with another clock and timer queue
abbrev pub with_timer : Timer → World → World
with_timer t s =
    let m = s.machine in
    let n : Machine = record { cpu = m.cpu; setup = m.setup; timer = t; offers = m.offers; held = m.held; fault = m.fault } in
    record { machine = n; memory = s.memory; talk = s.talk }

-- the registers as they are
abbrev pub registers : Act Cpu
registers s = done s.machine.cpu s

-- new registers
abbrev pub set_registers : Cpu → Act (Unit {0})
set_registers r s = done tt (with_cpu r s)

-- what the start fixed
abbrev pub setup : Act Setup
setup s = done s.machine.setup s

-- the clock and the timer queue as they are
abbrev pub timer : Act Timer
timer s = done s.machine.timer s

-- a new clock
abbrev pub set_clock : (clock : ℕ) → Act (Unit {0})
set_clock c s = done tt (with_timer (record { clock = c; given = true; front = s.machine.timer.front }) s)

-- another front of the timer queue
abbrev pub set_front : (front : ℕ) → Act (Unit {0})
set_front f s =
    let t = s.machine.timer in
    done tt (with_timer (record { clock = t.clock; given = t.given; front = f }) s)

-- something is heard
abbrev say : Talk → Act (Unit {0})
say t s = done tt (record { machine = s.machine; memory = s.memory; talk = s.talk ++ t ∷ [] })

-- 01, "Agreement": a communication comes where IN, OUTWORD, offer or take finds the other side
abbrev pub communicate : ℕ → ℕ → Act (Unit {0})
communicate c v = say (talks c v)

-- 02, order 4: LDTIMER's reading, which Occam's run gets too
abbrev pub read_clock : ℕ → Act (Unit {0})
read_clock c = say (reads c)

-- the processor's registers in parts. The queue: its front and back, and whether it is not empty
pub record Queue : Type 0 where
  pub front : ℕ
  pub back : ℕ
  pub queued : Bool

-- the registers of a process: the stack A, B, C, the gathered operand, the place of the next byte, W, and the count towards the slice
pub record Registers : Type 0 where
  pub a : ℕ
  pub b : ℕ
  pub c : ℕ
  pub operand : ℕ
  pub place : ℕ
  pub workspace : ℕ
  pub count : ℕ

-- all of them, with whether a process has the processor
abbrev cpu : Registers → Queue → (running : Bool) → Cpu
cpu p q t =
    record {
      a = p.a;
      b = p.b;
      c = p.c;
      operand = p.operand;
      place = p.place;
      workspace = p.workspace;
      count = p.count;
      front = q.front;
      back = q.back;
      running = t;
      queued = q.queued;
    }

abbrev pub queue_of : Cpu → Queue
queue_of r = record { front = r.front; back = r.back; queued = r.queued }

abbrev pub registers_of : Cpu → Registers
registers_of r =
    record { a = r.a; b = r.b; c = r.c; operand = r.operand; place = r.place; workspace = r.workspace; count = r.count }

-- with other registers of the process
abbrev process : (a b c operand place workspace count : ℕ) → Cpu → Cpu
process a b c o p w n r =
    cpu (record { a = a; b = b; c = c; operand = o; place = p; workspace = w; count = n }) (queue_of r) r.running

-- the stack A, B, C
abbrev pub stack : (a b c : ℕ) → Cpu → Cpu
stack a b c r = process a b c r.operand r.place r.workspace r.count r

-- a value comes onto the stack: LDLP, LDC, LDL, MINT
abbrev pub push : ℕ → Cpu → Cpu
push v r = stack v r.a r.b r

-- the top of the stack goes, C keeps: STL, CJ
abbrev pub pop : Cpu → Cpu
pop r = stack r.b r.c r.c r

-- a result in place of the two topmost values: B' = C, C keeps
abbrev pub reduce : ℕ → Cpu → Cpu
reduce v r = stack v r.c r.c r

-- the gathered operand
abbrev pub gathering : (operand : ℕ) → Cpu → Cpu
gathering o r = process r.a r.b r.c o r.place r.workspace r.count r

-- the place of the next byte
abbrev pub goto : (place : ℕ) → Cpu → Cpu
goto p r = process r.a r.b r.c r.operand p r.workspace r.count r

-- the workspace pointer W
abbrev pub work : (workspace : ℕ) → Cpu → Cpu
work w r = process r.a r.b r.c r.operand r.place w r.count r

-- the count towards the slice
abbrev pub counting : (count : ℕ) → Cpu → Cpu
counting n r = process r.a r.b r.c r.operand r.place r.workspace n r

-- the queue's front and back, and whether it is not empty
abbrev pub queueing : (front back : ℕ) (queued : Bool) → Cpu → Cpu
queueing f k q r = cpu (registers_of r) (record { front = f; back = k; queued = q }) r.running

-- whether a process has the processor
abbrev pub running : Bool → Cpu → Cpu
running t r = cpu (registers_of r) (queue_of r) t

-- the registers alone
abbrev pub changing : (Cpu → Cpu) → Act (Unit {0})
changing f = do
  r ← registers
  set_registers (f r)

-- the machine's memory is the first W + channels words; later words are never touched
abbrev pub memory_size : Setup → ℕ
memory_size u = u.base + u.inputs + u.outputs

-- reading a word: only inside the machine's memory; else the fault names its address (refusal 12: address outside memory)
unfoldable pub peek : ℕ → Act ℕ
peek a s = cond (ltb a (memory_size s.machine.setup)) (done (get_or s.memory a 0) s) (faults (Word a))

-- writing a word, likewise
unfoldable pub poke : ℕ → ℕ → Act (Unit {0})
poke a v s = cond (ltb a (memory_size s.machine.setup)) (done tt (with_memory (set s.memory a v) s)) (faults (Word a))

-- a code place is from 0 to the code's length; else the fault names the place (refusal 12)
unfoldable pub test_place : ℕ → Act (Unit {0})
test_place p s = cond (leb p s.machine.setup.code) (done tt s) (faults (Place p))

-- 01, words below the workspace pointer W: W - 1 resume place
abbrev pub resume_word : ℕ → ℕ
resume_word w = less w 1

-- W - 2 queue link
abbrev pub link_word : ℕ → ℕ
link_word w = less w 2

-- W - 3 message place or ALT state
abbrev pub state_word : ℕ → ℕ
state_word w = less w 3

-- 02, order 4: W - 4 link of the timer queue, or whether an ALT has a time
abbrev pub time_link_word : ℕ → ℕ
time_link_word w = less w 4

-- W - 5 time that is waited for
abbrev pub time_word : ℕ → ℕ
time_word w = less w 5

-- a process as the words of queues and channels hold it: its name, which is its workspace
unfoldable pub name_of : (workspace : ℕ) → ℕ
name_of w = w

-- the workspace of a process, by its name
unfoldable pub space_of : (name : ℕ) → ℕ
space_of p = p

-- a process gets the processor: it goes on at its resume place, and its count towards the slice starts again
unfoldable pub resume : (name : ℕ) → Act (Unit {0})
resume p = do
  i ← peek (resume_word (space_of p))
  r ← registers
  set_registers (running true (counting 0 (goto i (work (space_of p) r))))

-- the front of the queue gets the processor: its link is read first, then its resume place
unfoldable pub take_front : Act (Unit {0})
take_front = do
  r ← registers
  cond (eqb r.front r.back)
      (set_registers (queueing r.front r.back false r))
      (do f ← peek (link_word (space_of r.front)); set_registers (queueing f r.back true r))
  resume r.front

-- the processor is free: it takes the front of the queue, which counts no instruction; where none is queued no process runs
unfoldable pub release : Act (Unit {0})
release = do
  r ← registers
  cond r.queued take_front (set_registers (running false r))

-- a process joins the back of the queue
abbrev pub enqueue : (name : ℕ) → Cpu → Act (Unit {0})
enqueue p r =
    cond r.queued
    (do poke (link_word (space_of r.back)) p; set_registers (queueing r.front p true r))
    (set_registers (queueing p p true r))

-- a woken or started process joins the back of the queue; a free processor takes it at once
unfoldable pub join : (name : ℕ) → Act (Unit {0})
join p = do
  r ← registers
  cond r.running (enqueue p r) (do set_registers (queueing p p false r); resume p)

-- whether an offer is held on a channel word: by address, the start's W + k
abbrev pub is_held : ℕ → Machine → Bool
is_held a m = leb m.setup.base a && ltb (a - m.setup.base) m.setup.inputs && get_or m.held (a - m.setup.base) false

-- whether an offer is held on a channel
abbrev pub held_at : ℕ → Act Bool
held_at c s = done (is_held c s.machine) s
