-- One byte, a start, and a run with a budget and a clock (01, "The machine", "When a call is turned down"; 02, order 4).
use Rattle.std.specs.Prelude.{ℕ, zero, suc, ◌+◌, ◌/◌, min, Bool, true, false, cond, not, ◌&&◌, List, [], ◌++◌, length, get_or, drop}
use Rattle.std.specs.Prelude.{replicate, ltb, leb, eqb, Err, None, Ok, Some}
use Rattle.std.proofs.Math.Option.{Option, none, some}
use Rattle.model.specs.Word.{low, after, not_process}
use Rattle.model.specs.Limits.{code_limit, word_limit, channel_limit, slice_limit}
use Rattle.model.specs.Instruction.{Function, pfix_code, nfix_code, function_of}
use Rattle.model.specs.Prefix.{gathered, pfixed, nfixed}
use Rattle.model.specs.Answers.{KeptFault, RunAnswer, StartAnswer}
use Rattle.model.specs.Machine.{machine_with, Talk, World, Result, done, faults, Act, ◌>>=◌, ◌>>◌, return, fault, registers}
use Rattle.model.specs.Machine.{set_registers, setup, set_clock, goto, gathering, counting, test_place, release, memory_size}
use Rattle.model.specs.Timer.{wake_sleepers}
use Rattle.model.specs.Execute.{execute}
use Rattle.model.specs.declared.Cpu.{Cpu}
use Rattle.model.specs.declared.Setup.{Setup}
use Rattle.model.specs.declared.Timer.{Timer}
use Rattle.model.specs.declared.Machine.{Machine}
use Rattle.model.specs.declared.RunRefusal.TheVariants.{EarlierClock, Short as RunShort}
use Rattle.model.specs.declared.StartRefusal.TheVariants.{BadSlice, BadCount, TooLarge, Short as StartShort}
use Rattle.model.specs.declared.FaultKind.{FaultKind}
use Rattle.model.specs.declared.FaultKind.TheVariants.{Function as BadFunction, Place}
use Rattle.model.specs.declared.Outcome.{Outcome}
use Rattle.model.specs.declared.Outcome.TheVariants.{Ended, Waiting, Spent, Fault as RunFault}

-- the byte at the process's place; later runs use as much code as the start had. A run tests its end first, so no byte is asked
-- for at the code's end
unfoldable pub fetch : List ℕ → Act ℕ
fetch code = do
  r ← registers
  u ← setup
  cond (ltb r.place u.code) (return (get_or code r.place 0)) (fault (Place r.place))

-- refusal 12: a direct function that is not used is a fault with the function as its number
abbrev pub function_or12 : Option Function → (code operand : ℕ) → Act (Unit {0})
function_or12 none n o = fault (BadFunction n)
function_or12 (some f) n o = execute f o

-- what a byte does once it is fetched: a prefix gathers, any other uses the operand and leaves 0
unfoldable pub act : (byte : ℕ) → Act (Unit {0})
act b = do
  r ← registers
  set_registers (counting (min (suc r.count) slice_limit) (goto (low (suc r.place)) r))
  q ← registers
  cond (eqb (b / 16) pfix_code) (set_registers (gathering (pfixed (gathered r.operand b)) q))
      (cond (eqb (b / 16) nfix_code) (set_registers (gathering (nfixed (gathered r.operand b)) q))
      (do set_registers (gathering 0 q); function_or12 (function_of (b / 16)) (b / 16) (gathered r.operand b)))

-- a code place is tested when the processor goes there, after all words
unfoldable pub land : Act (Unit {0})
land = do
  r ← registers
  cond r.running (test_place r.place) (return tt)

-- where a free processor has taken a process, the code place that it went to is tested, after all words
unfoldable pub waking : Act (Unit {0}) → Act (Unit {0})
waking act = do
  r ← registers
  act
  cond r.running (return tt) land

-- one byte, which counts one instruction
unfoldable pub byte : List ℕ → Act (Unit {0})
byte code = do
  b ← fetch code
  act b
  land

-- 01, ended: the process that has the processor stands at the code's end
abbrev pub ended : Machine → Bool
ended m = m.cpu.running && eqb m.cpu.place m.setup.code

-- 01, waiting: no process has the processor and none is queued. The second follows from the first for every machine that calls reach
-- from a start (Laws.antt, law 6); of others `queued` counts only while `running`
abbrev pub waits : Machine → Bool
waits m = not m.cpu.running

-- a processor that is free takes the front of the queue
abbrev pub settle : Act (Unit {0})
settle = do
  r ← registers
  cond r.running (return tt) release

-- 02, order 4, a run's beginning: the clock, then waking, then a free processor takes the front of the queue
unfoldable pub beginning : (clock : ℕ) → Act (Unit {0})
beginning c = waking (do set_clock c; wake_sleepers; settle)

-- how a run stood, and the world after it
pub record Finish : Type 0 where
  pub outcome : Outcome
  pub world : World

-- refusal 12: the fault is kept; state and memory stay as they were before the byte, offer or take
abbrev pub keep : FaultKind → World → World
keep k s =
    let m = s.machine in
    record { machine = machine_with m.cpu m.offers m.held (Some k) m; memory = s.memory; talk = s.talk }

-- a byte that would fault is not begun and not counted; those before it stand
abbrev onward : Result (Unit {0}) → World → ℕ → (World → Finish) → Finish
onward (done u t) s n more = more t
onward (faults k) s n more = record { outcome = RunFault n k; world = keep k s }

-- ended, waiting, spent or fault, tested in that order, with the instructions executed; n of them are before
unfoldable pub run_from : (budget : ℕ) → List ℕ → (n : ℕ) → World → Finish
run_from zero code n s =
    cond (ended s.machine) (record { outcome = Ended n; world = s })
    (cond (waits s.machine) (record { outcome = Waiting n; world = s }) (record { outcome = Spent n; world = s }))
run_from (suc k) code n s =
    let more = onward (byte code s) s n (λ t. run_from k code (suc n) t) in
    cond (ended s.machine) (record { outcome = Ended n; world = s })
    (cond (waits s.machine) (record { outcome = Waiting n; world = s }) more)

-- refusal 11: lent memory too short
abbrev pub short_memory : Machine → List ℕ → Bool
short_memory m memory = ltb (length memory) (memory_size m.setup)

-- a call's answer, the machine and the lent memory after it, and its communications
pub record After (Answer : Type 0) : Type 0 where
  pub answer : Answer
  pub machine : Machine
  pub memory : List ℕ
  pub talk : List Talk

-- a refusal changes no state and no lent memory
abbrev pub unchanged : {Answer : Type 0} → Answer → Machine → List ℕ → After Answer
unchanged a m memory = record { answer = a; machine = m; memory = memory; talk = [] }

-- a machine with its lent memory, before any communication of the call
abbrev pub world_of : Machine → List ℕ → World
world_of m memory = record { machine = m; memory = memory; talk = [] }

-- a run's answer and what it left
abbrev pub finished : Finish → After RunAnswer
finished f = record { answer = Ok f.outcome; machine = f.world.machine; memory = f.world.memory; talk = f.world.talk }

-- a kept fault is answered again, with 0 instructions
abbrev pub kept_or_run : KeptFault → Machine → List ℕ → Finish → After RunAnswer
kept_or_run (Some k) m memory f = unchanged (Ok (RunFault 0 k)) m memory
kept_or_run None m memory f = finished f

-- a run's beginning, and then its bytes. "A fault in this comes before the run's first byte, budget 0 or not, and leaves all else as
-- before the run"
unfoldable pub begun_run : (budget : ℕ) → List ℕ → (clock : ℕ) → World → Finish
begun_run budget code c s = onward (beginning c s) s 0 (λ t. run_from budget code 0 t)

-- refusal 16: a clock that the last one given is after
abbrev pub earlier_clock : Machine → (clock : ℕ) → Bool
earlier_clock m c = m.timer.given && after m.timer.clock c

-- a run over lent code and lent memory, with its clock: 16 before anything else, then 11, code before memory
unfoldable pub run : Machine → (code memory : List ℕ) → (budget clock : ℕ) → After RunAnswer
run m code memory budget c =
    let ran = kept_or_run m.fault m memory (begun_run budget code c (world_of m memory)) in
    cond (earlier_clock m c) (unchanged (Err EarlierClock) m memory)
    (cond (ltb (length code) m.setup.code) (unchanged (Err (RunShort m.setup.code)) m memory)
    (cond (short_memory m memory) (unchanged (Err (RunShort (memory_size m.setup))) m memory) ran))

-- eight offer values, none of them held
abbrev pub no_offers : List ℕ
no_offers = replicate channel_limit 0

-- no offer is held
abbrev pub none_held : List Bool
none_held = replicate channel_limit false

-- registers start as 0
abbrev pub registers_at : (w : ℕ) (runs : Bool) → Cpu
registers_at w runs =
    record {
      a = 0;
      b = 0;
      c = 0;
      operand = 0;
      place = 0;
      workspace = w;
      count = 0;
      front = 0;
      back = 0;
      running = runs;
      queued = false;
    }

-- 02, order 4: no clock was given, and nobody is in the timer queue
abbrev pub no_timer : Timer
no_timer = record { clock = 0; given = false; front = not_process }

-- a machine that was started: the process at W has the processor
unfoldable pub fresh : Setup → Machine
fresh u =
    record { cpu = registers_at u.base true; setup = u; timer = no_timer; offers = no_offers; held = none_held; fault = None }

-- no code, no memory, no channels
abbrev pub no_setup : Setup
no_setup = record { code = 0; base = 0; inputs = 0; outputs = 0; slice = 0 }

-- the machine with nothing in it, which a refused start gives back
unfoldable pub blank : Machine
blank = record { cpu = registers_at 0 false; setup = no_setup; timer = no_timer; offers = no_offers; held = none_held; fault = None }

-- 01: outside channels start as NotProcess, every other needed word as 0; later words stay
unfoldable pub cleared : Setup → List ℕ → List ℕ
cleared u memory = replicate u.base 0 ++ replicate (u.inputs + u.outputs) not_process ++ drop (memory_size u) memory

-- a start: 15 first, then 3 for a channel count over 8 and 10, then 11, which tests memory only
unfoldable pub start : (code memory : List ℕ) → (w inputs outputs slice : ℕ) → After StartAnswer
start code memory w i o q =
    let u : Setup = record { code = length code; base = w; inputs = i; outputs = o; slice = q } in
    cond (leb 1 q && leb q slice_limit)
    (cond (leb i channel_limit && leb o channel_limit)
    (cond (leb (w + i + o) word_limit && leb (length code) code_limit)
    (cond (leb (w + i + o) (length memory))
    (record { answer = Ok tt; machine = fresh u; memory = cleared u memory; talk = [] })
    (unchanged (Err (StartShort (w + i + o))) blank memory))
    (unchanged (Err TooLarge) blank memory))
    (unchanged (Err BadCount) blank memory))
    (unchanged (Err BadSlice) blank memory)
