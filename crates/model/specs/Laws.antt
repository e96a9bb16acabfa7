-- Laws of the definitions, for every machine, code, memory and budget. 1 to 3 are of runs, the second also of offers and takes
-- (proofs/Laws/Runs.antt); 4 and 5 tie the history to the run (proofs/Laws/Recorded.antt); 6 is 01's waiting (proofs/Laws/Settled.antt); 7
-- is of prefixes (proofs/Coding/Shortest.antt); 8 is of the bench program's text (proofs/Laws/Reported.antt); 9 is of the timer queue
-- (proofs/Laws/Walks.antt).
use Rattle.std.specs.Prelude.{ℕ, zero, suc, ◌+◌, ◌^◌, ◌≤◌, ◌<◌, ◌≡◌, Bool, true, false, length, get_or, drop, Err, None, Ok}
use Prim.Native.String.{String}
use mathlib.Core.List.{List, [], ◌∷◌, ◌++◌, Memᴰ}
use Rattle.std.proofs.Math.Option.{none, some}
use Rattle.std.proofs.Math.ListN as L
use Rattle.model.specs.Word.{low}
use Rattle.model.specs.Limits.{code_limit}
use Rattle.model.specs.Syntax.{Program}
use Rattle.model.specs.Accept.{memory_words}
use Rattle.model.specs.Instruction.{Function, function_code}
use Rattle.model.specs.Prefix.{with_prefixes, fewest, decode}
use Rattle.model.specs.Code.{Compilation, compiled, refused, compile}
use Rattle.model.specs.Machine.{Talk, World, Result, done, faults, Act, ◌>>◌, return, memory_size}
use Rattle.model.specs.Timer.{along, walk}
use Rattle.model.specs.Answers.{reason_number, instructions_of, RunAnswer}
use Rattle.model.specs.Run.{byte, waits, beginning, keep, After, world_of, start, run}
use Rattle.model.specs.Outside.{offer, take}
use Rattle.model.specs.Bench.{line, code_line, refused_line, out_line, bench_budget, bench}
use Rattle.model.specs.History.{Call, call_run, Moment, quietly, call, history}
use Rattle.model.specs.declared.Machine.{Machine}
use Rattle.model.specs.declared.FaultKind.{FaultKind}
use Rattle.model.specs.declared.Reason.{Reason}
use Rattle.model.specs.declared.RunRefusal.TheVariants.{EarlierClock, Short as RunShort}
use Rattle.model.specs.declared.Outcome.{Outcome}
use Rattle.model.specs.declared.Outcome.TheVariants.{Ended, Waiting, Spent, Fault as RunFault}

-- an outcome that also counts the n instructions before it
abbrev pub counted : ℕ → Outcome → Outcome
counted n (Ended k) = Ended (n + k)
counted n (Waiting k) = Waiting (n + k)
counted n (Spent k) = Spent (n + k)
counted n (RunFault k e) = RunFault (n + k) e

-- an answer, likewise
abbrev pub later : ℕ → RunAnswer → RunAnswer
later n (Ok o) = Ok (counted n o)
later n (Err EarlierClock) = Err EarlierClock
later n (Err (RunShort k)) = Err (RunShort k)

-- f with its answer, and then g: only a spent run goes on; its count and its communications come before those of g
abbrev followed : RunAnswer → (f g : After RunAnswer) → After RunAnswer
followed (Ok (Spent n)) f g =
    record { answer = later n g.answer; machine = g.machine; memory = g.memory; talk = f.talk ++ g.talk }
followed (Ok (Ended n)) f g = f
followed (Ok (Waiting n)) f g = f
followed (Ok (RunFault n k)) f g = f
followed (Err EarlierClock) f g = f
followed (Err (RunShort k)) f g = f

-- a run f, and then g unless f ended, waits, faults or was refused
abbrev pub and_then : (f g : After RunAnswer) → After RunAnswer
and_then f g = followed f.answer f g

-- a run under this clock would wake nobody: its beginning changes nothing. So it is where no process is in the timer queue and one has the
-- processor, and in each program's own runs. Arbitrary code can change a sleeper's time so that it has come
abbrev pub WakesNobody : (clock : ℕ) → Machine → (memory : List ℕ) → Type 0
WakesNobody c m memory = beginning c (world_of m memory) ≡ done tt (world_of m memory)

-- law 1: a run of a + b is a run of a and then one of b under the same clock, from what the first left, where that one wakes nobody
abbrev pub Splits : Type 0
Splits = (m : Machine) (code memory : List ℕ) (a b clock : ℕ)
    → let f = run m code memory a clock in
    WakesNobody clock f.machine f.memory
    → run m code memory (a + b) clock ≡ and_then f (run f.machine code f.memory b clock)

-- the words at and beyond the machine's memory are as they were, and no word came or went
abbrev pub Beyond : {Answer : Type 0} → Machine → List ℕ → After Answer → Type 0
Beyond m memory f =
    (length f.memory ≡ length memory) × (drop (memory_size m.setup) f.memory ≡ drop (memory_size m.setup) memory)

-- law 2: a run never touches them, an offer does not, and a take does not
abbrev pub KeepsBeyond : Type 0
KeepsBeyond = (m : Machine) (code memory : List ℕ) (budget clock : ℕ) → Beyond m memory (run m code memory budget clock)

abbrev pub OfferKeepsBeyond : Type 0
OfferKeepsBeyond = (m : Machine) (memory : List ℕ) (k value : ℕ) → Beyond m memory (offer m memory k value)

abbrev pub TakeKeepsBeyond : Type 0
TakeKeepsBeyond = (m : Machine) (memory : List ℕ) (k : ℕ) → Beyond m memory (take m memory k)

-- n bytes, one after the other
unfoldable pub bytes : ℕ → List ℕ → Act (Unit {0})
bytes zero code = return tt
bytes (suc n) code = do
  byte code
  bytes n code

-- as many bytes as the outcome counts lead from s to t, within the budget; a spent budget is used up; with a fault they lead to
-- a world u whose next byte faults, and t is u with that fault kept
abbrev pub Took : (code : List ℕ) (budget : ℕ) (s t : World) → Outcome → Type 0
Took code budget s t (Ended n) = (bytes n code s ≡ done tt t) × (n ≤ budget)
Took code budget s t (Waiting n) = (bytes n code s ≡ done tt t) × (n ≤ budget)
Took code budget s t (Spent n) = (bytes n code s ≡ done tt t) × (n ≡ budget)
Took code budget s t (RunFault n k) =
    (u : World) × (bytes n code s ≡ done tt u) × (byte code u ≡ faults k) × (t ≡ keep k u) × (n < budget)

-- a run's beginning and then its bytes; or a fault in the beginning, whatever the budget, which is kept before any byte
pub data Began (code : List ℕ) (budget clock : ℕ) (s t : World) : Outcome → Type 0 where
  begun : {o : Outcome} (u : World) → beginning clock s ≡ done tt u → Took code budget u t o → Began code budget clock s t o
  not-begun : (k : FaultKind) → beginning clock s ≡ faults k → t ≡ keep k s → Began code budget clock s t (RunFault 0 k)

-- the world that a call leaves
abbrev pub world_after : After RunAnswer → World
world_after f = record { machine = f.machine; memory = f.memory; talk = f.talk }

-- law 3: the count that a run answers is the steps that it took, where no fault was kept before
abbrev pub CountsSteps : Type 0
CountsSteps = (m : Machine) (code memory : List ℕ) (budget clock : ℕ) (o : Outcome) → m.fault ≡ None
    → let f = run m code memory budget clock in
    f.answer ≡ Ok o → Began code budget clock (world_of m memory) (world_after f) o

-- the moments after a byte executed
abbrev pub after_bytes : List Moment → List Moment
after_bytes [] = []
after_bytes (a ∷ l) = elim a.instruction [ true ↦ a ∷ after_bytes l | false ↦ after_bytes l ]

-- the communications of moments, one behind the other
abbrev pub talk_in : List Moment → List Talk
talk_in [] = []
talk_in (a ∷ l) = a.talk ++ talk_in l

-- what is found at the first of some moments; where there is none, what was there before
abbrev pub first_among : Moment → List Moment → Moment
first_among before [] = before
first_among before (a ∷ l) = a

-- at the last of them, likewise
abbrev pub last_of : Moment → List Moment → Moment
last_of before [] = before
last_of before (a ∷ l) = last_of a l

-- the instructions that an answer counts; a run that was refused executed none
abbrev pub executed_in : RunAnswer → ℕ
executed_in (Ok o) = instructions_of o
executed_in (Err EarlierClock) = 0
executed_in (Err (RunShort k)) = 0

-- the machine that a run leaves is its last byte's; a fault that it came to is kept
abbrev pub leaving : RunAnswer → Machine → Machine
leaving (Ok (RunFault n k)) m = (keep k (world_of m [])).machine
leaving (Ok (Ended n)) m = m
leaving (Ok (Waiting n)) m = m
leaving (Ok (Spent n)) m = m
leaving (Err EarlierClock) m = m
leaving (Err (RunShort k)) m = m

-- a run is found in the history as it was: as many moments after bytes as instructions, its communications at these moments and at no
-- other, one behind the other, and at the last of them, or at the beginning's where there is none, the machine and memory that it leaves.
-- `rest` is the memory that it is not lent
pub record Recorded (moments : List Moment) (before : Moment) (rest : List ℕ) (f : After RunAnswer) : Type 0 where
  pub as_many : length (after_bytes moments) ≡ executed_in f.answer
  pub same-talk : talk_in (after_bytes moments) ≡ f.talk
  pub no-other-talk : talk_in moments ≡ f.talk
  pub same-machine : leaving f.answer (last_of (first_among before moments) (after_bytes moments)).machine ≡ f.machine
  pub same_memory : (last_of (first_among before moments) (after_bytes moments)).memory ≡ f.memory ++ rest

-- law 4: the history's moments of a run are the run's, whatever it is lent
abbrev pub Records : Type 0
Records = (m : Machine) (code behind memory : List ℕ) (code_lent lent budget clock : ℕ)
    → Recorded (call code (call_run behind code_lent lent budget clock) m memory).moments (quietly m memory) (drop lent memory)
    (run m (L.take code_lent (code ++ behind)) (L.take lent memory) budget (low clock))

-- law 5: with more to spend a run's moments go on from those that it had, so each of them is the last one of a run
abbrev pub Continues : Type 0
Continues = (m : Machine) (code behind memory : List ℕ) (code_lent lent a b clock : ℕ)
    → let found : ℕ → List Moment = λ budget. after_bytes (call code (call_run behind code_lent lent budget clock) m memory).moments in
    (more : List Moment) × (found (a + b) ≡ found a ++ more)

-- law 6, 01: "Waiting: no process has the processor and none is queued". `waits` looks at the first alone; no machine that a list of calls
-- reaches from a start, whatever its code and memory, is without a process while one is queued
abbrev pub WaitsWithEmptyQueue : Type 0
WaitsWithEmptyQueue = (code memory : List ℕ) (w inputs outputs slice : ℕ) (calls : List Call) (a : Moment)
    → let s = start code memory w inputs outputs slice in
    Memᴰ a (quietly s.machine s.memory ∷ history code calls s.machine s.memory)
    → waits a.machine ≡ true → a.machine.cpu.queued ≡ false

-- law 7, 01: "other operands the shortest prefixes". Any bytes that decode to an instruction, with any mixture of PFIX and NFIX, are at
-- least as many as those that are written for it
abbrev pub WritesShortest : Type 0
WritesShortest = (f : Function) (operand : ℕ) (bytes rest : List ℕ)
    → decode 0 bytes ≡ some (record { function = function_code f; operand = operand; rest = rest })
    → length (with_prefixes (fewest operand) f operand) + length rest ≤ length bytes

-- every word of a memory is one of 32 bits, as lent words are
abbrev pub AreWords : List ℕ → Type 0
AreWords l = (a : ℕ) → get_or l a 0 < 2 ^ 32

-- a test of processes that changes nothing
pub data Tests (s : World) : Result Bool → Type 0 where
  tells : (b : Bool) → Tests s (done b s)
  breaks-off : (k : FaultKind) → Tests s (faults k)

-- law 9, 02: "until it comes back on itself". A walk along the timer queue ends or comes back within one step more than there are words:
-- with more steps it comes to the same, so that `walk` does not end for want of steps
abbrev pub WalksEnd : Type 0
WalksEnd = (s : World) (stops : ℕ → Act Bool) (more : ℕ) → ((p : ℕ) → Tests s (stops p s)) → AreWords s.memory
    → s.machine.timer.front < 2 ^ 32
    → let f = s.machine.timer.front in
    walk stops s ≡ along (suc (memory_size s.machine.setup) + more) stops f [] none f s

-- an output's line: its number and its value
pub record Out : Type 0 where
  pub number : ℕ
  pub value : ℕ

-- the lines of outputs
abbrev pub out_lines : List Out → List ℕ
out_lines [] = []
out_lines (o ∷ l) = out_line o.number o.value ++ out_lines l

-- how the machine stood
pub data Standing : Type 0 where
  ended waiting spent fault : Standing

-- the word of its line
abbrev pub standing_name : Standing → String
standing_name ended = "ended "
standing_name waiting = "waiting "
standing_name spent = "spent "
standing_name fault = "fault "

-- the texts that the bench program may print for a table that compiles to this: its refusal's line; or its code's length, its words and
-- its code, then lines of outputs, and at the end a line that says how the machine stood, with at most as many instructions as the budget
pub data Report : Compilation → List ℕ → Type 0 where
  one-refusal : (why : Reason) (returned : ℕ) → Report (refused why returned) (refused_line (reason_number why) returned)
  full : (p : Program) (code : List ℕ) (outs : List Out) (stood : Standing) (instructions : ℕ) → instructions ≤ bench_budget
      → Report (compiled p code)
      (line "bytes " (length code) ++ line "words " (memory_words p) ++ code_line code ++ out_lines outs
      ++ line (standing_name stood) instructions)

-- law 8: for every table the bench program's text is one of these, so it always says how the machine stood
abbrev pub AlwaysReports : Type 0
AlwaysReports = (table : List ℕ) → Report (compile table code_limit) (bench table)
