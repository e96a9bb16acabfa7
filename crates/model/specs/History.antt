-- What is found in the machine over a list of calls (demand 3): a moment after each run's beginning, after each byte executed and after
-- each call. The moment after the start is put in front of them in Demand.antt. Each call has the state, code and memory as the one
-- before left them.
use Rattle.std.specs.Prelude.{ℕ, zero, suc, ◌/◌, Bool, true, false, cond, ◌||◌, List, [], ◌∷◌, ◌++◌, length, get_or, drop, ltb, eqb}
use Rattle.std.proofs.Math.ListN as L
use Rattle.model.specs.Word.{low}
use Rattle.model.specs.Instruction.{function_code, operation_code, opr, tin, enbt, altend}
use Rattle.model.specs.Prefix.{gathered}
use Rattle.model.specs.Answers.{KeptFault, OfferAnswer, TakeAnswer}
use Rattle.model.specs.Machine.{Talk, World, Result, done, faults}
use Rattle.model.specs.Run.{After, world_of, short_memory, byte, ended, waits, beginning, earlier_clock, run}
use Rattle.model.specs.Outside.{offer, take}
use Rattle.model.specs.Occam.{Event, offers, takes, ticks}
use Rattle.model.specs.declared.Cpu.{Cpu}
use Rattle.model.specs.declared.Machine.{Machine}
use Rattle.std.specs.Prelude.{Err, None, Ok, Some}
use Rattle.model.specs.declared.OfferRefusal.TheVariants.{Short as OfferShort, Fault as OfferFault, NoChannel as OfferNoChannel, Held}
use Rattle.model.specs.declared.TakeRefusal.TheVariants.{Short as TakeShort, Fault as TakeFault, NoChannel as TakeNoChannel}

-- a call, with how many bytes of the code and words of the memory it lends. A run may be lent more code than the start had, with
-- anything behind (01: "Later runs use as much code as the start had"). An offer's value is a word, and so is a run's clock
pub data Call : Type 0 where
  call_run : (behind : List ℕ) (code_lent memory_lent budget clock : ℕ) → Call
  call_offer : (memory_lent k value : ℕ) → Call
  call_take : (memory_lent k : ℕ) → Call

-- what a byte tells of times, for the condition on them alone (Demand.antt): a process begins to wait for a time, a true time guard has
-- one, or the process passes its ALTEND
pub data Note : Type 0 where
  waits_for guards_for : (workspace time : ℕ) → Note
  passes : (workspace : ℕ) → Note

-- what the operation of a number tells, by the registers before it: TIN, ENBT with a true condition, ALTEND
abbrev pub note_of : (number : ℕ) → Cpu → List Note
note_of n r =
    cond (eqb n (operation_code tin)) (waits_for r.workspace r.a ∷ [])
    (cond (eqb n (operation_code enbt)) (cond (eqb r.a 0) [] (guards_for r.workspace r.b ∷ []))
    (cond (eqb n (operation_code altend)) (passes r.workspace ∷ []) []))

-- what the byte at a machine's place tells: one that completes an operation
unfoldable pub notes : (code : List ℕ) → Machine → List Note
notes code m =
    let r = m.cpu in
    let b = get_or code r.place 0 in
    cond (eqb (b / 16) (function_code opr)) (note_of (gathered r.operand b) r) []

-- what is found at a moment, with the communications, and the offer or take with its answer or the clock word, since the moment before,
-- and what a byte told of times. `instruction` says whether the moment is after a byte executed
pub record Moment : Type 0 where
  pub instruction : Bool
  pub machine : Machine
  pub memory : List ℕ
  pub talk : List Talk
  pub events : List Event
  pub notes : List Note

-- a moment without communication, offer, take or clock word
abbrev pub quietly : Machine → List ℕ → Moment
quietly m memory = record { instruction = false; machine = m; memory = memory; talk = []; events = []; notes = [] }

-- the moment after a byte that told something of times
abbrev pub executed : List Note → World → (rest : List ℕ) → Moment
executed ns t rest =
    record { instruction = true; machine = t.machine; memory = t.memory ++ rest; talk = t.talk; events = []; notes = ns }

-- a byte that would fault is not begun: no moment comes after it
abbrev onward : Result (Unit {0}) → (World → List Moment) → List Moment
onward (done u t) more = more t
onward (faults k) more = []

-- the moments of a run's bytes over the memory that it is lent; `rest` is the memory that it is not
unfoldable pub bytes : (budget : ℕ) → (code rest : List ℕ) → World → List Moment
bytes zero code rest s = []
bytes (suc n) code rest s =
    let told = notes code s.machine in
    let more = onward (byte code s) (λ t. executed told t rest ∷ bytes n code rest (world_of t.machine t.memory)) in
    cond (ended s.machine || waits s.machine) [] more

-- a run that is refused, keeps a fault or cannot begin executes nothing, and its clock is not in force
abbrev pub idle : Machine → (memory rest : List ℕ) → List Moment
idle m memory rest = quietly m (memory ++ rest) ∷ []

-- the moment after a run's beginning, with its clock word, and those of its bytes
abbrev pub begun : Result (Unit {0}) → (clock budget : ℕ) → Machine → (code memory rest : List ℕ) → List Moment
begun (faults k) c budget m code memory rest = idle m memory rest
begun (done u t) c budget m code memory rest =
    record { instruction = false; machine = t.machine; memory = t.memory ++ rest; talk = t.talk; events = ticks c ∷ []; notes = [] }
    ∷ bytes budget code rest (world_of t.machine t.memory)

-- a kept fault
abbrev pub unless_kept : KeptFault → (kept goes : List Moment) → List Moment
unless_kept None l k = k
unless_kept (Some f) l k = l

-- an offer as the Occam run has it, with its answer. 01: what 11 or 13 refuses stays out; so does 12, which demand 3 rules out
abbrev pub offer_event : (k value : ℕ) → OfferAnswer → List Event
offer_event k v (Ok u) = offers k v (Ok u) ∷ []
offer_event k v (Err Held) = offers k v (Err Held) ∷ []
offer_event k v (Err (OfferShort n)) = []
offer_event k v (Err (OfferFault f)) = []
offer_event k v (Err OfferNoChannel) = []

-- a take, likewise
abbrev pub take_event : (k : ℕ) → TakeAnswer → List Event
take_event k (Ok (Some v)) = takes k (Ok (Some v)) ∷ []
take_event k (Ok None) = takes k (Ok None) ∷ []
take_event k (Err (TakeShort n)) = []
take_event k (Err (TakeFault f)) = []
take_event k (Err TakeNoChannel) = []

-- a run's moments before its answer
unfoldable pub during : Machine → (code memory rest : List ℕ) → (budget clock : ℕ) → List Moment
during m code memory rest budget c =
    let none = idle m memory rest in
    let all = unless_kept m.fault none (begun (beginning c (world_of m memory)) c budget m code memory rest) in
    cond (earlier_clock m c || ltb (length code) m.setup.code || short_memory m memory) none all

-- the moments of a call, and the machine and memory that it leaves
pub record Called : Type 0 where
  pub moments : List Moment
  pub machine : Machine
  pub memory : List ℕ

-- the moment after an offer or a take
abbrev answered : {Answer : Type 0} → After Answer → (rest : List ℕ) → (Answer → List Event) → Called
answered r rest said =
    record {
      moments =
          record {
            instruction = false;
            machine = r.machine;
            memory = r.memory ++ rest;
            talk = r.talk;
            events = said r.answer;
            notes = [];
          }
          ∷ [];
      machine = r.machine;
      memory = r.memory ++ rest;
    }

-- a call over the code and memory that it is lent. A run's communications are found at its bytes' moments
unfoldable pub call : (code : List ℕ) → Call → Machine → (memory : List ℕ) → Called
call code (call_run behind code_lent lent budget clock) m memory =
    let lent_code = L.take code_lent (code ++ behind) in
    let r = run m lent_code (L.take lent memory) budget (low clock) in
    let left = r.memory ++ drop lent memory in
    record {
      moments = during m lent_code (L.take lent memory) (drop lent memory) budget (low clock) ++ quietly r.machine left ∷ [];
      machine = r.machine;
      memory = left;
    }
call code (call_offer lent k v) m memory =
    answered (offer m (L.take lent memory) k (low v)) (drop lent memory) (offer_event k (low v))
call code (call_take lent k) m memory = answered (take m (L.take lent memory) k) (drop lent memory) (take_event k)

-- the moments of a list of calls
unfoldable pub history : (code : List ℕ) → List Call → Machine → (memory : List ℕ) → List Moment
history code [] m memory = []
history code (c ∷ cs) m memory =
    let r = call code c m memory in
    r.moments ++ history code cs r.machine r.memory
