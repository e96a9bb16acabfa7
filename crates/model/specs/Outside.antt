-- Offers and takes from outside (01, "The machine", "When a call is turned down").
use Rattle.std.specs.Prelude.{ℕ, ◌+◌, true, false, cond, ◌&&◌, List, [], get_or, set, ltb, eqb, Err, None, Ok, Some}
use Rattle.std.proofs.Math.Option.{Option, none, some}
use Rattle.model.specs.Word.{not_process}
use Rattle.model.specs.Limits.{channel_limit}
use Rattle.model.specs.Answers.{KeptFault, OfferAnswer, TakeAnswer}
use Rattle.model.specs.Machine.{Result, done, faults, Act, return, with_offers, setup, peek, state_word, ◌>>=◌, ◌>>◌}
use Rattle.model.specs.Machine.{space_of, memory_size}
use Rattle.model.specs.Alternative.{is_alt_state, notify}
use Rattle.model.specs.Execute.{deliver, receive, received}
use Rattle.model.specs.Run.{waking, keep, short_memory, After, unchanged, world_of}
use Rattle.model.specs.declared.Machine.{Machine}
use Rattle.model.specs.declared.OfferRefusal.TheVariants.{Short as OfferShort, Fault as OfferFault, NoChannel as OfferNoChannel, Held}
use Rattle.model.specs.declared.TakeRefusal.TheVariants.{Short as TakeShort, Fault as TakeFault, NoChannel as TakeNoChannel}

-- an offer is held for the outside input k
abbrev pub hold : (k value : ℕ) → Act (Unit {0})
hold k v s = done tt (with_offers (set s.machine.offers k v) (set s.machine.held k true) s)

-- a process waiting in IN gets an offer directly; else it is held, and acts on an ALT's state as a sender's would
unfoldable pub offering : (k value : ℕ) → Act (Unit {0})
offering k v = waking (do
  u ← setup
  p ← peek (u.base + k)
  cond (eqb p not_process)
      (hold k v)
      (do
        s ← peek (state_word (space_of p))
        cond (is_alt_state s)
            (do hold k v; notify p s)
            (deliver (u.base + k) p s v)))

-- the word of the outside output k: outputs come after the inputs
abbrev pub output_word_of : ℕ → Act ℕ
output_word_of k s = done (s.machine.setup.base + s.machine.setup.inputs + k) s

-- the test of a take: the value of the sender that waits, if one does
unfoldable pub looking : (k : ℕ) → Act (Option ℕ)
looking k = do
  c ← output_word_of k
  p ← peek c
  cond (eqb p not_process) (return none) (do v ← receive p; return (some v))

-- the sender that a take found is woken, and its channel is empty again
abbrev pub taken : (k : ℕ) → Option ℕ → Act (Option ℕ)
taken k none = return none
taken k (some v) = do
  c ← output_word_of k
  p ← peek c
  waking (received c p v)
  return (some v)

-- a take: its test, and then the sender is woken
unfoldable pub taking : (k : ℕ) → Act (Option ℕ)
taking k = do
  v ← looking k
  taken k v

-- an offer that would fault keeps the fault; state and memory stay
abbrev pub offered : Result (Unit {0}) → Machine → List ℕ → After OfferAnswer
offered (done a t) m memory = record { answer = Ok tt; machine = t.machine; memory = t.memory; talk = t.talk }
offered (faults k) m memory =
    record { answer = Err (OfferFault k); machine = (keep k (world_of m memory)).machine; memory = memory; talk = [] }

-- a kept fault is answered again; then 13, 14 and, last, 12. Offers number the inputs from 0
abbrev pub offer_unless : KeptFault → Machine → List ℕ → (k value : ℕ) → After OfferAnswer
offer_unless (Some f) m memory k v = unchanged (Err (OfferFault f)) m memory
offer_unless None m memory k v =
    let go = offered (offering k v (world_of m memory)) m memory in
    cond (ltb k m.setup.inputs && ltb k channel_limit)
    (cond (get_or m.held k false) (unchanged (Err Held) m memory) go)
    (unchanged (Err OfferNoChannel) m memory)

-- an offer of a value on the outside input k: 11, a kept fault, 13, 14 and, last, 12
unfoldable pub offer : Machine → (memory : List ℕ) → (k value : ℕ) → After OfferAnswer
offer m memory k v =
    let go = offer_unless m.fault m memory k v in
    cond (short_memory m memory) (unchanged (Err (OfferShort (memory_size m.setup))) m memory) go

-- a take with no sender answers none
abbrev value_or_none : Option ℕ → TakeAnswer
value_or_none none = Ok None
value_or_none (some v) = Ok (Some v)

-- a take that would fault keeps the fault; state and memory stay
abbrev pub took : Result (Option ℕ) → Machine → List ℕ → After TakeAnswer
took (done v t) m memory = record { answer = value_or_none v; machine = t.machine; memory = t.memory; talk = t.talk }
took (faults k) m memory = record { answer = Err (TakeFault k); machine = (keep k (world_of m memory)).machine; memory = memory; talk = [] }

-- a kept fault is answered again; then 13 and, last, 12. Takes number the outputs from 0
abbrev pub take_unless : KeptFault → Machine → List ℕ → (k : ℕ) → After TakeAnswer
take_unless (Some f) m memory k = unchanged (Err (TakeFault f)) m memory
take_unless None m memory k =
    let go = took (taking k (world_of m memory)) m memory in
    cond (ltb k m.setup.outputs) go (unchanged (Err TakeNoChannel) m memory)

-- a take from the outside output k: 11, a kept fault, 13 and, last, 12
unfoldable pub take : Machine → (memory : List ℕ) → (k : ℕ) → After TakeAnswer
take m memory k =
    let go = take_unless m.fault m memory k in
    cond (short_memory m memory) (unchanged (Err (TakeShort (memory_size m.setup))) m memory) go
