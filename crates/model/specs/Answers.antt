-- 01's number and values for each case of the answers ("When a call is turned down"). The promises use these.
use Rattle.std.specs.Prelude.{ℕ, List, [], ◌∷◌, Result, Ok, Err, Some, None, Option as Maybe}
use Rattle.std.proofs.Math.Option.{Option, none, some}
use Rattle.model.specs.declared.FaultKind.{FaultKind}
use Rattle.model.specs.declared.FaultKind.TheVariants.{Function, Operation, Count, Word, Place}
use Rattle.model.specs.declared.Outcome.{Outcome}
use Rattle.model.specs.declared.Outcome.TheVariants.{Ended, Waiting, Spent, Fault as RunFault}
use Rattle.model.specs.declared.RunRefusal.{RunRefusal}
use Rattle.model.specs.declared.RunRefusal.TheVariants.{EarlierClock, Short as RunShort}
use Rattle.model.specs.declared.StartRefusal.{StartRefusal}
use Rattle.model.specs.declared.StartRefusal.TheVariants.{BadSlice, BadCount, TooLarge, Short as StartShort}
use Rattle.model.specs.declared.OfferRefusal.{OfferRefusal}
use Rattle.model.specs.declared.OfferRefusal.TheVariants.{Short as OfferShort, Fault as OfferFault, NoChannel as OfferNoChannel, Held}
use Rattle.model.specs.declared.TakeRefusal.{TakeRefusal}
use Rattle.model.specs.declared.TakeRefusal.TheVariants.{Short as TakeShort, Fault as TakeFault, NoChannel as TakeNoChannel}
use Rattle.model.specs.declared.Facts.{Facts}
use Rattle.model.specs.declared.Reason.{Reason}
use Rattle.model.specs.declared.Reason.TheVariants.{TableSize, BadNumber, OutOfRange, TooDeep, BadName, BytesBehind, Clash}
use Rattle.model.specs.declared.Reason.TheVariants.{TooManyProcesses, TooLarge as CodeTooLarge, Short as BufferShort}
use Rattle.model.specs.declared.Refusal.{Refusal}

-- the fault that a machine keeps, if any
abbrev pub KeptFault : Type 0
KeptFault = Maybe FaultKind

-- the answers of the machine's calls; a take's is the value, or none where no sender waits
abbrev pub RunAnswer : Type 0
RunAnswer = Result Outcome RunRefusal

abbrev pub StartAnswer : Type 0
StartAnswer = Result (Unit {0}) StartRefusal

abbrev pub OfferAnswer : Type 0
OfferAnswer = Result (Unit {0}) OfferRefusal

abbrev pub TakeAnswer : Type 0
TakeAnswer = Result (Maybe ℕ) TakeRefusal

-- a row of the table: the refusal's number and what is returned with it
pub record Row : Type 0 where
  pub number : ℕ
  pub returned : List ℕ

-- an answer that is a refusal
abbrev pub refusal : ℕ → List ℕ → Option Row
refusal n l = some (record { number = n; returned = l })

-- the number that goes with a fault's kind: the direct function, the operand of OPR, the count of IN, the word's address, the code place
abbrev pub fault_number : FaultKind → ℕ
fault_number (Function n) = n
fault_number (Operation n) = n
fault_number (Count n) = n
fault_number (Word n) = n
fault_number (Place n) = n

-- the kinds in the order in which they are tested (01, "The machine"): function, operation, count, word, code place
abbrev pub fault_kind : FaultKind → ℕ
fault_kind (Function n) = 0
fault_kind (Operation n) = 1
fault_kind (Count n) = 2
fault_kind (Word n) = 3
fault_kind (Place n) = 4

-- row 12: the fault's kind and number
abbrev pub refused_fault : FaultKind → Option Row
refused_fault k = refusal 12 (fault_kind k ∷ fault_number k ∷ [])

-- the instructions executed
abbrev pub instructions_of : Outcome → ℕ
instructions_of (Ended n) = n
instructions_of (Waiting n) = n
instructions_of (Spent n) = n
instructions_of (RunFault n k) = n

-- a run that stood ended, waiting or spent was not refused
abbrev refused_outcome : Outcome → Option Row
refused_outcome (Ended n) = none
refused_outcome (Waiting n) = none
refused_outcome (Spent n) = none
refused_outcome (RunFault n k) = refused_fault k

-- a run: rows 11 and 12, and 16, which returns nothing more (02, order 4)
abbrev pub refused_run : RunAnswer → Option Row
refused_run (Ok o) = refused_outcome o
refused_run (Err EarlierClock) = refusal 16 []
refused_run (Err (RunShort n)) = refusal 11 (n ∷ [])

-- a start: rows 15, 3 and 10 at place 0, and 11
abbrev pub refused_start : StartAnswer → Option Row
refused_start (Ok u) = none
refused_start (Err BadSlice) = refusal 15 []
refused_start (Err BadCount) = refusal 3 (0 ∷ [])
refused_start (Err TooLarge) = refusal 10 (0 ∷ [])
refused_start (Err (StartShort n)) = refusal 11 (n ∷ [])

-- an offer: rows 11 to 14
abbrev pub refused_offer : OfferAnswer → Option Row
refused_offer (Ok u) = none
refused_offer (Err (OfferShort n)) = refusal 11 (n ∷ [])
refused_offer (Err (OfferFault k)) = refused_fault k
refused_offer (Err OfferNoChannel) = refusal 13 []
refused_offer (Err Held) = refusal 14 []

-- a take: rows 11 to 13. A take with no sender answers none and is not refused
abbrev pub refused_take : TakeAnswer → Option Row
refused_take (Ok (Some v)) = none
refused_take (Ok None) = none
refused_take (Err (TakeShort n)) = refusal 11 (n ∷ [])
refused_take (Err (TakeFault k)) = refused_fault k
refused_take (Err TakeNoChannel) = refusal 13 []

-- the rows of the refused tables
abbrev pub reason_number : Reason → ℕ
reason_number TableSize = 1
reason_number BadNumber = 2
reason_number OutOfRange = 3
reason_number TooDeep = 4
reason_number BadName = 5
reason_number BytesBehind = 6
reason_number Clash = 7
reason_number TooManyProcesses = 9
reason_number CodeTooLarge = 10
reason_number BufferShort = 11

-- the refusal for a reason, with what it returns
abbrev pub refused_for : Reason → (returned : ℕ) → Refusal
refused_for why r = record { reason = why; returned = r }

-- a reading: rows 1 to 7 and 9, with the place
abbrev pub refused_reading : Result Facts Refusal → Option Row
refused_reading (Ok f) = none
refused_reading (Err r) = refusal (reason_number r.reason) (r.returned ∷ [])

-- a compilation: rows 1 to 7, 9 and 10 with the place, 11 with the size needed
abbrev pub refused_compiling : Result ℕ Refusal → Option Row
refused_compiling (Ok n) = none
refused_compiling (Err r) = refusal (reason_number r.reason) (r.returned ∷ [])
