-- Pieces of offers and takes that are functions of their own.
use Rattle.std.specs.Prelude.{ℕ, true, set, Err, Ok, Some}
use Rattle.processor.specs.Seen.{Step}
use Rattle.model.specs.Word.{not_process}
use Rattle.model.specs.Machine.{Act, ◌>>◌, poke, machine_with}
use Rattle.model.specs.declared.Machine.{Machine}
use Rattle.model.specs.declared.OfferRefusal.TheVariants.{Fault as OfferFault}
use Rattle.model.specs.declared.TakeRefusal.TheVariants.{Fault as TakeFault}
use Rattle.processor.specs.Pieces.{wake_join}
use Rattle.machine.specs.declared.outside.Offered.{Offered}
use Rattle.machine.specs.declared.taking.Took.{Took}

-- a channel's word is empty again, and the process that waited there is woken
abbrev pub empty_wake : (channel p : ℕ) → Act (Unit {0})
empty_wake c p = do
  poke c not_process
  wake_join p

-- a value goes to a message place before that
abbrev pub hand_wake : (channel p message value : ℕ) → Act (Unit {0})
hand_wake c p m v = do
  poke m v
  empty_wake c p

-- the machine with an offer held
abbrev pub holding : Machine → (k value : ℕ) → Machine
holding m k v = machine_with m.cpu (set m.offers k v) (set m.held k true) m.fault m

-- what an offer came to: other registers, or a fault, which the machine as it was keeps
abbrev pub offered_by : (before after : Machine) → Step → Offered
offered_by m n (Ok r) = record { machine = machine_with r n.offers n.held n.fault n; answer = Ok tt }
offered_by m n (Err k) = record { machine = machine_with m.cpu m.offers m.held (Some k) m; answer = Err (OfferFault k) }

-- what a take of a value came to
abbrev pub taken_by : Machine → (value : ℕ) → Step → Took
taken_by m v (Ok r) = record { machine = machine_with r m.offers m.held m.fault m; answer = Ok (Some v) }
taken_by m v (Err k) = record { machine = machine_with m.cpu m.offers m.held (Some k) m; answer = Err (TakeFault k) }
