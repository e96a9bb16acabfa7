-- What the bytes of a run come to, beside its communications.
use Rattle.std.specs.Prelude.{ℕ, ◌-◌, ◌≡◌, Bool, List, [], ◌++◌, None, Some}
use Rattle.model.specs.Answers.{KeptFault}
use Rattle.model.specs.Machine.{World, Talk}
use Rattle.model.specs.Run.{After, keep, run_from}
use Rattle.model.specs.declared.Cpu.{Cpu}
use Rattle.model.specs.declared.Setup.{Setup}
use Rattle.model.specs.declared.Machine.{Machine}
use Rattle.model.specs.declared.Outcome.{Outcome}
use Rattle.model.specs.declared.Outcome.TheVariants.{Ended, Waiting, Spent, Fault}
use Rattle.processor.specs.Seen.{Rest, whole, world}
use Rattle.processor.specs.Quiet.{offering, timing}
use Rattle.waking.specs.Wakes.{begun}
use Rattle.waking.specs.declared.wake.Awake.{Awake}
use Rattle.machine.specs.declared.budget.Finished.{Finished}

-- the rest of a machine after these communications
abbrev pub saying : List Talk → Rest → Rest
saying t x = record { behind = x.behind; timer = x.timer; offers = x.offers; held = x.held; fault = x.fault; talk = t }

-- a run under a clock goes on, after n instructions, from other registers, flags, front of the timer queue and memory
pub record Reaches (u : Setup) (code : List ℕ) (budget : ℕ) (o : List ℕ) (r : Cpu) (b : List Bool) (k f : ℕ) (l : List ℕ) (n : ℕ) (q : Cpu)
    (d : List Bool) (g : ℕ) (m : List ℕ) : Type 0 where
  pub goes :
      (x : Rest) → (t : List Talk)
      × (run_from budget code 0 (world (offering o b (timing k f x)) u r l)
      ≡ run_from (budget - n) code n (world (saying t (offering o d (timing k g x))) u q m))

-- a fault is kept
abbrev pub keeping : Outcome → World → World
keeping (Ended n) s = s
keeping (Waiting n) s = s
keeping (Spent n) s = s
keeping (Fault n k) s = keep k s

-- the fault that a machine without one keeps after a run
abbrev pub kept_after : Outcome → KeptFault
kept_after (Ended n) = None
kept_after (Waiting n) = None
kept_after (Spent n) = None
kept_after (Fault n k) = Some k

-- how a run ends
pub record Finishes (u : Setup) (code : List ℕ) (budget : ℕ) (o : List ℕ) (r : Cpu) (b : List Bool) (k g : ℕ) (l : List ℕ) (f : Finished)
    (m : List ℕ) : Type 0 where
  pub ends :
      (x : Rest) → (t : List Talk)
      × (run_from budget code 0 (world (offering o b (timing k g x)) u r l)
      ≡ record {
        outcome = f.outcome;
        world = keeping f.outcome (world (saying t (offering o f.held (timing k f.front x))) u f.cpu m);
      })

-- what functions of registers and memory do not see of a machine, with these words behind its own
abbrev pub rest_of : Machine → (behind : List ℕ) → Rest
rest_of m b = record { behind = b; timer = m.timer; offers = m.offers; held = m.held; fault = m.fault; talk = [] }

-- a machine that has begun a run, with the whole lent memory
abbrev pub awake_in : Machine → (clock : ℕ) → Awake → List ℕ → World
awake_in m c a l = whole (begun c a.front (rest_of m [])) m.setup a.cpu l

-- a call's answer, machine and memory are those of the definition
pub record Answers {Answer : Type 0} (f : After Answer) (a : Answer) (m : Machine) (l : List ℕ) : Type 0 where
  pub answer : a ≡ f.answer
  pub machine : m ≡ f.machine
  pub memory : l ≡ f.memory

-- and so they are whatever the lent memory holds behind the machine's words, which keeps it
abbrev pub Amid : {Answer : Type 0} → (List ℕ → After Answer) → Answer → Machine → (before after : List ℕ) → Type 0
Amid f a m before after = (behind : List ℕ) → Answers (f (before ++ behind)) a m (after ++ behind)
