-- What functions do that may communicate or take an offer. Communications are of the definitions alone: the code does not see them.
use Rattle.std.specs.Prelude.{ℕ, ◌-◌, ◌<◌, ◌≤◌, ◌≡◌, Bool, true, false, ◌&&◌, List, [], length, get_or, ltb, leb}
use Rattle.std.specs.Prelude.{Option, Some, None, Ok, Err}
use Rattle.model.specs.Machine.{Act, Result, done, faults, memory_size}
use Rattle.model.specs.declared.Cpu.{Cpu}
use Rattle.model.specs.declared.Setup.{Setup}
use Rattle.model.specs.declared.Timer.{Timer}
use Rattle.processor.specs.Seen.{Rest, world, told, Keeps, Changes, Does, Step}
use Rattle.processor.specs.Pieces.{landing}

-- without communications
abbrev pub quiet : Result (Unit {0}) → Result (Unit {0})
quiet (done n s) = done n (record { machine = s.machine; memory = s.memory; talk = [] })
quiet (faults k) = faults k

-- an action that may communicate
pub record Hears (u : Setup) (act : Act (Unit {0})) (r : Cpu) (before : List ℕ) (s : Step) (after : List ℕ) : Type 0 where
  pub said : (x : Rest) → quiet (act (world x u r before)) ≡ quiet (told x u s after)
  pub keeps : Keeps s before after

-- the same for all machines with so many words as the memory and code of that length
abbrev pub Talks : (code : ℕ) → Act (Unit {0}) → Cpu → (before : List ℕ) → Step → (after : List ℕ) → Type 0
Talks code act r l s m = (u : Setup) → memory_size u ≡ length l → u.code ≡ code → Hears u act r l s m

-- an instruction of a process that keeps the processor and goes on behind it, in a machine with so many words as the memory
abbrev pub Stays : Act (Unit {0}) → Cpu → (before : List ℕ) → Step → (after : List ℕ) → Type 0
Stays act r l s m = (u : Setup) → memory_size u ≡ length l → r.place ≤ u.code → Does u (landing act) r l s m

-- an offer is held on a channel's word
abbrev pub offered : ℕ → Setup → List Bool → Bool
offered c u b = leb u.base c && ltb (c - u.base) u.inputs && get_or b (c - u.base) false

-- the number of the input whose word this is, where an offer is held on it: there are at most 8
abbrev pub HeldAt : (c : ℕ) → Setup → List Bool → Option ℕ → Type 0
HeldAt c u b (Some k) = (offered c u b ≡ true) × (k ≡ c - u.base) × (k < 8)
HeldAt c u b None = offered c u b ≡ false

-- the rest of a machine with these offers
abbrev pub offering : List ℕ → List Bool → Rest → Rest
offering o b x = record { behind = x.behind; timer = x.timer; offers = o; held = b; fault = x.fault; talk = x.talk }

-- on a fault the offers are held as they were
abbrev pub KeepsHeld : Step → (before after : List Bool) → Type 0
KeepsHeld (Ok r) b d = Unit {0}
KeepsHeld (Err k) b d = d ≡ b

-- an action that may take an offer: from registers, offers, flags and memory to an answer, flags and memory
pub record Takes (u : Setup) (act : Act (Unit {0})) (r : Cpu) (o : List ℕ) (b : List Bool) (l : List ℕ) (s : Step) (d : List Bool)
    (m : List ℕ) : Type 0 where
  pub said : (x : Rest) → quiet (act (world (offering o b x) u r l)) ≡ quiet (told (offering o d x) u s m)
  pub keeps : Keeps s l m
  pub keeps_held : KeepsHeld s b d
  pub long : length d ≡ length b

-- an action that sees which offers are held, and takes none
abbrev pub Sees : Setup → Act (Unit {0}) → Cpu → (held : List Bool) → (before : List ℕ) → Step → (after : List ℕ) → Type 0
Sees u act r b l s m = (o : List ℕ) → Takes u act r o b l s b m

-- the rest of a machine with this clock and this front of the timer queue
abbrev pub timing : (clock front : ℕ) → Rest → Rest
timing k f x =
    let t : Timer = record { clock = k; given = x.timer.given; front = f } in
    record { behind = x.behind; timer = t; offers = x.offers; held = x.held; fault = x.fault; talk = x.talk }

-- on a fault the front is as it was
abbrev pub KeepsFront : Step → (before after : ℕ) → Type 0
KeepsFront (Ok r) f g = Unit {0}
KeepsFront (Err k) f g = g ≡ f

-- an action on the timer queue: from registers, front and memory to an answer, front and memory
pub record Times (u : Setup) (act : Act (Unit {0})) (r : Cpu) (clock f : ℕ) (l : List ℕ) (s : Step) (g : ℕ) (m : List ℕ) : Type 0 where
  pub does : Changes (timing clock f) (timing clock g) u act r l s m
  pub keeps_front : KeepsFront s f g

-- an action of a byte, which may communicate, take an offer and change the timer queue
pub record Acts (u : Setup) (act : Act (Unit {0})) (r : Cpu) (o : List ℕ) (b : List Bool) (clock f : ℕ) (l : List ℕ) (s : Step)
    (d : List Bool) (g : ℕ) (m : List ℕ) : Type 0 where
  pub said : (x : Rest) → quiet (act (world (offering o b (timing clock f x)) u r l)) ≡ quiet (told (offering o d (timing clock g x)) u s m)
  pub keeps : Keeps s l m
  pub keeps_held : KeepsHeld s b d
  pub keeps_front : KeepsFront s f g
  pub long : length d ≡ length b
