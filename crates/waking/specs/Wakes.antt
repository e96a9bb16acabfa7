-- Waking at a run's beginning, as functions of registers, memory and the front of the timer queue.
use Rattle.std.specs.Prelude.{ℕ, suc, ◌≡◌, Bool, true, cond, Result as Answer, List, [], length, eqb, Ok, Err}
use Rattle.model.specs.Word.{after}
use Rattle.model.specs.Machine.{Act, Result, done, faults, ◌>>=◌, ◌>>◌, return, registers, peek, poke, memory_size, space_of}
use Rattle.model.specs.Machine.{state_word, time_word, enqueue}
use Rattle.model.specs.Alternative.{waiting, ready}
use Rattle.model.specs.Timer.{wake_one, wake_from}
use Rattle.model.specs.Run.{land, settle, beginning}
use Rattle.model.specs.declared.Cpu.{Cpu}
use Rattle.model.specs.declared.Setup.{Setup}
use Rattle.model.specs.declared.Timer.{Timer}
use Rattle.model.specs.declared.FaultKind.{FaultKind}
use Rattle.processor.specs.Seen.{Step, Peeked, Rest, world, told, looked}
use Rattle.processor.specs.Quiet.{timing}
use Rattle.waking.specs.declared.wake.Awake.{Awake}

-- whether a sleeper's time has come, or the fault
abbrev pub Due : Type 0
Due = Answer Bool FaultKind

-- what waking came to: registers and the front of the timer queue, or the fault
abbrev pub Woken : Type 0
Woken = Answer Awake FaultKind

-- a time that was looked for is before the clock
abbrev pub due_by : (clock : ℕ) → Peeked → Due
due_by c (Ok t) = Ok (after c t)
due_by c (Err k) = Err k

-- whether a sleeper's time has come
abbrev pub due_in : (memory : List ℕ) (clock p : ℕ) → Due
due_in l c p = due_by c (looked (time_word p) l)

-- a process has the processor after it where one had before, and only there
abbrev pub Runs : Cpu → Step → Type 0
Runs r (Ok q) = q.running ≡ r.running
Runs r (Err k) = Unit {0}

-- an action whose writes stand where it faults; no word comes or goes
pub record Rough (u : Setup) (act : Act (Unit {0})) (r : Cpu) (l : List ℕ) (s : Step) (m : List ℕ) : Type 0 where
  pub said : (x : Rest) → act (world x u r l) ≡ told x u s m
  pub long : length m ≡ length l
  pub runs : Runs r s

-- in any machine with so many words as the memory
abbrev pub Roughly : Act (Unit {0}) → Cpu → (before : List ℕ) → Step → (after : List ℕ) → Type 0
Roughly act r l s m = (u : Setup) → memory_size u ≡ length l → Rough u act r l s m

-- a sleeper that waits is Ready and joins the back of the queue
abbrev pub ready_join : (p : ℕ) → Cpu → Act (Unit {0})
ready_join p r = do
  poke (state_word (space_of p)) ready
  enqueue p r

-- one that does not wait only leaves the timer queue
abbrev pub wake_state : (p : ℕ) → Act (Unit {0})
wake_state p = do
  s ← peek (state_word (space_of p))
  r ← registers
  cond (eqb s waiting) (ready_join p r) (return tt)

-- its time becomes the clock before that
abbrev pub wake_rest : (clock p : ℕ) → Act (Unit {0})
wake_rest c p = do
  poke (time_word (space_of p)) c
  wake_state p

-- a process that was named, as the model's result
abbrev pub named : Rest → Setup → Woken → List ℕ → Result ℕ
named x u (Ok a) m = done a.front (world x u a.cpu m)
named x u (Err k) m = faults k

-- a process has the processor after waking where one had before, and only there
abbrev pub StillRuns : Cpu → Woken → Type 0
StillRuns r (Ok a) = a.cpu.running ≡ r.running
StillRuns r (Err k) = Unit {0}

-- one sleeper, whatever the rest of the world; its writes stand where it faults
pub record WakesOne (clock p : ℕ) (r : Cpu) (l : List ℕ) (w : Woken) (m : List ℕ) : Type 0 where
  pub said : (u : Setup) → memory_size u ≡ length l → (x : Rest) → wake_one clock p (world x u r l) ≡ named x u w m
  pub long : length m ≡ length l
  pub runs : StillRuns r w

-- all sleepers whose time has come, likewise
pub record WakesAll (clock front : ℕ) (r : Cpu) (l : List ℕ) (w : Woken) (m : List ℕ) : Type 0 where
  pub said : (u : Setup) → memory_size u ≡ length l → (x : Rest)
      → wake_from (suc (length l)) clock front [] front (world x u r l) ≡ named x u w m
  pub long : length m ≡ length l
  pub runs : StillRuns r w

-- the rest of a machine with this front of the timer queue
abbrev pub fronted : (front : ℕ) → Rest → Rest
fronted f x = timing x.timer.clock f x

-- registers, a front and memory, as the model's result
abbrev pub awoken : Rest → Setup → Woken → List ℕ → Result (Unit {0})
awoken x u (Ok a) m = done tt (world (fronted a.front x) u a.cpu m)
awoken x u (Err k) m = faults k

-- what a free processor does after waking: it takes the front of the queue, and its place is tested
abbrev pub settling : Cpu → Act (Unit {0})
settling r = do
  settle
  cond r.running (return tt) land

-- that it does so, with this front of the timer queue, in any machine with so many words as the memory and code of that length
abbrev pub SettlesAs : (code front : ℕ) → Cpu → List ℕ → Woken → Type 0
SettlesAs code f r l w = (u : Setup) → memory_size u ≡ length l → u.code ≡ code → (x : Rest)
    → settling r (world (fronted f x) u r l) ≡ awoken x u w l

-- the rest of a machine that has begun a run
abbrev pub begun : (clock front : ℕ) → Rest → Rest
begun c f x =
    let t : Timer = record { clock = c; given = true; front = f } in
    record { behind = x.behind; timer = t; offers = x.offers; held = x.held; fault = x.fault; talk = x.talk }

-- a run's beginning, as the model's result
abbrev pub began : (clock : ℕ) → Rest → Setup → Woken → List ℕ → Result (Unit {0})
began c x u (Ok a) m = done tt (world (begun c a.front x) u a.cpu m)
began c x u (Err k) m = faults k

-- a run's beginning, whose writes stand where it faults
pub record WakesSaved (code clock front : ℕ) (r : Cpu) (l : List ℕ) (w : Woken) (m : List ℕ) : Type 0 where
  pub said : (u : Setup) → memory_size u ≡ length l → u.code ≡ code → (x : Rest)
      → beginning clock (world (fronted front x) u r l) ≡ began clock x u w m
  pub long : length m ≡ length l

-- on a fault the memory is as it was
abbrev pub Kept : Woken → (before after : List ℕ) → Type 0
Kept (Ok a) l m = Unit {0}
Kept (Err k) l m = m ≡ l

-- a run's beginning
pub record Begins (code clock front : ℕ) (r : Cpu) (l : List ℕ) (w : Woken) (m : List ℕ) : Type 0 where
  pub said : (u : Setup) → memory_size u ≡ length l → u.code ≡ code → (x : Rest)
      → beginning clock (world (fronted front x) u r l) ≡ began clock x u w m
  pub kept : Kept w l m
