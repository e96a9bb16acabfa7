-- Pieces of the clock's operations that are functions of their own, and what such a function promises.
use Rattle.processor.specs.Seen.{Step}
use Rattle.std.specs.Prelude.{ℕ, ◌≤◌, ◌≡◌, cond, List, length, eqb, Ok, Err}
use Rattle.model.specs.Word.{after, not_process}
use Rattle.model.specs.Machine.{Act, ◌>>=◌, ◌>>◌, return, registers, memory_size, peek, poke, state_word, time_link_word, time_word}
use Rattle.model.specs.Machine.{name_of}
use Rattle.model.specs.Machine.{release}
use Rattle.model.specs.Alternative.{ready, select}
use Rattle.model.specs.Timer.{time_set, time_not_set, link, sleep, alt_waits, wait_time, leave_timer}
use Rattle.model.specs.declared.Cpu.{Cpu}
use Rattle.model.specs.declared.Setup.{Setup}
use Rattle.processor.specs.Pieces.{landing, release_at}
use Rattle.processor.specs.Quiet.{Times}
use Rattle.alternative.specs.Guards.{choosing}
use Rattle.timer.specs.declared.walk.Place.{Place}
use Rattle.timer.specs.Walks.{before_of}

-- an action on the timer queue, in any machine with so many words as the memory, under any clock
abbrev pub Leaves : Act (Unit {0}) → Cpu → (front : ℕ) → (before : List ℕ) → Step → (front' : ℕ) → (after : List ℕ) → Type 0
Leaves act r f l s g m = (u : Setup) → memory_size u ≡ length l → (clock : ℕ) → Times u act r clock f l s g m

-- an instruction of a process that keeps the processor and goes on behind it
abbrev pub Remains : Act (Unit {0}) → Cpu → (front : ℕ) → (before : List ℕ) → Step → (front' : ℕ) → (after : List ℕ) → Type 0
Remains act r f l s g m =
    (u : Setup) → memory_size u ≡ length l → r.place ≤ u.code → (clock : ℕ) → Times u (landing act) r clock f l s g m

-- an action in any machine with so many words as the memory and code of that length
abbrev pub Sleeps : (code : ℕ) → Act (Unit {0}) → Cpu → (front : ℕ) → (before : List ℕ) → Step → (front' : ℕ) → (after : List ℕ)
    → Type 0
Sleeps code act r f l s g m = (u : Setup) → memory_size u ≡ length l → u.code ≡ code → (clock : ℕ) → Times u act r clock f l s g m

-- and under this clock
abbrev pub Waits : (code : ℕ) → Act (Unit {0}) → Cpu → (clock front : ℕ) → (before : List ℕ) → Step → (front' : ℕ)
    → (after : List ℕ) → Type 0
Waits code act r c f l s g m = (u : Setup) → memory_size u ≡ length l → u.code ≡ code → Times u act r c f l s g m

-- the registers are as they were
abbrev pub SameCpu : Step → Cpu → Type 0
SameCpu (Ok q) r = q ≡ r
SameCpu (Err k) r = Unit {0}

-- the process comes to a place in the timer queue
abbrev pub link_at : Place → Act (Unit {0})
link_at here = do
  r ← registers
  poke (time_link_word r.workspace) here.at
  link (before_of here) (name_of r.workspace)

-- and the processor is free
abbrev pub link_release : Place → Act (Unit {0})
link_release here = do
  link_at here
  release_at 0

-- the process goes into the timer queue, and the processor is free
abbrev pub sleep_release : (time : ℕ) → Act (Unit {0})
sleep_release t = do
  sleep t
  release_at 0

-- a word is written before that
abbrev pub poke_sleep : (a v time : ℕ) → Act (Unit {0})
poke_sleep a v t = do
  poke a v
  sleep_release t

-- two words are written before that
abbrev pub poke2_sleep : (a v b w time : ℕ) → Act (Unit {0})
poke2_sleep a v b w t = do
  poke a v
  poke_sleep b w t

-- two words are written
abbrev pub poke2 : (a v b w : ℕ) → Act (Unit {0})
poke2 a v b w = do
  poke a v
  poke b w

-- the earlier of two times
abbrev pub earlier_time : (a time : ℕ) → Act (Unit {0})
earlier_time a t = do
  u ← peek a
  cond (after u t) (poke a t) (return tt)

-- TALTWT of an ALT with this W that is not Ready, with a time or without
abbrev pub wait_set : (workspace : ℕ) → Act (Unit {0})
wait_set w = do
  x ← peek (time_link_word w)
  cond (eqb x time_set) wait_time (do alt_waits; release)

-- TALTWT where no branch is chosen, under this clock
abbrev pub wait_ready : (workspace clock : ℕ) → Act (Unit {0})
wait_ready w c = do
  s ← peek (state_word w)
  cond (eqb s ready) (poke (time_word w) c) (wait_set w)

-- the process leaves a place in the timer queue to what is behind it
abbrev pub unlink : Place → (behind : ℕ) → Act (Unit {0})
unlink here n = do
  r ← registers
  cond (eqb here.at not_process) (return tt) (link (before_of here) n)
  poke (time_link_word r.workspace) time_not_set

-- DIST of an ALT with this W that went on
abbrev pub time_ready : (workspace time branch : ℕ) → Act ℕ
time_ready w t b = do
  u ← peek (time_word w)
  cond (after u t) (select b) (return 0)

-- DIST with a true condition, where W - 4 holds x
abbrev pub disable_state : (workspace time branch x : ℕ) → Act (Unit {0})
disable_state w t b x =
    choosing (cond (eqb x time_set) (time_ready w t b) (cond (eqb x time_not_set) (return 0) (do leave_timer x; return 0)))
