-- Demand 3 as one statement.
use Rattle.std.specs.Prelude.{ℕ, suc, ◌+◌, ◌*◌, ◌^◌, ◌<◌, ◌≡◌, Bool, true, false, cond, not, ◌&&◌, length, get_or, eqb, pos, neg_ℤ}
use mathlib.Core.List.{List, [], ◌∷◌, ◌++◌, map, Memᴰ}
use Rattle.std.proofs.Math.Option.{some}
use Rattle.std.specs.Int.Signed.{lt_z}
use Rattle.model.specs.Word.{less, signed, after}
use Rattle.model.specs.Syntax.{Site, Program}
use Rattle.model.specs.Accept.{limit}
use Rattle.model.specs.Layout.{base, word_of}
use Rattle.model.specs.Code.{compiled, compile}
use Rattle.model.specs.Machine.{Talk, talks as heard, reads as clocked}
use Rattle.model.specs.Run.{After, start, ended, waits}
use Rattle.model.specs.Occam.{Frame, in_seq, in_var, in_while, Process, finished, frames_of, look, State, Communication, talks, reads}
use Rattle.model.specs.Occam.{Step, Event, Outside, initial, Stuck}
use Rattle.model.specs.History.{Note, waits_for, guards_for, passes, Call, Moment, quietly, history}
use Rattle.model.specs.declared.Machine.{Machine}
use Rattle.std.specs.Prelude.{None, Ok}
use Rattle.model.specs.Answers.{StartAnswer}

-- one move of an Occam run: a step, or an offer, a take or the clock's move, with its communications and the state that it leaves
pub data Move : Type 0 where
  step : List Communication → State → Move
  outside : Event → List Communication → State → Move

-- a move follows Occam's rules
abbrev pub Legal : State → Move → Type 0
Legal st (step cs st') = Step st cs st'
Legal st (outside e cs st') = Outside st e cs st'

-- the state that a move leaves
abbrev pub left : Move → State
left (step cs st) = st
left (outside e cs st) = st

-- the moves made up to a moment since the moment before
abbrev pub Segment : Type 0
Segment = List Move

-- all moves follow the rules, each from the state that the one before left
abbrev pub Valid : State → Segment → Type 0
Valid st [] = Unit {0}
Valid st (m ∷ ms) = Legal st m × Valid (left m) ms

-- the state after all moves
abbrev pub reaches : State → Segment → State
reaches st [] = st
reaches st (m ∷ ms) = reaches (left m) ms

-- 02, order 4: TIME is one step, with its STL; reading the clock for it counts none
abbrev pub counts : List Communication → ℕ
counts [] = 1
counts (talks c v ∷ cs) = 1
counts (reads v ∷ cs) = 0

-- how many moves are steps; offers, takes and the clock's moves are none
abbrev pub steps : Segment → ℕ
steps [] = 0
steps (step cs st ∷ ms) = counts cs + steps ms
steps (outside e cs st ∷ ms) = steps ms

-- the offers and takes, with their answers, and the clock words of runs
abbrev pub events_of : Segment → List Event
events_of [] = []
events_of (step cs st ∷ ms) = events_of ms
events_of (outside e cs st ∷ ms) = e ∷ events_of ms

-- the communications in order
abbrev pub communications : Segment → List Communication
communications [] = []
communications (step cs st ∷ ms) = cs ++ communications ms
communications (outside e cs st ∷ ms) = cs ++ communications ms

-- the variables of the VARs that are entered and not over
abbrev pub live_in : List Frame → List Site
live_in [] = []
live_in (in_seq ss ∷ k) = live_in k
live_in (in_var xs ∷ k) = xs ++ live_in k
live_in (in_while e s ∷ k) = live_in k

-- 01: a live variable, its VAR entered and not over
abbrev pub Live : Process → Site → Type 0
Live p x = (path : List ℕ) × (q : Process) × (look path p ≡ some q) × Memᴰ x (live_in (frames_of q))

module _ (p : Program) where
  -- a communication is compared by its channel's word and its value; a reading of the clock by its value
  abbrev pub talk_of : Communication → Talk
  talk_of (talks c v) = heard (word_of p c) v
  talk_of (reads v) = clocked v

  -- what is found in the machine is no fault but what the run leaves by then: the same live variables, ended if the machine ended,
  -- unable to go on though not ended exactly if the machine waits
  pub record Agrees (m : Moment) (st : State) : Type 0 where
    pub variables : (x : Site) → Live st.process x → st.store x ≡ get_or m.memory (word_of p x) 0
    pub no-fault : m.machine.fault ≡ None
    pub ends : ended m.machine ≡ true → st.process ≡ finished
    pub waits-stuck : waits m.machine ≡ true → Stuck st
    pub stuck-waits : Stuck st → waits m.machine ≡ true

  -- a segment for a moment, from the state that the run had before: the same communications in the same order, the same offers, takes and
  -- clock words at the same places, with the same answers
  pub record Follows (m : Moment) (st : State) (moves : Segment) : Type 0 where
    pub valid : Valid st moves
    pub same-talk : map talk_of (communications moves) ≡ m.talk
    pub same-events : events_of moves ≡ m.events
    pub agrees : Agrees m (reaches st moves)

  -- a run is a segment for each moment
  abbrev pub Matches : List Moment → State → List Segment → Type 0
  Matches [] st [] = Unit {0}
  Matches [] st (g ∷ gs) = ⊥
  Matches (m ∷ ms) st [] = ⊥
  Matches (m ∷ ms) st (g ∷ gs) = Follows m st g × Matches ms (reaches st g) gs

-- for each instruction, how many Occam steps it brought
abbrev pub counted : Bool → ℕ → List ℕ → List ℕ
counted true n l = n ∷ l
counted false n l = l

-- the steps of the moments that are after a byte
abbrev pub per_instruction : List Moment → List Segment → List ℕ
per_instruction [] gs = []
per_instruction (m ∷ ms) [] = []
per_instruction (m ∷ ms) (g ∷ gs) = counted m.instruction (steps g) (per_instruction ms gs)

-- all of them together
abbrev pub total : List ℕ → ℕ
total [] = 0
total (n ∷ l) = n + total l

-- any so many instructions in a row, across calls too, hold at least one step
abbrev pub Progress : ℕ → List ℕ → Type 0
Progress n l = (before window after : List ℕ) → l ≡ before ++ window ++ after → length window ≡ n → 0 < total window

-- 02, order 4: a time lies, read signed, less than 2^30 ticks before or after a clock word
abbrev pub near : (time clock : ℕ) → Bool
near t c = let d = signed (less t c) in lt_z (neg_ℤ (pos (2 ^ 30))) d && lt_z d (pos (2 ^ 30))

-- a time that a process waits for at 13 or in a true time guard, and the process's workspace
pub record Watch : Type 0 where
  pub workspace : ℕ
  pub time : ℕ
  pub guard : Bool

-- without the guards of the ALT of a workspace
abbrev pub passing : (workspace : ℕ) → List Watch → List Watch
passing w [] = []
passing w (x ∷ xs) = cond (x.guard && eqb x.workspace w) (passing w xs) (x ∷ passing w xs)

-- the times after what a byte told
abbrev pub noting : List Note → List Watch → List Watch
noting [] xs = xs
noting (waits_for w t ∷ ns) xs = noting ns (record { workspace = w; time = t; guard = false } ∷ xs)
noting (guards_for w t ∷ ns) xs = noting ns (record { workspace = w; time = t; guard = true } ∷ xs)
noting (passes w ∷ ns) xs = noting ns (passing w xs)

-- all of them are near a clock word
abbrev pub all_near : (clock : ℕ) → List Watch → Bool
all_near c [] = true
all_near c (x ∷ xs) = near x.time c && all_near c xs

-- those whose processes have not gone on: one at 13 goes on as soon as the clock is after its time, at its TIN or at a run's beginning
abbrev pub unpassed : (clock : ℕ) → List Watch → List Watch
unpassed c [] = []
unpassed c (x ∷ xs) = cond (not x.guard && after c x.time) (unpassed c xs) (x ∷ unpassed c xs)

-- 02, order 4: "A time waited for, or in a true time guard, must lie, read signed, less than 2^30 ticks before or after every clock word in
-- force from its TIN or ENBT until its process goes on or passes its ALTEND". `xs` are the times that are watched before these moments
unfoldable pub keeps : List Watch → List Moment → Bool
keeps xs [] = true
keeps xs (m ∷ ms) =
    let c = m.machine.timer.clock in
    let ys = noting m.notes xs in
    all_near c ys && keeps (unpassed c ys) ms

-- a program that was started afresh: for every list of calls that keeps to this, one run by Occam's own rules that grows with the list.
-- Any 64 times the code's bytes, plus one, of instructions hold a step of it
pub record Faithful (p : Program) (code : List ℕ) (m : Machine) (memory : List ℕ) : Type 0 where
  pub run : List Call → List Segment
  pub grows : (cs : List Call) (c : Call) → keeps [] (quietly m memory ∷ history code (cs ++ c ∷ []) m memory) ≡ true
      → (more : List Segment) × (run (cs ++ c ∷ []) ≡ run cs ++ more)
  pub matches : (cs : List Call) → keeps [] (quietly m memory ∷ history code cs m memory) ≡ true
      → Matches p (quietly m memory ∷ history code cs m memory) (initial p) (run cs)
  pub progress : (cs : List Call) → keeps [] (quietly m memory ∷ history code cs m memory) ≡ true
      → Progress (suc (limit * length code)) (per_instruction (quietly m memory ∷ history code cs m memory) (run cs))

-- demand 3 for one table: any code buffer in which it compiles, any slice and memory with which it starts
abbrev pub Demand3 : (table : List ℕ) → Type 0
Demand3 table =
    (room slice : ℕ) (memory : List ℕ) (p : Program) (code : List ℕ) (s : After StartAnswer)
    → compile table room ≡ compiled p code
    → start code memory (base p) p.inputs p.outputs slice ≡ s
    → s.answer ≡ Ok tt
    → Faithful p code s.machine s.memory
