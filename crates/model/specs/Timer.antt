-- The clock and the timer queue (02, order 4; the guide's LDTIMER, TIN, TALT, ENBT, TALTWT and DIST).
-- Words are touched in the order written, and each touch sees those before it.
use Rattle.std.specs.Prelude.{ℕ, zero, suc, ◌+◌, ◌^◌, Bool, false, cond, ◌||◌, List, [], ◌∷◌, leb, eqb}
use Rattle.std.proofs.Math.Option.{Option, none, some}
use Rattle.model.specs.Word.{after, not_process}
use Rattle.model.specs.Limits.{word_limit}
use Rattle.model.specs.Machine.{Act, return, fault, ◌>>=◌, ◌>>◌, registers, setup, timer, set_front, read_clock, push, stack, changing}
use Rattle.model.specs.Machine.{memory_size, peek, poke, resume_word, state_word, time_link_word, time_word, name_of, space_of, enqueue}
use Rattle.model.specs.Machine.{release}
use Rattle.model.specs.Alternative.{waiting, ready, none_selected, begin_alt, select}
use Rattle.model.specs.declared.FaultKind.TheVariants.{Word}

-- in W - 4 of an ALT that is in no timer queue: TimeSet, a true guard has brought a time
abbrev pub time_set : ℕ
time_set = 2 ^ 31 + 1

-- TimeNotSet, none has
abbrev pub time_not_set : ℕ
time_not_set = 2 ^ 31 + 2

-- a process is among those that a walk was at
unfoldable pub was_at : ℕ → List ℕ → Bool
was_at p [] = false
was_at p (q ∷ l) = eqb p q || was_at p l

-- where a walk along the timer queue stopped: the process before, if there is one, and the one there, NotProcess at the queue's end
pub record Stop : Type 0 where
  pub before : Option ℕ
  pub at : ℕ

-- "Going along a timer queue until it comes back on itself is a fault, as an address outside memory, its front's": on from p, by the
-- links, until a process is one to stop at. `seen` are those that the walk was at. Each has a word of its own in W - 4, so there are no
-- more than words, and `fuel`, one more than there are words, does not run out
unfoldable pub along : (fuel : ℕ) → (stops : ℕ → Act Bool) → (front : ℕ) (seen : List ℕ) (before : Option ℕ) (p : ℕ) → Act Stop
along zero stops front seen before p = fault (Word (space_of front))
along (suc n) stops front seen before p =
    cond (eqb p not_process) (return (record { before = before; at = p }))
    (cond (was_at p seen) (fault (Word (space_of front))) (do
      b ← stops p
      cond b (return (record { before = before; at = p })) (do
        q ← peek (time_link_word (space_of p))
        along n stops front (p ∷ seen) (some p) q)))

-- a walk from the front
unfoldable pub walk : (stops : ℕ → Act Bool) → Act Stop
walk stops = do
  u ← setup
  t ← timer
  along (suc (memory_size u)) stops t.front [] none t.front

-- what comes behind the process before, or at the front where there is none
abbrev pub link : Option ℕ → (name : ℕ) → Act (Unit {0})
link none p = set_front p
link (some b) p = poke (time_link_word (space_of b)) p

-- a process whose time is after t, before which one with the time t has its place: equals go by arrival
abbrev pub is_later : (t p : ℕ) → Act Bool
is_later t p = do
  u ← peek (time_word (space_of p))
  return (after u t)

-- the process at work goes into the timer queue with the time t
unfoldable pub sleep : (t : ℕ) → Act (Unit {0})
sleep t = do
  r ← registers
  s ← walk (is_later t)
  poke (time_link_word r.workspace) s.at
  link s.before (name_of r.workspace)

-- LDTIMER: push the clock of this run
unfoldable pub load_timer : Act (Unit {0})
load_timer = do
  t ← timer
  read_clock t.clock
  changing (push t.clock)

-- TIN: A is a time. The process goes on where the clock is after it; else it waits until then
unfoldable pub timer_input : Act (Unit {0})
timer_input = do
  r ← registers
  t ← timer
  cond (after t.clock r.a) (return tt)
      (do
        poke (resume_word r.workspace) r.place
        poke (state_word r.workspace) waiting
        poke (time_word r.workspace) r.a
        sleep r.a
        release)

-- TALT: as ALT, and no guard has brought a time
unfoldable pub begin_timed_alt : Act (Unit {0})
begin_timed_alt = do
  begin_alt
  r ← registers
  poke (time_link_word r.workspace) time_not_set

-- ENBT with a true condition: the first time, or the earlier one
unfoldable pub bring_time : (t : ℕ) → Act (Unit {0})
bring_time t = do
  r ← registers
  x ← peek (time_link_word r.workspace)
  cond (eqb x time_not_set)
      (do poke (time_link_word r.workspace) time_set; poke (time_word r.workspace) t)
      (do
        u ← peek (time_word r.workspace)
        cond (after u t) (poke (time_word r.workspace) t) (return tt))

-- ENBT: A is the condition, true when not 0, B the time. B' = C; A and C keep
unfoldable pub enable_time : Act (Unit {0})
enable_time = do
  r ← registers
  cond (eqb r.a 0) (return tt) (bring_time r.b)
  changing (λ q. stack q.a q.c q.c q)

-- TALTWT of an ALT that is not Ready, with no time or one that is still to come: it waits
abbrev pub alt_waits : Act (Unit {0})
alt_waits = do
  r ← registers
  poke (state_word r.workspace) waiting
  poke (resume_word r.workspace) r.place

-- TALTWT of an ALT that is not Ready and has a time: Ready with the clock where the clock is after it, else asleep
unfoldable pub wait_time : Act (Unit {0})
wait_time = do
  r ← registers
  t ← timer
  u ← peek (time_word r.workspace)
  cond (after t.clock u)
      (do poke (state_word r.workspace) ready; poke (time_word r.workspace) t.clock)
      (do alt_waits; sleep u; release)

-- TALTWT: no branch is chosen yet; the process waits unless it is Ready, or the clock is after its time
unfoldable pub wait_timed_alt : Act (Unit {0})
wait_timed_alt = do
  r ← registers
  t ← timer
  poke r.workspace none_selected
  s ← peek (state_word r.workspace)
  cond (eqb s ready) (poke (time_word r.workspace) t.clock)
      (do
        x ← peek (time_link_word r.workspace)
        cond (eqb x time_set) wait_time (do alt_waits; release))

-- the process at work leaves the timer queue; what was behind it is its link
unfoldable pub leave_timer : (behind : ℕ) → Act (Unit {0})
leave_timer n = do
  r ← registers
  s ← walk (λ p. return (eqb p (name_of r.workspace)))
  cond (eqb s.at not_process) (return tt) (link s.before n)
  poke (time_link_word r.workspace) time_not_set

-- DIST with a true condition: ready where the time at which the ALT went on is after the guard's; one that is still in the timer queue
-- leaves it, and no time is ready. Gives 1 if the branch was chosen, else 0
unfoldable pub disable_set : (t branch : ℕ) → Act ℕ
disable_set t b = do
  r ← registers
  x ← peek (time_link_word r.workspace)
  cond (eqb x time_set)
      (do
        u ← peek (time_word r.workspace)
        cond (after u t) (select b) (return 0))
      (cond (eqb x time_not_set) (return 0) (do leave_timer x; return 0))

-- DIST: A is the branch's distance, B the condition, C the time. A' says whether it was chosen; B and C keep
unfoldable pub disable_time : Act (Unit {0})
disable_time = do
  r ← registers
  t ← cond (eqb r.b 0) (return 0) (disable_set r.c r.a)
  changing (λ q. stack t q.b q.c q)

-- a sleeper whose time has come has the clock for its time. One that waits is Ready and joins the back of the queue; any other is an ALT
-- that was woken before. Gives what was behind it
unfoldable pub wake_one : (clock p : ℕ) → Act ℕ
wake_one c p = do
  n ← peek (time_link_word (space_of p))
  poke (time_link_word (space_of p)) time_set
  poke (time_word (space_of p)) c
  s ← peek (state_word (space_of p))
  r ← registers
  cond (eqb s waiting) (do poke (state_word (space_of p)) ready; enqueue p r) (return tt)
  return n

-- a machine of more words than a start gives wakes nobody: the fault is that of a queue that comes back on itself
abbrev pub within_limit : (front : ℕ) → Act (Unit {0})
within_limit f = do
  u ← setup
  cond (leb (memory_size u) word_limit) (return tt) (fault (Word (space_of f)))

-- "Sleepers wake at a run's start, in time order, equals by arrival": from p on, as long as the clock is after the time. `seen` and `fuel`
-- as in a walk. Gives the new front
unfoldable pub wake_from : (fuel : ℕ) → (clock front : ℕ) (seen : List ℕ) (p : ℕ) → Act ℕ
wake_from zero c front seen p = fault (Word (space_of front))
wake_from (suc n) c front seen p =
    cond (eqb p not_process) (return p)
    (cond (was_at p seen) (fault (Word (space_of front))) (do
      t ← peek (time_word (space_of p))
      cond (after c t)
          (do within_limit front; q ← wake_one c p; wake_from n c front (p ∷ seen) q)
          (return p)))

-- from the front, under the clock of this run
unfoldable pub wake_sleepers : Act (Unit {0})
wake_sleepers = do
  u ← setup
  t ← timer
  f ← wake_from (suc (memory_size u)) t.clock t.front [] t.front
  set_front f
