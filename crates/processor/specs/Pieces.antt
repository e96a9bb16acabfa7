-- Pieces of the model's actions that are functions of their own.
use Rattle.std.specs.Prelude.{ℕ, cond, eqb}
use Rattle.model.specs.Machine.{Act, ◌>>=◌, ◌>>◌, registers, set_registers, goto, work, peek, poke, test_place, resume_word, state_word}
use Rattle.model.specs.Machine.{name_of}
use Rattle.model.specs.Machine.{space_of, release, join, return}
use Rattle.model.specs.Alternative.{is_alt_state, ready, waiting}
use Rattle.model.specs.Run.{land, waking}

-- what an instruction does, and the test of the place where the processor goes
abbrev pub landing : Act (Unit {0}) → Act (Unit {0})
landing act = do
  act
  land

-- the place where a process will go on is tested before that of the process that is taken
abbrev pub land_at : (to : ℕ) → Act (Unit {0})
land_at to = do
  test_place to
  land

-- the processor is free; where its process will go on is tested before the place of the process that is taken
abbrev pub release_at : (to : ℕ) → Act (Unit {0})
release_at to = do
  release
  land_at to

-- a word is written before that
abbrev pub poke_release : (to a v : ℕ) → Act (Unit {0})
poke_release to a v = do
  poke a v
  release_at to

-- a word is written, and a process joins the queue
abbrev pub poke_join : (a v w : ℕ) → Act (Unit {0})
poke_join a v w = do
  poke a v
  join w

-- a process joins the queue, and the processor is free
abbrev pub join_release : (to w : ℕ) → Act (Unit {0})
join_release to w = do
  join w
  release_at to

-- the last branch goes on as the PAR
abbrev pub last_ends : Act (Unit {0})
last_ends = landing (do
  r ← registers
  p ← peek r.a
  set_registers (goto p (work r.a r)))

-- the slice is over: the process, which will go on at a place, goes to the back of the queue
abbrev pub yield_slice : (to : ℕ) → Act (Unit {0})
yield_slice to = do
  r ← registers
  poke (resume_word r.workspace) to
  join_release to (name_of r.workspace)

-- an ALT was made Ready: its process is woken if it was Waiting, and the processor is free
abbrev pub wake_release : (p state : ℕ) → Act (Unit {0})
wake_release p s = cond (eqb s waiting) (join_release 0 p) (release_at 0)

-- a process in an ALT is told, and the processor is free
abbrev pub notify_release : (p state : ℕ) → Act (Unit {0})
notify_release p s = do
  poke (state_word (space_of p)) ready
  wake_release p s

-- the processor is free; a process in an ALT, whose state is given, is told before
abbrev pub tell_release : (p state : ℕ) → Act (Unit {0})
tell_release p s = cond (is_alt_state s) (notify_release p s) (release_at 0)

-- a word is written before that
abbrev pub poke_tell : (a v p state : ℕ) → Act (Unit {0})
poke_tell a v p s = do
  poke a v
  tell_release p s

-- two words are written before that
abbrev pub poke2_tell : (a v b w p state : ℕ) → Act (Unit {0})
poke2_tell a v b w p s = do
  poke a v
  poke_tell b w p s

-- a process is woken from outside; where a free processor takes it, its place is tested
abbrev pub wake_join : (w : ℕ) → Act (Unit {0})
wake_join w = waking (join w)

-- an ALT was made Ready from outside: its process is woken if it was Waiting
abbrev pub wake_waiting : (p state : ℕ) → Act (Unit {0})
wake_waiting p s = cond (eqb s waiting) (wake_join p) (return tt)

-- a process in an ALT is told from outside
abbrev pub notify_wake : (p state : ℕ) → Act (Unit {0})
notify_wake p s = do
  poke (state_word (space_of p)) ready
  wake_waiting p s
