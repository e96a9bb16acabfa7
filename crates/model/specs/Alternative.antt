-- The operations of an ALT (01, "The machine"; the guide's ALT, ENBC, ENBS, ALTWT, DISC, DISS and ALTEND).
-- Words are touched in the order written, and each touch sees those before it.
use Rattle.std.specs.Prelude.{ℕ, ◌+◌, ◌-◌, ◌^◌, Bool, cond, ◌||◌, eqb}
use Rattle.model.specs.Word.{low, not_process}
use Rattle.model.specs.Machine.{Act, return, registers, set_registers, ◌>>=◌, ◌>>◌, stack, goto, changing, peek, poke, resume_word}
use Rattle.model.specs.Machine.{state_word, name_of, space_of, release, join, held_at}
use Rattle.model.specs.declared.Cpu.{Cpu}

-- ALT states in W - 3: Enabling
abbrev pub enabling : ℕ
enabling = 2 ^ 31 + 1

-- Waiting
abbrev pub waiting : ℕ
waiting = 2 ^ 31 + 2

-- Ready
abbrev pub ready : ℕ
ready = 2 ^ 31 + 3

-- W - 3 holds an ALT state and not a message place
abbrev pub is_alt_state : ℕ → Bool
is_alt_state s = eqb s enabling || eqb s waiting || eqb s ready

-- NoneSelected, in W + 0 while no branch is chosen
abbrev pub none_selected : ℕ
none_selected = 2 ^ 32 - 1

-- a sender or an offer acts on an ALT's state: it becomes Ready, and a process that is Waiting is woken
unfoldable pub notify : (process state : ℕ) → Act (Unit {0})
notify p s = do
  poke (state_word (space_of p)) ready
  cond (eqb s waiting) (join p) (return tt)

-- ALT: the state is Enabling
unfoldable pub begin_alt : Act (Unit {0})
begin_alt = do
  r ← registers
  poke (state_word r.workspace) enabling

-- ENBC and ENBS: the state becomes Ready
unfoldable pub set_ready : Act (Unit {0})
set_ready = do
  r ← registers
  poke (state_word r.workspace) ready

-- where no offer is held: an empty channel gets the process's name as a mark, which it may have already; a sender makes the ALT ready
abbrev pub enable_unheld : Cpu → (channel : ℕ) → Act (Unit {0})
enable_unheld r c = do
  p ← peek c
  cond (eqb p not_process) (poke c (name_of r.workspace))
      (cond (eqb p (name_of r.workspace)) (return tt) set_ready)

-- ENBC with a true condition: an empty channel gets a mark; a held offer or a sender makes the ALT ready
unfoldable pub enable_ready : (channel : ℕ) → Act (Unit {0})
enable_ready c = do
  r ← registers
  h ← held_at c
  cond h set_ready (enable_unheld r c)

-- ENBC: A is the condition, true when not 0, B the channel. B' = C; A and C keep
unfoldable pub enable_channel : Act (Unit {0})
enable_channel = do
  r ← registers
  cond (eqb r.a 0) (return tt) (enable_ready r.b)
  changing (λ q. stack q.a q.c q.c q)

-- ENBS: A is the condition, true when not 0. Registers keep
unfoldable pub enable_skip : Act (Unit {0})
enable_skip = do
  r ← registers
  cond (eqb r.a 0) (return tt) set_ready

-- ALTWT: no branch is chosen yet; the process waits unless it is Ready
unfoldable pub wait_alt : Act (Unit {0})
wait_alt = do
  r ← registers
  poke r.workspace none_selected
  s ← peek (state_word r.workspace)
  cond (eqb s ready) (return tt)
      (do
        poke (state_word r.workspace) waiting
        poke (resume_word r.workspace) r.place
        release)

-- DISC and DISS of a ready guard: its branch is chosen if none is yet. Gives 1 if it was, else 0
unfoldable pub select : (branch : ℕ) → Act ℕ
select b = do
  r ← registers
  t ← peek r.workspace
  cond (eqb t none_selected) (do poke r.workspace b; return 1) (return 0)

-- DISC with a true condition: a held offer or a sender is ready; the ALT's own mark goes, and with a held offer the word is NotProcess
unfoldable pub disable_ready : (channel branch : ℕ) → Act ℕ
disable_ready c b = do
  r ← registers
  h ← held_at c
  p ← peek c
  cond h
      (do t ← select b; poke c not_process; return t)
      (cond (eqb p not_process) (return 0) (cond (eqb p (name_of r.workspace)) (do poke c not_process; return 0) (select b)))

-- DISC: A is the branch's distance, B the condition, C the channel. A' says whether it was chosen; B and C keep
unfoldable pub disable_channel : Act (Unit {0})
disable_channel = do
  r ← registers
  t ← cond (eqb r.b 0) (return 0) (disable_ready r.c r.a)
  changing (λ q. stack t q.b q.c q)

-- DISS: A is the branch's distance, B the condition. A' says whether it was chosen; B' = C, C keeps
unfoldable pub disable_skip : Act (Unit {0})
disable_skip = do
  r ← registers
  t ← cond (eqb r.b 0) (return 0) (select r.a)
  changing (λ q. stack t q.c q.c q)

-- ALTEND: to the chosen branch, at the distance in W + 0
unfoldable pub end_alt : Act (Unit {0})
end_alt = do
  r ← registers
  d ← peek r.workspace
  set_registers (goto (low (r.place + d)) r)
