-- Pieces of IN and OUTWORD that are functions of their own.
use Rattle.std.specs.Prelude.{ℕ, cond, eqb}
use Rattle.model.specs.Word.{not_process}
use Rattle.model.specs.Machine.{Act, ◌>>=◌, ◌>>◌, registers, peek, poke, resume_word, state_word, name_of, space_of, release}
use Rattle.model.specs.Alternative.{notify, is_alt_state}
use Rattle.model.specs.Execute.{wait_at, input_unheld, deliver}
use Rattle.model.specs.declared.Cpu.{Cpu}
use Rattle.processor.specs.Pieces.{landing, poke_join, poke2_tell}

-- a process waits at a channel's word, a process in an ALT is told, and the processor is free
abbrev pub wait_tell : (channel message p state : ℕ) → Act (Unit {0})
wait_tell c m p s = do
  r ← registers
  poke c (name_of r.workspace)
  poke2_tell (resume_word r.workspace) r.place (state_word r.workspace) m p s

-- a value goes to a message place, the channel is empty again and the process that waited there is woken
abbrev pub hand : (channel p message value : ℕ) → Act (Unit {0})
hand c p m v = do
  poke m v
  poke_join c not_process p

-- IN from a channel on which no offer is held
abbrev pub inside_input : Act (Unit {0})
inside_input = landing (do
  r ← registers
  input_unheld r)

-- what OUTWORD does with the process at the channel's word: in an ALT it is told and the sender waits; in IN it gets the value
abbrev sending : Cpu → (p : ℕ) → Act (Unit {0})
sending r p = do
  s ← peek (state_word (space_of p))
  cond (is_alt_state s)
      (do wait_at r.b r.workspace; notify p s; release)
      (deliver r.b p s r.a)

-- OUTWORD where a process is at the channel's word
abbrev pub output_to : (p : ℕ) → Act (Unit {0})
output_to p = landing (do
  r ← registers
  sending r p)

-- OUTWORD where the value stands in W + 0, with the registers as they are
abbrev pub output_behind : Cpu → Act (Unit {0})
output_behind r = landing (do
  p ← peek r.b
  cond (eqb p not_process)
      (do wait_at r.b r.workspace; release)
      (sending r p))
