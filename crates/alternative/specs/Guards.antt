-- Pieces of an ALT's operations that are functions of their own.
use Rattle.std.specs.Prelude.{ℕ, cond, eqb}
use Rattle.model.specs.Word.{not_process}
use Rattle.model.specs.Machine.{Act, ◌>>=◌, ◌>>◌, return, registers, stack, peek, poke, state_word, resume_word, name_of, release, changing}
use Rattle.model.specs.Alternative.{enable_unheld, ready, waiting, select}
use Rattle.processor.specs.Pieces.{landing}

-- ENBC with a true condition, where no offer is held
abbrev pub enable_inside : (channel : ℕ) → Act (Unit {0})
enable_inside c = do
  r ← registers
  enable_unheld r c

-- ALTWT where no branch is chosen, of a process with this W that will go on at this place
abbrev pub wait_ready : (workspace place : ℕ) → Act (Unit {0})
wait_ready w p = landing (do
  s ← peek (state_word w)
  cond (eqb s ready) (return tt) (do poke (state_word w) waiting; poke (resume_word w) p; release))

-- A' says whether a guard's branch was chosen
abbrev pub choosing : Act ℕ → Act (Unit {0})
choosing act = do
  t ← act
  changing (λ q. stack t q.b q.c q)

-- a ready guard
abbrev pub selecting : (branch : ℕ) → Act (Unit {0})
selecting b = choosing (select b)

-- a guard with a held offer
abbrev pub disable_held : (channel branch : ℕ) → Act (Unit {0})
disable_held c b = choosing (do t ← select b; poke c not_process; return t)

-- a guard without, where the channel's word is p
abbrev pub disable_inside : (channel branch p : ℕ) → Act (Unit {0})
disable_inside c b p = choosing (do
  r ← registers
  cond (eqb p not_process) (return 0) (cond (eqb p (name_of r.workspace)) (do poke c not_process; return 0) (select b)))
