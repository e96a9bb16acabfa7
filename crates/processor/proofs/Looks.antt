-- What was found at a word, for every rest of the world, is what is in the memory.
use Prim.Native.Nat.{ℕ}
use native.Mathlib.Omega.{arith}
use mathlib.Core.Path.{◌≡◌}
use mathlib.Core.Bool.{Bool, true, false, cond}
use mathlib.Core.List.{List, []}
use lib.ListN.{get_or}
use Rattle.std.proofs.lemmas.List.{append-nil}
use Rattle.std.specs.Prelude.{length, ◌++◌}
use lib.Dec.{ltb}
use Rattle.std.specs.Prelude.{Ok, Err}
use Rattle.model.specs.Machine.{done, faults, memory_size, peek}
use Rattle.model.specs.Run.{no_timer, registers_at}
use Rattle.model.specs.declared.Cpu.{Cpu}
use Rattle.model.specs.declared.Setup.{Setup}
use Rattle.std.specs.Prelude.{None}
use Rattle.model.specs.declared.FaultKind.{FaultKind}
use Rattle.model.specs.declared.FaultKind.TheVariants.{Word}
use Rattle.model.proofs.Cases.{never}
use Rattle.processor.specs.Seen.{Rest, world, found, Finds, looked, Peeked}

-- a rest of the world, where one is asked for
abbrev pub any_rest : Rest
any_rest = record { behind = []; timer = no_timer; offers = []; held = []; fault = None; talk = [] }

-- a machine with so many words
abbrev pub any_setup : (size : ℕ) → Setup
any_setup size = record { code = 0; base = size; inputs = 0; outputs = 0; slice = 0 }

pub any_size : (size : ℕ) → memory_size (any_setup size) ≡ size
any_size size = omega arith

-- what was looked for, from what a look into the memory came to
of-found :
    (x : Rest) (u : Setup) (r : Cpu) (l : List ℕ) (t : Bool) (v : ℕ) (k : FaultKind) (p : Peeked)
    → cond t (done v (world x u r l)) (faults k) ≡ found x u r p l → p ≡ cond t (Ok v) (Err k)
of-found x u r l true v k (Ok w) e = cc
of-found x u r l true v k (Err j) e = never (cc)
of-found x u r l false v k (Ok w) e = never (cc)
of-found x u r l false v k (Err j) e = cc

pub finds-looked : (a : ℕ) (l : List ℕ) (p : Peeked) → Finds (peek a) l p → p ≡ looked a l
unfolding peek
finds-looked a l p f =
    let u = any_setup (length l) in
    let r = registers_at 0 false in
    let e = f u (any_size (length l)) any_rest r in
    rw (any_size (length l), append-nil l) at (of-found any_rest u r l (ltb a (memory_size u)) (get_or (l ++ []) a 0) (Word a) p e)
