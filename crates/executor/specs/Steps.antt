-- Instructions by their codes.
use Rattle.processor.specs.Seen.{Step}
use Rattle.std.specs.Prelude.{ℕ, suc, min, ◌≡◌, Bool, List, [], ◌∷◌, length}
use Rattle.model.specs.Limits.{slice_limit}
use Rattle.model.specs.Instruction.{function_of, Operation, operation_code, rev, endp, diff, «in», prod, gt, startp, outword, stopp, ldpi}
use Rattle.model.specs.Instruction.{disc, diss, xor, mint, alt, altwt, altend, and, enbc, enbs, or, sum, ldtimer, tin, dist, enbt, talt}
use Rattle.model.specs.Instruction.{taltwt}
use Rattle.model.specs.Word.{low}
use Rattle.model.specs.Machine.{Act, memory_size, goto, gathering, counting}
use Rattle.model.specs.Run.{function_or12}
use Rattle.model.specs.declared.Cpu.{Cpu}
use Rattle.model.specs.declared.Setup.{Setup}
use Rattle.processor.specs.Quiet.{Acts}

-- a direct function by its code
abbrev pub executing : (code operand : ℕ) → Act (Unit {0})
executing k n = function_or12 (function_of k) k n

-- a number is the code of none of these, of which the last comes first
abbrev pub Other : List Operation → ℕ → Type 0
Other [] n = Unit {0}
Other (o ∷ l) n = Other l n × (n ≡ operation_code o → ⊥)

-- the operations on the registers alone
abbrev pub on_registers : List Operation
on_registers = sum ∷ or ∷ and ∷ mint ∷ xor ∷ ldpi ∷ gt ∷ prod ∷ diff ∷ rev ∷ []

-- those on processes and channels
abbrev pub on_processes : List Operation
on_processes = stopp ∷ outword ∷ startp ∷ «in» ∷ endp ∷ []

-- those of an ALT
abbrev pub on_alts : List Operation
on_alts = enbs ∷ enbc ∷ altend ∷ altwt ∷ alt ∷ diss ∷ disc ∷ []

-- those of the clock
abbrev pub on_timers : List Operation
on_timers = taltwt ∷ talt ∷ enbt ∷ dist ∷ tin ∷ ldtimer ∷ []

-- an operation of the clock, which may be heard, in any machine with so many words as the memory and code of that length
abbrev pub Ticks : (code : ℕ) → Act (Unit {0}) → Cpu → (clock front : ℕ) → (before : List ℕ) → Step → (front' : ℕ)
    → (after : List ℕ) → Type 0
Ticks code act r k f l s g m = (u : Setup) → memory_size u ≡ length l → u.code ≡ code → (o : List ℕ) (b : List Bool)
    → Acts u act r o b k f l s b g m

-- an action that sees which offers are held, and takes none
abbrev pub Looks : Setup → Act (Unit {0}) → Cpu → (held : List Bool) → (clock front : ℕ) → (before : List ℕ) → Step → (front' : ℕ)
    → (after : List ℕ) → Type 0
Looks u act r b k f l s g m = (o : List ℕ) → Acts u act r o b k f l s b g m

-- the byte counts towards the slice, the next one is behind it, and the operand is given
abbrev pub advanced_to : (operand : ℕ) → Cpu → Cpu
advanced_to o r = gathering o (counting (min (suc r.count) slice_limit) (goto (low (suc r.place)) r))
