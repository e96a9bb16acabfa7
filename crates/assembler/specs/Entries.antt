-- An instruction of a list: its function as the high four bits of a byte, and its operand, or the two indices of a distance, 16 bits each.
-- A list has at most 16,384 instructions (01, refusal 10: each takes at least one byte of code).
use Rattle.std.specs.Prelude.{ℕ, ◌*◌, ◌%◌, ◌^◌, List, [], ◌∷◌}
use Rattle.model.specs.Instruction.{function_code, Instruction, plain, distance}
use Rattle.assembler.specs.declared.entry.Entry.{Entry}
use Rattle.assembler.specs.declared.entry.Entry.TheVariants.{Plain, Distance}

-- the entry of an instruction, and of several
unfoldable pub entry_of : Instruction → Entry
entry_of (plain f n) = Plain (function_code f * 16) n
entry_of (distance f r u) = Distance (function_code f * 16) (r % 2 ^ 16) (u % 2 ^ 16)

unfoldable pub entries_of : List Instruction → List Entry
entries_of [] = []
entries_of (x ∷ xs) = entry_of x ∷ entries_of xs

-- what stands where a list has no instruction
abbrev pub blank : Entry
blank = Plain 0 0

-- the function of an entry as the high four bits of a byte
abbrev pub byte_in : Entry → ℕ
byte_in (Plain f n) = f
byte_in (Distance f r u) = f
