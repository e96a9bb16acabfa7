-- Single instructions as they are put into the list (01, "Workspace and code").
use Rattle.std.specs.Prelude.{ℕ, ◌+◌, ◌%◌, ◌^◌, List, set}
use Rattle.model.specs.Word.{low}
use Rattle.assembler.specs.declared.entry.Entry.{Entry}
use Rattle.assembler.specs.declared.entry.Entry.TheVariants.{Plain, Distance}
use Rattle.instruction.specs.Codes.{OPR}

-- the index of the next instruction, and the list
pub record Code : Type 0 where
  pub here : ℕ
  pub list : List Entry

-- an index in a list
abbrev pub at : (here : ℕ) → List Entry → Code
at h l = record { here = h; list = l }

-- an entry at its index
unfoldable pub put_into : (entry : Entry) → Code → Code
put_into e c = record { here = low (c.here + 1); list = set c.list c.here e }

-- an instruction whose function is the high four bits of a byte: with a plain operand, with a distance, and an operation as the operand
-- of OPR
unfoldable pub plain_into : (function operand : ℕ) → Code → Code
plain_into f n c = put_into (Plain f n) c

unfoldable pub distance_into : (function reached user : ℕ) → Code → Code
distance_into f r u c = put_into (Distance f (r % 2 ^ 16) (u % 2 ^ 16)) c

unfoldable pub operation_into : ℕ → Code → Code
operation_into o c = plain_into OPR o c
