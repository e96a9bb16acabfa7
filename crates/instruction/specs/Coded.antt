-- An instruction's bytes, and what decoding answers, by the model's definitions.
use Rattle.std.specs.Prelude.{ℕ, ◌+◌, ◌-◌, ◌*◌, ◌/◌, ◌%◌, Bool, cond, ◌||◌, List, [], ◌∷◌, ◌++◌, length, eqb}
use Rattle.std.specs.Prelude.{Option, Some, None}
use Rattle.std.proofs.Math.Option.{none, some, Option as Maybe}
use Rattle.model.specs.Instruction.{pfix_code, nfix_code}
use Rattle.model.specs.Prefix.{shifted, prefixes, pfixed, nfixed, Decoded}
use Rattle.instruction.specs.declared.decoder.Instruction.{Instruction}

-- the bytes of an instruction with so many prefixes, whose function is the high four bits of a byte (01, "Workspace and code")
unfoldable pub coded : (count byte operand : ℕ) → List ℕ
coded k b n = prefixes k (shifted n) ++ (b / 16 * 16 + n % 16) ∷ []

-- whether a function is PFIX or NFIX (01, "The machine": bytes that are gathered)
abbrev pub is_prefix : (function : ℕ) → Bool
is_prefix f = eqb f pfix_code || eqb f nfix_code

-- the operand behind a prefix (01, "The machine"; the guide's PFIX and NFIX)
abbrev pub moved_up : (operand function : ℕ) → ℕ
moved_up o f = cond (eqb f pfix_code) (pfixed o) (nfixed o)

-- the answer for what was decoded in code of some size: the function's four bits, the operand and the place after the instruction
-- (01, "The machine")
abbrev pub answer : (size : ℕ) → Maybe Decoded → Option Instruction
answer size none = None
answer size (some d) = Some (record { function = d.function; operand = d.operand; next = size - length d.rest })
