-- The instructions that 01 uses, with the codes of INMOS's guide.
use Rattle.std.specs.Prelude.{ℕ, true, false, List, [], ◌∷◌, eqb}
use Rattle.std.proofs.Math.Option.{Option, none, some}

-- the direct functions that 01 uses, other than the prefixes
pub data Function : Type 0 where
  j ldlp ldc ldl cj ajw eqc stl opr : Function

-- the high four bits of an instruction's last byte
unfoldable pub function_code : Function → ℕ
function_code j = 0x0
function_code ldlp = 0x1
function_code ldc = 0x4
function_code ldl = 0x7
function_code cj = 0xa
function_code ajw = 0xb
function_code eqc = 0xc
function_code stl = 0xd
function_code opr = 0xf

-- PFIX's high four bits
abbrev pub pfix_code : ℕ
pfix_code = 0x2

-- NFIX's high four bits
abbrev pub nfix_code : ℕ
nfix_code = 0x6

-- the operations that 01 uses, and those of 02, order 4
pub data Operation : Type 0 where
  rev endp diff «in» prod gt startp outword stopp ldpi disc diss xor mint alt altwt altend and enbc enbs or sum : Operation
  ldtimer tin dist enbt talt taltwt : Operation

-- the operand of OPR, as the guide codes the operation
unfoldable pub operation_code : Operation → ℕ
operation_code rev = 0x00
operation_code endp = 0x03
operation_code diff = 0x04
operation_code «in» = 0x07
operation_code prod = 0x08
operation_code gt = 0x09
operation_code startp = 0x0d
operation_code outword = 0x0f
operation_code stopp = 0x15
operation_code ldpi = 0x1b
operation_code disc = 0x2f
operation_code diss = 0x30
operation_code xor = 0x33
operation_code mint = 0x42
operation_code alt = 0x43
operation_code altwt = 0x44
operation_code altend = 0x45
operation_code and = 0x46
operation_code enbc = 0x48
operation_code enbs = 0x49
operation_code or = 0x4b
operation_code sum = 0x52
operation_code ldtimer = 0x22
operation_code tin = 0x2b
operation_code dist = 0x2e
operation_code enbt = 0x47
operation_code talt = 0x4e
operation_code taltwt = 0x51

-- all direct functions other than the prefixes
abbrev pub functions : List Function
functions = j ∷ ldlp ∷ ldc ∷ ldl ∷ cj ∷ ajw ∷ eqc ∷ stl ∷ opr ∷ []

-- all operations
abbrev pub operations : List Operation
operations =
    rev ∷ endp ∷ diff ∷ «in» ∷ prod ∷ gt ∷ startp ∷ outword ∷ stopp ∷ ldpi ∷ disc ∷ diss ∷ xor ∷ mint ∷ alt ∷ altwt ∷ altend ∷ and ∷ enbc
    ∷ enbs ∷ or ∷ sum ∷ ldtimer ∷ tin ∷ dist ∷ enbt ∷ talt ∷ taltwt ∷ []

-- the first of a list that has a code
unfoldable pub coded : {A : Type 0} → (A → ℕ) → ℕ → List A → Option A
coded code n [] = none
coded code n (a ∷ l) = let rest = coded code n l in elim (eqb (code a) n) [ true ↦ some a | false ↦ rest ]

-- what four high bits stand for; none is a fault (01, refusal 12: function not used)
unfoldable pub function_of : ℕ → Option Function
function_of n = coded function_code n functions

-- what an operand of OPR stands for; none is a fault (01, refusal 12: operation not used)
unfoldable pub operation_of : ℕ → Option Operation
operation_of n = coded operation_code n operations

-- an instruction of the scheme. A code distance is given by the index of the instruction that it reaches and that of the
-- instruction that uses it; every other operand is a word
pub data Instruction : Type 0 where
  plain : Function → (operand : ℕ) → Instruction
  distance : Function → (reached user : ℕ) → Instruction

-- OPR with the code of an operation
abbrev pub operation : Operation → Instruction
operation o = plain opr (operation_code o)
