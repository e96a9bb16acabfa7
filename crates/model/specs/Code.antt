-- The code bytes of a table, and what it is for code to realise the scheme (01, "Workspace and code"; demand 2).
use Rattle.std.specs.Prelude.{ℕ, suc, ◌+◌, ◌^◌, ◌≤◌, ◌<◌, ◌≡◌, cond, ◌&&◌, List, [], ◌∷◌, ◌++◌, length, take, drop, leb, Result}
use Rattle.std.specs.Prelude.{Ok, Err}
use Rattle.std.proofs.Math.Option.{some}
use Rattle.std.proofs.Math.ListN.{get_elem?}
use Rattle.std.proofs.Math.Seq.{slice}
use Rattle.model.specs.Word.{less}
use Rattle.model.specs.Limits.{code_limit, word_limit}
use Rattle.model.specs.Syntax.{Program}
use Rattle.model.specs.Reader.{Read, program, refused as unread}
use Rattle.model.specs.Accept.{accept, memory_words}
use Rattle.model.specs.Instruction.{Function, function_code, Instruction, plain, distance}
use Rattle.model.specs.Prefix.{with_prefixes, fewest, distance_prefixes, decode}
use Rattle.model.specs.Scheme.{scheme}
use Rattle.model.specs.Answers.{reason_number, refused_for}
use Rattle.model.specs.declared.Reason.{Reason}
use Rattle.model.specs.declared.Reason.TheVariants.{TooLarge, Short}
use Rattle.model.specs.declared.Refusal.{Refusal}

-- code distances take exactly four bytes, other operands the shortest prefixes
unfoldable pub prefixes_of : Instruction → ℕ
prefixes_of (plain f n) = fewest n
prefixes_of (distance f r u) = distance_prefixes

-- how many bytes instructions take
unfoldable pub bytes_in : List Instruction → ℕ
bytes_in [] = 0
bytes_in (x ∷ xs) = suc (prefixes_of x) + bytes_in xs

-- the first byte of the instruction at an index
unfoldable pub place_of : List Instruction → ℕ → ℕ
place_of xs i = bytes_in (take i xs)

-- an instruction's direct function
unfoldable pub function_in : Instruction → Function
function_in (plain f n) = f
function_in (distance f r u) = f

-- an instruction's operand, where `off` gives each instruction its first byte. 01: distances count from the byte after their user
unfoldable pub operand_in : (ℕ → ℕ) → Instruction → ℕ
operand_in off (plain f n) = n
operand_in off (distance f reached user) = less (off reached) (off (suc user))

-- the bytes of instructions
unfoldable pub encode : (ℕ → ℕ) → List Instruction → List ℕ
encode off [] = []
encode off (x ∷ xs) = with_prefixes (prefixes_of x) (function_in x) (operand_in off x) ++ encode off xs

-- a list of so many instructions can be coded: an operand is a word; what a distance reaches is in the list or its end, what uses it is in
-- the list (01, "Workspace and code")
abbrev pub Fits : (count : ℕ) → Instruction → Type 0
Fits count (plain f n) = n < 2 ^ 32
Fits count (distance f reached user) = (reached ≤ count) × (user < count)

pub data AllFit (count : ℕ) : List Instruction → Type 0 where
  nil-fits : AllFit count []
  cons-fits : {x : Instruction} {xs : List Instruction} → Fits count x → AllFit count xs → AllFit count (x ∷ xs)

-- the code of a program: the scheme's bytes (demand 2)
unfoldable pub code_of : Program → List ℕ
code_of p = encode (place_of (scheme p)) (scheme p)

-- demand 2: "decoded, it is the scheme's instruction list again". Code realises a list of instructions if `off` gives each its first byte
-- and the bytes from there to the next one's decode to it
pub record Realises (code : List ℕ) (xs : List Instruction) (off : ℕ → ℕ) : Type 0 where
  pub begins : off 0 ≡ 0
  pub ends : off (length xs) ≡ length code
  pub each : (i : ℕ) (x : Instruction) → get_elem? xs i ≡ some x
      → decode 0 (slice (off i) (off (suc i)) code)
      ≡ some (record { function = function_code (function_in x); operand = operand_in off x; rest = [] })

-- what compiling a table for a code buffer of some length gives: the program and its code, or why it is refused, and what is returned
pub data Compilation : Type 0 where
  compiled : Program → (code : List ℕ) → Compilation
  refused : Reason → (returned : ℕ) → Compilation

-- over 4,096 words with outside channels, or over 16,384 code bytes: 10 at place 0; then the buffer too short: 11 with the size needed
unfoldable pub fitting : (room : ℕ) → Program → List ℕ → Compilation
fitting room p code =
    cond (leb (memory_words p) word_limit && leb (length code) code_limit)
    (cond (leb (length code) room) (compiled p code) (refused Short (length code)))
    (refused TooLarge 0)

-- 10 and 11 are tested only where the reader's refusals pass
abbrev pub of_read : (room : ℕ) → Read → Compilation
of_read room (program p) = fitting room p (code_of p)
of_read room (unread why at) = refused why at

-- compiling a table into a lent code buffer with room for so many bytes: refusals 1 to 7 and 9 to 11, lowest first after reading
unfoldable pub compile : (table : List ℕ) (room : ℕ) → Compilation
compile table room = of_read room (accept table)

-- the entry's answer: the code's length, or the refusal
abbrev pub compiled_answer : Compilation → Result ℕ Refusal
compiled_answer (compiled p code) = Ok (length code)
compiled_answer (refused why r) = Err (refused_for why r)

-- the lent code buffer afterwards: the code in front and the rest as it was; on any refusal all of it as it was
abbrev pub buffer_after : Compilation → (buffer : List ℕ) → List ℕ
buffer_after (compiled p code) buffer = code ++ drop (length code) buffer
buffer_after (refused why r) buffer = buffer

-- what the entry gives back: the filled front of the lent code buffer; on a refusal the whole buffer, as it was
abbrev pub given_back : Compilation → (buffer : List ℕ) → List ℕ
given_back (compiled p code) buffer = code
given_back (refused why r) buffer = buffer

-- 01's number of a refusal, 0 for none
abbrev pub number_of : Compilation → ℕ
number_of (compiled p code) = 0
number_of (refused why r) = reason_number why

-- the code's length, or what the refusal returns
abbrev pub returned_of : Compilation → ℕ
returned_of (compiled p code) = length code
returned_of (refused why r) = r
