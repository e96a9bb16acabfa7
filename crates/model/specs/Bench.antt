-- What the bench program prints for a table (01, "The bench program"), as ASCII bytes.
use Prim.Native.Char.{code}
use Prim.Native.String as Text
use Prim.Native.String.{String}
use Rattle.std.specs.Prelude.{ℕ, zero, suc, ◌+◌, ◌-◌, ◌/◌, ◌%◌, cond, List, [], ◌∷◌, ◌++◌, length, replicate, ltb, ℤ, pos, negsuc}
use Rattle.model.specs.Limits.{code_limit}
use Rattle.model.specs.Word.{signed}
use Rattle.model.specs.Syntax.{Program}
use Rattle.model.specs.Accept.{memory_words}
use Rattle.model.specs.Layout.{base}
use Rattle.model.specs.Code.{Compilation, compiled, refused, compile}
use Rattle.model.specs.Answers.{reason_number}
use Rattle.model.specs.Run.{After, start, run}
use Rattle.model.specs.Outside.{take}
use Rattle.model.specs.declared.Machine.{Machine}
use Rattle.model.specs.declared.Outcome.TheVariants.{Ended, Waiting, Spent, Fault}
use Rattle.model.specs.Answers.{RunAnswer, TakeAnswer}
use Rattle.std.specs.Prelude.{Err, None, Ok, Some}
use Rattle.model.specs.declared.TakeRefusal.TheVariants.{Short as TakeShort, Fault as TakeFault, NoChannel}

-- a text's bytes
unfoldable pub ascii : String → List ℕ
ascii Text.[] = []
ascii (Text.◌∷◌ c s) = code c ∷ ascii s

-- at most so many decimal digits of a number
unfoldable pub digits : ℕ → ℕ → List ℕ
digits zero n = []
digits (suc k) n = let more = digits k (n / 10) in cond (ltb n 10) [] more ++ (48 + n % 10) ∷ []

-- a number in decimal
abbrev pub decimal : ℕ → List ℕ
decimal n = digits 20 n

-- a signed value in decimal
abbrev pub signed_decimal : ℤ → List ℕ
signed_decimal (pos n) = decimal n
signed_decimal (negsuc n) = 45 ∷ decimal (suc n)

-- a hexadecimal digit, in small letters
abbrev pub hex_digit : ℕ → ℕ
hex_digit n = cond (ltb n 10) (48 + n) (87 + n)

-- each byte behind a space, as two hexadecimal digits
unfoldable pub hex : List ℕ → List ℕ
hex [] = []
hex (b ∷ bytes) = 32 ∷ hex_digit (b / 16) ∷ hex_digit (b % 16) ∷ hex bytes

-- the end of a line
abbrev pub newline : List ℕ
newline = 10 ∷ []

-- a word and a number, on a line of its own: "bytes N", "words N", "ended N", "waiting N", "spent N", "fault N"
abbrev pub line : String → ℕ → List ℕ
line s n = ascii s ++ decimal n ++ newline

-- "code" and the bytes; no code prints "code" alone
abbrev pub code_line : List ℕ → List ℕ
code_line l = ascii "code" ++ hex l ++ newline

-- a refused table prints one line, as "refused 7 at 4"
abbrev pub refused_line : ℕ → ℕ → List ℕ
refused_line n p = ascii "refused " ++ decimal n ++ ascii " at " ++ decimal p ++ newline

-- "out", the output's number and the signed value
abbrev pub out_line : ℕ → ℕ → List ℕ
out_line k v = ascii "out " ++ decimal k ++ ascii " " ++ signed_decimal (signed v) ++ newline

-- what takes gave: the lines, and the machine and memory after them
pub record Takes : Type 0 where
  pub lines : List ℕ
  pub machine : Machine
  pub memory : List ℕ

-- the line of a take, if it had a sender
abbrev pub took_one : ℕ → TakeAnswer → List ℕ
took_one k (Ok (Some v)) = out_line k v
took_one k (Ok None) = []
took_one k (Err (TakeShort n)) = []
took_one k (Err (TakeFault f)) = []
took_one k (Err NoChannel) = []

-- one take, and the ones after it
abbrev pub and_takes : ℕ → After TakeAnswer → (Machine → List ℕ → Takes) → Takes
and_takes k t more =
    let rest = more t.machine t.memory in
    record { lines = took_one k t.answer ++ rest.lines; machine = rest.machine; memory = rest.memory }

-- one take from each of so many outputs from k on, lowest first
unfoldable pub takes : (left k : ℕ) → Machine → List ℕ → Takes
takes zero k m memory = record { lines = []; machine = m; memory = memory }
takes (suc n) k m memory = and_takes k (take m memory k) (λ m2 memory2. takes n (suc k) m2 memory2)

-- 01: it stops after 65,536 instructions
abbrev pub bench_budget : ℕ
bench_budget = 65536

-- 01: starts it with q = 32
abbrev pub bench_slice : ℕ
bench_slice = 32

-- 02, order 4: "the bench program's is always 0"
abbrev pub bench_clock : ℕ
bench_clock = 0

-- where none has a sender the bench program stops; else it goes on
abbrev pub on_takes : Takes → ℕ → (Machine → List ℕ → List ℕ) → List ℕ
on_takes t total more =
    let rest = more t.machine t.memory in
    elim t.lines [ [] ↦ line "waiting " total | x ∷ xs ↦ t.lines ++ rest ]

-- how a run stood, with all instructions so far; where the machine waits, the takes come first
abbrev pub on_run : After RunAnswer → (outputs total : ℕ) → (ℕ → Machine → List ℕ → List ℕ) → List ℕ
on_run r outs total more =
    elim r.answer [
      | Ok o ↦ elim o [
        | Ended n ↦ line "ended " (total + n)
        | Waiting n ↦ on_takes (takes outs 0 r.machine r.memory) (total + n) (more (total + n))
        | Spent n ↦ line "spent " (total + n)
        | Fault n k ↦ line "fault " (total + n)
      ]
      | Err e ↦ []
    ]

-- runs and takes, at most so many rounds of them, after `total` instructions. A round with takes wakes a process, so the next round
-- executes an instruction or is the last: there is at most one round more than there are instructions, and the rounds never run out
-- (Laws.antt, law 8)
unfoldable pub rounds : (fuel : ℕ) (program : List ℕ) (outputs total : ℕ) → Machine → List ℕ → List ℕ
rounds zero prog outs total m memory = []
rounds (suc f) prog outs total m memory =
    on_run (run m prog memory (bench_budget - total) bench_clock) outs total (λ n m2 memory2. rounds f prog outs n m2 memory2)

-- code length, memory words with channels, the code, then the outputs and how it stood
abbrev pub of_start : Program → List ℕ → List ℕ
of_start p bytes =
    let s = start bytes (replicate (memory_words p) 0) (base p) p.inputs p.outputs bench_slice in
    line "bytes " (length bytes) ++ line "words " (memory_words p) ++ code_line bytes
    ++ rounds (2 + bench_budget) bytes p.outputs 0 s.machine s.memory

-- an accepted table is started, a refused one prints its refusal
abbrev pub of_compilation : Compilation → List ℕ
of_compilation (compiled p bytes) = of_start p bytes
of_compilation (refused why r) = refused_line (reason_number why) r

-- the bench program's output for a table
unfoldable pub bench : List ℕ → List ℕ
bench table = of_compilation (compile table code_limit)
