-- The proved examples of 01 as one statement about the definitions. proofs/Examples.antt proves each part by computation.
-- Bytes are hexadecimal, the rest decimal. Beside 01's list stand depth 33 and the depths of NOTs and, from GT on, operators by Occam's
-- rules and, as a program that outputs what they give, in the machine; names of two scopes; and stored values (02, order 2). At the end
-- stand lists of figures that 01, 02 and the guide give, so that a definition with another one is refused.
use Rattle.std.specs.Prelude.{ℕ, zero, suc, ◌-◌, ◌^◌, ◌≤◌, ◌≡◌, true, false, List, [], ◌∷◌, ◌++◌ as ◌⧺◌, map, pos, neg_ℤ}
use Prim.Native.String.{String, ◌++◌}
use Rattle.std.proofs.Math.Option.{Option, none, some}
use Rattle.model.specs.Word.{less, minus, signed, after, not_process}
use Rattle.model.specs.Syntax.{Site, input_of, declared, Expr, NOT, constant, variable, binary, Stmt, SKIP, STOP, assign, input}
use Rattle.model.specs.Syntax.{output, VAR, CHAN, SEQ, PAR, IF, WHILE, ALT, TIME, WAIT, Stmts, no_stmt, stmt, no_pair, pair}
use Rattle.model.specs.Syntax.{input_guard, skip_guard, time_guard, Guards, no_guard, guard}
use Rattle.model.specs.declared.kinds.Operator.TheVariants.{Plus as PLUS, Minus as MINUS, Times as TIMES, Gt as GT, And as AND}
use Rattle.model.specs.declared.kinds.Operator.TheVariants.{Xor as XOR}
use Rattle.model.specs.Counts.{registers, temporaries, processes, need}
use Rattle.model.specs.Limits.{table_limit, code_limit, word_limit, depth_limit, register_limit, channel_limit, name_limit, part_limit}
use Rattle.model.specs.Limits.{branch_limit, slice_limit}
use Rattle.model.specs.Accept.{limit, accept, answer_of}
use Rattle.model.specs.Instruction.{Function, j, ldlp, ldc, ajw, function_code, functions, rev, disc, diss, enbc, enbs, operation_code}
use Rattle.model.specs.Instruction.{enbt, dist, operations, Instruction, plain, distance, operation}
use Rattle.model.specs.Prefix.{with_prefixes, fewest, distance_prefixes, decode}
use Rattle.model.specs.Scheme.{expr_code, code_enable, code_disable}
use Rattle.model.specs.Code.{Compilation, compiled, refused as uncompiled, compile, number_of, returned_of}
use Rattle.model.specs.Refusals.{read_refusal}
use Rattle.model.specs.Answers.{Row, refusal, refused_reading}
use Rattle.model.specs.Machine.{resume_word, link_word, state_word, time_link_word, time_word}
use Rattle.model.specs.Alternative.{enabling, waiting, ready, none_selected}
use Rattle.model.specs.Timer.{time_set, time_not_set}
use Rattle.model.specs.Run.{start}
use Rattle.model.specs.Occam.{operate, Store, eval, talks, reads}
use Rattle.model.specs.Bench.{ascii, bench_budget, bench_slice, bench_clock, bench}
use Rattle.model.specs.Demand.{counts, near}
use Rattle.model.specs.declared.Cpu.{Cpu}

-- an instruction with so many prefixes is these bytes, and they decode to it again
abbrev Coded : (prefixes : ℕ) → Function → (operand : ℕ) → (bytes : List ℕ) → Type 0
Coded k f n bytes =
    (with_prefixes k f n ≡ bytes) × (decode 0 bytes ≡ some (record { function = function_code f; operand = n; rest = [] }))

-- the same with the shortest prefixes
abbrev Shortest : Function → (operand : ℕ) → (bytes : List ℕ) → Type 0
Shortest f n bytes = Coded (fewest n) f n bytes

-- what the bench program prints for a table, in full
abbrev Prints : (table : List ℕ) → String → Type 0
Prints table s = bench table ≡ ascii s

-- the code that a table compiles to, if it is not refused
abbrev code_in : Compilation → Option (List ℕ)
code_in (compiled p bytes) = some bytes
code_in (uncompiled n r) = none

-- the code of a table
abbrev Compiles : (table bytes : List ℕ) → Type 0
Compiles table bytes = code_in (compile table 16384) ≡ some bytes

-- a table is refused with a number, at a place
abbrev Refused : (table : List ℕ) → (number place : ℕ) → Type 0
Refused table n p = read_refusal (accept table) ≡ refusal n (p ∷ [])

-- so many SEQ of one part around the rest of a table
unfoldable pub in_seqs : ℕ → List ℕ → List ℕ
in_seqs zero rest = rest
in_seqs (suc n) rest = 0x07 ∷ 0x01 ∷ in_seqs n rest

-- so many NOT around the rest of an expression
unfoldable pub in_nots : ℕ → List ℕ → List ℕ
in_nots zero rest = rest
in_nots (suc n) rest = 0x02 ∷ in_nots n rest

-- a program that outputs an expression
abbrev outputting : (expression : List ℕ) → List ℕ
outputting e = 0x00 ∷ 0x01 ∷ 0x04 ∷ 0x00 ∷ e

-- a program with four variables a, b, c, d that assigns an expression to a
abbrev assigning : (expression : List ℕ) → List ℕ
assigning e = 0x00 ∷ 0x00 ∷ 0x05 ∷ 0x04 ∷ 0x02 ∷ 0x00 ∷ e

-- sums of constants: of two, which need 2 registers, and of four, which need 3
abbrev sum_of : (a b : ℕ) → Expr
sum_of a b = binary PLUS (constant a) (constant b)

abbrev sum_of_four : Expr
sum_of_four = binary PLUS (sum_of 1 2) (sum_of 3 4)

-- differences of these, which store one value and hold two and four together
abbrev stores_one : Expr
stores_one = binary MINUS sum_of_four sum_of_four

abbrev stores_two : Expr
stores_two = binary MINUS stores_one sum_of_four

abbrev stores_four : Expr
stores_four = binary MINUS (binary MINUS stores_two sum_of_four) sum_of_four

-- a variable and a channel
abbrev x : Site
x = declared 2 0

abbrev c : Site
c = input_of 0

-- parts of which the others are made
abbrev one : Stmt → Stmts
one s = stmt s no_stmt

abbrev two : Stmts
two = stmt SKIP (one SKIP)

abbrev if_only : Expr → Stmt → Stmt
if_only e s = IF (pair e s no_pair)

abbrev alt_input : Expr → Stmt → Stmt
alt_input e s = ALT (guard (input_guard e c x) s no_guard)

abbrev alt_skip : Expr → Stmt → Stmt
alt_skip e s = ALT (guard (skip_guard e) s no_guard)

abbrev alt_time : (condition time : Expr) → Stmt → Stmt
alt_time e t s = ALT (guard (time_guard e t) s no_guard)

-- the smallest statement of every kind, each "at least" of 01 and of order 2 of 02, and where a part decides
abbrev statements : List Stmt
statements =
    SKIP ∷ STOP ∷ assign x (variable x) ∷ assign x stores_one ∷ assign x stores_two ∷ input c x
    ∷ output c (constant 0) ∷ output c stores_one ∷ output c stores_two ∷ VAR 2 1 SKIP ∷ CHAN 2 1 SKIP ∷ VAR 2 3 (input c x)
    ∷ SEQ no_stmt ∷ SEQ (one SKIP) ∷ SEQ (stmt (input c x) two) ∷ SEQ (one (PAR 4 two))
    ∷ PAR 2 no_stmt ∷ PAR 2 (one SKIP) ∷ PAR 2 two ∷ PAR 2 (stmt (PAR 4 two) two)
    ∷ IF no_pair ∷ if_only (constant 0) SKIP ∷ if_only stores_one SKIP ∷ if_only (constant 0) (PAR 6 two)
    ∷ WHILE (constant 0) SKIP ∷ WHILE stores_one SKIP ∷ WHILE (constant 0) (PAR 5 two)
    ∷ ALT no_guard ∷ alt_input (constant 0) SKIP ∷ alt_input stores_one SKIP ∷ alt_input (constant 0) (PAR 8 two)
    ∷ alt_skip (constant 0) SKIP ∷ alt_skip stores_one SKIP ∷ alt_skip (constant 0) (PAR 6 two) ∷ []

-- the smallest statements of order 4 of 02, each "at least" of them, and where a part decides
abbrev timed_statements : List Stmt
timed_statements =
    TIME x ∷ WAIT (constant 0) ∷ WAIT stores_four
    ∷ alt_time (constant 0) (constant 0) SKIP ∷ alt_time stores_one (constant 0) SKIP ∷ alt_time sum_of_four sum_of_four SKIP
    ∷ alt_time (constant 0) (constant 0) (PAR 8 (stmt SKIP two)) ∷ []

-- expressions that need 1, 2 and 3 registers, and hold no value, one and two
abbrev expressions : List Expr
expressions =
    constant 0 ∷ variable x ∷ NOT (variable x) ∷ sum_of 1 2 ∷ binary PLUS (constant 1) (sum_of 2 3) ∷ sum_of_four ∷ NOT sum_of_four
    ∷ stores_one
    ∷ stores_two ∷ []

-- so many copies of a part of a table, one behind the other
unfoldable pub copies : ℕ → List ℕ → List ℕ
copies zero part = []
copies (suc n) part = part ⧺ copies n part

-- a table that is a PAR of so many branches: as many PARs of 16 SKIPs as are said, and the rest
abbrev pars : (branches inner : ℕ) → (rest : List ℕ) → List ℕ
pars n k rest = 0x00 ∷ 0x00 ∷ 0x08 ∷ n ∷ copies k (0x08 ∷ 0x10 ∷ copies 16 (0x00 ∷ [])) ⧺ rest

-- the refusal of a table at reading, if it gets one
abbrev read_as : (table : List ℕ) → Option Row
read_as t = refused_reading (answer_of (accept t))

-- the number and what is returned with it, at compiling for a buffer of six bytes
abbrev compiled_as : (table : List ℕ) → List ℕ
compiled_as t = number_of (compile t 6) ∷ returned_of (compile t 6) ∷ []

-- so many VARs of 32 around the rest of a table
unfoldable pub in_vars : ℕ → List ℕ → List ℕ
in_vars zero rest = rest
in_vars (suc n) rest = 0x05 ∷ 0x20 ∷ in_vars n rest

-- the registers as numbers: A, B, C, gathered operand, place, workspace, count, and the queue's front and back
abbrev numbers_of : Cpu → List ℕ
numbers_of r =
    r.a ∷ r.b ∷ r.c ∷ r.operand ∷ r.place ∷ r.workspace ∷ r.count ∷ r.front ∷ r.back ∷ []

-- an ALT of two guards whose conditions store a value
abbrev guards : Guards
guards = guard (input_guard stores_one c x) SKIP (guard (skip_guard stores_one) SKIP no_guard)

-- one of a guard of each kind, whose condition stores a value
abbrev timed_guards : Guards
timed_guards =
    guard (input_guard stores_one c x) SKIP
    (guard (skip_guard stores_one) SKIP (guard (time_guard stores_one (constant 7)) SKIP no_guard))

-- their conditions' code between AJW -6 and AJW 6, and what follows it
abbrev wrapped : (condition rest : List Instruction) → List Instruction
wrapped e rest = (plain ajw (minus 6) ∷ e) ⧺ plain ajw 6 ∷ rest

-- 01, "Proved examples", as one statement
pub record Examples : Type 0 where
  -- LDC 1876 is 27 25 44. LDC -31 is 61 41
  pub ldc-1876 : Shortest ldc 1876 (0x27 ∷ 0x25 ∷ 0x44 ∷ [])
  pub ldc-31-below : Shortest ldc (minus 31) (0x61 ∷ 0x41 ∷ [])
  -- AJW -256 is 6F B0; AJW -257 is 61 2F BF
  pub ajw-256-below : Shortest ajw (minus 256) (0x6f ∷ 0xb0 ∷ [])
  pub ajw-257-below : Shortest ajw (minus 257) (0x61 ∷ 0x2f ∷ 0xbf ∷ [])
  -- J -5 in four bytes is 60 2F 2F 0B
  pub j-5-below : Coded distance_prefixes j (minus 5) (0x60 ∷ 0x2f ∷ 0x2f ∷ 0x0b ∷ [])
  -- 2147483647 PLUS 1 is -2147483648. 1 AND 2 is 0
  pub plus : signed (operate PLUS 2147483647 1) ≡ neg_ℤ (pos 2147483648)
  pub bits : operate AND 1 2 ≡ 0
  -- PAR of an output and an input needs 9 words, where the output's expression holds at most one stored value (02, order 2)
  pub words : (p : ℕ) (c d x : Site) (e : Expr) → temporaries e ≤ 1 → need (PAR p (stmt (output c e) (stmt (input d x) no_stmt))) ≡ 9
  -- 00 00 07 00 has no code and ends after 0
  pub no_code : Prints (0x00 ∷ 0x00 ∷ 0x07 ∷ 0x00 ∷ []) "bytes 0\nwords 2\ncode\nended 0\n"
  -- 00 00 01 is 21 F5 and waits
  pub stop : Prints (0x00 ∷ 0x00 ∷ 0x01 ∷ []) "bytes 2\nwords 2\ncode 21 f5\nwaiting 2\n"
  -- 00 00 0A 00 01 00 is 41 20 20 20 A4 60 2F 2F 07
  pub loop : Compiles (0x00 ∷ 0x00 ∷ 0x0a ∷ 0x00 ∷ 0x01 ∷ 0x00 ∷ [])
      (0x41 ∷ 0x20 ∷ 0x20 ∷ 0x20 ∷ 0xa4 ∷ 0x60 ∷ 0x2f ∷ 0x2f ∷ 0x07 ∷ [])
  -- the bench case
  pub bench-case : Prints (0x00 ∷ 0x01 ∷ 0x04 ∷ 0x00 ∷ 0x00 ∷ 0x05 ∷ [])
      "bytes 7\nwords 5\ncode 45 10 f0 60 bf ff b1\nout 0 5\nended 7\n"
  -- 80 00 gets 2
  pub long-number : Refused (0x80 ∷ 0x00 ∷ []) 2 0
  -- depth 32 passes; depth 33 gets 4 at the inner part's first byte. Statements, then expressions
  pub depth-32 : Compiles (0x00 ∷ 0x00 ∷ in_seqs 31 (0x00 ∷ [])) []
  pub depth-33 : Refused (0x00 ∷ 0x00 ∷ in_seqs 32 (0x00 ∷ [])) 4 66
  pub depth-32-of-nots : Prints (outputting (in_nots 30 (0x00 ∷ 0x05 ∷ [])))
      ("bytes 37\nwords 5\n"
      ++ "code 45 c0 c0 c0 c0 c0 c0 c0 c0 c0 c0 c0 c0 c0 c0 c0 c0 c0 c0 c0 c0 c0 c0 c0 c0 c0 c0 c0 c0 c0 c0 10 f0 60 bf ff b1\n"
      ++ "out 0 1\nended 37\n")
  pub depth-33-of-nots : Refused (outputting (in_nots 31 (0x00 ∷ 0x05 ∷ []))) 4 35
  -- 00 00 00 00 gets 6 at 3
  pub bytes_after : Refused (0x00 ∷ 0x00 ∷ 0x00 ∷ 0x00 ∷ []) 6 3
  -- 00 00 05 01 08 02 02 00 00 01 02 00 00 02 gets 7 at 4
  pub clash : Prints
      (0x00 ∷ 0x00 ∷ 0x05 ∷ 0x01 ∷ 0x08 ∷ 0x02 ∷ 0x02 ∷ 0x00 ∷ 0x00 ∷ 0x01 ∷ 0x02 ∷ 0x00 ∷ 0x00 ∷ 0x02 ∷ [])
      "refused 7 at 4\n"
  -- a + (b + (c + d)) passes with order 2 of 02, and ((a + b) + c) + d passes
  pub right-sum : Prints
      (assigning (0x03 ∷ 0x00 ∷ 0x01 ∷ 0x00 ∷ 0x03 ∷ 0x00 ∷ 0x01 ∷ 0x01 ∷ 0x03 ∷ 0x00 ∷ 0x01 ∷ 0x02 ∷ 0x01 ∷ 0x03 ∷ []))
      "bytes 24\nwords 6\ncode 60 bc 40 d0 40 d1 40 d2 40 d3 72 73 25 f2 71 f0 25 f2 70 f0 25 f2 d0 b4\nended 24\n"
  pub left-sum : Prints
      (assigning (0x03 ∷ 0x00 ∷ 0x03 ∷ 0x00 ∷ 0x03 ∷ 0x00 ∷ 0x01 ∷ 0x00 ∷ 0x01 ∷ 0x01 ∷ 0x01 ∷ 0x02 ∷ 0x01 ∷ 0x03 ∷ []))
      "bytes 22\nwords 6\ncode 60 bc 40 d0 40 d1 40 d2 40 d3 70 71 25 f2 72 25 f2 73 25 f2 d0 b4\nended 22\n"
  -- GT compares signed words: -1 GT -2 is 1, -2 GT 1 is 0
  pub gt-below : operate GT (minus 1) (minus 2) ≡ 1
  pub gt-below-run : Prints
      (outputting (0x03 ∷ 0x03 ∷ 0x00 ∷ 0xff ∷ 0xff ∷ 0xff ∷ 0xff ∷ 0x0f ∷ 0x00 ∷ 0xfe ∷ 0xff ∷ 0xff ∷ 0xff ∷ 0x0f ∷ []))
      "bytes 11\nwords 5\ncode 60 4f 60 4e f9 10 f0 60 bf ff b1\nout 0 1\nended 11\n"
  pub gt-across : operate GT (minus 2) 1 ≡ 0
  pub gt-across-run : Prints (outputting (0x03 ∷ 0x03 ∷ 0x00 ∷ 0xfe ∷ 0xff ∷ 0xff ∷ 0xff ∷ 0x0f ∷ 0x00 ∷ 0x01 ∷ []))
      "bytes 10\nwords 5\ncode 60 4e 41 f9 10 f0 60 bf ff b1\nout 0 0\nended 10\n"
  -- PLUS and TIMES keep the low 32 bits: 2147483647 PLUS 1 in the machine, 65537 TIMES 65537 is 131073
  pub plus-run : Prints (outputting (0x03 ∷ 0x00 ∷ 0x00 ∷ 0xff ∷ 0xff ∷ 0xff ∷ 0xff ∷ 0x07 ∷ 0x00 ∷ 0x01 ∷ []))
      "bytes 17\nwords 5\ncode 27 2f 2f 2f 2f 2f 2f 4f 41 25 f2 10 f0 60 bf ff b1\nout 0 -2147483648\nended 17\n"
  pub times : operate TIMES 65537 65537 ≡ 131073
  pub times-run : Prints (outputting (0x03 ∷ 0x02 ∷ 0x00 ∷ 0x81 ∷ 0x80 ∷ 0x04 ∷ 0x00 ∷ 0x81 ∷ 0x80 ∷ 0x04 ∷ []))
      "bytes 17\nwords 5\ncode 21 20 20 20 41 21 20 20 20 41 f8 10 f0 60 bf ff b1\nout 0 131073\nended 17\n"
  -- AND and XOR work bit by bit: 1 AND 2 in the machine, 12 XOR 10 is 6
  pub bits-run : Prints (outputting (0x03 ∷ 0x05 ∷ 0x00 ∷ 0x01 ∷ 0x00 ∷ 0x02 ∷ []))
      "bytes 10\nwords 5\ncode 41 42 24 f6 10 f0 60 bf ff b1\nout 0 0\nended 10\n"
  pub differing : operate XOR 12 10 ≡ 6
  pub differing-run : Prints (outputting (0x03 ∷ 0x07 ∷ 0x00 ∷ 0x0c ∷ 0x00 ∷ 0x0a ∷ []))
      "bytes 10\nwords 5\ncode 4c 4a 23 f3 10 f0 60 bf ff b1\nout 0 6\nended 10\n"
  -- NOT gives 1 for 0, else 0: NOT 2 is 0, NOT 0 is 1
  pub not-2 : (σ : Store) → eval σ (NOT (constant 2)) ≡ 0
  pub not-2-run : Prints (outputting (0x02 ∷ 0x00 ∷ 0x02 ∷ []))
      "bytes 8\nwords 5\ncode 42 c0 10 f0 60 bf ff b1\nout 0 0\nended 8\n"
  pub not-0 : (σ : Store) → eval σ (NOT (constant 0)) ≡ 1
  pub not-0-run : Prints (outputting (0x02 ∷ 0x00 ∷ 0x00 ∷ []))
      "bytes 8\nwords 5\ncode 40 c0 10 f0 60 bf ff b1\nout 0 1\nended 8\n"
  -- 02, order 2, both sides need 3: ((1 + 2) + (3 + 4)) - ((5 + 6) + (7 + 8)) stores its right side
  pub stored : Prints
      (outputting
      (0x03 ∷ 0x01 ∷ 0x03 ∷ 0x00 ∷ 0x03 ∷ 0x00 ∷ 0x00 ∷ 0x01 ∷ 0x00 ∷ 0x02 ∷ 0x03 ∷ 0x00 ∷ 0x00 ∷ 0x03 ∷ 0x00 ∷ 0x04
      ∷ 0x03 ∷ 0x00 ∷ 0x03 ∷ 0x00 ∷ 0x00 ∷ 0x05 ∷ 0x00 ∷ 0x06 ∷ 0x03 ∷ 0x00 ∷ 0x00 ∷ 0x07 ∷ 0x00 ∷ 0x08 ∷ []))
      ("bytes 32\nwords 5\n"
      ++ "code 60 bf 45 46 25 f2 47 48 25 f2 25 f2 d0 41 42 25 f2 43 44 25 f2 25 f2 70 f4 b1 10 f0 60 bf ff b1\n"
      ++ "out 0 -16\nended 32\n")
  -- a VAR in a VAR: a := 7, then inside b := 9 and the outputs of a and of b, then after the inner VAR the output of a
  pub scopes : Prints
      (0x00 ∷ 0x01 ∷ 0x05 ∷ 0x01 ∷ 0x07 ∷ 0x03 ∷ 0x02 ∷ 0x00 ∷ 0x00 ∷ 0x07
      ∷ 0x05 ∷ 0x01 ∷ 0x07 ∷ 0x03 ∷ 0x02 ∷ 0x01 ∷ 0x00 ∷ 0x09 ∷ 0x04 ∷ 0x00 ∷ 0x01 ∷ 0x00 ∷ 0x04 ∷ 0x00 ∷ 0x01 ∷ 0x01
      ∷ 0x04 ∷ 0x00 ∷ 0x01 ∷ 0x00 ∷ [])
      ("bytes 35\nwords 7\n"
      ++ "code 60 bf 40 d0 47 d0 60 bf 40 d0 49 d0 71 12 f0 60 bf ff b1 70 12 f0 60 bf ff b1 b1 70 11 f0 60 bf ff b1 b1\n"
      ++ "out 0 7\nout 0 9\nout 0 7\nended 35\n")
  -- the words of the statements listed, in their order
  pub needs : map need statements
      ≡ 2 ∷ 2 ∷ 2 ∷ 3 ∷ 4 ∷ 3
      ∷ 4 ∷ 4 ∷ 5 ∷ 3 ∷ 3 ∷ 6
      ∷ 2 ∷ 2 ∷ 3 ∷ 6
      ∷ 2 ∷ 4 ∷ 6 ∷ 12
      ∷ 2 ∷ 2 ∷ 3 ∷ 6
      ∷ 2 ∷ 3 ∷ 6
      ∷ 4 ∷ 4 ∷ 9 ∷ 6
      ∷ 4 ∷ 9 ∷ 6 ∷ []
  -- their live processes
  pub live : map processes statements
      ≡ 1 ∷ 1 ∷ 1 ∷ 1 ∷ 1 ∷ 1
      ∷ 1 ∷ 1 ∷ 1 ∷ 1 ∷ 1 ∷ 1
      ∷ 1 ∷ 1 ∷ 1 ∷ 2
      ∷ 1 ∷ 1 ∷ 2 ∷ 4
      ∷ 1 ∷ 1 ∷ 1 ∷ 2
      ∷ 1 ∷ 1 ∷ 2
      ∷ 1 ∷ 1 ∷ 1 ∷ 2
      ∷ 1 ∷ 1 ∷ 2 ∷ []
  -- the registers of the expressions listed, and their stored values
  pub in_registers : map registers expressions ⧺ map temporaries expressions
      ≡ 1 ∷ 1 ∷ 1 ∷ 2 ∷ 2 ∷ 3 ∷ 3 ∷ 3 ∷ 3
      ∷ 0 ∷ 0 ∷ 0 ∷ 0 ∷ 0 ∷ 0 ∷ 0 ∷ 1 ∷ 2 ∷ []
  -- the smallest table of each refusal at reading: 1; 2; 3 for a channel count, a kind and an operator, and for a count one below the
  -- least of VAR and CHAN and one above the most of VAR, CHAN, SEQ, PAR, IF and ALT; SEQ, PAR, IF and ALT of none and VAR and CHAN of
  -- one pass; 4; 5 for a name and for each wrong way; 6; 7; 64 live processes pass, 65 get 9
  pub readings : map read_as
      ([]
      ∷ (0x80 ∷ [])
      ∷ (0x09 ∷ [])
      ∷ (0x00 ∷ 0x00 ∷ 0x0e ∷ [])
      ∷ (0x00 ∷ 0x01 ∷ 0x04 ∷ 0x00 ∷ 0x03 ∷ 0x08 ∷ [])
      ∷ (0x00 ∷ 0x00 ∷ 0x05 ∷ 0x00 ∷ []) ∷ (0x00 ∷ 0x00 ∷ 0x06 ∷ 0x00 ∷ [])
      ∷ (0x00 ∷ 0x00 ∷ 0x05 ∷ 0x21 ∷ []) ∷ (0x00 ∷ 0x00 ∷ 0x06 ∷ 0x21 ∷ []) ∷ (0x00 ∷ 0x00 ∷ 0x07 ∷ 0x21 ∷ [])
      ∷ (0x00 ∷ 0x00 ∷ 0x08 ∷ 0x11 ∷ []) ∷ (0x00 ∷ 0x00 ∷ 0x09 ∷ 0x21 ∷ []) ∷ (0x00 ∷ 0x00 ∷ 0x0b ∷ 0x21 ∷ [])
      ∷ (0x00 ∷ 0x00 ∷ 0x07 ∷ 0x00 ∷ []) ∷ (0x00 ∷ 0x00 ∷ 0x08 ∷ 0x00 ∷ []) ∷ (0x00 ∷ 0x00 ∷ 0x09 ∷ 0x00 ∷ [])
      ∷ (0x00 ∷ 0x00 ∷ 0x0b ∷ 0x00 ∷ []) ∷ (0x00 ∷ 0x00 ∷ 0x05 ∷ 0x01 ∷ 0x00 ∷ []) ∷ (0x00 ∷ 0x00 ∷ 0x06 ∷ 0x01 ∷ 0x00 ∷ [])
      ∷ (0x00 ∷ 0x00 ∷ in_seqs 32 (0x00 ∷ []))
      ∷ (0x00 ∷ 0x00 ∷ 0x02 ∷ 0x00 ∷ [])
      ∷ (0x01 ∷ 0x00 ∷ 0x04 ∷ 0x00 ∷ [])
      ∷ (0x00 ∷ 0x01 ∷ 0x03 ∷ 0x00 ∷ [])
      ∷ (0x00 ∷ 0x00 ∷ 0x00 ∷ 0x00 ∷ [])
      ∷ (0x00 ∷ 0x01 ∷ 0x08 ∷ 0x02 ∷ 0x04 ∷ 0x00 ∷ 0x00 ∷ 0x05 ∷ 0x04 ∷ 0x00 ∷ 0x00 ∷ 0x05 ∷ [])
      ∷ pars 4 4 []
      ∷ pars 5 4 (0x00 ∷ [])
      ∷ [])
      ≡ refusal 1 (0 ∷ [])
      ∷ refusal 2 (0 ∷ [])
      ∷ refusal 3 (0 ∷ [])
      ∷ refusal 3 (2 ∷ [])
      ∷ refusal 3 (5 ∷ [])
      ∷ refusal 3 (3 ∷ []) ∷ refusal 3 (3 ∷ [])
      ∷ refusal 3 (3 ∷ []) ∷ refusal 3 (3 ∷ []) ∷ refusal 3 (3 ∷ [])
      ∷ refusal 3 (3 ∷ []) ∷ refusal 3 (3 ∷ []) ∷ refusal 3 (3 ∷ [])
      ∷ none ∷ none ∷ none ∷ none ∷ none ∷ none
      ∷ refusal 4 (66 ∷ [])
      ∷ refusal 5 (3 ∷ [])
      ∷ refusal 5 (3 ∷ [])
      ∷ refusal 5 (3 ∷ [])
      ∷ refusal 6 (3 ∷ [])
      ∷ refusal 7 (2 ∷ [])
      ∷ none
      ∷ refusal 9 (0 ∷ [])
      ∷ []
  -- at compiling: one that reading refuses; five branches of 30 VARs of 32, which need over 4,096 words; the bench case, for which six
  -- bytes are one too few; STOP, which has two
  pub compilings : map compiled_as
      ((0x00 ∷ 0x00 ∷ 0x00 ∷ 0x00 ∷ [])
      ∷ (0x00 ∷ 0x00 ∷ 0x08 ∷ 0x05 ∷ copies 5 (in_vars 30 (0x00 ∷ [])))
      ∷ (0x00 ∷ 0x01 ∷ 0x04 ∷ 0x00 ∷ 0x00 ∷ 0x05 ∷ [])
      ∷ (0x00 ∷ 0x00 ∷ 0x01 ∷ [])
      ∷ [])
      ≡ (6 ∷ 3 ∷ []) ∷ (10 ∷ 0 ∷ []) ∷ (11 ∷ 7 ∷ []) ∷ (0 ∷ 2 ∷ []) ∷ []
  -- 02, order 2: the wrap of both guards, in enabling and in disabling, is AJW -6 and AJW 6 for one stored value
  pub wraps : (word : Site → ℕ)
      → code_enable word 100 guards ⧺ code_disable word 100 70 71 guards
      ≡ wrapped (expr_code word 94 0 stores_one) (plain ldlp (less (word c) 100) ∷ operation rev ∷ operation enbc ∷ [])
      ⧺ wrapped (expr_code word 94 0 stores_one) (operation enbs ∷ [])
      ⧺ wrapped (expr_code word 94 0 stores_one) (plain ldlp (less (word c) 100) ∷ operation rev ∷ distance ldc 71 70 ∷ operation disc ∷ [])
      ⧺ wrapped (expr_code word 94 0 stores_one) (distance ldc 77 70 ∷ operation diss ∷ [])
  -- the guide's values: NotProcess, the ALT states Enabling, Waiting and Ready, NoneSelected, TimeSet and TimeNotSet; the codes of
  -- functions and of operations
  pub values : (not_process ∷ enabling ∷ waiting ∷ ready ∷ none_selected ∷ time_set ∷ time_not_set ∷ [])
      ⧺ map function_code functions ⧺ map operation_code operations
      ≡ 0x80000000 ∷ 0x80000001 ∷ 0x80000002 ∷ 0x80000003 ∷ 0xffffffff ∷ 0x80000001 ∷ 0x80000002
      ∷ 0x0 ∷ 0x1 ∷ 0x4 ∷ 0x7 ∷ 0xa ∷ 0xb ∷ 0xc ∷ 0xd ∷ 0xf
      ∷ 0x00 ∷ 0x03 ∷ 0x04 ∷ 0x07 ∷ 0x08 ∷ 0x09 ∷ 0x0d ∷ 0x0f ∷ 0x15 ∷ 0x1b ∷ 0x2f
      ∷ 0x30 ∷ 0x33 ∷ 0x42 ∷ 0x43 ∷ 0x44 ∷ 0x45 ∷ 0x46 ∷ 0x48 ∷ 0x49 ∷ 0x4b ∷ 0x52
      ∷ 0x22 ∷ 0x2b ∷ 0x2e ∷ 0x47 ∷ 0x4e ∷ 0x51 ∷ []
  -- 01's limits in the order of Limits.antt, the live processes, and the bench program's slice, budget and clock
  pub limits : table_limit ∷ code_limit ∷ word_limit ∷ depth_limit ∷ register_limit ∷ channel_limit ∷ name_limit ∷ part_limit ∷ branch_limit
      ∷ slice_limit ∷ limit ∷ bench_slice ∷ bench_budget ∷ bench_clock ∷ []
      ≡ 16384 ∷ 16384 ∷ 4096 ∷ 32 ∷ 3 ∷ 8 ∷ 32 ∷ 32 ∷ 16 ∷ 65535 ∷ 64 ∷ 32 ∷ 65536 ∷ 0 ∷ []
  -- registers start as 0, with W as the start has it; needed words as 0 and channels as NotProcess
  pub begins : numbers_of (start [] (7 ∷ 7 ∷ 7 ∷ 7 ∷ []) 2 1 0 1).machine.cpu ⧺ (start [] (7 ∷ 7 ∷ 7 ∷ 7 ∷ []) 2 1 0 1).memory
      ≡ 0 ∷ 0 ∷ 0 ∷ 0 ∷ 0 ∷ 2 ∷ 0 ∷ 0 ∷ 0 ∷ 0 ∷ 0 ∷ 0x80000000 ∷ 7 ∷ []
  -- the words below W = 10: resume place, queue link, state; 02, order 4: link of the timer queue and time
  pub below : resume_word 10 ∷ link_word 10 ∷ state_word 10 ∷ time_link_word 10 ∷ time_word 10 ∷ [] ≡ 9 ∷ 8 ∷ 7 ∷ 6 ∷ 5 ∷ []
  -- 02, order 4: which times are after 0: 0, 1, -1, the largest word read signed, and the least, which is not after 0 nor 0 after it
  pub afters : after 0 0 ∷ after 1 0 ∷ after (minus 1) 0 ∷ after (2 ^ 31 - 1) 0 ∷ after (2 ^ 31) 0 ∷ after 0 (2 ^ 31) ∷ []
      ≡ false ∷ true ∷ false ∷ true ∷ false ∷ false ∷ []
  -- times less than 2^30 ticks after or before a clock word, and those that are not
  pub nears : near (2 ^ 30 - 1) 0 ∷ near (2 ^ 30) 0 ∷ near (minus (2 ^ 30 - 1)) 0 ∷ near (minus (2 ^ 30)) 0 ∷ near 3 (minus 4) ∷ []
      ≡ true ∷ false ∷ true ∷ false ∷ true ∷ []
  -- a step counts one, also where it communicates; reading the clock for TIME counts none
  pub counting : counts [] ∷ counts (talks c 5 ∷ []) ∷ counts (reads 5 ∷ []) ∷ [] ≡ 1 ∷ 1 ∷ 0 ∷ []
  -- words and processes of the statements of order 4
  pub timed-needs : map need timed_statements ≡ 2 ∷ 5 ∷ 6 ∷ 6 ∷ 9 ∷ 9 ∷ 8 ∷ []
  pub timed-live : map processes timed_statements ≡ 1 ∷ 1 ∷ 1 ∷ 1 ∷ 1 ∷ 1 ∷ 3 ∷ []
  -- 02, order 2: the wrap of each guard, in enabling and in disabling, is AJW -6 and AJW 6 for one stored value; order 4: that of a time
  -- guard is around time and condition, here condition, time, REV
  pub timed-wraps : (word : Site → ℕ)
      → code_enable word 100 timed_guards ⧺ code_disable word 100 70 71 timed_guards
      ≡ wrapped (expr_code word 94 0 stores_one) (plain ldlp (less (word c) 100) ∷ operation rev ∷ operation enbc ∷ [])
      ⧺ wrapped (expr_code word 94 0 stores_one) (operation enbs ∷ [])
      ⧺ wrapped (expr_code word 94 0 stores_one ⧺ plain ldc 7 ∷ operation rev ∷ []) (operation enbt ∷ [])
      ⧺ wrapped (expr_code word 94 0 stores_one) (plain ldlp (less (word c) 100) ∷ operation rev ∷ distance ldc 71 70 ∷ operation disc ∷ [])
      ⧺ wrapped (expr_code word 94 0 stores_one) (distance ldc 77 70 ∷ operation diss ∷ [])
      ⧺ wrapped (expr_code word 94 0 stores_one ⧺ plain ldc 7 ∷ operation rev ∷ []) (distance ldc 79 70 ∷ operation dist ∷ [])
