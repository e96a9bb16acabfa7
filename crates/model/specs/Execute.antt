-- What each instruction does, as INMOS's guide says (01, "The machine"; for held offers 01's own rules).
-- Words are touched in the order written, and each touch sees those before it.
use Rattle.std.specs.Prelude.{ℕ, ◌+◌, ◌-◌, ◌*◌, ◌^◌, Bool, false, cond, get_or, set, ltb, eqb}
use Rattle.std.proofs.Math.Option.{Option, none, some}
use Rattle.std.specs.Int.Bits.{bit_and, bit_or, bit_xor}
use Rattle.model.specs.Word.{low, less, truth, not_process}
use Rattle.model.specs.Instruction.{Function, j, ldlp, ldc, ldl, cj, ajw, eqc, stl, opr, Operation, rev, endp, diff, «in», prod, gt}
use Rattle.model.specs.Instruction.{startp, outword, stopp, ldpi, disc, diss, xor, mint, alt, altwt, altend, and, enbc, enbs, or, sum}
use Rattle.model.specs.Instruction.{ldtimer, tin, dist, enbt, talt, taltwt, operation_of}
use Rattle.model.specs.Machine.{Act, fault, with_offers, registers, set_registers, setup, communicate, ◌>>=◌, ◌>>◌, stack, goto, push}
use Rattle.model.specs.Machine.{pop, reduce, changing, work, peek, poke, test_place, resume_word, state_word, name_of, space_of, release}
use Rattle.model.specs.Machine.{join, held_at, done}
use Rattle.model.specs.Alternative.{is_alt_state, notify, begin_alt, enable_channel, enable_skip, wait_alt, disable_channel, disable_skip}
use Rattle.model.specs.Alternative.{end_alt}
use Rattle.model.specs.Timer.{load_timer, timer_input, begin_timed_alt, enable_time, wait_timed_alt, disable_time}
use Rattle.model.specs.declared.Cpu.{Cpu}
use Rattle.model.specs.declared.FaultKind.TheVariants.{Operation as BadOperation, Count}

-- word operands count from W as adjusted at that place
abbrev local : Cpu → ℕ → ℕ
local r n = low (r.workspace + n)

-- J: the only place where the slice can end, when its process has executed at least q instructions, the bytes of this J counted.
-- The process then goes to the back of the queue; where it will go on is tested
-- after all words and before the place of the process that is taken
unfoldable pub jump : ℕ → Act (Unit {0})
jump n = do
  r ← registers
  u ← setup
  cond (ltb r.count u.slice)
      (set_registers (goto (low (r.place + n)) r))
      (do
        poke (resume_word r.workspace) (low (r.place + n))
        join (name_of r.workspace)
        release
        test_place (low (r.place + n)))

-- LDL: push mem[W + n]
unfoldable pub load_local : ℕ → Act (Unit {0})
load_local n = do
  r ← registers
  v ← peek (local r n)
  set_registers (push v r)

-- STL: mem[W + n] = A
unfoldable pub store_local : ℕ → Act (Unit {0})
store_local n = do
  r ← registers
  poke (local r n) r.a
  set_registers (pop r)

-- CJ: with A = 0 it jumps and the registers keep; else A goes
unfoldable pub conditional_jump : ℕ → Act (Unit {0})
conditional_jump n = do
  r ← registers
  cond (eqb r.a 0) (set_registers (goto (low (r.place + n)) r)) (set_registers (pop r))

-- GT compares signed words: with 2 ^ 31 added to both they compare unsigned
abbrev pub above : ℕ → ℕ → Bool
above b a = ltb (low (a + 2 ^ 31)) (low (b + 2 ^ 31))

-- STARTP: A is the workspace of the new process, B the distance of its code. It joins the back; registers keep
unfoldable pub start_process : Act (Unit {0})
start_process = do
  r ← registers
  poke (resume_word r.a) (low (r.place + r.b))
  join (name_of r.a)

-- ENDP: A is the workspace of the PAR. The last branch goes on as the PAR, with its count towards the slice; another frees the processor
unfoldable pub end_process : Act (Unit {0})
end_process = do
  r ← registers
  n ← peek (low (r.a + 1))
  cond (eqb n 1)
      (do p ← peek r.a; set_registers (goto p (work r.a r)))
      (do poke (low (r.a + 1)) (less n 1); release)

-- STOPP: the process is not queued again
unfoldable pub stop_process : Act (Unit {0})
stop_process = do
  r ← registers
  poke (resume_word r.workspace) r.place
  release

-- IN and OUTWORD: a process waits at a channel's word, with its resume place and a message place
unfoldable pub wait_at : (channel message : ℕ) → Act (Unit {0})
wait_at c m = do
  r ← registers
  poke c (name_of r.workspace)
  poke (resume_word r.workspace) r.place
  poke (state_word r.workspace) m

-- a held offer is received: it is held no more, and the channel word stays as it is
abbrev pub drop_offer : (channel : ℕ) → Act ℕ
drop_offer c s =
    let k = c - s.machine.setup.base in
    done (get_or s.machine.offers k 0) (with_offers s.machine.offers (set s.machine.held k false) s)

-- the value of the sender that waits at a channel's word
unfoldable pub receive : (sender : ℕ) → Act ℕ
receive p = do
  m ← peek (state_word (space_of p))
  peek m

-- the channel is empty again, the process that waited there is woken, and the communication is made
unfoldable pub received : (channel sender value : ℕ) → Act (Unit {0})
received c p v = do
  poke c not_process
  join p
  communicate c v

-- where no offer is held: the value of a sender, else the process waits
abbrev pub input_unheld : Cpu → Act (Unit {0})
input_unheld r = do
  p ← peek r.b
  cond (eqb p not_process)
      (do wait_at r.b r.c; release)
      (do v ← receive p; poke r.c v; received r.b p v)

-- IN of one word: B is the channel, C the message place. It takes a held offer, else the value of a sender, else the process waits
unfoldable pub input_word : Act (Unit {0})
input_word = do
  r ← registers
  h ← held_at r.b
  cond h
      (do v ← drop_offer r.b; poke r.c v; communicate r.b v)
      (input_unheld r)

-- IN: A is the count; IN moves exactly 4 bytes, another count is a fault
unfoldable pub input_message : Act (Unit {0})
input_message = do
  r ← registers
  cond (eqb r.a 4) input_word (fault (Count r.a))

-- a process that waits in IN gets the value at its message place
unfoldable pub deliver : (channel process place value : ℕ) → Act (Unit {0})
deliver c p m v = do
  poke m v
  received c p v

-- OUTWORD: A is the value, which goes to W + 0, B the channel. A process in IN gets it; else the sender waits, and tells an ALT
unfoldable pub output_word : Act (Unit {0})
output_word = do
  r ← registers
  poke r.workspace r.a
  p ← peek r.b
  cond (eqb p not_process)
      (do wait_at r.b r.workspace; release)
      (do
        s ← peek (state_word (space_of p))
        cond (is_alt_state s)
            (do wait_at r.b r.workspace; notify p s; release)
            (deliver r.b p s r.a))

-- the operations. SUM, DIFF and PROD keep the low 32 bits; REV swaps A and B; MINT pushes NotProcess; LDPI makes a distance a place
unfoldable pub operate : Operation → Act (Unit {0})
operate rev = changing (λ r. stack r.b r.a r.c r)
operate sum = changing (λ r. reduce (low (r.b + r.a)) r)
operate diff = changing (λ r. reduce (less r.b r.a) r)
operate prod = changing (λ r. reduce (low (r.b * r.a)) r)
operate gt = changing (λ r. reduce (truth (above r.b r.a)) r)
operate and = changing (λ r. reduce (bit_and r.b r.a) r)
operate or = changing (λ r. reduce (bit_or r.b r.a) r)
operate xor = changing (λ r. reduce (bit_xor r.b r.a) r)
operate mint = changing (push not_process)
operate ldpi = changing (λ r. stack (low (r.place + r.a)) r.b r.c r)
operate startp = start_process
operate endp = end_process
operate stopp = stop_process
operate «in» = input_message
operate outword = output_word
operate alt = begin_alt
operate enbc = enable_channel
operate enbs = enable_skip
operate altwt = wait_alt
operate disc = disable_channel
operate diss = disable_skip
operate altend = end_alt
operate ldtimer = load_timer
operate tin = timer_input
operate talt = begin_timed_alt
operate enbt = enable_time
operate taltwt = wait_timed_alt
operate dist = disable_time

-- refusal 12: an operation that is not used is a fault with the operand as its number
abbrev operate_or12 : Option Operation → ℕ → Act (Unit {0})
operate_or12 none n = fault (BadOperation n)
operate_or12 (some o) n = operate o

-- a direct function with its operand: J, LDLP, LDC, LDL, CJ, AJW, EQC, STL, OPR. `place` is that of the next byte
unfoldable pub execute : Function → ℕ → Act (Unit {0})
execute j n = jump n
execute ldlp n = changing (λ r. push (local r n) r)
execute ldc n = changing (push n)
execute ldl n = load_local n
execute cj n = conditional_jump n
execute ajw n = changing (λ r. work (local r n) r)
execute eqc n = changing (λ r. stack (truth (eqb r.a n)) r.b r.c r)
execute stl n = store_local n
execute opr n = operate_or12 (operation_of n) n
