-- Quiet paths. Between two significant instructions a process only loads, computes in its registers, stores values in spare words of its
-- own, moves its workspace and jumps. A path says that from an instruction, with some registers, the next significant instruction is
-- reached, and in how many bytes. It reads the variables in scope and its spare words, so it stays as it is whatever happens elsewhere.
use Prim.Native.Nat.{ℕ, suc, ◌+◌, ◌*◌, ◌^◌, ◌≤◌}
use mathlib.Core.Path.{◌≡◌, refl, sym, subst}
use mathlib.Core.Logic.{◌≢◌}
use mathlib.Core.Bool.{cond}
use mathlib.Core.List.{List}
use mathlib.Core.Option.{some}
use lib.ListN.{length, get_elem?}
use lib.Bits.{bit_and, bit_or, bit_xor}
use lib.Dec.{eqb}
use borrow.Author.Tests.{eq-eqb, ne_eqb}
use Rattle.model.specs.Word.{low, less, truth, not_process}
use Rattle.model.specs.Code.{function_in, operand_in}
use Rattle.model.specs.Syntax.{Site}
use Rattle.model.specs.Instruction.{Function, ldlp, ldc, ldl, cj, ajw, eqc, stl, opr, Instruction, plain, distance, operation_of}
use Rattle.model.specs.Instruction.{operation_code, coded}
use Rattle.model.specs.Instruction as I
use Rattle.model.specs.Machine.{World, done, with_cpu, stack, work}
use Rattle.model.specs.Execute.{execute, operate, above}
use Rattle.model.specs.Occam.{Store}
use Rattle.model.specs.declared.Cpu.{Cpu}

-- the registers that a quiet instruction may change
pub record Regs : Type 0 where
  pub a : ℕ
  pub b : ℕ
  pub c : ℕ
  pub w : ℕ

abbrev pub regs_of : Cpu → Regs
regs_of r = record { a = r.a; b = r.b; c = r.c; w = r.workspace }

abbrev pub load : Regs → Cpu → Cpu
load r q = stack r.a r.b r.c (work r.w q)

-- an instruction that changes these registers, and nothing else, where the next byte is at a place
abbrev pub Quiet : (place : ℕ) → Function → ℕ → (Regs → Regs) → Type 0
Quiet p f n g =
    (s : World) → s.machine.cpu.place ≡ p
    → execute f n s ≡ done tt (with_cpu (load (g (regs_of s.machine.cpu)) s.machine.cpu) s)

abbrev pub pushing : ℕ → Regs → Regs
pushing v r = record { a = v; b = r.a; c = r.b; w = r.w }

-- two values give one
abbrev pub reducing : (ℕ → ℕ → ℕ) → Regs → Regs
reducing f r = record { a = f r.b r.a; b = r.c; c = r.c; w = r.w }

-- the top value goes
abbrev pub popping : Regs → Regs
popping r = record { a = r.b; b = r.c; c = r.c; w = r.w }

abbrev pub pointing : ℕ → Regs → Regs
pointing n r = pushing (low (r.w + n)) r

abbrev pub reversing : Regs → Regs
reversing r = record { a = r.b; b = r.a; c = r.c; w = r.w }

-- a distance becomes a place
abbrev pub placing : ℕ → Regs → Regs
placing p r = record { a = low (p + r.a); b = r.b; c = r.c; w = r.w }

abbrev pub moving : ℕ → Regs → Regs
moving n r = record { a = r.a; b = r.b; c = r.c; w = low (r.w + n) }

abbrev pub testing : ℕ → Regs → Regs
testing n r = record { a = truth (eqb r.a n); b = r.b; c = r.c; w = r.w }

pub quiet-ldc : {p : ℕ} (n : ℕ) → Quiet p ldc n (pushing n)
unfolding execute
quiet-ldc n s e = refl

pub quiet-ajw : {p : ℕ} (n : ℕ) → Quiet p ajw n (moving n)
unfolding execute
quiet-ajw n s e = refl

pub quiet-eqc : {p : ℕ} (n : ℕ) → Quiet p eqc n (testing n)
unfolding execute
quiet-eqc n s e = refl

pub quiet_sum : {p : ℕ} → Quiet p opr (operation_code I.sum) (reducing (λ l r. low (l + r)))
unfolding execute operate operation_of operation_code coded
quiet_sum s e = refl

pub quiet-diff : {p : ℕ} → Quiet p opr (operation_code I.diff) (reducing less)
unfolding execute operate operation_of operation_code coded
quiet-diff s e = refl

pub quiet-prod : {p : ℕ} → Quiet p opr (operation_code I.prod) (reducing (λ l r. low (l * r)))
unfolding execute operate operation_of operation_code coded
quiet-prod s e = refl

pub quiet-gt : {p : ℕ} → Quiet p opr (operation_code I.gt) (reducing (λ l r. truth (above l r)))
unfolding execute operate operation_of operation_code coded
quiet-gt s e = refl

pub quiet-and : {p : ℕ} → Quiet p opr (operation_code I.and) (reducing bit_and)
unfolding execute operate operation_of operation_code coded
quiet-and s e = refl

pub quiet_or : {p : ℕ} → Quiet p opr (operation_code I.or) (reducing bit_or)
unfolding execute operate operation_of operation_code coded
quiet_or s e = refl

pub quiet-xor : {p : ℕ} → Quiet p opr (operation_code I.xor) (reducing bit_xor)
unfolding execute operate operation_of operation_code coded
quiet-xor s e = refl

pub quiet-ldlp : {p : ℕ} (n : ℕ) → Quiet p ldlp n (pointing n)
unfolding execute
quiet-ldlp n s e = refl

pub quiet-rev : {p : ℕ} → Quiet p opr (operation_code I.rev) reversing
unfolding execute operate operation_of operation_code coded
quiet-rev s e = refl

pub quiet-mint : {p : ℕ} → Quiet p opr (operation_code I.mint) (pushing not_process)
unfolding execute operate operation_of operation_code coded
quiet-mint s e = refl

pub quiet-ldpi : {p : ℕ} → Quiet p opr (operation_code I.ldpi) (placing p)
unfolding execute operate operation_of operation_code coded
quiet-ldpi s e = rw (← e)

-- what a memory holds at each word
abbrev pub Mem : Type 0
Mem = ℕ → ℕ

-- the front of the timer queue is shown as a word beyond every memory
abbrev pub front_word : ℕ
front_word = 2 ^ 32

-- a memory in which one word is another
abbrev pub upd : Mem → (v z : ℕ) → Mem
upd μ v z = λ a. cond (eqb a v) z (μ a)

pub upd_same : (μ : Mem) (v z : ℕ) → upd μ v z v ≡ z
upd_same μ v z = rw (eq-eqb v v refl)

pub upd_other : (μ : Mem) (v z a : ℕ) → a ≢ v → upd μ v z a ≡ μ a
upd_other μ v z a d = rw (ne_eqb a v d)

-- From the instruction i with registers r the next significant instruction is reached, at which `Point` holds; or the program's end,
-- where `End` holds. `hi` bounds the bytes: at a place, at most hi - place of them are left. J may let others run, so what follows it
-- holds for any registers and memory; `Clear` holds of the workspace there. `Readable` variables are read. Values are stored in `Spare`
-- words, which are the process's own and no name's, and loaded from them; no other word is read or written
module _ (xs : List Instruction) (off : ℕ → ℕ) (word : Site → ℕ) where
  pub data Way (Point : ℕ → Mem → ℕ → Regs → Type 0) (End : Type 0) (σ : Store) (Readable : Site → Type 0) (Spare Clear : ℕ → Type 0)
      : ℕ → Mem → ℕ → Regs → Type 0 where
    arrived : {hi : ℕ} {μ : Mem} {i : ℕ} {r : Regs} → Point hi μ i r → off (suc i) ≤ hi → Way Point End σ Readable Spare Clear hi μ i r
    through : {hi : ℕ} {μ : Mem} {i : ℕ} {r : Regs} → i ≡ length xs → off i ≤ hi → End → Way Point End σ Readable Spare Clear hi μ i r
    quiet : {hi : ℕ} {μ : Mem} {i : ℕ} {x : Instruction} {r : Regs} (g : Regs → Regs) → get_elem? xs i ≡ some x
        → Quiet (off (suc i)) (function_in x) (operand_in off x) g
        → Way Point End σ Readable Spare Clear hi μ (suc i) (g r) → Way Point End σ Readable Spare Clear hi μ i r
    loads : {hi : ℕ} {μ : Mem} {i o : ℕ} {r : Regs} (x : Site) → get_elem? xs i ≡ some (plain ldl o) → low (r.w + o) ≡ word x
        → Readable x
        → Way Point End σ Readable Spare Clear hi μ (suc i) (pushing (σ x) r) → Way Point End σ Readable Spare Clear hi μ i r
    stores : {hi : ℕ} {μ : Mem} {i o : ℕ} {r : Regs} (v : ℕ) → get_elem? xs i ≡ some (plain stl o) → low (r.w + o) ≡ v → Spare v
        → Way Point End σ Readable Spare Clear hi (upd μ v r.a) (suc i) (popping r) → Way Point End σ Readable Spare Clear hi μ i r
    reloads : {hi : ℕ} {μ : Mem} {i o : ℕ} {r : Regs} (v : ℕ) → get_elem? xs i ≡ some (plain ldl o) → low (r.w + o) ≡ v → Spare v
        → Way Point End σ Readable Spare Clear hi μ (suc i) (pushing (μ v) r) → Way Point End σ Readable Spare Clear hi μ i r
    jumps : {hi : ℕ} {μ : Mem} {i t hi' : ℕ} {r : Regs} → get_elem? xs i ≡ some (distance I.j t i) → t ≤ length xs → Clear r.w
        → hi' + off (suc i) ≤ hi + off t
        → ((μ' : Mem) (r' : Regs) → r'.w ≡ r.w → Way Point End σ Readable Spare Clear hi' μ' t r')
        → Way Point End σ Readable Spare Clear hi μ i r
    falls : {hi : ℕ} {μ : Mem} {i t : ℕ} {r : Regs} → get_elem? xs i ≡ some (distance cj t i) → t ≤ length xs → r.a ≡ 0
        → off (suc i) ≤ off t
        → Way Point End σ Readable Spare Clear hi μ t r → Way Point End σ Readable Spare Clear hi μ i r

  -- a path stays under a change of other variables and of words that neither it nor its significant instruction looks at: `Same` memories
  -- are equal at spare words and stay the same where both get one value there
  module _ {P Q : ℕ → Mem → ℕ → Regs → Type 0} {E : Type 0} {σ σ' : Store} {R : Site → Type 0} {Spare C : ℕ → Type 0}
      (Same : Mem → Mem → Type 0) (both : (μ ν : Mem) (v z : ℕ) → Spare v → Same μ ν → Same (upd μ v z) (upd ν v z))
      (equal : (μ ν : Mem) (v : ℕ) → Spare v → Same μ ν → ν v ≡ μ v) (reads : (x : Site) → R x → σ x ≡ σ' x)
      (again : (w : ℕ) → C w → (ν : Mem) → Same ν ν) (point : (h : ℕ) (μ ν : Mem) (i : ℕ) (r : Regs) → Same μ ν → P h μ i r → Q h ν i r)
    where
      pub way-stable : {hi : ℕ} {μ ν : Mem} {i : ℕ} {r : Regs} → Same μ ν → Way P E σ R Spare C hi μ i r → Way Q E σ' R Spare C hi ν i r
      way-stable h (arrived p b) = arrived (point _ _ _ _ _ h p) b
      way-stable h (through e b f) = through e b f
      way-stable h (quiet g at q v) = quiet g at q (way-stable h v)
      way-stable h (loads x at a m v) = loads x at a m (rw (reads x m) at (way-stable h v))
      way-stable {μ = μ} {ν} {r = r} h (stores v at a m w) = stores v at a m (way-stable (both μ ν v r.a m h) w)
      way-stable {hi} {μ} {ν} {i} {r} h (reloads v at a m w) =
          reloads v at a m
          (subst (λ z. Way Q E σ' R Spare C hi ν (suc i) (pushing z r)) (sym (equal μ ν v m h)) (way-stable h w))
      way-stable h (jumps at i c e v) = jumps at i c e (λ ν r q. way-stable (again _ c ν) (v ν r q))
      way-stable h (falls at i a e v) = falls at i a e (way-stable h v)
