-- What instructions do to a world in which the words that they touch are in memory.
use Prim.Native.Nat.{ℕ, ◌+◌, ◌<◌}
use mathlib.Core.Path.{◌≡◌}
use mathlib.Core.Bool.{true, false}
use lib.ListN.{get_or, set}
use borrow.Author.Tests.{lt-ltb, eq-eqb, ne_eqb}
use Rattle.model.specs.Word.{low}
use Rattle.model.specs.Instruction.{ldl, cj, stl}
use Rattle.model.specs.Instruction as I
use Rattle.model.specs.Machine.{World, done, with_cpu, with_memory, memory_size, peek, poke, resume, enqueue, goto, work, running}
use Rattle.model.specs.Machine.{counting, queueing, resume_word, name_of, push, pop}
use Rattle.model.proofs.Quiet.Names.{name_back}
use Rattle.model.specs.Execute.{execute, jump, load_local, store_local, conditional_jump}
use Rattle.model.specs.declared.Cpu.{Cpu}
use Rattle.model.proofs.Quiet.Ways.{Mem}

abbrev pub cpu_of : World → Cpu
cpu_of s = s.machine.cpu

abbrev pub size_of : World → ℕ
size_of s = memory_size s.machine.setup

abbrev pub mem_of : World → Mem
mem_of s = λ a. get_or s.memory a 0

abbrev pub stored : ℕ → ℕ → World → World
stored a v s = with_memory (set s.memory a v) s

pub peek-in : (a : ℕ) (s : World) → a < size_of s → peek a s ≡ done (get_or s.memory a 0) s
unfolding peek
peek-in a s h = rw (lt-ltb _ _ h)

pub poke-in : (a v : ℕ) (s : World) → a < size_of s → poke a v s ≡ done tt (stored a v s)
unfolding poke
poke-in a v s h = rw (lt-ltb _ _ h)

pub exec-ldl : (n a : ℕ) (s : World) → low ((cpu_of s).workspace + n) ≡ a → a < size_of s
    → execute ldl n s ≡ done tt (with_cpu (push (get_or s.memory a 0) (cpu_of s)) s)
unfolding execute load_local
exec-ldl n a s e h = rw (e, peek-in a s h)

pub exec-stl : (n a : ℕ) (s : World) → low ((cpu_of s).workspace + n) ≡ a → a < size_of s
    → execute stl n s ≡ done tt (with_cpu (pop (cpu_of s)) (stored a (cpu_of s).a s))
unfolding execute store_local
exec-stl n a s e h = rw (e, poke-in a _ s h)

pub exec-cj-jumps : (n : ℕ) (s : World) → (cpu_of s).a ≡ 0 → execute cj n s
    ≡ done tt (with_cpu (goto (low ((cpu_of s).place + n)) (cpu_of s)) s)
unfolding execute conditional_jump
exec-cj-jumps n s e = rw (eq-eqb _ _ e)

pub exec-cj-goes-on : (n : ℕ) (s : World) → ((cpu_of s).a ≡ 0 → ⊥) → execute cj n s ≡ done tt (with_cpu (pop (cpu_of s)) s)
unfolding execute conditional_jump
exec-cj-goes-on n s e = rw (ne_eqb _ _ e)

pub exec-j : (n : ℕ) (s : World) → (cpu_of s).count < s.machine.setup.slice
    → execute I.j n s ≡ done tt (with_cpu (goto (low ((cpu_of s).place + n)) (cpu_of s)) s)
unfolding execute jump
exec-j n s h = rw (lt-ltb _ _ h)

pub resume-in : (w : ℕ) (s : World) → resume_word w < size_of s
    → resume (name_of w) s ≡ done tt (with_cpu (running true (counting 0 (goto (get_or s.memory (resume_word w) 0) (work w (cpu_of s))))) s)
unfolding resume
resume-in w s h = rw (name_back w, peek-in (resume_word w) s h)

-- joining an empty queue
pub enqueue-empty : (w : ℕ) (s : World) → (cpu_of s).queued ≡ false
    → enqueue w (cpu_of s) s ≡ done tt (with_cpu (queueing w w true (cpu_of s)) s)
enqueue-empty w s q = rw q
