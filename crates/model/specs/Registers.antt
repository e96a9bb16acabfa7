-- Refusal 8 never occurs (02, order 2: "Refusal 8 is then shown never to occur"), and why: three registers serve every expression.
-- Proved in proofs/Tables/Never8.antt and proofs/Effects/Performed.antt.
use Rattle.std.specs.Prelude.{ℕ, ◌+◌, ◌^◌, ◌≤◌, ◌<◌, ◌≡◌, ◌⊎◌, length, get_or}
use mathlib.Core.List.{List, [], ◌∷◌, Memᴰ}
use Rattle.model.specs.Syntax.{Site, Expr, constant, variable, NOT, binary}
use Rattle.model.specs.Usage.{reads}
use Rattle.model.specs.Counts.{registers, temporaries}
use Rattle.model.specs.Accept.{accept}
use Rattle.model.specs.Instruction.{Instruction}
use Rattle.model.specs.Scheme.{expr_code}
use Rattle.model.specs.Code.{function_in, operand_in, compile}
use Rattle.model.specs.Occam.{Store, eval}
use Rattle.model.specs.Machine.{World, done, Act, ◌>>◌, return, memory_size}
use Rattle.model.specs.Execute.{execute}
use Rattle.model.specs.Answers.{refusal}
use Rattle.model.specs.Refusals.{read_refusal, compile_refusal}

-- for every table and every room neither reading nor compiling answers 8
abbrev pub NeverRefuses8 : Type 0
NeverRefuses8 = (table : List ℕ) (room : ℕ) (returned : List ℕ)
    → (read_refusal (accept table) ≡ refusal 8 returned → ⊥) × (compile_refusal (compile table room) ≡ refusal 8 returned → ⊥)

-- no expression counts more than the three registers that there are
abbrev pub AtMostThree : Type 0
AtMostThree = (e : Expr) → registers e ≤ 3

-- instructions carried out one after the other. `off` gives each its first byte; only code distances ask for it, and expressions have none
abbrev pub perform : (off : ℕ → ℕ) → List Instruction → Act (Unit {0})
perform off [] = return tt
perform off (x ∷ xs) = do
  execute (function_in x) (operand_in off x)
  perform off xs

-- the constants of an expression are words
abbrev pub InWords : Expr → Type 0
InWords (constant n) = n < 2 ^ 32
InWords (variable x) = Unit {0}
InWords (NOT e) = InWords e
InWords (binary op l r) = InWords l × InWords r

-- where an expression's code may be carried out, at W = w and with h values held before: the machine's memory is there and has the words of
-- the stored values, from w on, and each variable that is read stands in its word, apart from these
pub record Ready (word : Site → ℕ) (σ : Store) (w h : ℕ) (e : Expr) (s : World) : Type 0 where
  pub workspace : s.machine.cpu.workspace ≡ w
  pub wide : w < 2 ^ 32
  pub lent : memory_size s.machine.setup ≤ length s.memory
  pub addressed : memory_size s.machine.setup ≤ 2 ^ 32
  pub room : w + h + temporaries e ≤ memory_size s.machine.setup
  pub in_words : InWords e
  pub inside : (x : Site) → Memᴰ x (reads e) → word x < memory_size s.machine.setup
  pub apart : (x : Site) → Memᴰ x (reads e) → (word x < w) ⊎ (w + h + temporaries e ≤ word x)
  pub value : (x : Site) → Memᴰ x (reads e) → get_or s.memory (word x) 0 ≡ σ x
  pub a_word : (x : Site) → Memᴰ x (reads e) → σ x < 2 ^ 32

-- what it comes to: the value is in A, below it in B and C is what was in A and B, as far as the expression does not need these registers,
-- and only words of its own stored values changed
pub record Computed (σ : Store) (w h : ℕ) (e : Expr) (s t : World) : Type 0 where
  pub in-a : t.machine.cpu.a ≡ eval σ e
  pub keeps-b : registers e ≤ 2 → t.machine.cpu.b ≡ s.machine.cpu.a
  pub keeps-c : registers e ≤ 1 → t.machine.cpu.c ≡ s.machine.cpu.b
  pub elsewhere : (v : ℕ) → (v < w + h) ⊎ (w + h + temporaries e ≤ v) → get_or t.memory v 0 ≡ get_or s.memory v 0

-- the reason: every expression's code computes its value with `registers` of the three registers, by the machine's own instructions, so
-- none needs a fourth
abbrev pub ThreeRegistersServe : Type 0
ThreeRegistersServe = (off : ℕ → ℕ) (word : Site → ℕ) (σ : Store) (w h : ℕ) (e : Expr) (s : World) → Ready word σ w h e s
    → (t : World) × (perform off (expr_code word w h e) s ≡ done tt t) × Computed σ w h e s t
