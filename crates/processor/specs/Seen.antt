-- What a function of registers and lent memory does, as an action of the model on a world of which it does not see the rest.
use Rattle.std.specs.Prelude.{ℕ, ◌≡◌, Bool, cond, List, ◌++◌, length, get_or, set, ltb, Ok, Err, Result as Answer}
use Rattle.model.specs.Answers.{KeptFault}
use Rattle.model.specs.Machine.{World, Talk, Act, Result, done, faults, memory_size}
use Rattle.model.specs.declared.Cpu.{Cpu}
use Rattle.model.specs.declared.Setup.{Setup}
use Rattle.model.specs.declared.Timer.{Timer}
use Rattle.model.specs.declared.FaultKind.{FaultKind}
use Rattle.model.specs.declared.FaultKind.TheVariants.{Word}

-- what a byte came to: the registers after it, or the fault that kept it from beginning
abbrev pub Step : Type 0
Step = Answer Cpu FaultKind

-- what a look into the memory came to: a word, or the fault
abbrev pub Peeked : Type 0
Peeked = Answer ℕ FaultKind

-- what a function of registers and the machine's words does not see; `behind` is what the lent memory holds behind these words
pub record Rest : Type 0 where
  pub behind : List ℕ
  pub timer : Timer
  pub offers : List ℕ
  pub held : List Bool
  pub fault : KeptFault
  pub talk : List Talk

-- registers and the whole lent memory amid the rest
abbrev pub whole : Rest → Setup → Cpu → List ℕ → World
whole x u r l =
    record {
      machine = record { cpu = r; setup = u; timer = x.timer; offers = x.offers; held = x.held; fault = x.fault };
      memory = l;
      talk = x.talk;
    }

-- registers and the machine's words amid the rest
abbrev pub world : Rest → Setup → Cpu → List ℕ → World
world x u r l = whole x u r (l ++ x.behind)

-- an answer and the memory after it, as the model's result
abbrev pub told : Rest → Setup → Step → List ℕ → Result (Unit {0})
told x u (Ok r) l = done tt (world x u r l)
told x u (Err k) l = faults k

-- on a fault the memory is as it was
abbrev pub Keeps : Step → (before after : List ℕ) → Type 0
Keeps (Ok r) l m = Unit {0}
Keeps (Err k) l m = m ≡ l

-- an action, from registers and memory to an answer and memory, where the rest of the world is φ of what is not seen before, and ψ after
pub record Changes (φ ψ : Rest → Rest) (u : Setup) (act : Act (Unit {0})) (r : Cpu) (before : List ℕ) (s : Step) (after : List ℕ)
    : Type 0 where
  pub said : (x : Rest) → act (world (φ x) u r before) ≡ told (ψ x) u s after
  pub keeps : Keeps s before after

-- an action that does not see the rest
abbrev pub Does : Setup → Act (Unit {0}) → Cpu → (before : List ℕ) → Step → (after : List ℕ) → Type 0
Does = Changes (λ x. x) (λ x. x)

-- the same for all machines with so many words as the memory
abbrev pub Works : Act (Unit {0}) → Cpu → (before : List ℕ) → Step → (after : List ℕ) → Type 0
Works act r l s m = (u : Setup) → memory_size u ≡ length l → Does u act r l s m

-- and with code of that length
abbrev pub Goes : (code : ℕ) → Act (Unit {0}) → Cpu → (before : List ℕ) → Step → (after : List ℕ) → Type 0
Goes code act r l s m = (u : Setup) → memory_size u ≡ length l → u.code ≡ code → Does u act r l s m

-- the same for all memories, where none is seen, and code of that length
abbrev pub Lands : (code : ℕ) → Act (Unit {0}) → Cpu → Step → Type 0
Lands code act r s = (u : Setup) → u.code ≡ code → (l : List ℕ) → Does u act r l s l

-- a value that was looked for, as the model's result
abbrev pub found : Rest → Setup → Cpu → Peeked → List ℕ → Result ℕ
found x u r (Ok v) l = done v (world x u r l)
found x u r (Err k) l = faults k

-- a look into the memory of any machine with so many words
abbrev pub Finds : Act ℕ → List ℕ → Peeked → Type 0
Finds act l p = (u : Setup) → memory_size u ≡ length l → (x : Rest) (r : Cpu) → act (world x u r l) ≡ found x u r p l

-- a word inside the memory, or the fault
abbrev pub looked : (a : ℕ) → List ℕ → Peeked
looked a l = cond (ltb a (length l)) (Ok (get_or l a 0)) (Err (Word a))

-- the memory where a word that was inside is written
abbrev pub written : Peeked → (a v : ℕ) → List ℕ → List ℕ
written (Ok w) a v l = set l a v
written (Err k) a v l = l

-- the memory where a fault gives a word back what it held
abbrev pub undone : Step → (a old : ℕ) → List ℕ → List ℕ
undone (Ok r) a old l = l
undone (Err k) a old l = set l a old
