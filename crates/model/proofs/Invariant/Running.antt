-- The invariant: the machine is at a process that goes on, or no process can; all words hold what the processes leave in them.
use Prim.Native.Nat.{ℕ, zero, suc, ◌+◌, ◌-◌, ◌≤◌, ◌<◌}
use native.Mathlib.Omega.{arith}
use native.Mathlib.Decide.{dec_lt}
use mathlib.Core.Path.{◌≡◌, refl}
use mathlib.Core.Logic.{◌⊎◌}
use mathlib.Core.Bool.{true, false}
use mathlib.Core.List.{List, [], ◌∷◌, ◌++◌, map}
use mathlib.Core.Option.{some}
use lib.ListN.{length, get_elem?}
use Rattle.model.specs.Syntax.{Site, Stmt, Stmts, stmt}
use Rattle.model.specs.Counts.{need}
use Rattle.model.specs.Scheme.{size, how_many}
use Rattle.model.specs.Instruction.{Instruction}
use Rattle.model.specs.Code.{function_in, operand_in}
use Rattle.model.specs.Machine.{World, done}
use Rattle.model.specs.Execute.{execute}
use Rattle.model.specs.Occam.{Process, begin, State, Communication}
use Rattle.model.specs.Demand.{Segment, steps, talk_of}
use Rattle.model.proofs.Coding.Bytes.{Standing}
use Rattle.model.proofs.Quiet.Ways.{regs_of, Mem}
use Rattle.model.proofs.Quiet.Setting.{At}
use Rattle.model.proofs.Quiet.CodeParts.{up, rises-le}
use Rattle.model.proofs.Words.Parts.{Part, joins, part_of}
use Rattle.model.proofs.Quiet.Marks.{Settled}
use Rattle.model.proofs.Quiet.Arrivals.{Goes, Comes}
use Rattle.model.proofs.Quiet.Onwards.{AltGoes, Starts}
use Rattle.model.proofs.Invariant.Trees.{Info, new_info, Tree, bytes_left}
use Rattle.model.proofs.Invariant.Leaves.{Unmarked}
use Rattle.model.proofs.Effects.OneWord.{cpu_of}
use Rattle.model.proofs.Invariant.Kernel.{Loaded, S, root, LeafAt, Rest, Lined, Real}
use Rattle.model.proofs.Invariant.Grounds.{code-end}
use Rattle.model.proofs.Invariant.Traces.{Trace}

-- only the process at a path is left out; nobody is
abbrev pub Only : List ℕ → List ℕ → Type 0
Only path other = path ≡ other

abbrev pub Nobody : List ℕ → Type 0
Nobody other = ⊥

-- the branches that a PAR has still to start: the branch s at distance d, its code at index b, and those behind it. `par` is the PAR's
-- path, `next` the number of the branch s, w the PAR's workspace, where the code of the first branch is at index `first`
pub record StartsLeft : Type 0 where
  pub par : List ℕ
  pub next : ℕ
  pub s : Stmt
  pub ss : Stmts
  pub d : ℕ
  pub b : ℕ
  pub first : ℕ
  pub w : ℕ
  pub vars : List Site
  pub chans : List Site

-- the statement that comes as the k-th of some, with its distance and the index of its code
pub data Later : Stmts → (d b k : ℕ) → Stmt → (d' b' : ℕ) → Type 0 where
  l-here : {s : Stmt} {ss : Stmts} {d b : ℕ} → Later (stmt s ss) d b 0 s d b
  l-next : {s r : Stmt} {ss : Stmts} {d b k d' b' : ℕ} → Later ss (d + need s) (b + size s + 2) k r d' b'
      → Later (stmt s ss) d b (suc k) r d' b'

-- a branch that is still to be started
pub data NotStarted (B : StartsLeft) (other : List ℕ) : Type 0 where
  not-started : (k : ℕ) → k ≤ how_many B.ss → other ≡ B.par ++ (B.next + k) ∷ [] → NotStarted B other

-- the first branch, which starts the others, and those are left out
abbrev pub Starting : List ℕ → StartsLeft → List ℕ → Type 0
Starting path B other = (path ≡ other) ⊎ NotStarted B other

module _ (L : Loaded) where
  -- where in the instruction at an index the process is, or that it is at the code's end
  pub data Here (at place operand : ℕ) : Type 0 where
    within : {x : Instruction} → At (S L) at x → Standing L.code L.off at x place operand → Here at place operand
    at-end : at ≡ length (S L).xs → place ≡ L.off at → Here at place operand

  -- places of the code are small
  pub off_small : (i : ℕ) → i ≤ length (S L).xs → L.off i ≤ length L.code
  off_small i h = omega (arith, rises-le (S L) i (length (S L).xs) h (omega arith), code-end L)

  -- at an instruction's first byte
  pub fresh : (i place operand : ℕ) → i ≤ length (S L).xs → place ≡ L.off i → operand ≡ 0 → Here i place operand
  fresh i place operand h e z = by (dec_lt i (length (S L).xs))
    where
      found : {A : Type 0} (l : List A) (j : ℕ) → j < length l → (a : A) × (get_elem? l j ≡ some a)
      found [] j h = absurd (omega arith)
      found (a ∷ l) zero h = (a, refl)
      found (a ∷ l) (suc j) h = found l j (omega arith)

      by : Dec (i < length (S L).xs) → Here i place operand
      by (yes l) =
          let (x, f) = found (S L).xs i l in
          within f (record {
            from = omega arith;
            upto = omega (arith, up (S L) f);
            reads = rw (e, z) (L.realises.each i x f);
          })
      by (no l) = at-end (omega arith) e

  -- what is known of a branch that is to be started
  pub record ToStart (st : State) (μ : Mem) (t : Tree (S L) (root L) st.process) (B : StartsLeft) (k : ℕ) (s : Stmt) (d b : ℕ)
      : Type 0 where
    pub leaf : LeafAt L st t (B.par ++ (B.next + k) ∷ []) (begin s []) (part_of B.vars B.chans (B.w - d) (joins d) s)
        (new_info (S L) B.vars B.chans (B.w - d))
    pub comes : Comes (S L) (part_of B.vars B.chans (B.w - d) (joins d) s) st.store B.vars B.chans (L.off (b + size s + 2))
        (begin s []) b (B.w - d)
    pub inner : b + size s + 2 ≤ length (S L).xs
    pub room : d + need s ≤ B.w
    pub unmarked : Unmarked (S L) (part_of B.vars B.chans (B.w - d) (joins d) s) (new_info (S L) B.vars B.chans (B.w - d)) st μ

  -- the process at a path has the processor: it is on its way to its next significant instruction, or in an ALT
  pub data Now (s : World) (st : State) (μ : Mem) (b : Part) (i : Info) : Process → Type 0 where
    now-goes : {q : Process} {hi at : ℕ} → Here at (cpu_of s).place (cpu_of s).operand
        → Goes (S L) b st.store i.vars i.chans q hi μ at (regs_of (cpu_of s)) → Settled q → Unmarked (S L) b i st μ
        → hi ≤ i.left + (cpu_of s).place → Now s st μ b i q
    now-alt : {q : Process} {hi at : ℕ} → Here at (cpu_of s).place (cpu_of s).operand
        → AltGoes (S L) b L.times st i.vars i.chans q i.w hi μ at (regs_of (cpu_of s)) → hi ≤ i.left + (cpu_of s).place
        → Now s st μ b i q

  -- it is the first branch of a PAR and starts the others
  pub record NowStarts (s : World) (st : State) (μ : Mem) (t : Tree (S L) (root L) st.process) (path : List ℕ) (q : Process) (b : Part)
      (i : Info) (B : StartsLeft) : Type 0 where
    pub hi : ℕ
    pub at : ℕ
    pub first-branch : path ≡ B.par ++ 0 ∷ []
    pub next_one : 1 ≤ B.next
    pub same_w : i.w ≡ B.w
    pub here : Here at (cpu_of s).place (cpu_of s).operand
    pub way : Starts (S L) st.store B.s B.ss B.d B.b B.first B.w hi μ at (regs_of (cpu_of s))
    pub all-to-start : (k : ℕ) (r : Stmt) (d b : ℕ) → Later (stmt B.s B.ss) B.d B.b k r d b → ToStart st μ t B k r d b
    pub own : Comes (S L) b st.store i.vars i.chans hi q B.first B.w
    pub inner : B.first ≤ length (S L).xs
    pub near : L.off B.first ≤ hi
    pub unmarked : Unmarked (S L) b i st μ
    pub soon : hi ≤ i.left + (cpu_of s).place

  -- n is the number of bytes left over all processes
  pub data Inv (s : World) (st : State) : ℕ → Type 0 where
    runs : {μ : Mem} {t : Tree (S L) (root L) st.process} {path : List ℕ} {q : Process} {b : Part} {i : Info} {ws : List ℕ}
        → Real L s st μ ws → (cpu_of s).running ≡ true → LeafAt L st t path q b i → Rest L st μ t (Only path) ws
        → Lined L st t (Only path) ws → Now s st μ b i q → Inv s st (bytes_left (S L) t)
    starts : {μ : Mem} {t : Tree (S L) (root L) st.process} {path : List ℕ} {q : Process} {b : Part} {i : Info}
        {ws : List ℕ} (B : StartsLeft)
        → Real L s st μ ws → (cpu_of s).running ≡ true → LeafAt L st t path q b i → Rest L st μ t (Starting path B) ws
        → Lined L st t (Starting path B) ws → NowStarts s st μ t path q b i B → Inv s st (bytes_left (S L) t)
    idle : {μ : Mem} {t : Tree (S L) (root L) st.process} → Real L s st μ [] → (cpu_of s).running ≡ false → (cpu_of s).operand ≡ 0
        → Rest L st μ t Nobody [] → Inv s st (bytes_left (S L) t)

  -- what an action comes to: the world after it, the moves that it stands for, and fewer bytes left unless there were steps
  pub data Did (did : World → Type 0) (s : World) (st : State) (n : ℕ) : Type 0 where
    came : (t : World) {st' : State} {m : ℕ} {cs : List Communication} (g : Segment) → did t → Trace st g st' cs []
        → t.talk ≡ s.talk ++ map (talk_of L.prog) cs → Inv t st' m → (m < n) ⊎ (0 < steps g) → Did did s st n

  -- an instruction
  pub data Executes (x : Instruction) (s t : World) : Type 0 where
    executes : execute (function_in x) (operand_in L.off x) s ≡ done tt t → Executes x s t

  -- the process at a path is about to execute the instruction at an index
  pub record Acting (s : World) (st : State) (μ : Mem) (t : Tree (S L) (root L) st.process) (path : List ℕ) (q : Process) (b : Part)
      (i : Info) (Out : List ℕ → Type 0) (ws : List ℕ) (at hi : ℕ) : Type 0 where
    pub real : Real L s st μ ws
    pub run : (cpu_of s).running ≡ true
    pub leaf : LeafAt L st t path q b i
    pub rest : Rest L st μ t Out ws
    pub lined : Lined L st t Out ws
    pub operand : (cpu_of s).operand ≡ 0
    pub placed : (cpu_of s).place ≡ L.off (suc at)
    pub inside : suc at ≤ length (S L).xs
    pub left : suc hi ≤ i.left + L.off (suc at)
