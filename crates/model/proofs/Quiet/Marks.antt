-- Where a process stands: the significant instruction that it comes to next, and what holds there.
use Prim.Native.Nat.{ℕ, suc, ◌+◌, ◌-◌, ◌^◌, ◌≤◌, ◌<◌}
use mathlib.Core.Path.{◌≡◌}
use mathlib.Core.Logic.{◌≢◌, ◌⊎◌}
use mathlib.Core.Bool.{true, false}
use mathlib.Core.List.{List, ◌∷◌, ◌++◌, Memᴰ}
use Rattle.model.specs.Word.{low, less, after, not_process}
use Rattle.model.specs.Syntax.{Site, Expr, Stmt, SKIP, STOP, assign, input, output, VAR, CHAN, SEQ, PAR, IF, WHILE, ALT, Stmts}
use Rattle.model.specs.Syntax.{no_stmt, stmt, Pairs, Guard, input_guard, skip_guard, time_guard, Guards, no_guard, guard, timed, TIME}
use Rattle.model.specs.Syntax.{WAIT}
use Rattle.model.specs.Reader.{names}
use Rattle.model.specs.Counts.{need, sum_need}
use Rattle.model.specs.Instruction.{ldc, ldlp, cj, ajw, stl, Instruction, plain, distance, operation}
use Rattle.model.specs.Instruction as I
use Rattle.model.specs.Scheme.{how_many, size, code, code_starts, code_ends, code_enable, code_disable, code_branches, size_enable}
use Rattle.model.specs.Scheme.{size_disable, input_size, begins_alt, waits_alt}
use Rattle.model.specs.Code.{operand_in}
use Rattle.model.specs.Alternative.{enabling, ready, none_selected}
use Rattle.model.specs.Machine.{state_word, time_link_word, time_word, name_of, space_of}
use Rattle.model.specs.Timer.{time_set}
use Rattle.model.specs.Occam.{Store, eval, is_true, Frame, in_while, Process, before, at_input, at_output, at_stop, at_alt, in_par}
use Rattle.model.specs.Occam.{finished}
use Rattle.model.specs.Occam.{resume, begin, first_true, State, Sender, branch_of, Ready, to_read, has_read, at_wait}
use Rattle.model.proofs.Quiet.Names.{name_back}
use Rattle.model.proofs.Quiet.Ways.{Regs, Mem}
use Rattle.model.proofs.Quiet.Stretches.{Seg}
use Rattle.model.proofs.Quiet.Setting.{Setting, whole, At}
use Rattle.model.proofs.Quiet.Timing.{Times, Bringing, Passed, Guarding}
use Rattle.model.proofs.Words.Parts.{Part, joins, Words, FineWhole, Fine, FinePairs, FineBranches, Target}
use Rattle.model.proofs.Quiet.Continuations.{Placed, Cont}

-- a guard of a list is ready
pub data AnyReady (st : State) : Guards → Type 0 where
  r-first : {g : Guard} {s : Stmt} {gs : Guards} → Ready st g → AnyReady st (guard g s gs)
  r-later : {g : Guard} {s : Stmt} {gs : Guards} → AnyReady st gs → AnyReady st (guard g s gs)

-- where the branch behind a guard's has its first instruction, if that guard's has its own at b
abbrev pub next_branch : (b : ℕ) → Guard → Stmt → ℕ
next_branch b g s = b + 1 + input_size g + size s + 1

-- a guard that is ready whatever the clock is, and such a guard of a list
pub data Present (st : State) : Guard → Type 0 where
  is-sent : {e : Expr} {c x : Site} → is_true st.store e ≡ true → Sender st c → Present st (input_guard e c x)
  is-skip : {e : Expr} → is_true st.store e ≡ true → Present st (skip_guard e)

pub data AnyPresent (st : State) : Guards → Type 0 where
  a_first : {g : Guard} {s : Stmt} {gs : Guards} → Present st g → AnyPresent st (guard g s gs)
  a-later : {g : Guard} {s : Stmt} {gs : Guards} → AnyPresent st gs → AnyPresent st (guard g s gs)

-- a guard that its disabling will find ready: it is present, or the time in the ALT's words is set and after the guard's
pub data Finds (st : State) (μ : Mem) (w : ℕ) : Guard → Type 0 where
  finds-present : {g : Guard} → Present st g → Finds st μ w g
  finds-time : {e t : Expr} → is_true st.store e ≡ true → μ (time_link_word w) ≡ time_set
      → after (μ (time_word w)) (eval st.store t) ≡ true → Finds st μ w (time_guard e t)

pub data AnyFound (st : State) (μ : Mem) (w : ℕ) : Guards → Type 0 where
  f-first : {g : Guard} {s : Stmt} {gs : Guards} → Finds st μ w g → AnyFound st μ w (guard g s gs)
  f-later : {g : Guard} {s : Stmt} {gs : Guards} → AnyFound st μ w gs → AnyFound st μ w (guard g s gs)

-- the guard whose branch has its first instruction at t is ready, if times are sure; p is the process that goes on there. The first
-- guard's branch is at b
pub data Picks (T : Times) (st : State) (k : List Frame) : Guards → (b t : ℕ) → Process → Type 0 where
  p-first : {g : Guard} {s : Stmt} {gs : Guards} {b : ℕ} → (T.sure → Ready st g) → Picks T st k (guard g s gs) b b (begin (branch_of g s) k)
  p-later : {g : Guard} {s : Stmt} {gs : Guards} {b t : ℕ} {p : Process} → Picks T st k gs (next_branch b g s) t p
      → Picks T st k (guard g s gs) b t p

-- the second list is the rest of the first; their first guards' branches are at b and t
pub data Rest : Guards → (b : ℕ) → Guards → (t : ℕ) → Type 0 where
  rest_all : {gs : Guards} {b : ℕ} → Rest gs b gs b
  rest-later : {g : Guard} {s : Stmt} {gs hs : Guards} {b t : ℕ} → Rest gs (next_branch b g s) hs t → Rest (guard g s gs) b hs t

-- a guard that is not present; one that waits for input is marked by the process at w where its condition is true
abbrev pub Unready : State → (Site → ℕ) → Mem → (w : ℕ) → Guard → Type 0
Unready st word μ w (input_guard e c x) = is_true st.store e ≡ true → (μ (word c) ≡ name_of w) × (Sender st c → ⊥)
Unready st word μ w (skip_guard e) = is_true st.store e ≡ false
Unready st word μ w (time_guard e t) = Unit {0}

-- of the guards from the first list up to the second, which is the rest of it, none is present
pub data Noticed (st : State) (word : Site → ℕ) (μ : Mem) (w : ℕ) : Guards → Guards → Type 0 where
  n-none : {gs : Guards} → Noticed st word μ w gs gs
  n-later : {g : Guard} {s : Stmt} {gs hs : Guards} → Unready st word μ w g → Noticed st word μ w gs hs
      → Noticed st word μ w (guard g s gs) hs

-- a channel that a guard of a list with a true condition inputs from
pub data Guarded (σ : Store) (c : Site) : Guards → Type 0 where
  g-first : {e : Expr} {x : Site} {s : Stmt} {gs : Guards} → is_true σ e ≡ true → Guarded σ c (guard (input_guard e c x) s gs)
  g-later : {g : Guard} {s : Stmt} {gs : Guards} → Guarded σ c gs → Guarded σ c (guard g s gs)

-- steps without code: SKIP and a PAR of none
pub data Skips : Process → Process → Type 0 where
  s-none : {p : Process} → Skips p p
  s-skip : {k : List Frame} {q : Process} → Skips (resume k) q → Skips (before SKIP k) q
  s-par : {p : ℕ} {k : List Frame} {q : Process} → Skips (resume k) q → Skips (before (PAR p no_stmt) k) q

-- a statement with code
abbrev pub Coded : Stmt → Type 0
Coded SKIP = ⊥
Coded STOP = Unit {0}
Coded (assign x e) = Unit {0}
Coded (input c x) = Unit {0}
Coded (output c e) = Unit {0}
Coded (VAR p n s) = Unit {0}
Coded (CHAN p n s) = Unit {0}
Coded (SEQ ss) = Unit {0}
Coded (PAR p no_stmt) = ⊥
Coded (PAR p (stmt s ss)) = Unit {0}
Coded (IF ps) = Unit {0}
Coded (WHILE e s) = Unit {0}
Coded (ALT gs) = Unit {0}
Coded (TIME x) = Unit {0}
Coded (WAIT e) = Unit {0}

-- a process that begins a statement with code, is about to read the clock or has read it, or has finished
abbrev pub Settled : Process → Type 0
Settled (before s k) = Coded s
Settled (at_input c x k) = ⊥
Settled (at_output c v k) = ⊥
Settled (at_stop k) = ⊥
Settled (at_alt gs k) = ⊥
Settled (at_wait t k) = ⊥
Settled (to_read x k) = Unit {0}
Settled (has_read x v k) = Unit {0}
Settled (in_par bs k) = ⊥
Settled finished = Unit {0}

-- the name of a process of a part
pub record Own (a : Part) (n : ℕ) : Type 0 where
  pub above : a.bottom < space_of n
  pub below : space_of n ≤ a.top

pub own_name : (a : Part) (w : ℕ) → a.bottom < w → w ≤ a.top → Own a (name_of w)
own_name a w l h = record { above = rw (name_back w) l; below = rw (name_back w) h }

module _ (S : Setting) (a : Part) where
  -- an ALT's code: from index i, at the workspace w, up to `over`
  pub record AltCode (gs : Guards) (vars chans : List Site) (k : List Frame) (hi i w : ℕ) : Type 0 where
    pub over : ℕ
    pub lowers : At S i (plain ajw (less 0 1))
    pub begins : At S (i + 1) (operation (begins_alt gs))
    pub enables : Seg S.xs (i + 2) (code_enable S.word (w - 1) gs) (i + 2 + size_enable gs)
    pub waits : At S (i + 2 + size_enable gs) (operation (waits_alt gs))
    pub choice : ℕ
    pub choice-is : choice ≡ i + 2 + size_enable gs + 1 + size_disable gs
    pub disables : Seg S.xs (i + 2 + size_enable gs + 1) (code_disable S.word (w - 1) choice (choice + 1) gs) choice
    pub ends : At S choice (operation I.altend)
    pub branches : Seg S.xs (choice + 1) (code_branches S.word w (choice + 1) over gs) over
    pub fine : Fine S.word a vars chans w (ALT gs)
    pub after : Cont S a hi vars chans k over w
    pub near : hi ≤ whole S + S.off i

  -- a VAR's or CHAN's code from its initialisation on, by which instruction; `fine` is what the body needs, `on` what follows it
  pub record Opening (f : Instruction) (p n : ℕ) (s : Stmt) (vars chans : List Site) (k : List Frame) (hi c w : ℕ) : Type 0 where
    pub room : a.bottom + 2 ≤ w
    pub inits : (j : ℕ) → j < n → At S (c + (j + j)) f × At S (suc (c + (j + j))) (plain stl j)
    pub close : ℕ
    pub body : Seg S.xs (c + (n + n)) (code S.word w (c + (n + n)) s) close
    pub closes : At S close (plain ajw n)
    pub sites : Words S.word p n w
    pub after : Cont S a hi vars chans k (suc close) (w + n)
    pub near : hi ≤ whole S + S.off c

  -- a PAR's code from index i behind its count on: the starts, the branches, and what comes after; its workspace is w
  pub record ParCode (s : Stmt) (ss : Stmts) (vars chans : List Site) (k : List Frame) (hi i w : ℕ) : Type 0 where
    pub first : ℕ
    pub over : ℕ
    pub starts : Seg S.xs i (code_starts S.word (need s) i (first + size s + 2) ss) first
    pub branches : Seg S.xs first
        (code S.word w first s ++ plain ldlp 0 ∷ operation I.endp ∷ code_ends S.word w (need s) (first + size s + 2) ss) over
    pub fine : FineBranches S.word a vars chans w 0 (stmt s ss)
    pub room : a.bottom + sum_need (stmt s ss) ≤ w
    pub placed : Placed S a (w + 2) vars chans
    pub after : Cont S a hi vars chans k over w
    pub near : hi ≤ whole S + S.off i

  -- a word of the part's own that is no name's: stored values stand in such words
  pub record Spare (vars chans : List Site) (v : ℕ) : Type 0 where
    pub above : a.bottom ≤ v
    pub below : v < a.top
    pub no-var : (x : Site) → Memᴰ x vars → v < S.word x
    pub no-chan : (c : Site) → Memᴰ c chans → v < S.word c

  -- what J and waiting need of a workspace
  abbrev pub Clear : (vars chans : List Site) (w : ℕ) → Type 0
  Clear vars chans w = Placed S a w vars chans

  module _ (σ : Store) (vars chans : List Site) where
    -- the significant instruction that a process stands before, with its registers; `up` is the bound of the path to it. Those inside an
    -- ALT and behind a PAR's count are apart
    pub data Point : Process → (up : ℕ) → Mem → ℕ → Regs → Type 0 where
      pt-stop : {k : List Frame} {up : ℕ} {μ : Mem} {i : ℕ} {r : Regs} → At S i (operation I.stopp) → Clear vars chans r.w
          → Point (before STOP k) up μ i r
      pt-assign : {x : Site} {e : Expr} {k : List Frame} {up : ℕ} {μ : Mem} {i o hi : ℕ} {r : Regs} → At S i (plain stl o)
          → low (r.w + o) ≡ S.word x → Fine S.word a vars chans r.w (assign x e) → r.a ≡ eval σ e → eval σ e < 2 ^ 32
          → Cont S a hi vars chans k (suc i) r.w → hi ≤ whole S + S.off i → Point (before (assign x e) k) up μ i r
      pt-var : {p n : ℕ} {s : Stmt} {k : List Frame} {up : ℕ} {μ : Mem} {i hi c j : ℕ} {r : Regs}
          → Opening (plain ldc 0) p n s vars chans k hi c r.w → Fine S.word a (names p n ++ vars) chans r.w s
          → hi ≤ up → j < n → i ≡ suc (c + (j + j)) → r.a ≡ 0 → ((l : ℕ) → l < j → μ (r.w + l) ≡ 0)
          → Point (before (VAR p n s) k) up μ i r
      pt-chan : {p n : ℕ} {s : Stmt} {k : List Frame} {up : ℕ} {μ : Mem} {i hi c j : ℕ} {r : Regs}
          → Opening (operation I.mint) p n s vars chans k hi c r.w → Fine S.word a vars (names p n ++ chans) r.w s
          → hi ≤ up → j < n → i ≡ suc (c + (j + j)) → r.a ≡ not_process → ((l : ℕ) → l < j → μ (r.w + l) ≡ not_process)
          → Point (before (CHAN p n s) k) up μ i r
      pt-taken : {ps : Pairs} (s : Stmt) {k : List Frame} {up : ℕ} {μ : Mem} {i t m hi : ℕ} {r : Regs} → At S i (distance cj t i)
          → r.a ≢ 0 → FinePairs S.word a vars chans r.w ps → first_true σ ps k ≡ begin s k
          → Seg S.xs (suc i) (code S.word r.w (suc i) s) m
          → Fine S.word a vars chans r.w s → Cont S a hi vars chans k m r.w → hi ≤ whole S + S.off i
          → Point (before (IF ps) k) up μ i r
      pt-none : {ps : Pairs} {k : List Frame} {up : ℕ} {μ : Mem} {i : ℕ} {r : Regs} → At S i (operation I.stopp) → Clear vars chans r.w
          → FinePairs S.word a vars chans r.w ps → first_true σ ps k ≡ at_stop k → Point (before (IF ps) k) up μ i r
      pt-while : {e : Expr} {s : Stmt} {k : List Frame} {up : ℕ} {μ : Mem} {i t m hi hi' : ℕ} {r : Regs} → At S i (distance cj t i)
          → suc i ≤ t → FineWhole a vars r.w 0 e → r.a ≡ eval σ e → Seg S.xs (suc i) (code S.word r.w (suc i) s) m
          → Fine S.word a vars chans r.w s → Cont S a hi' vars chans (in_while e s ∷ k) m r.w
          → hi' ≤ whole S + S.off (suc i) → Cont S a hi vars chans k t r.w → hi ≤ whole S + S.off i
          → Point (before (WHILE e s) k) up μ i r
      pt-in : {c x : Site} {k : List Frame} {up : ℕ} {μ : Mem} {i hi : ℕ} {r : Regs} → At S i (operation I.«in») → r.a ≡ 4
          → r.b ≡ S.word c → r.c ≡ S.word x → Fine S.word a vars chans r.w (input c x)
          → Cont S a hi vars chans k (suc i) r.w → hi ≤ whole S + S.off i → Point (before (input c x) k) up μ i r
      pt-out : {c : Site} {e : Expr} {k : List Frame} {up : ℕ} {μ : Mem} {i hi : ℕ} {r : Regs} → At S i (operation I.outword)
          → r.a ≡ eval σ e → eval σ e < 2 ^ 32 → r.b ≡ S.word c → Fine S.word a vars chans (r.w + 1) (output c e)
          → At S (suc i) (plain ajw 1) → Cont S a hi vars chans k (suc (suc i)) (r.w + 1) → hi ≤ whole S + S.off i
          → Point (before (output c e) k) up μ i r
      -- a PAR: where it goes on, and its count, which starts it
      pt-par-place : {p : ℕ} {s : Stmt} {ss : Stmts} {k : List Frame} {up : ℕ} {μ : Mem} {i hi : ℕ} {r : Regs} → At S i (plain stl 0)
          → At S (suc i) (plain ldc (suc (how_many ss))) → At S (suc (suc i)) (plain stl 1)
          → (c : ParCode s ss vars chans k hi (suc (suc (suc i))) r.w) → r.a ≡ S.off c.over → hi ≤ up
          → Point (before (PAR p (stmt s ss)) k) up μ i r
      pt-par-count : {p : ℕ} {s : Stmt} {ss : Stmts} {k : List Frame} {up : ℕ} {μ : Mem} {i hi : ℕ} {r : Regs} → At S i (plain stl 1)
          → r.a ≡ suc (how_many ss) → (c : ParCode s ss vars chans k hi (suc i) r.w) → μ r.w ≡ S.off c.over
          → Point (before (PAR p (stmt s ss)) k) up μ i r
      -- a branch's end
      pt-end : {d : ℕ} {up : ℕ} {μ : Mem} {i : ℕ} {r : Regs} → a.ending ≡ joins d → At S i (operation I.endp) → r.a ≡ a.top + d
          → r.w ≡ a.top → Point finished up μ i r
      -- TIME: LDTIMER, and the STL of what was read
      pt-read : {x : Site} {k : List Frame} {up : ℕ} {μ : Mem} {i o hi : ℕ} {r : Regs} → At S i (operation I.ldtimer)
          → At S (suc i) (plain stl o) → low (r.w + o) ≡ S.word x → Target a vars x → Cont S a hi vars chans k (suc (suc i)) r.w
          → hi ≤ up → hi ≤ whole S + S.off i → Point (to_read x k) up μ i r
      pt-store : {x : Site} {v : ℕ} {k : List Frame} {up : ℕ} {μ : Mem} {i o hi : ℕ} {r : Regs} → At S i (plain stl o)
          → low (r.w + o) ≡ S.word x → Target a vars x → r.a ≡ v → v < 2 ^ 32 → Cont S a hi vars chans k (suc i) r.w
          → hi ≤ whole S + S.off i → Point (has_read x v k) up μ i r
      -- WAIT: TIN
      pt-wait-for : {e : Expr} {k : List Frame} {up : ℕ} {μ : Mem} {i hi : ℕ} {r : Regs} → At S i (operation I.tin) → r.a ≡ eval σ e
          → eval σ e < 2 ^ 32 → Fine S.word a vars chans r.w (WAIT e) → Cont S a hi vars chans k (suc i) r.w
          → hi ≤ whole S + S.off i → Point (before (WAIT e) k) up μ i r
      -- an ALT
      pt-alt : {gs : Guards} {k : List Frame} {up : ℕ} {μ : Mem} {i hi : ℕ} {r : Regs} → AltCode gs vars chans k hi i (r.w + 1) → hi ≤ up
          → Point (before (ALT gs) k) up μ (i + 1) r

  module _ (st : State) (vars chans : List Site) where
    abbrev σ : Store
    σ = st.store

    -- a channel word that holds a workspace of this part holds w, and a guard with a true condition inputs from it
    abbrev pub Marked : (gs : Guards) (μ : Mem) (w : ℕ) → Type 0
    Marked gs μ w = (c : Site) → Memᴰ c chans → Own a (μ (S.word c)) → (μ (S.word c) ≡ name_of w) × Guarded σ c gs

    -- before the ENBC, ENBS or ENBT of the first guard of a list, with the rest of the enabling behind it
    pub data Enables : Guards → (i : ℕ) → Regs → (i' : ℕ) → Type 0 where
      e-input : {e : Expr} {c x : Site} {s : Stmt} {gs : Guards} {i i' : ℕ} {r : Regs} → At S i (operation I.enbc) → r.a ≡ eval σ e
          → r.b ≡ S.word c → Seg S.xs (suc i) (code_enable S.word r.w gs) i' → Enables (guard (input_guard e c x) s gs) i r i'
      e-skip : {e : Expr} {s : Stmt} {gs : Guards} {i i' : ℕ} {r : Regs} → At S i (operation I.enbs) → r.a ≡ eval σ e
          → Seg S.xs (suc i) (code_enable S.word r.w gs) i' → Enables (guard (skip_guard e) s gs) i r i'
      e-time : {e t : Expr} {s : Stmt} {gs : Guards} {i i' : ℕ} {r : Regs} → At S i (operation I.enbt) → r.a ≡ eval σ e
          → r.b ≡ eval σ t → eval σ t < 2 ^ 32 → Seg S.xs (suc i) (code_enable S.word r.w gs) i'
          → Enables (guard (time_guard e t) s gs) i r i'

    -- before the DISC, DISS or DIST of the first guard of a list, whose branch is at b, with the rest of the disabling behind it
    pub data Disables : Guards → (choice b i : ℕ) → Regs → (i' : ℕ) → Type 0 where
      d-input : {e : Expr} {c x : Site} {s : Stmt} {gs : Guards} {choice b i i' : ℕ} {r : Regs} → At S i (operation I.disc)
          → r.a ≡ operand_in S.off (distance ldc b choice) → r.b ≡ eval σ e → r.c ≡ S.word c
          → Seg S.xs (suc i) (code_disable S.word r.w choice (next_branch b (input_guard e c x) s) gs) i'
          → Disables (guard (input_guard e c x) s gs) choice b i r i'
      d-skip : {e : Expr} {s : Stmt} {gs : Guards} {choice b i i' : ℕ} {r : Regs} → At S i (operation I.diss)
          → r.a ≡ operand_in S.off (distance ldc b choice) → r.b ≡ eval σ e
          → Seg S.xs (suc i) (code_disable S.word r.w choice (next_branch b (skip_guard e) s) gs) i'
          → Disables (guard (skip_guard e) s gs) choice b i r i'
      d-time : {e t : Expr} {s : Stmt} {gs : Guards} {choice b i i' : ℕ} {r : Regs} → At S i (operation I.dist)
          → r.a ≡ operand_in S.off (distance ldc b choice) → r.b ≡ eval σ e → r.c ≡ eval σ t
          → Seg S.xs (suc i) (code_disable S.word r.w choice (next_branch b (time_guard e t) s) gs) i'
          → Disables (guard (time_guard e t) s gs) choice b i r i'

  module _ (T : Times) (st : State) (vars chans : List Site) where
    -- the guards of an ALT before hs are enabled, and the state says whether one is present
    pub record Enabling (gs hs : Guards) (μ : Mem) (w : ℕ) : Type 0 where
      pub rest : (t : ℕ) × Rest gs 0 hs t
      pub marks : Marked st vars chans gs μ w
      pub state : ((μ (state_word w) ≡ enabling) × Noticed st S.word μ w gs hs) ⊎ ((μ (state_word w) ≡ ready) × AnyPresent st gs)
      pub times : timed gs ≡ true → Bringing T st gs hs μ w
      pub known : Guarding T st gs hs w

    -- the guards of an ALT before hs are disabled: no mark of theirs is left; it is Ready; a branch is chosen, or one of the rest will be
    -- found
    pub record Disabling (k : List Frame) (gs hs : Guards) (choice : ℕ) (μ : Mem) (w : ℕ) : Type 0 where
      pub marks : Marked st vars chans hs μ w
      pub state : μ (state_word w) ≡ ready
      pub chosen : ((t : ℕ) × (p : Process) × Picks T st k gs (choice + 1) t p × (μ w ≡ operand_in S.off (distance ldc t choice)))
          ⊎ ((μ w ≡ none_selected) × AnyFound st μ w hs)
      pub times : timed gs ≡ true → Passed T st gs hs μ w
      pub known : Guarding T st gs no_guard w

    -- the significant instructions of an ALT behind its first
    pub data AltPoint : Process → (up : ℕ) → Mem → ℕ → Regs → Type 0 where
      pt-enable : {gs hs : Guards} {k : List Frame} {up : ℕ} {μ : Mem} {i j hi : ℕ} {r : Regs} → AltCode gs vars chans k hi i (r.w + 1)
          → hi ≤ up → Enabling gs hs μ r.w → Enables st vars chans hs j r (i + 2 + size_enable gs) → AltPoint (before (ALT gs) k) up μ j r
      pt-wait : {gs : Guards} {k : List Frame} {up : ℕ} {μ : Mem} {i hi : ℕ} {r : Regs} → AltCode gs vars chans k hi i (r.w + 1)
          → Enabling gs no_guard μ r.w → AltPoint (before (ALT gs) k) up μ (i + 2 + size_enable gs) r
      -- disabling, and the choice
      pt-disable : {gs hs : Guards} {k : List Frame} {up : ℕ} {μ : Mem} {i j b hi : ℕ} {r : Regs}
          (c : AltCode gs vars chans k hi i (r.w + 1))
          → hi ≤ up → Rest gs (c.choice + 1) hs b → Disabling k gs hs c.choice μ r.w
          → Disables st vars chans hs c.choice b j r c.choice
          → AltPoint (at_alt gs k) up μ j r
      pt-choose : {gs : Guards} {k : List Frame} {up : ℕ} {μ : Mem} {i hi : ℕ} {r : Regs} (c : AltCode gs vars chans k hi i (r.w + 1))
          → Disabling k gs no_guard c.choice μ r.w → AltPoint (at_alt gs k) up μ c.choice r

-- before the STARTP of the branch s of a PAR whose workspace is w, at distance d, with its code at index b; then come the others
pub record StartPoint (S : Setting) (s : Stmt) (ss : Stmts) (d b first w : ℕ) (i : ℕ) (r : Regs) : Type 0 where
  pub starts : At S i (operation I.startp)
  pub child : r.a ≡ w - d
  pub same_w : r.w ≡ w
  pub place : low (S.off (suc i) + r.b) ≡ S.off b
  pub rest : Seg S.xs (suc i) (code_starts S.word (d + need s) (suc i) (b + size s + 2) ss) first
