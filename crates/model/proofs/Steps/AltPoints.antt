-- The significant instructions of an ALT together, with what is known of times where they tell of them.
use Prim.Native.Nat.{ℕ, ◌+◌, ◌≤◌}
use native.Mathlib.Omega.{arith}
use mathlib.Core.Path.{◌≡◌, refl, sym, ◌∙◌, subst}
use mathlib.Core.Logic.{◌≢◌}
use mathlib.Core.Bool.{false, cond}
use mathlib.Core.List.{List, Memᴰ}
use Rattle.model.specs.Word.{after}
use Rattle.model.specs.Syntax.{input_of, ALT, Guards, no_guard, timed}
use Rattle.model.specs.Instruction.{Instruction, operation}
use Rattle.model.specs.Instruction as I
use Rattle.model.specs.Scheme.{size_enable, waits_alt}
use Rattle.model.specs.Machine.{World}
use Rattle.model.specs.Occam.{Frame, Process, before, at_alt, State, now}
use Rattle.model.proofs.Cases.{by_bool}
use Rattle.model.proofs.Quiet.Ways.{regs_of, Mem}
use Rattle.model.proofs.Quiet.Setting.{At}
use Rattle.model.proofs.Words.Parts.{Part}
use Rattle.model.proofs.Quiet.Marks.{Rest as RestOf, AltCode, Enabling, Enables, e-input, e-skip, Disabling, Disables, d-input}
use Rattle.model.proofs.Quiet.Marks.{d-skip, AltPoint, pt-enable, pt-wait, pt-disable, pt-choose, e-time, d-time}
use Rattle.model.proofs.Quiet.Onwards.{Tied, rest-timed}
use Rattle.model.proofs.Invariant.Trees.{some_same, Info, Tree, bytes_left}
use Rattle.model.proofs.Invariant.Leaves.{Unmarked}
use Rattle.model.proofs.Effects.OneWord.{cpu_of}
use Rattle.model.proofs.Invariant.Kernel.{Loaded, S, root}
use Rattle.model.proofs.Invariant.Running.{Only, Did, Executes, Acting}
use Rattle.model.proofs.Steps.Enabling.{space, does-enbc, does-enbs, does-altwt, alt-begins}
use Rattle.model.proofs.Steps.TimedAlt.{talt-begins, does-enbt}
use Rattle.model.proofs.Steps.TimedWait.{does-taltwt}
use Rattle.model.proofs.Steps.TimedDisable.{does-dist}
use Rattle.model.proofs.Steps.Disabling.{does-disc, does-diss, does-altend}

-- what is known where an instruction is at work: at TIN, at ENBT with a true condition, at TALTWT, and at ALTEND
pub record Told (L : Loaded) (x : Instruction) (s : World) : Type 0 where
  pub waits : x ≡ operation I.tin → after s.machine.timer.clock (cpu_of s).a ≡ false
      → L.sleeps (cpu_of s).workspace (cpu_of s).a s.machine.timer.clock
  pub guards : x ≡ operation I.enbt → (cpu_of s).a ≢ 0 → L.times.guarded (cpu_of s).workspace (cpu_of s).b s.machine.timer.clock
  pub dozes : (w u : ℕ) → L.times.guarded w u s.machine.timer.clock → after s.machine.timer.clock u ≡ false
      → L.sleeps w u s.machine.timer.clock
  pub sure : x ≡ operation I.altend → L.times.sure

-- the instruction at an index is the one that executes
pub same-does : (L : Loaded) (at : ℕ) {s : World} {st : State} {n : ℕ} {x y : Instruction} → At (S L) at x → At (S L) at y
    → Did L (Executes L y s) s st n → Did L (Executes L x s) s st n
same-does L at {s} {st} {n} e f h = subst (λ z. Did L (Executes L z s) s st n) (some_same (sym f ∙ e)) h

-- an ALT begins, with a time guard or without one
pub alt-begins-at : (L : Loaded) {s : World} {st : State} {μ : Mem} {t : Tree (S L) (root L) st.process} {path : List ℕ} {b : Part}
    {i : Info} {ws : List ℕ} {hi : ℕ} {gs : Guards} {k : List Frame} {hi₀ i₀ : ℕ}
    (A : Acting L s st μ t path (before (ALT gs) k) b i (Only path) ws (i₀ + 1) hi)
    (c : AltCode (S L) b gs i.vars i.chans k hi₀ i₀ (space s + 1)) {x : Instruction} → At (S L) (i₀ + 1) x → hi₀ ≤ hi
    → Unmarked (S L) b i st μ → Did L (Executes L x s) s st (bytes_left (S L) t)
alt-begins-at L {gs = gs} {i₀ = i₀} A c here near clean =
    by_bool (timed gs)
    (λ e.
    same-does L (i₀ + 1) here (subst (λ z. At (S L) (i₀ + 1) (operation (cond z I.talt I.alt))) e c.begins)
    (talt-begins L A c e refl near clean))
    (λ e.
    same-does L (i₀ + 1) here (subst (λ z. At (S L) (i₀ + 1) (operation (cond z I.talt I.alt))) e c.begins)
    (alt-begins L A c refl near clean e))

module _ (L : Loaded) {s : World} {st : State} {μ : Mem} {t : Tree (S L) (root L) st.process} {path : List ℕ} {b : Part} {i : Info}
    {ws : List ℕ} {at hi : ℕ} {gs : Guards} {k : List Frame} {x : Instruction} (here : At (S L) at x) (told : Told L x s) where
  -- ENBC, ENBS or ENBT
  enable-point : Acting L s st μ t path (before (ALT gs) k) b i (Only path) ws at hi → {hi₀ i₀ : ℕ}
      → AltCode (S L) b gs i.vars i.chans k hi₀ i₀ (space s + 1) → hi₀ ≤ hi → {hs : Guards}
      → Enabling (S L) b L.times st i.vars i.chans gs hs μ (space s)
      → Enables (S L) b st i.vars i.chans hs at (regs_of (cpu_of s)) (i₀ + 2 + size_enable gs)
      → Did L (Executes L x s) s st (bytes_left (S L) t)
  enable-point A c near n (e-input {e} {c = y} {x = z} {s = g} {gs = hs} f val chan code) =
      same-does L at here f (does-enbc L A c e y z g hs near n val chan code)
  enable-point A c near n (e-skip {e} {s = g} {gs = hs} f val code) = same-does L at here f (does-enbs L A c e g hs near n val code)
  enable-point A c near n (e-time {e} {t = u} {s = g} {gs = hs} f val time small code) =
      let clock : s.machine.timer.clock ≡ now st = A.real.timed.clock-read in
      same-does L at here f
      (does-enbt L A c (rest-timed n.rest.1) e u g hs near n val time small code
      (λ on.
      subst (λ v. L.times.guarded (space s) v (now st)) time
      (subst (L.times.guarded (space s) (cpu_of s).b) clock (told.guards (some_same (sym here ∙ f)) on)))
      (omega (arith, clock, A.real.timed.clock-word)))

  -- ALTWT or TALTWT
  wait-point : Acting L s st μ t path (before (ALT gs) k) b i (Only path) ws at hi → {hi₀ i₀ : ℕ}
      → AltCode (S L) b gs i.vars i.chans k hi₀ i₀ (space s + 1) → at ≡ i₀ + 2 + size_enable gs
      → Enabling (S L) b L.times st i.vars i.chans gs no_guard μ (space s) → Did L (Executes L x s) s st (bytes_left (S L) t)
  wait-point A {i₀ = i₀} c is n =
      let waits = subst (λ z. At (S L) z (operation (waits_alt gs))) (sym is) c.waits in
      let clock : s.machine.timer.clock ≡ now st = A.real.timed.clock-read in
      by_bool (timed gs)
      (λ e.
      same-does L at here (subst (λ z. At (S L) at (operation (cond z I.taltwt I.altwt))) e waits)
      (does-taltwt L A c e is n (λ u.
      subst (λ z. L.times.guarded (space s) u z → after z u ≡ false → L.sleeps (space s) u z) clock (told.dozes (space s) u))))
      (λ e. same-does L at here (subst (λ z. At (S L) at (operation (cond z I.taltwt I.altwt))) e waits) (does-altwt L A c e is n))

  -- DISC, DISS or DIST
  disable-point : ((l : ℕ) → Memᴰ (input_of l) (root L).outputs → ⊥) → Acting L s st μ t path (at_alt gs k) b i (Only path) ws at hi
      → {hi₀ i₀ : ℕ} (c : AltCode (S L) b gs i.vars i.chans k hi₀ i₀ (space s + 1)) → space s ≡ i.w → hi₀ ≤ hi
      → {hs : Guards} {m : ℕ} → RestOf gs (c.choice + 1) hs m
      → Disabling (S L) b L.times st i.vars i.chans k gs hs c.choice μ (space s)
      → Disables (S L) b st i.vars i.chans hs c.choice m at (regs_of (cpu_of s)) c.choice
      → Did L (Executes L x s) s st (bytes_left (S L) t)
  disable-point one_way A c tied near past n (d-input {e} {c = y} {x = z} {s = g} {gs = hs} f branch val chan code) =
      same-does L at here f (does-disc L A c tied e y z g hs near past n branch val chan code one_way)
  disable-point one_way A c tied near past n (d-skip {e} {s = g} {gs = hs} f branch val code) =
      same-does L at here f (does-diss L A c tied e g hs near past n branch val code)
  disable-point one_way A c tied near past n (d-time {e} {t = u} {s = g} {gs = hs} f branch val time code) =
      same-does L at here f (does-dist L A c tied (rest-timed past) e u g hs near past n branch val time code)

-- every significant instruction of an ALT behind its first, where no process outputs to an outside input
pub alt-point : (L : Loaded) → ((l : ℕ) → Memᴰ (input_of l) (root L).outputs → ⊥) → {s : World} {st : State} {μ : Mem}
    {t : Tree (S L) (root L) st.process} {path : List ℕ} {q : Process} {b : Part} {i : Info} {ws : List ℕ} {at hi : ℕ}
    → Acting L s st μ t path q b i (Only path) ws at hi → {x : Instruction} → At (S L) at x → Told L x s → Tied q (space s) i.w
    → AltPoint (S L) b L.times st i.vars i.chans q hi μ at (regs_of (cpu_of s)) → Did L (Executes L x s) s st (bytes_left (S L) t)
alt-point L one_way A here told tied (pt-enable c near n p) = enable-point L here told A c near n p
alt-point L one_way A here told tied (pt-wait c n) = wait-point L here told A c refl n
alt-point L one_way A here told tied (pt-disable c near past n p) = disable-point L here told one_way A c tied near past n p
alt-point L one_way A here told tied (pt-choose c n) =
    same-does L c.choice here c.ends (does-altend L A c tied refl (told.sure (some_same (sym here ∙ c.ends))) n)
