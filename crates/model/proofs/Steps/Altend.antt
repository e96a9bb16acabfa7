-- The last byte of an ALTEND is that of a process in an ALT whose guards are all disabled. Behind it nothing need be known of the times of
-- these guards, so what is known of times may be less then.
use Prim.Native.Nat.{ℕ, suc, ◌+◌, ◌≤◌, ◌/◌}
use native.Mathlib.Omega.{arith}
use mathlib.Core.Path.{◌≡◌, refl, sym, ap, ◌∙◌, subst}
use mathlib.Core.Logic.{◌≢◌, ⊎_elim}
use mathlib.Core.Bool.{true, false, cond}
use mathlib.Core.List.{List, Memᴰ}
use lib.ListN.{get_or}
use borrow.Author.Tests.{le-ltb}
use Rattle.model.specs.Syntax.{Site, Guards, no_guard, timed, Stmt, Stmts}
use Rattle.model.specs.Instruction.{Instruction, Function, plain, operation, operation_of, operation_code, coded, function_code, opr}
use Rattle.model.specs.Instruction.{distance, function_of}
use Rattle.model.specs.Instruction as I
use Rattle.model.specs.Code.{function_in, operand_in}
use Rattle.model.specs.Machine.{World, faults, with_cpu, work, peek, time_word}
use Rattle.model.specs.Alternative.{end_alt}
use Rattle.model.specs.Execute.{execute, operate}
use Rattle.model.specs.Occam.{Frame, Process, at_alt, Store, State, now, look}
use Rattle.model.specs.declared.FaultKind.TheVariants.{Word}
use Rattle.model.proofs.Cases.{never, by_bool}
use Rattle.model.proofs.Quiet.Ways.{Mem, Regs, regs_of, Quiet, Way, arrived, through, quiet, loads, stores, reloads, jumps, falls}
use Rattle.model.proofs.Quiet.Setting.{At}
use Rattle.model.proofs.Quiet.CodeParts.{inside}
use Rattle.model.proofs.Quiet.Marks.{AltCode, Disabling, Point, AltPoint, pt-stop, pt-assign, pt-var, pt-chan, pt-taken, pt-none}
use Rattle.model.proofs.Quiet.Marks.{pt-while, pt-in, pt-out, pt-par-place, pt-par-count, pt-end, pt-read, pt-store, pt-wait-for}
use Rattle.model.proofs.Quiet.Marks.{pt-alt, pt-enable, pt-wait, pt-disable, pt-choose, e-input, e-skip, e-time, d-input, d-skip}
use Rattle.model.proofs.Quiet.Marks.{d-time}
use Rattle.model.proofs.Words.Parts.{Part}
use Rattle.model.proofs.Effects.OneWord.{cpu_of, size_of}
use Rattle.model.proofs.Invariant.Trees.{some_same, Info, Tree, bytes_left}
use Rattle.model.proofs.Invariant.Kernel.{Loaded, S, root, LeafAt, Dozer, at-wait, in-alt as dozes-alt, sleeper, linked-in, Real}
use Rattle.model.proofs.Invariant.Kernel.{Rest, Lined}
use Rattle.model.proofs.Invariant.Running.{Only, Acting, Did, Executes, Inv, runs, starts, idle, within, now-goes, now-alt, Here}
use Rattle.model.proofs.Invariant.Running.{at-end as past_end}
use Rattle.model.proofs.Quiet.Onwards.{Tied, AltGoes, alt-goes, Starts}
use Rattle.model.proofs.Quiet.Arrivals.{Goes}
use Rattle.model.proofs.Quiet.Timing.{Times, Onto, Linked}
use Rattle.model.proofs.Words.Times.{Near}
use Rattle.model.proofs.Invariant.Context.{sleeping, real-context, leaf-context, rest-context, lined-context}
use Rattle.model.proofs.Invariant.Moving.{other-w}
use Rattle.model.proofs.Occam.Paths.{same-path, is_alt}
use Rattle.model.proofs.Steps.Disabling.{unlinked, does-altend}
use Rattle.model.proofs.Steps.AltPoints.{same-does}
use Rattle.model.proofs.Coding.Bytes.{Completes, Turn, prefixed, last, function-found, Standing}
use Rattle.model.specs.Prefix.{gathered}
use mathlib.Core.Option.{Option, some}
use Rattle.model.proofs.Steps.OneByte.{Byte, turned, ready, acting, executing, at-the-end, one_on}
use Rattle.model.specs.Run.{ended, waits}

-- the function and the operand of ALTEND
pub record Ends (off : ℕ → ℕ) (x : Instruction) : Type 0 where
  pub function : function_in x ≡ opr
  pub operand : operand_in off x ≡ operation_code I.altend

-- a workspace outside memory: ALTEND faults, so it is no quiet instruction
exec-outside : (s : World) → size_of s ≤ (cpu_of s).workspace → execute opr (operation_code I.altend) s ≡ faults (Word (cpu_of s).workspace)
unfolding execute operate operation_of operation_code coded end_alt peek
exec-outside s h = rw (le-ltb _ _ h)

not-quiet : (s : World) (p : ℕ) (g : Regs → Regs) → (cpu_of s).place ≡ p → Quiet p opr (operation_code I.altend) g → ⊥
not-quiet s p g e q =
    let u = with_cpu (work (size_of s) (cpu_of s)) s in
    let same : size_of s ≤ size_of s = omega arith in
    never (cc (sym (q u e) ∙ exec-outside u same))

-- an instruction where ALTEND is
module _ (L : Loaded) where
  there : (at : ℕ) {x y : Instruction} → At (S L) at x → Ends L.off x → At (S L) at y → Ends L.off y
  there at here ends a = subst (Ends L.off) (some_same (sym here ∙ a)) ends

  -- another function
  elsewhere : (at : ℕ) {x : Instruction} (f : Function) {n : ℕ} → f ≢ opr → At (S L) at x → Ends L.off x → At (S L) at (plain f n) → ⊥
  unfolding function_in
  elsewhere at f d here ends a = d (there at here ends a).function

  further : (at : ℕ) {x : Instruction} (f : Function) {r u : ℕ} → f ≢ opr → At (S L) at x → Ends L.off x → At (S L) at (distance f r u)
      → ⊥
  unfolding function_in
  further at f d here ends a = d (there at here ends a).function

  -- another operation
  operates : (at : ℕ) {x : Instruction} (o : I.Operation) → operation_code o ≢ operation_code I.altend → At (S L) at x → Ends L.off x
      → At (S L) at (operation o) → ⊥
  unfolding operand_in
  operates at o d here ends a = d (there at here ends a).operand

  -- no significant instruction outside an ALT is there
  not-point : {at : ℕ} {x : Instruction} → At (S L) at x → Ends L.off x → {b : Part} {σ : Store} {vars chans : List Site} {q : Process}
      {hi : ℕ} {μ : Mem} {r : Regs} → Point (S L) b σ vars chans q hi μ at r → ⊥
  unfolding operation_code
  not-point here ends (pt-stop a c) = operates _ I.stopp (λ e. absurd (omega (arith, e))) here ends a
  not-point here ends (pt-assign a w f v small c n) = elsewhere _ I.stl (λ e. never (cc)) here ends a
  not-point here ends (pt-read a y w f c l n) = operates _ I.ldtimer (λ e. absurd (omega (arith, e))) here ends a
  not-point here ends (pt-store a w f e small c n) = elsewhere _ I.stl (λ e. never (cc)) here ends a
  not-point here ends (pt-var {j = m} op f l j e z k) =
      elsewhere _ I.stl (λ e. never (cc)) here ends (subst (λ n. At (S L) n (plain I.stl m)) (sym e) (op.inits _ j).1)
  not-point here ends (pt-chan {j = m} op f l j e z k) =
      elsewhere _ I.stl (λ e. never (cc)) here ends (subst (λ n. At (S L) n (plain I.stl m)) (sym e) (op.inits _ j).1)
  not-point here ends (pt-taken d a v fa e g f c n) = further _ I.cj (λ e. never (cc)) here ends a
  not-point here ends (pt-none a c fa e) = operates _ I.stopp (λ e. absurd (omega (arith, e))) here ends a
  not-point here ends (pt-while a l fe v g f c n d m) = further _ I.cj (λ e. never (cc)) here ends a
  not-point here ends (pt-in a v c y f k n) = operates _ I.«in» (λ e. absurd (omega (arith, e))) here ends a
  not-point here ends (pt-out a v small c f y k n) = operates _ I.outword (λ e. absurd (omega (arith, e))) here ends a
  not-point here ends (pt-par-place a y z c v l) = elsewhere _ I.stl (λ e. never (cc)) here ends a
  not-point here ends (pt-par-count a v c m) = elsewhere _ I.stl (λ e. never (cc)) here ends a
  not-point here ends (pt-end e a v w) = operates _ I.endp (λ e. absurd (omega (arith, e))) here ends a
  not-point here ends (pt-wait-for a v small f c n) = operates _ I.tin (λ e. absurd (omega (arith, e))) here ends a
  not-point {at} here ends (pt-alt {gs} c l) =
      by_bool (timed gs)
      (λ e.
      operates _ I.talt (λ e. absurd (omega (arith, e))) here ends
      (subst (λ z. At (S L) at (operation (cond z I.talt I.alt))) e c.begins))
      (λ e.
      operates _ I.alt (λ e. absurd (omega (arith, e))) here ends
      (subst (λ z. At (S L) at (operation (cond z I.talt I.alt))) e c.begins))

  -- in an ALT it is that of the ALT's end
  pub data AtEnd (s : World) (st : State) (μ : Mem) (b : Part) (i : Info) (at : ℕ) : Process → Type 0 where
    at-end : {gs : Guards} {k : List Frame} {hi i₀ : ℕ} (c : AltCode (S L) b gs i.vars i.chans k hi i₀ ((cpu_of s).workspace + 1))
        → (cpu_of s).workspace ≡ i.w → at ≡ c.choice
        → Disabling (S L) b L.times st i.vars i.chans k gs no_guard c.choice μ (cpu_of s).workspace → AtEnd s st μ b i at
        (at_alt gs k)

  in-alt : {at : ℕ} {x : Instruction} → At (S L) at x → Ends L.off x → {s : World} {st : State} {b : Part} {i : Info} {q : Process}
      {hi : ℕ} {μ : Mem} → Tied q (cpu_of s).workspace i.w
      → AltPoint (S L) b L.times st i.vars i.chans q hi μ at (regs_of (cpu_of s)) → AtEnd s st μ b i at q
  unfolding operation_code
  in-alt here ends tied (pt-enable c near n (e-input a v w k)) = absurd (operates _ I.enbc (λ e. absurd (omega (arith, e))) here ends a)
  in-alt here ends tied (pt-enable c near n (e-skip a v k)) = absurd (operates _ I.enbs (λ e. absurd (omega (arith, e))) here ends a)
  in-alt here ends tied (pt-enable c near n (e-time a v w z k)) = absurd (operates _ I.enbt (λ e. absurd (omega (arith, e))) here ends a)
  in-alt {at} here ends tied (pt-wait {gs} c n) =
      by_bool (timed gs)
      (λ e.
      absurd (operates _ I.taltwt (λ e. absurd (omega (arith, e))) here ends
      (subst (λ z. At (S L) at (operation (cond z I.taltwt I.altwt))) e c.waits)))
      (λ e.
      absurd (operates _ I.altwt (λ e. absurd (omega (arith, e))) here ends
      (subst (λ z. At (S L) at (operation (cond z I.taltwt I.altwt))) e c.waits)))
  in-alt here ends tied (pt-disable c near p n (d-input a v w z k)) = absurd
      (operates _ I.disc (λ e. absurd (omega (arith, e))) here ends a)
  in-alt here ends tied (pt-disable c near p n (d-skip a v w k)) = absurd (operates _ I.diss (λ e. absurd (omega (arith, e))) here ends a)
  in-alt here ends tied (pt-disable c near p n (d-time a v w z k)) = absurd (operates _ I.dist (λ e. absurd (omega (arith, e))) here ends a)
  in-alt here ends tied (pt-choose c n) = at-end c tied refl n

module _ (L : Loaded) (s : World) {at : ℕ} {x : Instruction} (here : At (S L) at x) (ends : Ends L.off x)
    (placed : (cpu_of s).place ≡ L.off (suc at)) where
  -- a path begins with a significant instruction
  pub at-point : {X : Type 0} {P : ℕ → Mem → ℕ → Regs → Type 0} {E : Type 0} {σ : Store} {R : Site → Type 0} {Free C : ℕ → Type 0} {hi : ℕ}
      {μ : Mem} {r : Regs} → (P hi μ at r → X) → Way (S L).xs (S L).off (S L).word P E σ R Free C hi μ at r → X
  at-point point (arrived p h) = point p
  at-point point (through e h f) = absurd (omega (arith, inside (S L) here))
  at-point point (quiet {x = y} g a q v) =
      let e = there L at here ends a in
      absurd (not-quiet s (L.off (suc at)) g placed
      (subst (λ n. Quiet (L.off (suc at)) opr n g) e.operand
      (subst (λ f. Quiet (L.off (suc at)) f (operand_in L.off y) g) e.function q)))
  at-point point (loads y a e l v) = absurd (elsewhere L at I.ldl (λ e. never (cc)) here ends a)
  at-point point (stores v a e m w) = absurd (elsewhere L at I.stl (λ e. never (cc)) here ends a)
  at-point point (reloads v a e m w) = absurd (elsewhere L at I.ldl (λ e. never (cc)) here ends a)
  at-point point (jumps a k c reach v) = absurd (further L at I.j (λ e. never (cc)) here ends a)
  at-point point (falls a k z f v) = absurd (further L at I.cj (λ e. never (cc)) here ends a)

  not-goes : {σ : Store} {b : Part} {vars chans : List Site} {q : Process} {hi : ℕ} {μ : Mem}
      → Goes (S L) b σ vars chans q hi μ at (regs_of (cpu_of s)) → ⊥
  not-goes way = at-point (not-point L here ends) way

  goes_end : {st : State} {b : Part} {i : Info} {q : Process} {hi : ℕ} {μ : Mem}
      → AltGoes (S L) b L.times st i.vars i.chans q i.w hi μ at (regs_of (cpu_of s)) → AtEnd L s st μ b i at q
  goes_end {i = i} {q} (alt-goes w tied way) =
      at-point (λ p. in-alt L here ends (subst (λ z. Tied q z i.w) (sym p.1) tied) p.0) way

  not-starts : {σ : Store} {r : Stmt} {rs : Stmts} {d b first w hi : ℕ} {μ : Mem}
      → Starts (S L) σ r rs d b first w hi μ at (regs_of (cpu_of s)) → ⊥
  unfolding operation_code
  not-starts way = at-point (λ p. operates L at I.startp (λ e. absurd (omega (arith, e))) here ends p.starts) way

-- behind it something else is known of times, but of those of its own workspace nothing need be
module _ (L : Loaded) (Q : (w t clock : ℕ) → Type 0) (T : Times) (near : T.sure → (w t clock : ℕ) → Q w t clock → Near clock t)
    (near-G : T.sure → (w t clock : ℕ) → T.guarded w t clock → Near clock t) (sure : L.times.sure) where
  abbrev M : Loaded
  M = sleeping L Q T near near-G

  -- what is then known of other processes
  pub record Others (w : ℕ) (clock : ℕ) : Type 0 where
    pub onto : (v : ℕ) → v ≢ w → Onto L.times T v clock clock
    pub known : (v t : ℕ) → v ≢ w → L.sleeps v t clock → Q v t clock

  module _ {s : World} {st : State} {μ : Mem} {t : Tree (S L) (root L) st.process} {path : List ℕ} {b : Part} {i : Info} {ws : List ℕ}
      {at hi : ℕ} {gs : Guards} {k : List Frame} (A : Acting L s st μ t path (at_alt gs k) b i (Only path) ws at hi)
      (others : Others (cpu_of s).workspace (now st)) {hi₀ i₀ : ℕ}
      (c : AltCode (S L) b gs i.vars i.chans k hi₀ i₀ ((cpu_of s).workspace + 1)) (tied : (cpu_of s).workspace ≡ i.w)
      (is : at ≡ c.choice)
      (n : Disabling (S L) b L.times st i.vars i.chans k gs no_guard c.choice μ (cpu_of s).workspace) where
    -- it is not in the timer queue
    absent : (w : ℕ) → Memᴰ w A.rest.sleepers.asleep → w ≢ (cpu_of s).workspace
    absent w m e = elim (A.rest.sleepers.each w m) [
      | sleeper {path = other} l f a d ↦
          ⊎_elim (λ p. mine p l d) (λ u. other-w L A.leaf l u (sym (f ∙ e ∙ tied))) (same-path path other)
    ]
      where
        mine : {other : List ℕ} {q : Process} {c : Part} {j : Info} → path ≡ other → LeafAt L st t other q c j → Dozer L (Only path) other q
            → ⊥
        mine p l (at-wait u) = u p
        mine p l (dozes-alt z) =
            let same : timed gs ≡ true =
            ap is_alt (some_same (sym A.leaf.found ∙ ap (λ y. look y st.process) p ∙ l.found)) ∙ z in
            unlinked L A c tied is sure n same (subst (Linked μ) (e ∙ tied) (linked-in L A.rest w m))

    acting-then : Acting M s st μ t path (at_alt gs k) b i (Only path) ws at hi
    acting-then =
        record {
          real = real-context L Q T near near-G A.real;
          run = A.run;
          leaf = leaf-context L Q T near near-G A.leaf;
          rest = rest-context L Q T near near-G A.rest (λ o. sure)
              (λ other q d j l u. others.onto j.w (λ e. other-w L A.leaf l u (sym (e ∙ tied))))
              (λ w m z. others.known w (μ (time_word w)) (absent w m) z);
          lined = lined-context L Q T near near-G A.lined;
          operand = A.operand;
          placed = A.placed;
          inside = A.inside;
          left = A.left;
        }

    altend-then : Did M (Executes M (operation I.altend) s) s st (bytes_left (S L) t)
    altend-then = does-altend M acting-then c tied is {T = L.times} sure n

  end-then : {s : World} {st : State} {μ : Mem} {t : Tree (S L) (root L) st.process} {path : List ℕ} {q : Process} {b : Part} {i : Info}
      {ws : List ℕ} {at hi : ℕ} {x : Instruction} → At (S L) at x → Acting L s st μ t path q b i (Only path) ws at hi
      → Others (cpu_of s).workspace (now st) → AtEnd L s st μ b i at q → Did M (Executes M x s) s st (bytes_left (S L) t)
  end-then {at = at} here A others (at-end c tied is n) =
      same-does M at here (subst (λ z. At (S L) z (operation I.altend)) (sym is) c.ends) (altend-then A others c tied is n)

  -- the last byte of ALTEND
  module _ {s : World} (function : get_or L.code (cpu_of s).place 0 / 16 ≡ function_code opr)
      (operand : gathered (cpu_of s).operand (get_or L.code (cpu_of s).place 0) ≡ operation_code I.altend) where
    ends_so : {x : Instruction} → Completes L.code L.off x s → Ends L.off x
    ends_so {x} whole =
        record {
          function = some-function (sym (function-found (function_in x)) ∙ ap function_of (sym whole.function ∙ function)
              ∙ function-found opr);
          operand = sym whole.operand ∙ operand;
        }
      where
        some-function : {f g : Function} → ◌≡◌ {A = Option Function} (some f) (some g) → f ≡ g
        some-function e = cc

    module _ {st : State} {μ : Mem} {t : Tree (S L) (root L) st.process} {path : List ℕ} {q : Process} {b : Part} {i : Info}
        {ws : List ℕ} {at : ℕ} {x : Instruction} (real : Real L s st μ ws) (run : (cpu_of s).running
        ≡ true) (leaf : LeafAt L st t path q b i)
        (e : At (S L) at x) (h : Standing L.code L.off at x (cpu_of s).place (cpu_of s).operand) where
      abbrev now-ready : World
      now-ready = ready L real run leaf e h

      placed-then : suc (cpu_of s).place ≡ L.off (suc at) → (cpu_of now-ready).place ≡ L.off (suc at)
      placed-then pl = one_on L real run leaf e h ∙ pl

      never-goes : {hi : ℕ} → Goes (S L) b st.store i.vars i.chans q hi μ at (regs_of (cpu_of s)) → Turn L.code L.off at x s
          → ⊥
      never-goes way (prefixed o eq h' still) = still function
      never-goes way (last eq pl whole) = not-goes L now-ready e (ends_so whole) (placed-then pl) way

      never-starts : {r : Stmt} {rs : Stmts} {d c first w hi : ℕ} → Starts (S L) st.store r rs d c first w hi μ at (regs_of (cpu_of s))
          → Turn L.code L.off at x s → ⊥
      never-starts way (prefixed o eq h' still) = still function
      never-starts way (last eq pl whole) = not-starts L now-ready e (ends_so whole) (placed-then pl) way

      ends-alt : {hi : ℕ} → Rest L st μ t (Only path) ws → Lined L st t (Only path) ws
          → AltGoes (S L) b L.times st i.vars i.chans q i.w hi μ at (regs_of (cpu_of s)) → hi ≤ i.left + (cpu_of s).place
          → Others (cpu_of s).workspace (now st) → Turn L.code L.off at x s → Did M (Byte M s) s st (bytes_left (S L) t)
      ends-alt rest lines way soon others (prefixed o eq h' still) = absurd (still function)
      ends-alt rest lines way soon others (last eq pl whole) =
          executing M refl eq
          (end-then e (acting L real run leaf e h rest lines soon pl) others (goes_end L now-ready e (ends_so whole) (placed-then pl) way))

    pub byte-ends : {st : State} {n : ℕ} → Inv L s st n → Others (cpu_of s).workspace (now st) → ended s.machine ≡ false
        → waits s.machine ≡ false → Did M (Byte M s) s st n
    byte-ends (runs real run leaf rest lines (now-goes (within e h) way settled clean soon)) others no_end busy =
        absurd (never-goes real run leaf e h way (turned L real run leaf e h))
    byte-ends (runs real run leaf rest lines (now-alt (within e h) way soon)) others no_end busy =
        ends-alt real run leaf e h rest lines way soon others (turned L real run leaf e h)
    byte-ends (runs real run leaf rest lines (now-goes (past_end e h) way settled clean soon)) others no_end busy =
        never (cc (no_end, at-the-end L real run e h))
    byte-ends (runs real run leaf rest lines (now-alt (past_end e h) way soon)) others no_end busy =
        never (cc (no_end, at-the-end L real run e h))
    byte-ends {st} (starts {μ} B real run leaf rest lines now) others no_end busy = absurd (by now.here refl)
      where
        by : {k : ℕ} → Here L k (cpu_of s).place (cpu_of s).operand → now.at ≡ k → ⊥
        by (within e h) is =
            never-starts real run leaf e h
            (subst (λ n. Starts (S L) st.store B.s B.ss B.d B.b B.first B.w now.hi μ n (regs_of (cpu_of s))) is
            now.way) (turned L real run leaf e h)
        by (past_end e h) is = never (cc (no_end, at-the-end L real run e h))
    byte-ends (idle real run operand rest) others no_end busy = never (cc (busy, run))
