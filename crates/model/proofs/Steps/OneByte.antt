-- One byte: a prefix is gathered, or an instruction is executed. Either way the invariant goes on, and what was done is a part of a run.
use Prim.Native.Nat.{ℕ, suc, ◌+◌, ◌-◌, ◌/◌, ◌≤◌, ◌<◌}
use native.Mathlib.Omega.{arith}
use mathlib.Core.Path.{◌≡◌, refl, sym, ap, ap₂, ◌∙◌, subst}
use mathlib.Core.Logic.{inl}
use mathlib.Core.Bool.{true, false, ◌&&◌}
use mathlib.Core.List.{List, [], ◌++◌, map, Memᴰ}
use lib.ListN.{length, get_or}
use lib.Dec.{eqb}
use borrow.Author.Tests.{eq-eqb, ne_eqb}
use Rattle.model.specs.Word.{low, after}
use Rattle.model.specs.Instruction.{Instruction, opr, function_code, operation_code, tin, Operation, operation, enbt, altend}
use Rattle.model.specs.Prefix.{gathered}
use Rattle.model.specs.History.{waits_for, notes, guards_for, passes, note_of}
use Rattle.model.specs.Code.{function_in, operand_in}
use Rattle.model.specs.Machine.{World, done, with_cpu, gathering, next}
use Rattle.model.specs.Execute.{execute}
use Rattle.model.specs.Run.{land, byte, ended, waits}
use Rattle.model.specs.Occam.{Process, State}
use Rattle.model.specs.Demand.{talk_of}
use Rattle.model.specs.declared.Setup.{Setup}
use Rattle.model.proofs.Cases.{never}
use Rattle.model.proofs.Coding.Bytes.{Standing, Completes, Turn, prefixed, last, turn, advance, lands}
use Rattle.model.proofs.Quiet.Ways.{Mem, regs_of}
use Rattle.model.proofs.Quiet.Setting.{At}
use Rattle.model.proofs.Quiet.CodeParts.{inside}
use Rattle.model.proofs.Words.Parts.{Part}
use Rattle.model.proofs.Quiet.Marks.{Settled}
use Rattle.model.proofs.Quiet.Arrivals.{Goes}
use Rattle.model.proofs.Quiet.Onwards.{AltGoes, Starts}
use Rattle.model.proofs.Invariant.Trees.{Info, Tree, bytes_left}
use Rattle.model.proofs.Invariant.Leaves.{Unmarked}
use Rattle.model.proofs.Effects.OneWord.{cpu_of}
use Rattle.model.proofs.Invariant.Kernel.{Loaded, S, root, setup, LeafAt, Rest, Lined, Real, sits-at}
use Rattle.model.proofs.Invariant.Grounds.{code-end}
use Rattle.model.proofs.Invariant.Traces.{t-none}
use Rattle.model.proofs.Invariant.Running.{Only, StartsLeft, Starting, Here, within, at-end, off_small, Now, now-goes, now-alt}
use Rattle.model.proofs.Invariant.Running.{NowStarts, Inv, runs, starts, idle, Did, came, Executes, executes, Acting}
use Rattle.model.proofs.Invariant.Moving.{relaid, relabelled, relabel}
use Rattle.model.proofs.Invariant.Reals.{real-cpu}
use Rattle.model.proofs.Quiet.PathEnds.{way-far, point-in, alt-far, start-in}
use Rattle.model.proofs.Invariant.Finish.{silent}
use Rattle.model.proofs.Steps.AltPoints.{Told}
use Rattle.model.proofs.Steps.Instructions.{way-acts, alt-acts, starts-on, starts-acts}

-- what lands where no process runs
lands-idle : (s : World) → (cpu_of s).running ≡ false → land s ≡ done tt s
unfolding land
lands-idle s e = rw e

module _ (L : Loaded) where
  pub code_is : (s : World) → s.machine.setup ≡ setup L → s.machine.setup.code ≡ length L.code
  code_is s e = ap (λ (u : Setup). u.code) e

  here_in : {at place operand : ℕ} → Here L at place operand → place ≤ length L.code
  here_in {at} (within e h) = omega (arith, h.upto, off_small L (suc at) (inside (S L) e))
  here_in {at} (at-end e h) = omega (arith, h, off_small L at (omega (arith, e)))

  now-in : {s : World} {st : State} {μ : Mem} {b : Part} {i : Info} {q : Process} → Now L s st μ b i q → (cpu_of s).place ≤ length L.code
  now-in (now-goes h way settled clean soon) = here_in h
  now-in (now-alt h way soon) = here_in h

  -- the invariant stands at a place of the code
  inv-lands : {s : World} {st : State} {n : ℕ} → Inv L s st n → land s ≡ done tt s
  inv-lands {s} (runs real run leaf rest lines now) =
      lands s run (omega (arith, now-in now, code_is s real.setup-kept))
  inv-lands {s} (starts B real run leaf rest lines now) = lands s run (omega (arith, here_in now.here, code_is s real.setup-kept))
  inv-lands {s} (idle real run operand rest) = lands-idle s run

  -- at the code's end a machine has ended
  pub at-the-end : {s : World} {st : State} {μ : Mem} {ws : List ℕ} {at : ℕ} → Real L s st μ ws
      → (cpu_of s).running ≡ true → at ≡ length (S L).xs
      → (cpu_of s).place ≡ L.off at → ended s.machine ≡ true
  at-the-end {s} real run e h = ap₂ ◌&&◌ run (eq-eqb _ _ (h ∙ ap L.off e ∙ code-end L ∙ sym (code_is s real.setup-kept)))

  -- before its end it stands in the code
  here-inside : {s : World} {st : State} {μ : Mem} {ws : List ℕ} {at o : ℕ} → Real L s st μ ws → (cpu_of s).running ≡ true
      → ended s.machine ≡ false → Here L at (cpu_of s).place o → (cpu_of s).place < length L.code
  here-inside {at = at} real run no_end (within e h) = omega (arith, h.upto, off_small L (suc at) (inside (S L) e))
  here-inside real run no_end (at-end e h) = never (cc (no_end, at-the-end real run e h))

  pub inv-inside : {s : World} {st : State} {n : ℕ} → Inv L s st n → ended s.machine ≡ false → waits s.machine ≡ false
      → (cpu_of s).place < length L.code
  inv-inside (runs real run leaf rest lines (now-goes h way settled clean soon)) no_end busy = here-inside real run no_end h
  inv-inside (runs real run leaf rest lines (now-alt h way soon)) no_end busy = here-inside real run no_end h
  inv-inside (starts B real run leaf rest lines now) no_end busy = here-inside real run no_end now.here
  inv-inside (idle real run operand rest) no_end busy = never (cc (busy, run))

  -- a byte
  abbrev pub Byte : World → World → Type 0
  Byte s t = byte L.code s ≡ done tt t

  -- what a byte tells of times is known then, and a time that was waited for in a guard may be waited for in the timer queue
  pub record Known (s : World) : Type 0 where
    pub waits : (w t : ℕ) → Memᴰ (waits_for w t) (notes L.code s.machine) → after s.machine.timer.clock t ≡ false
        → L.sleeps w t s.machine.timer.clock
    pub guards : (w t : ℕ) → Memᴰ (guards_for w t) (notes L.code s.machine)
        → L.times.guarded w t s.machine.timer.clock
    pub dozes : (w t : ℕ) → L.times.guarded w t s.machine.timer.clock → after s.machine.timer.clock t ≡ false
        → L.sleeps w t s.machine.timer.clock
    pub sure : (w : ℕ) → Memᴰ (passes w) (notes L.code s.machine) → L.times.sure

  -- what the last byte of an operation tells
  tells : {s : World} {x : Instruction} (o : Operation) → Completes L.code L.off x s → x ≡ operation o
      → notes L.code s.machine ≡ note_of (operation_code o) (cpu_of s)
  unfolding notes function_in operand_in
  tells {s} o whole e =
      let b = get_or L.code (cpu_of s).place 0 in
      let f : eqb (b / 16) (function_code opr) ≡ true = eq-eqb _ _ (whole.function ∙ ap (λ y. function_code (function_in y)) e) in
      let n : gathered (cpu_of s).operand b ≡ operation_code o = whole.operand ∙ ap (λ y. operand_in L.off y) e in
      rw f (ap (λ y. note_of y (cpu_of s)) n)

  -- so it is known where the instruction is at work
  told_at : {s : World} {x : Instruction} → Known s → Completes L.code L.off x s
      → Told L x (with_cpu (gathering 0 (advance (cpu_of s))) s)
  unfolding operation_code
  told_at {s} known whole =
      record {
        waits = λ e ahead.
            known.waits (cpu_of s).workspace (cpu_of s).a
            (subst (Memᴰ (waits_for (cpu_of s).workspace (cpu_of s).a)) (sym (tells tin whole e)) (Memᴰ.head refl)) ahead;
        guards = λ e on.
            known.guards (cpu_of s).workspace (cpu_of s).b
            (subst (Memᴰ (guards_for (cpu_of s).workspace (cpu_of s).b)) (sym (tells enbt whole e))
            (rw (ne_eqb (cpu_of s).a 0 on) (Memᴰ.head refl)));
        dozes = known.dozes;
        sure = λ e.
            known.sure (cpu_of s).workspace
            (subst (Memᴰ (passes (cpu_of s).workspace)) (sym (tells altend whole e)) (Memᴰ.head refl));
      }

  -- the last byte of an instruction executes it
  pub executing : {s u : World} {st : State} {n : ℕ} {x : Instruction} → u.talk ≡ s.talk
      → byte L.code s ≡ next (execute (function_in x) (operand_in L.off x) u) (λ z. land)
      → Did L (Executes L x u) u st n → Did L (Byte s) s st n
  executing same e (came t {cs} g (executes f) ms talk inv fewer) =
      came t g (e ∙ rw f (inv-lands inv)) ms (talk ∙ ap (λ l. l ++ map (talk_of L.prog) cs) same) inv fewer

  module _ {s : World} {st : State} {μ : Mem} {t : Tree (S L) (root L) st.process} {path : List ℕ} {q : Process} {b : Part} {i : Info}
      {ws : List ℕ} {at : ℕ} {x : Instruction} (real : Real L s st μ ws) (run : (cpu_of s).running ≡ true) (leaf : LeafAt L st t path q b i)
      (e : At (S L) at x) (h : Standing L.code L.off at x (cpu_of s).place (cpu_of s).operand) where
    below : L.off (suc at) ≤ length L.code
    below = off_small L (suc at) (inside (S L) e)

    pub turned : Turn L.code L.off at x s
    turned =
        turn L.code L.off at x s below (omega (arith, L.code-small)) (code_is s real.setup-kept) run
        h.from h.upto h.reads

    pub one_on : low (suc (cpu_of s).place) ≡ suc (cpu_of s).place
    one_on = omega (arith, h.upto, below, L.code-small)

    -- the registers at the last byte
    abbrev pub ready : World
    ready = with_cpu (gathering 0 (advance (cpu_of s))) s

    pub acting : {Out : List ℕ → Type 0} {hi : ℕ} → Rest L st μ t Out ws → Lined L st t Out ws → hi ≤ i.left + (cpu_of s).place
        → suc (cpu_of s).place ≡ L.off (suc at) → Acting L ready st μ t path q b i Out ws at hi
    acting rest lines soon pl =
        record {
          real = real-cpu L (gathering 0 (advance (cpu_of s))) refl refl refl real;
          run = run;
          leaf = leaf;
          rest = rest;
          lined = lines;
          operand = refl;
          placed = one_on ∙ pl;
          inside = inside (S L) e;
          left = omega (arith, soon, pl);
        }

    -- a prefix leaves one byte less
    gathers : {hi : ℕ} → Rest L st μ t (Only path) ws → Lined L st t (Only path) ws → hi ≤ i.left + (cpu_of s).place → L.off (suc at) ≤ hi
        → (o : ℕ) → Byte s (with_cpu (gathering o (advance (cpu_of s))) s)
        → (hi ≤ i.left - 1 + low (suc (cpu_of s).place)
        → Now L (with_cpu (gathering o (advance (cpu_of s))) s) st μ b (relaid i.w (i.left - 1) i) q)
        → Did L (Byte s) s st (bytes_left (S L) t)
    gathers rest lines soon far o eq now =
        let r = gathering o (advance (cpu_of s)) in
        let some_left : 1 ≤ i.left = omega (arith, soon, far, h.upto) in
        elim (relabel L leaf refl i.w (i.left - 1) (λ e. refl) (sits-at L leaf).placed
        (omega (arith, (sits-at L leaf).few)) rest lines) [
          | relabelled u leaf' rest' lines' bytes others ↦
              came (with_cpu r s) [] eq t-none (silent L s (with_cpu r s) refl)
              (runs (real-cpu L r refl refl refl real) run leaf' rest' lines'
              (now (omega (arith, soon, some_left, one_on))))
              (inl (omega (arith, bytes, some_left)))
        ]

    -- where the rest of an instruction stands
    onward : {o : ℕ} → Standing L.code L.off at x (suc (cpu_of s).place) o → Here L at (low (suc (cpu_of s).place)) o
    onward {o} h' = within e (subst (λ p. Standing L.code L.off at x p o) (sym one_on) h')

    -- a process on its way, in an ALT, or starting branches
    goes : {hi : ℕ} → Known s → Rest L st μ t (Only path) ws → Lined L st t (Only path) ws
        → Goes (S L) b st.store i.vars i.chans q hi μ at (regs_of (cpu_of s)) → Settled q → Unmarked (S L) b i st μ
        → hi ≤ i.left + (cpu_of s).place → Turn L.code L.off at x s → Did L (Byte s) s st (bytes_left (S L) t)
    goes known rest lines way settled clean soon (prefixed o eq h' still) =
        gathers rest lines soon (way-far (S L) (point-in (S L) b) (inside (S L) e) way) o eq
        (λ less. now-goes (onward h') way settled clean less)
    goes known rest lines way settled clean soon (last eq pl whole) =
        executing refl eq (way-acts L e (acting rest lines soon pl) (told_at known whole) settled clean way)

    goes-alt : {hi : ℕ} → Known s → Rest L st μ t (Only path) ws → Lined L st t (Only path) ws
        → AltGoes (S L) b L.times st i.vars i.chans q i.w hi μ at (regs_of (cpu_of s)) → hi ≤ i.left + (cpu_of s).place
        → Turn L.code L.off at x s
        → Did L (Byte s) s st (bytes_left (S L) t)
    goes-alt known rest lines way soon (prefixed o eq h' still) =
        gathers rest lines soon (alt-far (S L) b (inside (S L) e) way) o eq (λ less. now-alt (onward h') way less)
    goes-alt known rest lines way soon (last eq pl whole) = executing refl eq
        (alt-acts L e (acting rest lines soon pl) (told_at known whole) way)

    goes-start : (B : StartsLeft) → Rest L st μ t (Starting path B) ws → Lined L st t (Starting path B) ws
        → (now : NowStarts L s st μ t path q b i B)
        → now.at ≡ at → Turn L.code L.off at x s → Did L (Byte s) s st (bytes_left (S L) t)
    goes-start B rest lines now is (prefixed o eq h' still) =
        let r = gathering o (advance (cpu_of s)) in
        let far = way-far (S L) (start-in (S L)) (rw is (inside (S L) e)) now.way in
        let ends : L.off (suc now.at) ≡ L.off (suc at) = ap (λ n. L.off (suc n)) is in
        starts-on L B now.first-branch now.next_one now.same_w now.all-to-start now.own now.inner now.near
        now.unmarked r at real
        leaf rest lines eq refl refl refl run (onward h') (omega (arith, now.soon, one_on)) (omega (arith, now.soon, far, ends, h.upto))
        (subst (λ n. Starts (S L) st.store B.s B.ss B.d B.b B.first B.w now.hi μ n (regs_of r)) is now.way)
    goes-start B rest lines now is (last eq pl whole) =
        executing refl eq
        (starts-acts L B now.first-branch now.next_one now.same_w now.all-to-start now.own now.inner now.near
        now.unmarked (acting rest lines now.soon pl) e
        (subst (λ n. Starts (S L) st.store B.s B.ss B.d B.b B.first B.w now.hi μ n (regs_of (cpu_of s))) is
        now.way))

  -- a process that has the processor takes a byte
  pub byte-goes : {s : World} {st : State} {n : ℕ} → Inv L s st n → Known s → ended s.machine ≡ false → waits s.machine ≡ false
      → Did L (Byte s) s st n
  byte-goes (runs real run leaf rest lines (now-goes (within e h) way settled clean soon)) known no_end busy =
      goes real run leaf e h known rest lines way settled clean soon (turned real run leaf e h)
  byte-goes (runs real run leaf rest lines (now-alt (within e h) way soon)) known no_end busy =
      goes-alt real run leaf e h known rest lines way soon (turned real run leaf e h)
  byte-goes {s} (runs real run leaf rest lines (now-goes (at-end e h) way settled clean soon)) known no_end busy =
      never (cc (no_end, at-the-end real run e h))
  byte-goes {s} (runs real run leaf rest lines (now-alt (at-end e h) way soon)) known no_end busy = never
      (cc (no_end, at-the-end real run e h))
  byte-goes {s} {st} (starts {t} B real run leaf rest lines now) known no_end busy = by now.here refl
    where
      by : {k : ℕ} → Here L k (cpu_of s).place (cpu_of s).operand → now.at ≡ k → Did L (Byte s) s st (bytes_left (S L) t)
      by (within e h) is = goes-start real run leaf e h B rest lines now is (turned real run leaf e h)
      by (at-end e h) is = never (cc (no_end, at-the-end real run e h))
  byte-goes {s} (idle real run operand rest) known no_end busy = never (cc (busy, run))
