-- How an instruction's case ends: the process goes on without a step, a step was taken and it settles, or it leaves the processor.
use Prim.Native.Nat.{ℕ, suc, ◌+◌, ◌-◌, ◌≤◌, ◌<◌}
use native.Mathlib.Omega.{arith}
use mathlib.Core.Path.{◌≡◌, refl, sym, ◌∙◌}
use mathlib.Core.Logic.{◌⊎◌, inl, inr, ⊎_elim}
use mathlib.Core.Bool.{true}
use mathlib.Core.List.{List, [], ◌∷◌, ◌++◌, map, append-nil}
use lib.ListN.{length}
use Rattle.model.specs.Machine.{World, done, release}
use Rattle.model.specs.Occam.{Process, State, Communication, Step}
use Rattle.model.specs.Demand.{step, Segment, steps, talk_of}
use Rattle.model.proofs.Quiet.Ways.{regs_of, Mem}
use Rattle.model.proofs.Words.Parts.{Part}
use Rattle.model.proofs.Quiet.Marks.{Settled}
use Rattle.model.proofs.Quiet.Arrivals.{Goes}
use Rattle.model.proofs.Quiet.Onwards.{AltGoes}
use Rattle.model.proofs.Invariant.Trees.{Info, Tree, bytes_left}
use Rattle.model.proofs.Invariant.Leaves.{Unmarked}
use Rattle.model.proofs.Effects.OneWord.{cpu_of}
use Rattle.model.proofs.Invariant.Kernel.{Loaded, S, root, Timed, setup, Rest, Lined, Real, sits-at}
use Rattle.model.proofs.Invariant.Traces.{Trace, t-none, t-step, trace-then, steps_then}
use Rattle.model.proofs.Invariant.Running.{Only, fresh, Now, now-goes, now-alt, Inv, runs, starts, idle, Did, came, Acting}
use Rattle.model.proofs.Invariant.Moving.{relaid, relabelled, relabel}
use Rattle.model.proofs.Invariant.Scheduling.{Settles, settles, LetGo, let_go}
use Rattle.model.proofs.Quiet.PathEnds.{way-bound, point-in, alt-bound}

module _ (L : Loaded) where
  -- what the start fixed stays
  pub inv-setup : {s : World} {st : State} {n : ℕ} → Inv L s st n → s.machine.setup ≡ setup L
  inv-setup (runs real run leaf rest lines now) = real.setup-kept
  inv-setup (starts B real run leaf rest lines now) = real.setup-kept
  inv-setup (idle real run operand rest) = real.setup-kept

  -- the clock is Occam's
  pub inv-timed : {s : World} {st : State} {n : ℕ} → Inv L s st n → Timed s.machine.timer st.clock
  inv-timed (runs real run leaf rest lines now) = real.timed
  inv-timed (starts B real run leaf rest lines now) = real.timed
  inv-timed (idle real stop operand rest) = real.timed

  -- moves were made, with a step among them, and the process has settled
  pub then-settles : {did : World → Type 0} {s u : World} {st st₁ : State} {cs : List Communication} {g : Segment} {m k n n₀ : ℕ}
      → Trace st g st₁ cs [] → 0 < steps g → did u → u.talk ≡ s.talk ++ map (talk_of L.prog) cs → Settles L u st₁ m k n
      → Did L did s st n₀
  then-settles {u = u} {g = g} ms some-step ran talk (settles h ns inv e) =
      came u (g ++ h) ran (trace-then ms ns) talk inv (inr (omega (arith, steps_then g h)))

  -- one step, and the process has settled
  pub step-settles : {did : World → Type 0} {s u : World} {st st₁ : State} {m k n n₀ : ℕ} → Step st [] st₁ → did u
      → u.talk ≡ s.talk ++ map (talk_of L.prog) [] → Settles L u st₁ m k n → Did L did s st n₀
  step-settles {st₁ = st₁} one ran talk h = then-settles {g = step [] st₁ ∷ []} (t-step one t-none) (omega arith) ran talk h

  -- moves were made, and the processor is let go; without a step fewer bytes are left
  pub then-lets-go : {did : World → Type 0} {s u : World} {st st₁ : State} {cs : List Communication} {g : Segment} {m n : ℕ}
      → Trace st g st₁ cs [] → (m < n) ⊎ (0 < steps g) → ((v : World) → release u ≡ done tt v → v.machine.setup ≡ setup L → did v)
      → u.talk ≡ s.talk ++ map (talk_of L.prog) cs → LetGo L u st₁ m → Did L did s st n
  then-lets-go {g = g} ms fewer ran talk (let_go v h e f ns inv) =
      came v (g ++ h) (ran v e (inv-setup inv)) (trace-then ms ns) (f ∙ talk) inv
      (⊎_elim (λ l. inl l) (λ l. inr (omega (arith, steps_then g h))) fewer)

  pub step-lets-go : {did : World → Type 0} {s u : World} {st st₁ : State} {m n : ℕ} → Step st [] st₁
      → ((v : World) → release u ≡ done tt v → v.machine.setup ≡ setup L → did v) → u.talk ≡ s.talk ++ map (talk_of L.prog) []
      → LetGo L u st₁ m → Did L did s st n
  step-lets-go {st₁ = st₁} one ran talk h =
      then-lets-go {g = step [] st₁ ∷ []} (t-step one t-none) (inr (omega arith)) ran talk h

  -- no communication
  pub silent : (s u : World) → u.talk ≡ s.talk → u.talk ≡ s.talk ++ map (talk_of L.prog) []
  silent s u e = e ∙ sym (append-nil s.talk)

  module _ {s : World} {st : State} {μ : Mem} {t : Tree (S L) (root L) st.process} {path : List ℕ} {q : Process} {b : Part} {i : Info}
      {ws : List ℕ} {at hi : ℕ} (A : Acting L s st μ t path q b i (Only path) ws at hi) where
    -- without a step one byte less is left
    pub no_step : {did : World → Type 0} (u : World) {ν : Mem} {us : List ℕ} → did u → u.talk ≡ s.talk → Real L u st ν us
        → (cpu_of u).running ≡ true → Rest L st ν t (Only path) us → Lined L st t (Only path) us → 1 ≤ i.left
        → Now L u st ν b (relaid i.w (i.left - 1) i) q → Did L did s st (bytes_left (S L) t)
    no_step u ran talk real run rest lines more now =
        let sits = sits-at L A.leaf in
        elim (relabel L A.leaf refl i.w (i.left - 1) (λ e. refl) sits.placed (omega (arith, sits.few)) rest lines) [
          | relabelled t' leaf rest' lines' e others ↦
              came u [] ran t-none (silent s u talk) (runs real run leaf rest' lines' now) (inl (omega arith))
        ]

    -- on a path to its next significant instruction
    module _ {did : World → Type 0} (u : World) {ν : Mem} {us : List ℕ} (ran : did u) (talk : u.talk ≡ s.talk) (real : Real L u st ν us)
        (run : (cpu_of u).running ≡ true) (operand : (cpu_of u).operand ≡ 0) (rest : Rest L st ν t (Only path) us)
        (lines : Lined L st t (Only path) us) (nx hi' : ℕ) (place : (cpu_of u).place ≡ L.off nx) (inner : nx ≤ length (S L).xs)
        (reach : hi' + L.off (suc at) ≤ hi + L.off nx) where
      pub goes_on_lem : Goes (S L) b st.store i.vars i.chans q hi' ν nx (regs_of (cpu_of u)) → Settled q → Unmarked (S L) b i st ν
          → Did L did s st (bytes_left (S L) t)
      goes_on_lem way settled clean =
          let far = way-bound (S L) (point-in (S L) b) way in
          no_step u ran talk real run rest lines (omega (arith, A.left))
          (now-goes (fresh L nx (cpu_of u).place (cpu_of u).operand inner place operand) way settled clean (omega (arith, A.left)))

      pub alt-goes-on : AltGoes (S L) b L.times st i.vars i.chans q i.w hi' ν nx (regs_of (cpu_of u)) → Did L did s st
          (bytes_left (S L) t)
      alt-goes-on way =
          let far = alt-bound (S L) b way in
          no_step u ran talk real run rest lines (omega (arith, A.left))
          (now-alt (fresh L nx (cpu_of u).place (cpu_of u).operand inner place operand) way (omega (arith, A.left)))
