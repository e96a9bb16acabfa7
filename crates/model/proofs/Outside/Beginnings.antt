-- A run's beginning: the clock moves, processes whose time has come wake, and a free processor takes the front of the queue.
use Prim.Native.Nat.{ℕ, suc, ◌^◌, ◌≤◌, ◌<◌}
use native.Mathlib.Omega.{arith}
use mathlib.Core.Path.{◌≡◌, refl, sym, ap, ◌∙◌, subst}
use mathlib.Core.Bool.{true, false, cond}
use mathlib.Core.List.{List, [], ◌∷◌, ◌++◌}
use mathlib.Core.Option.{Option, none, some}
use Rattle.model.specs.Word.{after}
use Rattle.model.specs.Machine.{World, Result, done, Act, next, return, set_front, release, time_word}
use Rattle.model.specs.Timer.{was_at, wake_from, wake_sleepers}
use Rattle.model.specs.Run.{land, settle, beginning}
use Rattle.model.specs.Occam.{State, now, ticks, ticked}
use Rattle.model.specs.Demand.{Segment, outside}
use Rattle.model.proofs.Cases.{never}
use Rattle.model.proofs.Quiet.Ways.{Mem}
use Rattle.model.proofs.Quiet.Timing.{Times, Onto}
use Rattle.model.proofs.Words.Times.{Near}
use Rattle.model.proofs.Effects.OneWord.{cpu_of, size_of}
use Rattle.model.proofs.Effects.Acts.{when_true, when_false}
use Rattle.model.proofs.Effects.Seen.{none-hit}
use Rattle.model.proofs.Effects.Waking.{fronted}
use Rattle.model.proofs.Invariant.Trees.{Tree, bytes_left}
use Rattle.model.proofs.Invariant.Kernel.{Loaded, S, root, size, Rest, Real, Lined, sits-at}
use Rattle.model.proofs.Invariant.Traces.{Trace, t-event, trace-then}
use Rattle.model.proofs.Invariant.Running.{Inv, runs, starts, idle}
use Rattle.model.proofs.Invariant.Reals.{size_is}
use Rattle.model.proofs.Invariant.Scheduling.{let_go, lets_go}
use Rattle.model.proofs.Invariant.Context.{sleeping, inv-context, leaf-context, real-context, rest-context, lined-context}
use Rattle.model.proofs.Invariant.Context.{now-context, starts-context}
use Rattle.model.proofs.Outside.Bystanders.{none-lined, part-high}
use Rattle.model.proofs.Outside.Wakings.{inv-lands}
use Rattle.model.proofs.Outside.Asides.{Known, Aside, runs-aside, starts-aside, idle-aside}
use Rattle.model.proofs.Outside.Ticks.{ticking, inv-ticks}
use Rattle.model.proofs.Outside.Sleepers.{Stage, Ahead, Roused, all-roused, rouses}
use Rattle.model.proofs.Laws.Made.{begins, beginning-is}

-- what a run's beginning comes to
pub data Begun (L : Loaded) (c : ℕ) (s : World) (st : State) (n : ℕ) : Type 0 where
  begun : (u : World) {st' : State} {m : ℕ} (g : Segment) → beginning c s ≡ done tt u → u.talk ≡ s.talk
      → Trace st g st' [] (ticks c ∷ []) → Inv L u st' m → m ≤ n → Begun L c s st n

-- all wake, and the front of the timer queue is the first of those that wait on
wakes-all : (s u : World) {n c : ℕ} → size_of s ≡ n → s.machine.timer.clock ≡ c
    → wake_from (suc n) c s.machine.timer.front [] s.machine.timer.front (fronted s.machine.timer.front s)
    ≡ done u.machine.timer.front (fronted s.machine.timer.front u)
    → wake_sleepers s ≡ done tt u
unfolding wake_sleepers
wakes-all s u {n} {c} e d h =
    let f = s.machine.timer.front in
    ap (λ (r : Result ℕ). next r set_front)
    (ap (λ m. wake_from (suc m) s.machine.timer.clock f [] f s) e ∙ ap (λ k. wake_from (suc n) k f [] f s) d ∙ h)

-- with what follows, where a process has the processor, and where none has
begins-busy : (s u : World) → wake_sleepers s ≡ done tt u → (cpu_of s).running ≡ true → (cpu_of u).running ≡ true
    → begins (cpu_of s) s ≡ done tt u
begins-busy s u e run run' =
    let tested : Act (Unit {0}) = cond (cpu_of s).running (return tt) land in
    ap (λ (r : Result (Unit {0})). next (next r (λ x. settle)) (λ x. tested)) e
    ∙ ap (λ (r : Result (Unit {0})). next r (λ x. tested)) (when_true (cpu_of u).running (return tt) release u run' refl)
    ∙ when_true (cpu_of s).running (return tt) land u run refl

begins-free : (s u v : World) → wake_sleepers s ≡ done tt u → (cpu_of s).running ≡ false → (cpu_of u).running ≡ false → release u
    ≡ done tt v
    → land v ≡ done tt v → begins (cpu_of s) s ≡ done tt v
begins-free s u v e stop stop' gone lands =
    let tested : Act (Unit {0}) = cond (cpu_of s).running (return tt) land in
    ap (λ (r : Result (Unit {0})). next (next r (λ x. settle)) (λ x. tested)) e
    ∙ ap (λ (r : Result (Unit {0})). next r (λ x. tested)) (when_false (cpu_of u).running (return tt) release u stop' gone)
    ∙ when_false (cpu_of s).running (return tt) land v stop lands

-- once the clock has moved
module _ (L : Loaded) (Q : (w t clock : ℕ) → Type 0) (T : Times) (near-Q : T.sure → (w t clock : ℕ) → Q w t clock → Near clock t)
    (near-G : T.sure → (w t clock : ℕ) → T.guarded w t clock → Near clock t) (less : T.sure → L.times.sure) (c : ℕ) (word : c < 2 ^ 32)
    (on : (w t : ℕ) → L.sleeps w t c → (L.times.sure → after c t ≡ false) → Q w t c)
    (on-guards : (w t : ℕ) → L.times.guarded w t c → T.guarded w t c) where
  abbrev M : Loaded
  M = sleeping L Q T near-Q near-G

  data Woke (s : World) (st : State) (n : ℕ) : Type 0 where
    woke : (u : World) {st' : State} (g : Segment) → begins (cpu_of s) s ≡ done tt u → u.talk ≡ s.talk → Trace st g st' [] []
        → Inv M u st' n → Woke s st n

  -- what is known of guards then
  onto : (st : State) → now st ≡ c → (w : ℕ) → Onto L.times T w (now st) (now st)
  onto st e w =
      record {
        less = less;
        on = λ u g. subst (λ d. T.guarded w u d) (sym e) (on-guards w u (subst (λ d. L.times.guarded w u d) e g));
        past = λ u small g o a. a;
      }

  module _ {Out : List ℕ → Type 0} {Go : Known L} (A : Aside L c Out Go) {s : World} {st : State} {μ : Mem}
      {t : Tree (S L) (root L) st.process} {ws : List ℕ} (real : Real L s st μ ws) (rest : Rest L st μ t Out ws)
      (lines : Lined L st t Out ws) (go : Go s st μ t) (clock : now st ≡ c) where
    abbrev f : ℕ
    f = s.machine.timer.front

    stage : Stage L c word A s s st μ t ws
    stage =
        record {
          real = real;
          rest = rest;
          lined = lines;
          same_regs = record { run = refl; place = refl; operand = refl; regs = refl };
          go = go;
          clock = clock;
        }

    -- all are woken
    rousing : Roused L c word A s (suc (size L)) f [] f s st (bytes_left (S L) t)
    unfolding was_at
    rousing =
        rouses L c word A s (suc (size L)) f f [] s st μ t ws stage
        (record { steps = omega arith; counted = none-hit (size L); words = λ q e. never (cc) }) (λ v m. refl)

    wakes-so : (u : World)
        → wake_from (suc (size L)) c f [] f (fronted f s) ≡ done u.machine.timer.front (fronted f u) → wake_sleepers s ≡ done tt u
    wakes-so u ran = wakes-all s u (size_is L real) (real.timed.clock-read ∙ clock) ran

    -- what words hold in the new context
    rest-on : {u : World} {st' : State} {ν : Mem} {t' : Tree (S L) (root L) st'.process} {us : List ℕ}
        (last : Stage L c word A s u st' ν t' us) → Ahead L c word A s last → Rest M st' ν t' Out us
    rest-on {st' = st'} {ν} last ahead =
        rest-context L Q T near-Q near-G last.rest less (λ path q b i l n. onto st' last.clock i.w)
        (λ w m z.
        subst (λ d. Q w (ν (time_word w)) d) (sym last.clock)
        (on w (ν (time_word w)) (subst (λ d. L.sleeps w (ν (time_word w)) d) last.clock z) (λ o. ahead o w m)))

  wakes-then : {s : World} {st : State} {n : ℕ} → now st ≡ c → Inv L s st n → Woke s st n
  wakes-then {s} clock (runs {path = path} {q} {b} {i} real run leaf rest lines now) =
      let A = runs-aside L c path q b i in
      elim (rousing A real rest lines (leaf, now) clock) [
        | all-roused u {st'} g ran talk ms last ahead bytes ↦
            let (leaf', now') = last.go in
            let run' = last.same_regs.run ∙ run in
            woke u g (begins-busy s u (wakes-so A real rest lines (leaf, now) clock u ran) run run') talk ms
            (subst (Inv M u _) bytes
            (runs (real-context L Q T near-Q near-G last.real) run' (leaf-context L Q T near-Q near-G leaf')
            (rest-on A real rest lines (leaf, now) clock last ahead) (lined-context L Q T near-Q near-G last.lined)
            (now-context L Q T near-Q near-G (part-high L leaf') (sits-at L leaf') (onto st' last.clock) now')))
      ]
  wakes-then {s} clock (starts {path = path} {q} {b} {i} B real run leaf rest lines now) =
      let A = starts-aside L c path q b i B in
      elim (rousing A real rest lines (leaf, now) clock) [
        | all-roused u g ran talk ms last ahead bytes ↦
            let (leaf', now') = last.go in
            let run' = last.same_regs.run ∙ run in
            woke u g (begins-busy s u (wakes-so A real rest lines (leaf, now) clock u ran) run run') talk ms
            (subst (Inv M u _) bytes
            (starts B (real-context L Q T near-Q near-G last.real) run' (leaf-context L Q T near-Q near-G leaf')
            (rest-on A real rest lines (leaf, now) clock last ahead) (lined-context L Q T near-Q near-G last.lined)
            (starts-context L Q T near-Q near-G now')))
      ]
  wakes-then {s} clock (idle real stop operand rest) =
      let A = idle-aside L c in
      elim (rousing A real rest (none-lined L) tt clock) [
        | all-roused u g ran talk ms last ahead bytes ↦
            elim (lets_go M (last.same_regs.operand ∙ operand) (real-context L Q T near-Q near-G last.real)
            (rest-on A real rest (none-lined L) tt clock last ahead) (lined-context L Q T near-Q near-G last.lined)) [
              | let_go v h gone talk' ns inv ↦
                  woke v (g ++ h)
                  (begins-free s u v (wakes-so A real rest (none-lined L) tt clock u ran) stop (last.same_regs.run ∙ stop) gone
                  (inv-lands M inv))
                  (talk' ∙ talk) (trace-then ms ns) (subst (Inv M v _) bytes inv)
            ]
      ]

-- a clock that was given does not go back
not_back : (st : State) (c : ℕ) → ((t : ℕ) → st.clock ≡ some t → after t c ≡ false) → (st.clock ≡ none → ⊥)
    → after (now st) c ≡ false
not_back st c allowed given = by st.clock refl
  where
    by : (k : Option ℕ) → st.clock ≡ k → after (elim k [ none ↦ 0 | some t ↦ t ]) c ≡ false
    by none e = absurd (given e)
    by (some t) e = allowed t e

-- the whole beginning: what is known at the old clock, and that the time is near the new clock too, is known while the clock moves. Times
-- of guards are known once a clock was given
pub run-begins : (L : Loaded) (Q : (w t clock : ℕ) → Type 0) (T : Times) (near-Q : T.sure → (w t clock : ℕ) → Q w t clock → Near clock t)
    (near-G : T.sure → (w t clock : ℕ) → T.guarded w t clock → Near clock t) → (T.sure → L.times.sure) → (c : ℕ) → c < 2 ^ 32
    → {s : World} {st : State} {n : ℕ} → ((t : ℕ) → st.clock ≡ some t → after t c ≡ false)
    → (L.times.sure → (w t : ℕ) → L.times.guarded w t (now st) → st.clock ≡ none → ⊥)
    → (L.times.sure → (w t : ℕ) → L.sleeps w t (now st) → Near c t)
    → (L.times.sure → (w t : ℕ) → L.times.guarded w t (now st) → Near c t)
    → ((w t : ℕ) → L.sleeps w t (now st) → (L.times.sure → after c t ≡ false) → Q w t c)
    → ((w t : ℕ) → L.times.guarded w t (now st) → T.guarded w t c)
    → Inv L s st n → Begun (sleeping L Q T near-Q near-G) c s st n
run-begins L Q T near-Q near-G less c word {s} {st} {n} allowed given near near-guards on on-guards inv =
    elim (wakes-then between Q T near-Q near-G less c word (λ w t z. on w t z.0) (λ w t z. on-guards w t z.0) refl
    (inv-ticks between c word st (λ w t z. (z.0, z.1, z.1)) (λ w t z. (z.0, z.1, z.1))
    (λ o w t z. not_back st c allowed (given o w t z.0))
    (inv-context first (λ w t z. (z, (λ o. near o w t z), (λ o. L.sleeps-near o w t (now st) z))) inv))) [
      | woke u g e talk ms inv' ↦
          begun u (outside (ticks c) [] (ticking c st) ∷ g) (beginning-is c s ∙ e) talk (t-event (ticked allowed) ms) inv' (omega arith)
    ]
  where
    -- a time that is known at the old clock, and near
    Both : (P : (w t clock : ℕ) → Type 0) → (w t clock : ℕ) → Type 0
    Both P w t clock = P w t (now st) × (L.times.sure → Near c t) × (L.times.sure → Near clock t)

    times : Times
    times = record { guarded = Both L.times.guarded; sure = L.times.sure }

    between : Loaded
    between = sleeping L (Both L.sleeps) times (λ o w t clock z. z.2 o) (λ o w t clock z. z.2 o)

    first : (w : ℕ) → Onto L.times times w (now st) (now st)
    first w =
        record {
          less = λ o. o;
          on = λ u g. (g, (λ o. near-guards o w u g), (λ o. L.guarded-near o w u (now st) g));
          past = λ u small g o a. a;
        }
