-- All processes whose time has come wake, one after another from the front of the timer queue.
use Prim.Native.Nat.{ℕ, zero, suc, ◌+◌, ◌^◌, ◌≤◌, ◌<◌}
use native.Mathlib.Omega.{arith}
use mathlib.Core.Path.{◌≡◌, refl, sym, ap, ◌∙◌, subst}
use mathlib.Core.Logic.{◌≢◌, ⊎_elim}
use mathlib.Core.Bool.{true, false}
use mathlib.Core.List.Memᴰ
use mathlib.Core.List.{List, [], ◌∷◌, ◌++◌, Memᴰ}
use lib.ListN.{length}
use borrow.Author.Tests.{ne_eqb}
use Rattle.model.specs.Word.{after, not_process}
use Rattle.model.specs.Limits.{word_limit}
use Rattle.model.specs.Machine.{World, done, time_link_word, time_word, name_of}
use Rattle.model.specs.Timer.{was_at, wake_from}
use Rattle.model.specs.Occam.{Process, State, now}
use Rattle.model.specs.Demand.{Segment}
use Rattle.model.proofs.Cases.{by_bool}
use Rattle.model.proofs.Quiet.Names.{name_back, name-injective, name-given}
use Rattle.model.proofs.Quiet.Ways.{Mem, front_word}
use Rattle.model.proofs.Words.Parts.{Part}
use Rattle.model.proofs.Words.Times.{distance, Near, stays-ahead}
use Rattle.model.proofs.Effects.Timers.{Chain, ends, next, Sorted}
use Rattle.model.proofs.Effects.Seen.{tally, tally-le, hits, Words, one_hit, words_more}
use Rattle.model.proofs.Effects.Waking.{fronted, wake_from-ends, wake_from-stops, wake_from-wakes}
use Rattle.model.proofs.Invariant.Trees.{Info, Tree, bytes_left}
use Rattle.model.proofs.Invariant.Kernel.{Loaded, S, root, size, LeafAt, Dozer, at-wait, in-alt, Rest, Lined, Real, sleeper}
use Rattle.model.proofs.Invariant.Grounds.{small_size}
use Rattle.model.proofs.Invariant.Sleeping.{fits, times-near}
use Rattle.model.proofs.Invariant.Traces.{Trace, t-none, trace-then}
use Rattle.model.proofs.Invariant.Reals.{size_is, mirrored}
use Rattle.model.proofs.Outside.Bystanders.{SameRegs}
use Rattle.model.proofs.Outside.Asides.{Known, Aside}
use Rattle.model.proofs.Outside.Leaving.{First, inside, link-low, time-low, once, member_of}
use Rattle.model.proofs.Outside.Rousing.{Wakes, wakes-on, wait-wakes}
use Rattle.model.proofs.Outside.Alarms.{busy-leaves, alt-wakes}

-- the steps that are left are enough: those that were seen have link words of their own
pub record Enough (size left : ℕ) (seen : List ℕ) : Type 0 where
  pub steps : left + length seen ≡ suc size
  pub counted : tally (hits seen) size ≡ length seen
  pub words : Words seen

enough-steps : {size : ℕ} {seen : List ℕ} → Enough size 0 seen → ⊥
enough-steps {size} {seen} e = absurd (omega (arith, e.steps, e.counted, tally-le (hits seen) size))

name-small : (w : ℕ) → w ≤ word_limit → name_of w < 2 ^ 32
unfolding name_of
name-small w h = omega arith

-- one more is seen
enough-on : {size n : ℕ} {seen : List ℕ} (w : ℕ) → Enough size (suc n) seen → w ≤ word_limit → time_link_word w < size
    → was_at (name_of w) seen ≡ false → Enough size n (name_of w ∷ seen)
enough-on {size} {seen = seen} w e small inside new =
    let low = name-small w small in
    record {
      steps = omega (arith, e.steps);
      counted = one_hit (name_of w) size seen low e.words new (rw (name_back w) inside) ∙ ap suc e.counted;
      words = words_more (name_of w) seen low e.words;
    }

module _ (L : Loaded) (c : ℕ) (word : c < 2 ^ 32) {Out : List ℕ → Type 0} {Go : Known L} (A : Aside L c Out Go) (s₀ : World) where
  -- how far the waking has come, with what is known of those that are left out
  pub record Stage (s : World) (st : State) (μ : Mem) (t : Tree (S L) (root L) st.process) (ws : List ℕ) : Type 0 where
    pub real : Real L s st μ ws
    pub rest : Rest L st μ t Out ws
    pub lined : Lined L st t Out ws
    pub same_regs : SameRegs L s s₀
    pub go : Go s st μ t
    pub clock : now st ≡ c

  -- no time of those that wait on is past, where times are sure
  abbrev pub Ahead : {s : World} {st : State} {μ : Mem} {t : Tree (S L) (root L) st.process} {ws : List ℕ} → Stage s st μ t ws → Type 0
  Ahead {μ = μ} stage = L.times.sure → (v : ℕ) → Memᴰ v stage.rest.sleepers.asleep → after c (μ (time_word v)) ≡ false

  -- all are woken
  pub data Roused (n front : ℕ) (seen : List ℕ) (f : ℕ) (s : World) (st : State) (bytes : ℕ) : Type 0 where
    all-roused : (u : World) {st' : State} {μ : Mem} {t : Tree (S L) (root L) st'.process} {ws : List ℕ} (g : Segment)
        → wake_from n c front seen s.machine.timer.front (fronted f s) ≡ done u.machine.timer.front (fronted f u)
        → u.talk ≡ s.talk → Trace st g st' [] [] → (stage : Stage u st' μ t ws) → Ahead stage → bytes_left (S L) t ≡ bytes
        → Roused n front seen f s st bytes

  -- what n steps come to from every stage
  abbrev Rouses : (n front f : ℕ) → Type 0
  Rouses n front f =
      (seen : List ℕ) (s : World) (st : State) (μ : Mem) (t : Tree (S L) (root L) st.process) (ws : List ℕ) (stage : Stage s st μ t ws)
      → Enough (size L) n seen → ((v : ℕ) → Memᴰ v stage.rest.sleepers.asleep → was_at (name_of v) seen ≡ false)
      → Roused n front seen f s st (bytes_left (S L) t)

  -- the first wakes, whoever it is
  first-wakes : {s : World} {st : State} {μ : Mem} {t : Tree (S L) (root L) st.process} {ws path : List ℕ} {q : Process} {b : Part}
      {i : Info} {ts : List ℕ} → First L s st μ t Out ws path q b i ts → Go s st μ t → now st ≡ c → Dozer L Out path q
      → after c (μ (time_word i.w)) ≡ true → Wakes L c i.w (μ (time_link_word i.w)) ts Out Go s st (bytes_left (S L) t)
  first-wakes F go clock (at-wait n) late = wait-wakes L c A F go clock n late
  first-wakes {path = path} F go clock (in-alt x) late =
      ⊎_elim (λ o. busy-leaves L c A F go clock x o) (λ n. alt-wakes L c A F go clock n x late) (A.known path)

  module _ (n front : ℕ) (seen : List ℕ) (f : ℕ) {s : World} {st : State} {μ : Mem} {t : Tree (S L) (root L) st.process} {ws : List ℕ}
      (stage : Stage s st μ t ws) (enough : Enough (size L) (suc n) seen)
      (new : (v : ℕ) → Memᴰ v stage.rest.sleepers.asleep → was_at (name_of v) seen ≡ false) where
    abbrev Goal : Type 0
    Goal = Roused (suc n) front seen f s st (bytes_left (S L) t)

    -- nobody waits
    at-end : stage.rest.sleepers.asleep ≡ [] → s.machine.timer.front ≡ not_process → Goal
    at-end none e =
        all-roused s [] (wake_from-ends n c front seen (fronted f s) e) refl t-none stage
        (λ o v m. absurd (Memᴰ.not-nil (subst (Memᴰ v) none m))) refl

    -- the first of those that wait
    module _ {path : List ℕ} {q : Process} {b : Part} {i : Info} (leaf : LeafAt L st t path q b i) (space : b.bottom + 5 ≤ i.w)
        (dozes : Dozer L Out path q) (ts : List ℕ) (first : stage.rest.sleepers.asleep ≡ i.w ∷ ts)
        (is : s.machine.timer.front ≡ name_of i.w) where
      abbrev F : First L s st μ t Out ws path q b i ts
      F = record { real = stage.real; rest = stage.rest; lines = stage.lined; leaf = leaf; space = space; asleep = first }

      abbrev tm : ℕ
      tm = μ (time_word i.w)

      head_in : Memᴰ i.w stage.rest.sleepers.asleep
      head_in = subst (Memᴰ i.w) (sym first) (Memᴰ.head refl)

      close : L.times.sure → (v : ℕ) → Memᴰ v stage.rest.sleepers.asleep
          → (μ (time_word v) < 2 ^ 32) × Near c (μ (time_word v))
      close o v m =
          let (a, d) = times-near L stage.rest o v m in (a, subst (λ z. Near z (μ (time_word v))) stage.clock d)

      -- its time is not past, so none is
      waits-on : after c tm ≡ false → Ahead stage
      waits-on e o v m =
          let (a, d) = close o i.w head_in in
          let (a', d') = close o v m in
          stays-ahead word a a' d d' (far (subst (Memᴰ v) first m)) e
        where
          sorted : Sorted c μ (i.w ∷ ts)
          sorted = subst (λ d. Sorted d μ (i.w ∷ ts)) stage.clock (subst (Sorted (now st) μ) first (stage.rest.sleepers.sorted o))

          far : Memᴰ v (i.w ∷ ts) → distance c tm ≤ distance c (μ (time_word v))
          far m = ⊎_elim (λ e. omega (arith, ap (λ z. distance c (μ (time_word z))) e)) (λ n. sorted.0 v n) (Memᴰ.cases_cons m)

      small : i.w ≤ word_limit
      small = (fits L stage.rest i.w head_in).small

      given : name_of i.w ≢ not_process
      given = name-given i.w small

      time-in : time_word i.w < size L
      time-in = inside L c F (time-low L c F).1

      stops : after c tm ≡ false → Goal
      stops e =
          all-roused s []
          (wake_from-stops n c front seen i.w tm (fronted f s) is given (new i.w head_in) (rw (size_is L stage.real) time-in)
          (mirrored L stage.real (time_word i.w) time-in refl) e) refl t-none stage (waits-on e) refl

      -- those behind it were not seen
      new-later : (v : ℕ) → Memᴰ v ts → was_at (name_of v) (name_of i.w ∷ seen) ≡ false
      unfolding was_at
      new-later v m =
          let d = ne_eqb (name_of v) (name_of i.w) (λ q. (once L c F).0 v m (sym (name-injective v i.w q))) in
          rw d (new v (member_of L c F v m))

      -- it wakes, and then others
      wakes-later : after c tm ≡ true → Rouses n front f → Goal
      wakes-later late more = elim (first-wakes F stage.go stage.clock dozes late) [
        | wakes-on v {st'} {ν} {t = t'} {us} g one behind talk ms same clock real then asleep lines go bytes ↦
            let regs = stage.same_regs in
            let later : Stage v st' ν t' us = record {
              real = real;
              rest = then;
              lined = lines;
              same_regs = record {
                run = same.run ∙ regs.run;
                place = same.place ∙ regs.place;
                operand = same.operand ∙ regs.operand;
                regs = same.regs ∙ regs.regs;
              };
              go = go;
              clock = clock ∙ stage.clock;
            } in
            elim (more (name_of i.w ∷ seen) v st' ν t' us later
            (enough-on i.w enough small (inside L c F (link-low L c F).1) (new i.w head_in))
            (λ x m. new-later x (subst (Memᴰ x) asleep m))) [
              | all-roused u h ran talk' ns last ahead bytes' ↦
                  all-roused u (g ++ h)
                  (wake_from-wakes n c front seen i.w tm (fronted f s) is given (new i.w head_in)
                  (rw (size_is L stage.real) time-in) (mirrored L stage.real (time_word i.w) time-in refl) late
                  (rw (size_is L stage.real) (small_size L)) (one f)
                  ∙ ap (λ p. wake_from n c front (name_of i.w ∷ seen) p (fronted f v)) (sym behind) ∙ ran)
                  (talk' ∙ talk) (trace-then ms ns) last ahead (bytes' ∙ bytes)
            ]
      ]

  one_more : (n front f : ℕ) → Rouses n front f → Rouses (suc n) front f
  one_more n front f more seen s st μ t ws stage enough new = turn stage.rest.sleepers.asleep refl stage.rest.sleepers.chain
    where
      turn : (ts : List ℕ) → stage.rest.sleepers.asleep ≡ ts → Chain μ front_word ts
          → Roused (suc n) front seen f s st (bytes_left (S L) t)
      turn [] e (ends z) = at-end n front seen f stage enough new e (stage.real.front ∙ z)
      turn (w ∷ ts) e (next z chain) =
          elim (stage.rest.sleepers.each w (subst (Memᴰ w) (sym e) (Memᴰ.head refl))) [
            | sleeper {i = i} l g a d ↦
                let first : stage.rest.sleepers.asleep ≡ i.w ∷ ts = e ∙ ap (λ v. v ∷ ts) (sym g) in
                let is : s.machine.timer.front ≡ name_of i.w = stage.real.front ∙ z ∙ ap name_of (sym g) in
                by_bool (after c (μ (time_word i.w))) (λ y. wakes-later n front seen f stage enough new l a d ts first is y more)
                (λ y. stops n front seen f stage enough new l a d ts first is y)
          ]

  -- from the front on
  pub rouses : (n front f : ℕ) → Rouses n front f
  rouses zero front f = λ seen s st μ t ws stage enough new. absurd (enough-steps enough)
  rouses (suc n) front f = one_more n front f (rouses n front f)
