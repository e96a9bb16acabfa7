-- TALTWT: an ALT with a time guard goes on where a guard is ready or its time is past; else it waits, in the timer queue if it has a time.
use Prim.Native.Nat.{ℕ, suc, ◌+◌, ◌≤◌, ◌<◌}
use native.Mathlib.Omega.{arith}
use mathlib.Core.Path.{◌≡◌, refl, sym, ap, ◌∙◌, subst}
use mathlib.Core.Logic.{◌≢◌, inr, ⊎_elim}
use mathlib.Core.Bool.{true, false}
use mathlib.Core.List.{List, Memᴰ}
use lib.ListN.{get_or}
use borrow.Author.Tests.{eq-eqb, ne_eqb}
use Rattle.model.specs.Word.{after}
use Rattle.model.specs.Syntax.{Guards, no_guard, ALT, timed}
use Rattle.model.specs.Instruction.{operation, operation_of, operation_code, coded, opr}
use Rattle.model.specs.Instruction as I
use Rattle.model.specs.Code.{function_in, operand_in}
use Rattle.model.specs.Scheme.{size_enable}
use Rattle.model.specs.Machine.{World, done, state_word, resume_word, time_link_word, time_word, release}
use Rattle.model.specs.Alternative.{enabling, waiting, ready, none_selected}
use Rattle.model.specs.Execute.{execute, operate}
use Rattle.model.specs.Timer.{time_set, time_not_set, sleep, wait_time, wait_timed_alt}
use Rattle.model.specs.Occam.{Frame, before, at_alt, State, now}
use Rattle.model.proofs.Cases.{by_bool}
use Rattle.model.proofs.Quiet.Ways.{Mem, upd, upd_same, upd_other}
use Rattle.model.proofs.Quiet.Timing.{Least, Linked, Bringing, not_set, is_set, no-time, until, Passed, p-unset, p-set, EachTime}
use Rattle.model.proofs.Quiet.Marks.{AltCode, Noticed, AnyPresent}
use Rattle.model.proofs.Quiet.Onwards.{present-found, timely-found}
use Rattle.model.proofs.Words.Parts.{Part}
use Rattle.model.proofs.Invariant.Trees.{Info, Tree}
use Rattle.model.proofs.Effects.OneWord.{cpu_of, size_of, stored, peek-in, poke-in}
use Rattle.model.proofs.Invariant.Kernel.{Loaded, S, root, Rest, Real, in-alt, linked-in}
use Rattle.model.proofs.Invariant.Running.{Only, executes, Acting}
use Rattle.model.proofs.Invariant.Reals.{real-state, mirrored, size_is}
use Rattle.model.proofs.Steps.Enabling.{space, Shows, link-mine, time-mine, times-room, state-mine, base-mine, mine-size, base-other}
use Rattle.model.proofs.Steps.Enabling.{state-other, base-state, Enabled, Goal, state-size, base-write, waits-as, then_at}
use Rattle.model.proofs.Steps.Enabling.{tree-there, leaf-there, lined-there, comes-to, rest-there, marks-there, known-there}
use Rattle.model.proofs.Steps.Enabling.{found-there, μ₁, none_yet_lem, marks₁, goes-there, μ₃, asleep, asleep-shows, asleep-held}
use Rattle.model.proofs.Steps.Enabling.{waits_there, own-marked, resume-mine, Mine, resume-other, w-under}
use Rattle.model.proofs.Steps.Sleep.{queued_at, Joining, stop, joined, sleeps-in, own-joined, chan-joined, link-joined, joins}

-- no branch is chosen
abbrev none_yet : World → World
none_yet s = stored (cpu_of s).workspace none_selected s

-- what it waits with
abbrev parked : World → World
parked s =
    let w = (cpu_of s).workspace in stored (resume_word w) (cpu_of s).place (stored (state_word w) waiting (none_yet s))

module _ (s : World) (base-in : (cpu_of s).workspace < size_of s) (state-in : state_word (cpu_of s).workspace < size_of s)
    (resume-in : resume_word (cpu_of s).workspace < size_of s) (link-in : time_link_word (cpu_of s).workspace < size_of s)
    (time-in : time_word (cpu_of s).workspace < size_of s) where
  abbrev w₀ : ℕ
  w₀ = (cpu_of s).workspace

  abbrev clock₀ : ℕ
  clock₀ = s.machine.timer.clock

  exec-ready : get_or (none_yet s).memory (state_word w₀) 0 ≡ ready
      → execute opr (operation_code I.taltwt) s ≡ done tt (stored (time_word w₀) clock₀ (none_yet s))
  unfolding execute operate operation_of operation_code coded wait_timed_alt
  exec-ready e =
      rw (
        poke-in w₀ none_selected s base-in,
        peek-in (state_word w₀) (none_yet s) state-in,
        eq-eqb _ _ e,
        poke-in (time_word w₀) clock₀ (none_yet s) time-in,
      )

  module _ (not-ready : get_or (none_yet s).memory (state_word w₀) 0 ≢ ready) where
    exec-untimed : get_or (none_yet s).memory (time_link_word w₀) 0 ≢ time_set → execute opr (operation_code I.taltwt) s
        ≡ release (parked s)
    unfolding execute operate operation_of operation_code coded wait_timed_alt
    exec-untimed e =
        rw (
          poke-in w₀ none_selected s base-in,
          peek-in (state_word w₀) (none_yet s) state-in,
          ne_eqb _ _ not-ready,
          peek-in (time_link_word w₀) (none_yet s) link-in,
          ne_eqb _ _ e,
          poke-in (state_word w₀) waiting (none_yet s) state-in,
          poke-in (resume_word w₀) (cpu_of s).place (stored (state_word w₀) waiting (none_yet s)) resume-in,
        )

    exec-past : get_or (none_yet s).memory (time_link_word w₀) 0 ≡ time_set → after clock₀ (get_or (none_yet s).memory (time_word w₀) 0)
        ≡ true
        → execute opr (operation_code I.taltwt) s ≡ done tt (stored (time_word w₀) clock₀ (stored (state_word w₀) ready (none_yet s)))
    unfolding execute operate operation_of operation_code coded wait_timed_alt wait_time
    exec-past e f =
        rw (
          poke-in w₀ none_selected s base-in,
          peek-in (state_word w₀) (none_yet s) state-in,
          ne_eqb _ _ not-ready,
          peek-in (time_link_word w₀) (none_yet s) link-in,
          eq-eqb _ _ e,
          peek-in (time_word w₀) (none_yet s) time-in,
          f,
          poke-in (state_word w₀) ready (none_yet s) state-in,
          poke-in (time_word w₀) clock₀ (stored (state_word w₀) ready (none_yet s)) time-in,
        )

    exec-sleeps : (t : ℕ) (u : World) → get_or (none_yet s).memory (time_link_word w₀) 0 ≡ time_set
        → get_or (none_yet s).memory (time_word w₀) 0 ≡ t → after clock₀ t ≡ false → sleep t (parked s) ≡ done tt u
        → execute opr (operation_code I.taltwt) s ≡ release u
    unfolding execute operate operation_of operation_code coded wait_timed_alt wait_time
    exec-sleeps t u e et f sleeps =
        rw (
          poke-in w₀ none_selected s base-in,
          peek-in (state_word w₀) (none_yet s) state-in,
          ne_eqb _ _ not-ready,
          peek-in (time_link_word w₀) (none_yet s) link-in,
          eq-eqb _ _ e,
          peek-in (time_word w₀) (none_yet s) time-in,
          et,
          f,
          poke-in (state_word w₀) waiting (none_yet s) state-in,
          poke-in (resume_word w₀) (cpu_of s).place (stored (state_word w₀) waiting (none_yet s)) resume-in,
          sleeps,
        )

module _ (L : Loaded) {s : World} {st : State} {μ : Mem} {t : Tree (S L) (root L) st.process} {path : List ℕ} {b : Part} {i : Info}
    {ws : List ℕ} {at hi : ℕ} {gs : Guards} {k : List Frame} (A : Acting L s st μ t path (before (ALT gs) k) b i (Only path) ws at hi)
    {hi₀ i₀ : ℕ} (c : AltCode (S L) b gs i.vars i.chans k hi₀ i₀ ((cpu_of s).workspace + 1)) (has-time : timed gs ≡ true)
    (here : at ≡ i₀ + 2 + size_enable gs) (n : Enabled L A c no_guard μ)
    (sleeps : (u : ℕ) → L.times.guarded (cpu_of s).workspace u (now st) → after (now st) u ≡ false → L.sleeps (cpu_of s).workspace u
    (now st))
  where
    abbrev w : ℕ
    w = space s

    abbrev clock : ℕ
    clock = s.machine.timer.clock

    clock-is : clock ≡ now st
    clock-is = A.real.timed.clock-read

    room : b.bottom + 5 ≤ w
    room = times-room L A c has-time

    base-in : w < size_of s
    base-in = mine-size L A c (base-mine L A c)

    resume-in : resume_word w < size_of s
    resume-in = mine-size L A c (resume-mine L A c)

    link-in : time_link_word w < size_of s
    link-in = mine-size L A c (link-mine L A c room)

    time-in : time_word w < size_of s
    time-in = mine-size L A c (time-mine L A c room)

    abbrev ν₁ : Mem
    ν₁ = μ₁ L A c here n.marks

    shows₁ : Shows L A c (none_yet s).memory ν₁
    shows₁ = none_yet_lem L A c here n.marks

    -- a word of its own but the first is what it was
    kept : {v : ℕ} → v ≢ w → ν₁ v ≡ μ v
    kept {v} d = upd_other μ w none_selected v d

    link-kept : ν₁ (time_link_word w) ≡ μ (time_link_word w)
    link-kept = kept (base-other L A c).0

    time-kept : ν₁ (time_word w) ≡ μ (time_word w)
    time-kept = kept (base-other L A c).1

    state-kept : ν₁ (state_word w) ≡ μ (state_word w)
    state-kept = kept (λ e. base-state L A c (sym e))

    -- so it is in memory
    holds₁ : {v z : ℕ} → Mine L A c v → ν₁ v ≡ z → get_or (none_yet s).memory v 0 ≡ z
    holds₁ {v} m e = mirrored L shows₁.real v (omega (arith, mine-size L A c m, size_is L A.real)) e

    -- the clock is in its time word: what it is after is past
    passed-at : {ν : Mem} → ν (time_link_word w) ≡ μ (time_link_word w) → ν (time_word w) ≡ clock → Bringing L.times st gs no_guard μ w
        → Passed L.times (then_at L A c) gs gs ν w
    passed-at e f (not_set z m) = p-unset (e ∙ z)
    passed-at e f (is_set z l) = p-set (e ∙ z) (λ u m a o. ap (λ v. after v u) (sym (f ∙ clock-is)) ∙ a)

    unlinked : (ν : Mem) → ν (time_link_word w) ≡ μ (time_link_word w) → Bringing L.times st gs no_guard μ w → Linked ν w → ⊥
    unlinked ν e (not_set z m) (a, b) = b (e ∙ z)
    unlinked ν e (is_set z l) (a, b) = a (e ∙ z)

    -- a guard without a time is ready
    module _ (set-ready : μ (state_word w) ≡ ready) (there : AnyPresent st gs) where
      abbrev ν₂ : Mem
      ν₂ = upd ν₁ (time_word w) clock

      taltwt-ready : Goal L A c (operation I.taltwt)
      unfolding function_in operand_in
      taltwt-ready =
          let link = upd_other ν₁ (time_word w) clock (time_link_word w) (λ e. absurd (omega (arith, e))) ∙ link-kept in
          goes-there L A c here n.marks ν₂
          (executes
          (exec-ready s base-in (state-size L A c) resume-in link-in time-in (holds₁ (state-mine L A c) (state-kept ∙ set-ready))))
          (base-write L A c (time_word w) clock (time-mine L A c room) shows₁) (λ e. unlinked ν₂ link (n.times has-time))
          (record {
            marks = marks-there L A c ν₂
                (own-marked L A c ν₁ (time_word w) clock (time-mine L A c room) (marks₁ L A c here n.marks));
            state = upd_other ν₁ (time_word w) clock (state_word w) (λ e. (state-other L A c).1 (sym e)) ∙ state-kept ∙ set-ready;
            chosen = inr (
              upd_other ν₁ (time_word w) clock w (λ e. (base-other L A c).1 (sym e)) ∙ upd_same μ w none_selected,
              found-there L A c ν₂ (present-found ν₂ w there),
            );
            times = λ e. passed-at link (upd_same ν₁ (time_word w) clock) (n.times has-time);
            known = known-there L A c ν₂ n.known;
          })

    -- none is
    module _ (set-enabling : μ (state_word w) ≡ enabling) (seen : Noticed st (S L).word μ w gs no_guard) where
      not-ready : get_or (none_yet s).memory (state_word w) 0 ≢ ready
      not-ready e = absurd (omega (arith, sym (holds₁ (state-mine L A c) (state-kept ∙ set-enabling)) ∙ e))

      -- the words with which it waits
      abbrev ν₃ : Mem
      ν₃ = μ₃ L A c here n.marks

      link-same : ν₃ (time_link_word w) ≡ μ (time_link_word w)
      link-same =
          upd_other (upd ν₁ (state_word w) waiting) (resume_word w) (L.off (suc at)) (time_link_word w) (resume-other L A c).0
          ∙ upd_other ν₁ (state_word w) waiting (time_link_word w) (state-other L A c).0 ∙ link-kept

      time-same : ν₃ (time_word w) ≡ μ (time_word w)
      time-same =
          upd_other (upd ν₁ (state_word w) waiting) (resume_word w) (L.off (suc at)) (time_word w) (resume-other L A c).1
          ∙ upd_other ν₁ (state_word w) waiting (time_word w) (state-other L A c).1 ∙ time-kept

      -- nor has it a time
      taltwt-untimed : (z : μ (time_link_word w) ≡ time_not_set) → EachTime st.store (λ u. ⊥) gs no_guard → Goal L A c (operation I.taltwt)
      unfolding function_in operand_in
      taltwt-untimed z m =
          waits_there L A c here n.marks (λ e. unlinked ν₃ link-same (n.times has-time))
          (asleep-held L A c here n.marks ν₃ (λ v m d. refl) (λ d m. refl) seen (λ e. no-time (link-same ∙ z) m) n.known)
          (λ v e. executes
          (subst
          (λ z. execute opr (operation_code I.taltwt) s ≡ release (stored (resume_word w) z (stored (state_word w) waiting (none_yet s))))
          A.placed
          (exec-untimed s base-in (state-size L A c) resume-in link-in time-in not-ready
          (λ f. absurd (omega (arith, sym (holds₁ (link-mine L A c room) (link-kept ∙ z)) ∙ f)))) ∙ e))

      module _ (z : μ (time_link_word w) ≡ time_set) (l : Least L.times st gs no_guard μ w) where
        set-held : get_or (none_yet s).memory (time_link_word w) 0 ≡ time_set
        set-held = holds₁ (link-mine L A c room) (link-kept ∙ z)

        time-held : get_or (none_yet s).memory (time_word w) 0 ≡ l.tm
        time-held = holds₁ (time-mine L A c room) (time-kept ∙ l.is)

        -- its time is past
        module _ (past : after (now st) l.tm ≡ true) where
          abbrev ν₄ : Mem
          ν₄ = upd ν₁ (state_word w) ready

          abbrev ν₅ : Mem
          ν₅ = upd ν₄ (time_word w) clock

          link-now : ν₅ (time_link_word w) ≡ μ (time_link_word w)
          link-now =
              upd_other ν₄ (time_word w) clock (time_link_word w) (λ e. absurd (omega (arith, e)))
              ∙ upd_other ν₁ (state_word w) ready (time_link_word w) (state-other L A c).0 ∙ link-kept

          taltwt-past : Goal L A c (operation I.taltwt)
          unfolding function_in operand_in
          taltwt-past =
              goes-there L A c here n.marks ν₅
              (executes
              (exec-past s base-in (state-size L A c) resume-in link-in time-in not-ready set-held (rw (clock-is, time-held) past)))
              (base-write L A c (time_word w) clock (time-mine L A c room)
              (base-write L A c (state_word w) ready (state-mine L A c) shows₁)) (λ e. unlinked ν₅ link-now (n.times has-time))
              (record {
                marks = marks-there L A c ν₅
                    (own-marked L A c ν₄ (time_word w) clock (time-mine L A c room)
                    (own-marked L A c ν₁ (state_word w) ready (state-mine L A c) (marks₁ L A c here n.marks)));
                state = upd_other ν₄ (time_word w) clock (state_word w) (λ e. (state-other L A c).1 (sym e))
                    ∙ upd_same ν₁ (state_word w) ready;
                chosen = inr (
                  upd_other ν₄ (time_word w) clock w (λ e. (base-other L A c).1 (sym e))
                      ∙ upd_other ν₁ (state_word w) ready w (base-state L A c) ∙ upd_same μ w none_selected,
                  found-there L A c ν₅ (timely-found ν₅ w (link-now ∙ z)
                      (ap (λ v. after v l.tm) (upd_same ν₄ (time_word w) clock ∙ clock-is) ∙ past) l.one),
                );
                times = λ e. passed-at link-now (upd_same ν₄ (time_word w) clock) (n.times has-time);
                known = known-there L A c ν₅ n.known;
              })

        -- it is still to come: the process goes into the timer queue
        module _ (ahead : after (now st) l.tm ≡ false) where
          rest₃ : Rest L (then_at L A c) ν₃ (tree-there L A c) (Only path) ws
          rest₃ = rest-there L A c (λ e. unlinked ν₃ link-same (n.times has-time)) (asleep-shows L A c here n.marks).rest

          real₃ : Real L (asleep L A c here n.marks) (then_at L A c) ν₃ ws
          real₃ = real-state L (then_at L A c).process st.store (asleep-shows L A c here n.marks).real

          absent : (v : ℕ) → Memᴰ v rest₃.sleepers.asleep → w ≢ v
          absent v m e = (linked-in L rest₃ v m).0 (subst (λ y. ν₃ (time_link_word y) ≡ time_set) e (link-same ∙ z))

          abbrev joining : Joining L (asleep L A c here n.marks) (then_at L A c) ν₃ (tree-there L A c) path (at_alt gs k) b
              (waits-as L A c) ws
          joining =
              record {
                real = real₃;
                rest = rest₃;
                lines = lined-there L A c;
                leaf = leaf-there L A c;
                work = refl;
                room = room;
                absent = absent;
                tm = l.tm;
                time-is = time-same ∙ l.is;
                small = l.small;
                knows = sleeps l.tm l.knows ahead;
              }

          abbrev ν₆ : Mem
          ν₆ = joined L joining

          own-now : (v : ℕ) → Mine L A c v → v ≢ time_link_word w → ν₆ v ≡ ν₃ v
          own-now v m d = own-joined L joining v m.0 (omega (arith, m.1, w-under L A c)) d

          -- the least of its times stays that
          least-now : Least L.times (then_at L A c) gs no_guard ν₆ w
          least-now =
              let time : ν₆ (time_word w) ≡ μ (time_word w) =
              own-now (time_word w) (time-mine L A c room) (λ e. absurd (omega (arith, e))) ∙ time-same in
              record {
                tm = l.tm;
                is = time ∙ l.is;
                small = l.small;
                one = l.one;
                knows = l.knows;
                least = l.least;
              }

          taltwt-sleeps : Goal L A c (operation I.taltwt)
          unfolding function_in operand_in
          taltwt-sleeps =
              joins L joining (in-alt has-time)
              (asleep-held L A c here n.marks ν₆ own-now (chan-joined L joining) seen (λ e. until (link-joined L joining) least-now)
              n.known)
              A.operand (comes-to L A c)
              (λ y e. executes
              (exec-sleeps s base-in (state-size L A c) resume-in link-in time-in not-ready l.tm
              (queued_at (stop L joining) (asleep L A c here n.marks)) set-held time-held (rw clock-is ahead)
              (subst (λ v. sleep l.tm (stored (resume_word w) v (stored (state_word w) waiting (none_yet s)))
              ≡ done tt (queued_at (stop L joining) (asleep L A c here n.marks))) (sym A.placed) (sleeps-in L joining)) ∙ e)) refl

      -- by its time
      by-times : Bringing L.times st gs no_guard μ w → Goal L A c (operation I.taltwt)
      by-times (not_set z m) = taltwt-untimed z m
      by-times (is_set z l) = by_bool (after (now st) l.tm) (taltwt-past z l) (taltwt-sleeps z l)

    pub does-taltwt : Goal L A c (operation I.taltwt)
    does-taltwt = ⊎_elim (λ m. by-times m.0 m.1 (n.times has-time)) (λ m. taltwt-ready m.0 m.1) n.state
