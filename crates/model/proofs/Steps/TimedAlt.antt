-- TALT, ENBT and TALTWT: an ALT with a time guard begins, brings the times of its true guards, and goes on, or waits in the timer queue.
use Prim.Native.Nat.{ℕ, suc, ◌+◌, ◌^◌, ◌≤◌, ◌<◌}
use native.Mathlib.Omega.{arith}
use native.Mathlib.Decide.{ℕ_discrete}
use mathlib.Core.Path.{◌≡◌, refl, sym, ◌∙◌, subst}
use mathlib.Core.Logic.{◌≢◌, inl, inr, ⊎_elim, ◌⊎◌}
use mathlib.Core.Bool.{true, false}
use mathlib.Core.List.{List}
use lib.ListN.{get_or, set}
use borrow.Author.Tests.{eq-eqb, ne_eqb}
use Rattle.model.specs.Word.{after}
use Rattle.model.specs.Syntax.{Expr, Stmt, ALT, time_guard, Guards, guard, timed}
use Rattle.model.specs.Instruction.{operation, operation_of, operation_code, coded, opr}
use Rattle.model.specs.Instruction as I
use Rattle.model.specs.Code.{function_in, operand_in}
use Rattle.model.specs.Scheme.{size_enable, code_enable}
use Rattle.model.specs.Machine.{World, done, with_cpu, with_memory, stack, state_word, time_link_word, time_word}
use Rattle.model.specs.Alternative.{enabling, ready, begin_alt}
use Rattle.model.specs.Execute.{execute, operate}
use Rattle.model.specs.Timer.{time_set, time_not_set, begin_timed_alt, bring_time, enable_time}
use Rattle.model.specs.Occam.{eval, is_true, Frame, before, State, now}
use Rattle.model.proofs.Cases.{never, by_bool}
use Rattle.model.proofs.Quiet.Ways.{Mem, upd, upd_same, upd_other, regs_of}
use Rattle.model.proofs.Quiet.Stretches.{Seg}
use Rattle.model.proofs.Quiet.Timing.{Timely, t-first, EachTime, e-none, each_map, each-past, Least, Bringing, not_set, is_set}
use Rattle.model.proofs.Quiet.Timing.{Guarding, each_both}
use Rattle.model.proofs.Quiet.Marks.{Own, AltCode, rest_all, n-none, Noticed, AnyPresent, Rest as RestOf}
use Rattle.model.proofs.Quiet.Onwards.{AltGoes, enable-first, rest-past, noticed-past, rest-timely}
use Rattle.model.proofs.Words.Parts.{Part}
use Rattle.model.proofs.Invariant.Trees.{Info, Tree}
use Rattle.model.proofs.Invariant.Leaves.{Unmarked}
use Rattle.model.proofs.Effects.OneWord.{cpu_of, size_of, stored, peek-in, poke-in}
use Rattle.model.proofs.Invariant.Kernel.{Loaded, S, root}
use Rattle.model.proofs.Invariant.Grounds.{sound-at}
use Rattle.model.proofs.Invariant.Running.{Only, Executes, executes, Acting}
use Rattle.model.proofs.Steps.Enabling.{space, true-when, false-when, Shows, shown, own-chan, onward, link-mine, time-mine}
use Rattle.model.proofs.Steps.Enabling.{times-room, state-mine, mine-size, mine-holds, state-other, Enabled, Marks, Goal, state-size}
use Rattle.model.proofs.Steps.Enabling.{state-write, base-write, enables-on, own-marked, own-noticed}
use Rattle.model.proofs.Words.Times.{least-of, self-not}

exec-talt : (s : World)
    → let w = (cpu_of s).workspace in
    state_word w < size_of s → time_link_word w < size_of s
    → execute opr (operation_code I.talt) s ≡ done tt (stored (time_link_word w) time_not_set (stored (state_word w) enabling s))
unfolding execute operate operation_of operation_code coded begin_timed_alt begin_alt
exec-talt s hs hl =
    let w = (cpu_of s).workspace in
    rw (poke-in (state_word w) enabling s hs, poke-in (time_link_word w) time_not_set (stored (state_word w) enabling s) hl)

-- ENBT with a false condition, with the first time, with an earlier one, and with one that is not
abbrev timed_stack : World → World
timed_stack s = with_cpu (stack (cpu_of s).a (cpu_of s).c (cpu_of s).c (cpu_of s)) s

exec-enbt-off : (s : World) → (cpu_of s).a ≡ 0 → execute opr (operation_code I.enbt) s ≡ done tt (timed_stack s)
unfolding execute operate operation_of operation_code coded enable_time
exec-enbt-off s e = rw (eq-eqb _ _ e)

module _ (s : World) (on : (cpu_of s).a ≢ 0) (link-in : time_link_word (cpu_of s).workspace < size_of s)
    (time-in : time_word (cpu_of s).workspace < size_of s) where
  abbrev w₀ : ℕ
  w₀ = (cpu_of s).workspace

  exec-enbt-first : get_or s.memory (time_link_word w₀) 0 ≡ time_not_set
      → execute opr (operation_code I.enbt) s
      ≡ done tt (timed_stack (stored (time_word w₀) (cpu_of s).b (stored (time_link_word w₀) time_set s)))
  unfolding execute operate operation_of operation_code coded enable_time bring_time
  exec-enbt-first e =
      rw (
        ne_eqb _ _ on,
        peek-in (time_link_word w₀) s link-in,
        eq-eqb _ _ e,
        poke-in (time_link_word w₀) time_set s link-in,
        poke-in (time_word w₀) (cpu_of s).b (stored (time_link_word w₀) time_set s) time-in,
      )

  exec-enbt-earlier : get_or s.memory (time_link_word w₀) 0 ≢ time_not_set → after (get_or s.memory (time_word w₀) 0) (cpu_of s).b ≡ true
      → execute opr (operation_code I.enbt) s ≡ done tt (timed_stack (stored (time_word w₀) (cpu_of s).b s))
  unfolding execute operate operation_of operation_code coded enable_time bring_time
  exec-enbt-earlier d e =
      rw (
        ne_eqb _ _ on,
        peek-in (time_link_word w₀) s link-in,
        ne_eqb _ _ d,
        peek-in (time_word w₀) s time-in,
        e,
        poke-in (time_word w₀) (cpu_of s).b s time-in,
      )

  exec-enbt-later : get_or s.memory (time_link_word w₀) 0 ≢ time_not_set → after (get_or s.memory (time_word w₀) 0) (cpu_of s).b ≡ false
      → execute opr (operation_code I.enbt) s ≡ done tt (timed_stack s)
  unfolding execute operate operation_of operation_code coded enable_time bring_time
  exec-enbt-later d e =
      rw (ne_eqb _ _ on, peek-in (time_link_word w₀) s link-in, ne_eqb _ _ d, peek-in (time_word w₀) s time-in, e)

module _ (L : Loaded) {s : World} {st : State} {μ : Mem} {t : Tree (S L) (root L) st.process} {path : List ℕ} {b : Part} {i : Info}
    {ws : List ℕ} {at hi : ℕ} {gs : Guards} {k : List Frame} (A : Acting L s st μ t path (before (ALT gs) k) b i (Only path) ws at hi)
    {hi₀ i₀ : ℕ} (c : AltCode (S L) b gs i.vars i.chans k hi₀ i₀ ((cpu_of s).workspace + 1)) (has-time : timed gs ≡ true) where
  abbrev w : ℕ
  w = space s

  room : b.bottom + 5 ≤ w
  room = times-room L A c has-time

  link-in : time_link_word w < size_of s
  link-in = mine-size L A c (link-mine L A c room)

  time-in : time_word w < size_of s
  time-in = mine-size L A c (time-mine L A c room)

  link-other : time_link_word w ≢ time_word w
  link-other e = absurd (omega (arith, e))

  -- TALT
  module _ (here : at ≡ i₀ + 1) (near : hi₀ ≤ hi) (clean : Unmarked (S L) b i st μ) where
    abbrev ν : Mem
    ν = upd (upd μ (state_word w) enabling) (time_link_word w) time_not_set

    shows : Shows L A c (set (set s.memory (state_word w) enabling) (time_link_word w) time_not_set) ν
    shows = base-write L A c (time_link_word w) time_not_set (link-mine L A c room) (state-write L A c enabling)

    begun : Enabled L A c gs ν
    begun =
        record {
          rest = (0, rest_all);
          marks = λ d m o.
              absurd (clean d m (subst (Own b) (own-chan L A c (upd μ (state_word w) enabling) (time_link_word w) time_not_set
              (link-mine L A c room) d m ∙ own-chan L A c μ (state_word w) enabling (state-mine L A c) d m) o));
          state = inl (
            upd_other (upd μ (state_word w) enabling) (time_link_word w) time_not_set (state_word w) (λ e. (state-other L A c).0 (sym e))
                ∙ upd_same μ (state_word w) enabling,
            n-none,
          );
          times = λ z. not_set (upd_same (upd μ (state_word w) enabling) (time_link_word w) time_not_set) e-none;
          known = e-none;
        }

    pub talt-begins : Goal L A c (operation I.talt)
    unfolding function_in operand_in
    talt-begins =
        let e : i₀ + 2 ≡ suc at = omega arith in
        onward L A c (cpu_of s).a (cpu_of s).b (cpu_of s).c (executes (exec-talt s (state-size L A c) link-in)) shows
        (subst (λ z. AltGoes (S L) b L.times st i.vars i.chans (before (ALT gs) k) i.w hi ν z (regs_of (cpu_of s))) e
        (enable-first (S L) b L.times st w c (sound-at L shows.rest A.leaf) near begun refl))

  -- ENBT of a guard
  module _ (e u : Expr) (g : Stmt) (hs : Guards) (near : hi₀ ≤ hi) (n : Enabled L A c (guard (time_guard e u) g hs) μ)
      (val : (cpu_of s).a ≡ eval st.store e) (time : (cpu_of s).b ≡ eval st.store u) (small : eval st.store u < 2 ^ 32)
      (code : Seg (S L).xs (suc at) (code_enable (S L).word w hs) (i₀ + 2 + size_enable gs))
      (guards : (cpu_of s).a ≢ 0 → L.times.guarded w (eval st.store u) (now st)) (clock-word : now st < 2 ^ 32) where
    abbrev tm : ℕ
    tm = eval st.store u

    -- the state of the guards without a time stays, whatever the time words are
    seen : {ν : Mem} → ν (state_word w) ≡ μ (state_word w)
        → (Noticed st (S L).word μ w gs (guard (time_guard e u) g hs) → Noticed st (S L).word ν w gs (guard (time_guard e u) g hs))
        → ((ν (state_word w) ≡ enabling) × Noticed st (S L).word ν w gs hs) ⊎ ((ν (state_word w) ≡ ready) × AnyPresent st gs)
    seen same more =
        ⊎_elim (λ m. inl (same ∙ m.0, noticed-past (time_guard e u) (more m.1) tt)) (λ m. inr (same ∙ m.0, m.1)) n.state

    on : (cpu_of s).a ≢ 0 → is_true st.store e ≡ true
    on a = true-when st.store e (cpu_of s).a val a

    known_past : (is_true st.store e ≡ true → (cpu_of s).a ≢ 0) → Guarding L.times st gs hs w
    known_past f = each-past st.store (time_guard e u) n.known (λ z. (small, guards (f z)))

    past : (m : ℕ) × RestOf gs 0 hs m
    past = (_, rest-past n.rest.1)

    -- on with these words
    on-with : {l : List ℕ} {ν : Mem} → Executes L (operation I.enbt) s (timed_stack (with_memory l s)) → Shows L A c l ν
        → Marks L A c ν → ν (state_word w) ≡ μ (state_word w)
        → (Noticed st (S L).word μ w gs (guard (time_guard e u) g hs) → Noticed st (S L).word ν w gs (guard (time_guard e u) g hs))
        → Bringing L.times st gs hs ν w → (is_true st.store e ≡ true → (cpu_of s).a ≢ 0) → Goal L A c (operation I.enbt)
    on-with {ν = ν} ran m marks same more times f =
        enables-on L A c hs near code (cpu_of s).a (cpu_of s).c (cpu_of s).c ran m
        (record { rest = past; marks = marks; state = seen {ν = ν} same more; times = λ z. times; known = known_past f })

    -- nothing is written
    passes : Executes L (operation I.enbt) s (timed_stack s) → Bringing L.times st gs hs μ w
        → (is_true st.store e ≡ true → (cpu_of s).a ≢ 0) → Goal L A c (operation I.enbt)
    passes ran times f = on-with ran (shown L A c) n.marks refl (λ m. m) times f

    -- the condition is false
    enbt-off : (cpu_of s).a ≡ 0 → Goal L A c (operation I.enbt)
    unfolding function_in operand_in
    enbt-off a =
        let off = false-when st.store e (cpu_of s).a val a in
        passes (executes (exec-enbt-off s a)) (unchanged off (n.times has-time)) (λ z. never (cc (z, off)))
      where
        unchanged : is_true st.store e ≡ false → Bringing L.times st gs (guard (time_guard e u) g hs) μ w
            → Bringing L.times st gs hs μ w
        unchanged off (not_set z m) = not_set z (each-past st.store (time_guard e u) m (λ y. never (cc (y, off))))
        unchanged off (is_set z l) =
            is_set z
            (record {
              tm = l.tm;
              is = l.is;
              small = l.small;
              one = l.one;
              knows = l.knows;
              least = each-past st.store (time_guard e u) l.least (λ y. never (cc (y, off)));
            })

    -- it is true
    module _ (a : (cpu_of s).a ≢ 0) where
      timely : Timely st.store tm gs
      timely = rest-timely n.rest.1 (t-first (on a) refl)

      -- the first time
      module _ (z : μ (time_link_word w) ≡ time_not_set) (m : EachTime st.store (λ v. ⊥) gs (guard (time_guard e u) g hs)) where
        abbrev ν₁ : Mem
        ν₁ = upd μ (time_link_word w) time_set

        abbrev ν₂ : Mem
        ν₂ = upd ν₁ (time_word w) (cpu_of s).b

        enbt-first : Goal L A c (operation I.enbt)
        unfolding function_in operand_in
        enbt-first =
            on-with
            (executes (exec-enbt-first s a link-in time-in (mine-holds L A c (link-mine L A c room) z)))
            (base-write L A c (time_word w) (cpu_of s).b (time-mine L A c room)
            (base-write L A c (time_link_word w) time_set (link-mine L A c room) (shown L A c)))
            (own-marked L A c ν₁ (time_word w) (cpu_of s).b (time-mine L A c room)
            (own-marked L A c μ (time_link_word w) time_set (link-mine L A c room) n.marks))
            (upd_other ν₁ (time_word w) (cpu_of s).b (state_word w) (λ e. (state-other L A c).1 (sym e))
            ∙ upd_other μ (time_link_word w) time_set (state_word w) (λ e. (state-other L A c).0 (sym e)))
            (λ k. own-noticed L A c ν₁ (time_word w) (cpu_of s).b (time-mine L A c room)
            (own-noticed L A c μ (time_link_word w) time_set (link-mine L A c room) k))
            (is_set (upd_other ν₁ (time_word w) (cpu_of s).b (time_link_word w) link-other ∙ upd_same μ (time_link_word w) time_set)
            (record {
              tm = tm;
              is = upd_same ν₁ (time_word w) (cpu_of s).b ∙ time;
              small = small;
              one = timely;
              knows = guards a;
              least = each-past st.store (time_guard e u) (each_map st.store (λ v x o. absurd x) m) (λ y o. self-not tm small);
            })) (λ y. a)

      -- one is set
      module _ (z : μ (time_link_word w) ≡ time_set) (l : Least L.times st gs (guard (time_guard e u) g hs) μ w) where
        not_unset : get_or s.memory (time_link_word w) 0 ≢ time_not_set
        not_unset e = absurd (omega (arith, sym (mine-holds L A c (link-mine L A c room) z) ∙ e))

        held-time : get_or s.memory (time_word w) 0 ≡ l.tm
        held-time = mine-holds L A c (time-mine L A c room) l.is

        enbt-later : after l.tm tm ≡ false → Goal L A c (operation I.enbt)
        unfolding function_in operand_in
        enbt-later f =
            passes
            (executes (exec-enbt-later s a link-in time-in not_unset (rw (held-time, time) f)))
            (is_set z
            (record {
              tm = l.tm;
              is = l.is;
              small = l.small;
              one = l.one;
              knows = l.knows;
              least = each-past st.store (time_guard e u) l.least (λ y o. f);
            })) (λ y. a)

        -- an earlier one: it is not after those that the one before was not after
        enbt-earlier : after l.tm tm ≡ true → Goal L A c (operation I.enbt)
        unfolding function_in operand_in
        enbt-earlier f =
            on-with
            (executes (exec-enbt-earlier s a link-in time-in not_unset (rw (held-time, time) f)))
            (base-write L A c (time_word w) (cpu_of s).b (time-mine L A c room) (shown L A c))
            (own-marked L A c μ (time_word w) (cpu_of s).b (time-mine L A c room) n.marks)
            (upd_other μ (time_word w) (cpu_of s).b (state_word w) (λ e. (state-other L A c).1 (sym e)))
            (λ k. own-noticed L A c μ (time_word w) (cpu_of s).b (time-mine L A c room) k)
            (is_set (upd_other μ (time_word w) (cpu_of s).b (time_link_word w) link-other ∙ z)
            (record {
              tm = tm;
              is = upd_same μ (time_word w) (cpu_of s).b ∙ time;
              small = small;
              one = timely;
              knows = guards a;
              least = each-past st.store (time_guard e u)
                  (each_both st.store (λ v x y o.
                  least-of clock-word l.small small x.0 (L.guarded-near o w l.tm (now st) l.knows)
                  (L.guarded-near o w tm (now st) (guards a)) (L.guarded-near o w v (now st) x.1) f (y o)) n.known l.least)
                  (λ y o. self-not tm small);
            })) (λ y. a)

      by-times : Bringing L.times st gs (guard (time_guard e u) g hs) μ w → Goal L A c (operation I.enbt)
      by-times (not_set z m) = enbt-first z m
      by-times (is_set z l) = by_bool (after l.tm tm) (enbt-earlier z l) (enbt-later z l)

    pub does-enbt : Goal L A c (operation I.enbt)
    does-enbt = by (ℕ_discrete (cpu_of s).a 0)
      where
        by : Dec ((cpu_of s).a ≡ 0) → Goal L A c (operation I.enbt)
        by (yes a) = enbt-off a
        by (no a) = by-times a (n.times has-time)
