-- DIST of a guard: ready where the time at which the ALT went on is after its own. An ALT that is still in the timer queue leaves it.
use Prim.Native.Nat.{ℕ, suc, ◌+◌, ◌≤◌, ◌<◌}
use native.Mathlib.Omega.{arith}
use native.Mathlib.Decide.{ℕ_discrete}
use mathlib.Core.Path.{◌≡◌, refl, sym, ap, ◌∙◌, subst}
use mathlib.Core.Logic.{◌≢◌, inl, inr, ⊎_elim}
use mathlib.Core.Bool.{true, false}
use mathlib.Core.List.{List, []}
use mathlib.Core.Option.{Option, none, some}
use lib.ListN.{get_or}
use borrow.Author.Tests.{eq-eqb, ne_eqb}
use Rattle.model.specs.Word.{after, not_process}
use Rattle.model.specs.Syntax.{Site, Expr, Stmt, time_guard, Guards, guard, timed}
use Rattle.model.specs.Instruction.{operation, operation_of, operation_code, coded, opr}
use Rattle.model.specs.Instruction as I
use Rattle.model.specs.Code.{function_in, operand_in}
use Rattle.model.specs.Scheme.{code_disable}
use Rattle.model.specs.Machine.{World, done, return, with_cpu, with_memory, stack, time_link_word, time_word, name_of, space_of}
use Rattle.model.specs.Alternative.{none_selected, select}
use Rattle.model.specs.Execute.{execute, operate}
use Rattle.model.specs.Timer.{was_at, Stop, along, walk, time_set, time_not_set, leave_timer, disable_set, disable_time}
use Rattle.model.specs.Occam.{eval, is_true, Frame, at_alt, State, now, by-time}
use Rattle.model.proofs.Cases.{never, by_bool}
use Rattle.model.proofs.Quiet.Ways.{Mem, front_word, upd, upd_same}
use Rattle.model.proofs.Quiet.Stretches.{Seg}
use Rattle.model.proofs.Quiet.Timing.{Timely, t-first, Linked, Passed, p-unset, p-set, p-linked}
use Rattle.model.proofs.Quiet.Marks.{Own, next_branch, p-first, AltCode, Rest as RestOf, Guarded, g-later, finds-present, finds-time}
use Rattle.model.proofs.Quiet.Marks.{AnyFound, f-first, f-later}
use Rattle.model.proofs.Quiet.Onwards.{rest-picks, rest-past, rest-timely, alt-goes, disable-way}
use Rattle.model.proofs.Words.Parts.{Part}
use Rattle.model.proofs.Invariant.Trees.{Info, Tree}
use Rattle.model.proofs.Effects.OneWord.{cpu_of, size_of, stored, peek-in, poke-in}
use Rattle.model.proofs.Invariant.Kernel.{Loaded, S, root, size, part_small, sits-at, Real}
use Rattle.model.proofs.Invariant.Running.{Only, Executes, executes, Acting}
use Rattle.model.proofs.Steps.Enabling.{space, true-when, false-when, Shows, shown, link-mine, time-mine, base-mine, times-room}
use Rattle.model.proofs.Steps.Enabling.{mine-size, mine-holds, Mine, w-under, state-mine, state-other, base-other, fine-rest}
use Rattle.model.proofs.Steps.Disabling.{past-found, passed-past, Disabled, far, Chosen, Marks, IsReady, Kept, Goal, times-kept}
use Rattle.model.proofs.Steps.Disabling.{disables-on, chooses-it, kept-choosing, times-choosing, ready-choosing}
use Rattle.model.proofs.Steps.Sleep.{linked_to, linked-cpu, linked-talk, real-linked, link-inside, walk_of}
use lib.Dec.{eqb}
use Rattle.model.proofs.Invariant.Unlinking.{place, η, there, spot, own-left, chan-left, rest-left}
use Rattle.model.proofs.Invariant.Writes.{time-words}
use Rattle.model.proofs.Invariant.Reals.{size_is, real-stored, link-any, real-cpu}
use Rattle.model.proofs.Invariant.Few.{few-asleep}
use Rattle.model.proofs.Invariant.Grounds.{small_size, sound-at}
use Rattle.model.proofs.Effects.Leaving.{along-to, stop-found, left_in}
use Rattle.model.proofs.Quiet.Names.{name-given}
use Rattle.model.proofs.Invariant.Finish.{alt-goes-on}
use Rattle.model.specs.declared.Cpu.{Cpu}

-- A is whether the branch was chosen
abbrev told : ℕ → World → World
told a s = with_cpu (stack a (cpu_of s).b (cpu_of s).c (cpu_of s)) s

exec-dist-off : (s : World) → (cpu_of s).b ≡ 0 → execute opr (operation_code I.dist) s ≡ done tt (told 0 s)
unfolding execute operate operation_of operation_code coded disable_time
exec-dist-off s e = rw (eq-eqb _ _ e)

module _ (s : World) (on : (cpu_of s).b ≢ 0) (base-in : (cpu_of s).workspace < size_of s)
    (link-in : time_link_word (cpu_of s).workspace < size_of s)
    (time-in : time_word (cpu_of s).workspace < size_of s) where
  abbrev w₀ : ℕ
  w₀ = (cpu_of s).workspace

  -- no time is set
  exec-dist-unset : get_or s.memory (time_link_word w₀) 0 ≡ time_not_set → execute opr (operation_code I.dist) s ≡ done tt (told 0 s)
  unfolding execute operate operation_of operation_code coded disable_time disable_set
  exec-dist-unset e =
      rw (ne_eqb _ _ on, peek-in (time_link_word w₀) s link-in, e)

  module _ (set : get_or s.memory (time_link_word w₀) 0 ≡ time_set) where
    exec-dist-ahead : after (get_or s.memory (time_word w₀) 0) (cpu_of s).c ≡ false → execute opr (operation_code I.dist) s ≡ done tt
        (told 0 s)
    unfolding execute operate operation_of operation_code coded disable_time disable_set
    exec-dist-ahead f =
        rw (ne_eqb _ _ on, peek-in (time_link_word w₀) s link-in, set, peek-in (time_word w₀) s time-in, f)

    module _ (past : after (get_or s.memory (time_word w₀) 0) (cpu_of s).c ≡ true) where
      exec-dist-first : get_or s.memory w₀ 0 ≡ none_selected
          → execute opr (operation_code I.dist) s ≡ done tt (told 1 (stored w₀ (cpu_of s).a s))
      unfolding execute operate operation_of operation_code coded disable_time disable_set select
      exec-dist-first e =
          rw (
            ne_eqb _ _ on,
            peek-in (time_link_word w₀) s link-in,
            set,
            peek-in (time_word w₀) s time-in,
            past,
            peek-in w₀ s base-in,
            eq-eqb _ _ e,
            poke-in w₀ (cpu_of s).a s base-in,
          )

      exec-dist-later : get_or s.memory w₀ 0 ≢ none_selected → execute opr (operation_code I.dist) s ≡ done tt (told 0 s)
      unfolding execute operate operation_of operation_code coded disable_time disable_set select
      exec-dist-later e =
          rw (
            ne_eqb _ _ on,
            peek-in (time_link_word w₀) s link-in,
            set,
            peek-in (time_word w₀) s time-in,
            past,
            peek-in w₀ s base-in,
            ne_eqb _ _ e,
          )

  -- it is in the timer queue, behind `b`, before `x`
  abbrev left_at : Option ℕ → ℕ → World
  left_at b x = with_cpu (stack 0 (cpu_of s).b (cpu_of s).c (cpu_of s)) (stored (time_link_word w₀) time_not_set (linked_to b x s))

  exec-dist-leaves : (b : Option ℕ) (x at : ℕ) → get_or s.memory (time_link_word w₀) 0 ≡ x → x ≢ time_set → x ≢ time_not_set
      → along (suc (size_of s)) (λ p. return (eqb p (name_of w₀))) s.machine.timer.front [] none s.machine.timer.front s
      ≡ done (record { before = b; at = at }) s
      → at ≢ not_process → ((v : ℕ) → b ≡ some v → time_link_word (space_of v) < size_of s)
      → execute opr (operation_code I.dist) s ≡ done tt (left_at b x)
  unfolding execute operate operation_of operation_code coded disable_time disable_set leave_timer walk
  exec-dist-leaves none x at e no-set no-unset found some_at inside =
      rw (
        ne_eqb _ _ on,
        peek-in (time_link_word w₀) s link-in,
        e,
        ne_eqb _ _ no-set,
        ne_eqb _ _ no-unset,
        found,
        ne_eqb _ _ some_at,
        poke-in (time_link_word w₀) time_not_set (linked_to none x s) link-in,
      )
  exec-dist-leaves (some v) x at e no-set no-unset found some_at inside =
      rw (
        ne_eqb _ _ on,
        peek-in (time_link_word w₀) s link-in,
        e,
        ne_eqb _ _ no-set,
        ne_eqb _ _ no-unset,
        found,
        ne_eqb _ _ some_at,
        poke-in (time_link_word (space_of v)) x s (inside v refl),
        poke-in (time_link_word w₀) time_not_set (linked_to (some v) x s) link-in,
      )

module _ (L : Loaded) {s : World} {st : State} {μ : Mem} {t : Tree (S L) (root L) st.process} {path : List ℕ} {b : Part} {i : Info}
    {ws : List ℕ} {at hi : ℕ} {gs : Guards} {k : List Frame} (A : Acting L s st μ t path (at_alt gs k) b i (Only path) ws at hi)
    {hi₀ i₀ : ℕ} (c : AltCode (S L) b gs i.vars i.chans k hi₀ i₀ ((cpu_of s).workspace + 1)) (tied : (cpu_of s).workspace ≡ i.w)
    (has-time : timed gs ≡ true) (e u : Expr) (g : Stmt) (hs : Guards) {m : ℕ} (near : hi₀ ≤ hi)
    (past : RestOf gs (c.choice + 1) (guard (time_guard e u) g hs) m) (n : Disabled L A c tied (guard (time_guard e u) g hs) μ)
    (branch : (cpu_of s).a ≡ far L A c tied m) (val : (cpu_of s).b ≡ eval st.store e) (time : (cpu_of s).c ≡ eval st.store u)
    (code : Seg (S L).xs (suc at) (code_disable (S L).word (space s) c.choice (next_branch m (time_guard e u) g) hs) c.choice) where
  abbrev w : ℕ
  w = space s

  abbrev tm : ℕ
  tm = eval st.store u

  room : b.bottom + 5 ≤ w
  room = times-room L A c has-time

  base-in : w < size_of s
  base-in = mine-size L A c (base-mine L A c)

  link-in : time_link_word w < size_of s
  link-in = mine-size L A c (link-mine L A c room)

  time-in : time_word w < size_of s
  time-in = mine-size L A c (time-mine L A c room)

  -- the marks are those of the rest
  time-marks : (ν : Mem) → Kept L A c tied ν → Marks L A c tied hs ν
  time-marks ν same d l o =
      let (own, h) = n.marks d l (subst (Own b) (same d l) o) in (same d l ∙ own, past-time h)
    where
      past-time : {d : Site} → Guarded st.store d (guard (time_guard e u) g hs) → Guarded st.store d hs
      past-time (g-later h) = h

  -- on to the next guard, with other times
  dist-on : (a : ℕ) {l : List ℕ} (ν : Mem) → Executes L (operation I.dist) s
      (with_cpu (stack a (cpu_of s).b (cpu_of s).c (cpu_of s)) (with_memory l s))
      → Shows L A c l ν → Kept L A c tied ν → IsReady L A c tied ν → Chosen L A c tied hs ν
      → (timed gs ≡ true → Passed L.times st gs hs ν w) → Goal L A c tied (operation I.dist)
  dist-on a ν ran m same state chosen times =
      disables-on L A c tied hs near (rest-past past) code a (cpu_of s).b (cpu_of s).c ran m
      (record { marks = time-marks ν same; state = state; chosen = chosen; times = times; known = n.known })

  -- the guard is not found: one was chosen before, or one of the rest is
  chosen-past : (is_true st.store e ≡ true → μ (time_link_word w) ≡ time_set → after (μ (time_word w)) tm ≡ true → ⊥)
      → Chosen L A c tied hs μ
  chosen-past f =
      ⊎_elim (λ h. inl h) (λ h. inr (
        h.0,
        past-found h.1 (λ r. elim r [
          | finds-present p ↦ elim p [ ]
          | finds-time x y z ↦ f x y z
        ]),
      )) n.chosen

  dist-off : (cpu_of s).b ≡ 0 → Goal L A c tied (operation I.dist)
  unfolding function_in operand_in
  dist-off f =
      let off = false-when st.store e (cpu_of s).b val f in
      dist-on 0 μ (executes (exec-dist-off s f)) (shown L A c) (λ d l. refl) n.state (chosen-past (λ x. never (cc (x, off))))
      (λ z. passed-past (time_guard e u) (λ y t same. subst (λ y. is_true st.store y ≡ false) (condition same) off) (n.times z))
    where
      condition : {e y t : Expr} {u : Expr} → time_guard e u ≡ time_guard y t → e ≡ y
      condition q = cc

  module _ (on : (cpu_of s).b ≢ 0) where
    is-on : is_true st.store e ≡ true
    is-on = true-when st.store e (cpu_of s).b val on

    dist-unset : μ (time_link_word w) ≡ time_not_set → Goal L A c tied (operation I.dist)
    unfolding function_in operand_in
    dist-unset z =
        dist-on 0 μ (executes (exec-dist-unset s on base-in link-in time-in (mine-holds L A c (link-mine L A c room) z)))
        (shown L A c) (λ d l. refl) n.state (chosen-past (λ x y f. absurd (omega (arith, sym z ∙ y)))) (λ h. p-unset z)

    -- the time at which the ALT went on is in its word
    module _ (z : μ (time_link_word w) ≡ time_set)
        (passed : (v : ℕ) → Timely st.store v gs → after (μ (time_word w)) v ≡ true → L.times.sure → after (now st) v ≡ true) where
      set-held : get_or s.memory (time_link_word w) 0 ≡ time_set
      set-held = mine-holds L A c (link-mine L A c room) z

      held : get_or s.memory (time_word w) 0 ≡ μ (time_word w)
      held = mine-holds L A c (time-mine L A c room) refl

      dist-ahead : after (μ (time_word w)) tm ≡ false → Goal L A c tied (operation I.dist)
      unfolding function_in operand_in
      dist-ahead f =
          dist-on 0 μ
          (executes (exec-dist-ahead s on base-in link-in time-in set-held (rw (held, time) f)))
          (shown L A c) (λ d l. refl) n.state (chosen-past (λ x y h. never (cc (h, f)))) (λ h. p-set z passed)

      dist-past : after (μ (time_word w)) tm ≡ true → Dec (μ w ≡ none_selected) → Goal L A c tied (operation I.dist)
      unfolding function_in operand_in
      dist-past f (yes d) =
          let ν = upd μ w (far L A c tied m) in
          dist-on 1 ν
          (executes
          (subst (λ v. execute opr (operation_code I.dist) s ≡ done tt (told 1 (stored w v s))) branch
          (exec-dist-first s on base-in link-in time-in set-held (rw (held, time) f) (mine-holds L A c (base-mine L A c) d))))
          (chooses-it L A c tied m) (kept-choosing L A c tied m) (ready-choosing L A c tied m n.state)
          (inl (
            m,
            _,
            rest-picks past (p-first (λ o. by-time is-on (passed tm (rest-timely past (t-first is-on refl)) f o))),
            upd_same μ w (far L A c tied m),
          )) (times-kept L A c tied (times-choosing L A c tied m) (λ h. p-set z passed))
      dist-past f (no d) =
          dist-on 0 μ
          (executes
          (exec-dist-later s on base-in link-in time-in set-held (rw (held, time) f)
          (λ h. d (sym (mine-holds L A c (base-mine L A c) refl) ∙ h))))
          (shown L A c) (λ d l. refl) n.state (⊎_elim (λ h. inl h) (λ h. absurd (d h.0)) n.chosen) (λ h. p-set z passed)

    -- it is in the timer queue still, and leaves it
    module _ (linked : Linked μ i.w) where
      room-known : b.bottom + 5 ≤ i.w
      room-known = subst (λ v. b.bottom + 5 ≤ v) tied room

      abbrev behind : Stop
      behind = place L A.rest A.leaf refl has-time room-known linked

      -- the words then
      abbrev ν : Mem
      ν = η L A.rest A.leaf refl has-time room-known linked

      own-link : time_link_word i.w < size L
      own-link = omega (arith, (time-words L A.leaf room-known).1, part_small L A.leaf)

      -- the walk finds it
      walked : along (suc (size_of s)) (λ p. return (eqb p (name_of i.w))) s.machine.timer.front [] none s.machine.timer.front s
          ≡ done behind s
      unfolding was_at
      walked =
          let front = s.machine.timer.front in
          along-to (suc (size_of s)) i.w front none A.rest.sleepers.asleep s μ front_word front A.real.front
          A.rest.sleepers.chain (walk_of L A.real A.rest) (omega (arith, few-asleep L A.rest, size_is L A.real))

      some-there : behind.at ≢ not_process
      some-there f =
          name-given i.w (omega (arith, (sits-at L A.leaf).placed.low, part_small L A.leaf, small_size L))
          (sym (stop-found i.w none A.rest.sleepers.asleep (there L A.rest A.leaf refl has-time room-known linked)) ∙ f)

      -- its link, and the world without it
      abbrev next : ℕ
      next = μ (time_link_word i.w)

      abbrev without : World
      without = stored (time_link_word i.w) time_not_set (linked_to behind.before next s)

      real-without : Real L without st ν ws
      real-without =
          let low = (sits-at L A.leaf).placed.low in
          let words = time-words L A.leaf room-known in
          real-stored L (time_link_word i.w) time_not_set own-link
          (link-any L A.lined A.leaf (time_link_word i.w) words.0 words.1
          (λ e. absurd (omega (arith, e, room-known, low, part_small L A.leaf, (S L).top_small))))
          (real-linked L A.lined next behind.before (spot L A.rest A.leaf refl has-time room-known linked) A.real)

      own-kept : {v : ℕ} → Mine L A c v → v ≢ time_link_word i.w → ν v ≡ μ v
      own-kept {v} m d =
          own-left L A.rest A.leaf refl has-time room-known linked v m.0 (omega (arith, m.1, w-under L A c)) d

      link-now : ν (time_link_word w) ≡ time_not_set
      link-now = ap (λ v. ν (time_link_word v)) tied ∙ upd_same (left_in i.w behind μ) (time_link_word i.w) time_not_set

      disabled-now : Disabled L A c tied hs ν
      disabled-now =
          record {
            marks = time-marks ν (chan-left L A.rest A.leaf refl has-time room-known linked);
            state = own-kept (state-mine L A c) (λ f. (state-other L A c).0 (ap time_link_word tied ∙ sym f)) ∙ n.state;
            chosen = ⊎_elim (λ h. let (l, p, q, d) = h in inl (l, p, q, base_kept ∙ d))
                (λ h. inr (
                  base_kept ∙ h.0,
                  unset-found (past-found h.1 (λ r. elim r [
                    | finds-present p ↦ elim p [ ]
                    | finds-time x y z ↦ linked.0 (ap (λ v. μ (time_link_word v)) (sym tied) ∙ y)
                  ])),
                )) n.chosen;
            times = λ h. p-unset link-now;
            known = n.known;
          }
        where
          base_kept : ν w ≡ μ w
          base_kept = own-kept (base-mine L A c) (λ f. (base-other L A c).0 (ap time_link_word tied ∙ sym f))

          -- nothing was found by its time
          unset-found : {hs : Guards} → AnyFound st μ w hs → AnyFound st ν w hs
          unset-found (f-first (finds-present p)) = f-first (finds-present p)
          unset-found (f-first (finds-time x y z)) = absurd (linked.0 (ap (λ v. μ (time_link_word v)) (sym tied) ∙ y))
          unset-found (f-later h) = f-later (unset-found h)

      ran : Executes L (operation I.dist) s (with_cpu (stack 0 (cpu_of s).b (cpu_of s).c (cpu_of s)) without)
      unfolding function_in operand_in
      ran =
          executes
          (subst (λ v. execute opr (operation_code I.dist) s
          ≡ done tt (with_cpu (stack 0 (cpu_of s).b (cpu_of s).c (cpu_of s))
          (stored (time_link_word v) time_not_set (linked_to behind.before next s))))
          tied
          (exec-dist-leaves s on base-in link-in time-in behind.before next behind.at
          (mine-holds L A c (link-mine L A c room) (ap (λ v. μ (time_link_word v)) tied)) linked.0 linked.1
          (subst (λ v. along (suc (size_of s)) (λ p. return (eqb p (name_of v))) s.machine.timer.front [] none
          s.machine.timer.front s
          ≡ done behind s) (sym tied) walked) some-there
          (λ v q. rw (size_is L A.real) (link-inside L A.lined behind.before
          (spot L A.rest A.leaf refl has-time room-known linked) v q))))

      dist-leaves : Goal L A c tied (operation I.dist)
      dist-leaves =
          let r = stack 0 (cpu_of s).b (cpu_of s).c (cpu_of s) in
          let rest = rest-left L A.rest A.leaf refl has-time room-known linked in
          alt-goes-on L A (with_cpu r without) ran (linked-talk behind.before next s)
          (real-cpu L r (ap (λ (z : Cpu). z.front) same-cpu) (ap (λ (z : Cpu). z.back) same-cpu)
          (ap (λ (z : Cpu). z.queued) same-cpu) real-without)
          A.run A.operand rest A.lined (suc at) hi A.placed A.inside (omega arith)
          (alt-goes w tied
          (disable-way (S L) b L.times st w c (sound-at L rest A.leaf) hs near (fine-rest L A c (rest-past past)) (rest-past past)
          disabled-now code refl))
        where
          same-cpu : cpu_of s ≡ cpu_of without
          same-cpu = sym (linked-cpu behind.before next s)

    dist-true : Passed L.times st gs (guard (time_guard e u) g hs) μ w → Goal L A c tied (operation I.dist)
    dist-true (p-unset z) = dist-unset z
    dist-true (p-set z h) = by_bool (after (μ (time_word w)) tm) (λ f. dist-past z h f (ℕ_discrete (μ w) none_selected)) (dist-ahead z h)
    dist-true (p-linked l v m) = dist-leaves (subst (Linked μ) tied l)

  pub does-dist : Goal L A c tied (operation I.dist)
  does-dist = by (ℕ_discrete (cpu_of s).b 0)
    where
      by : Dec ((cpu_of s).b ≡ 0) → Goal L A c tied (operation I.dist)
      by (yes f) = dist-off f
      by (no f) = dist-true f (n.times has-time)
