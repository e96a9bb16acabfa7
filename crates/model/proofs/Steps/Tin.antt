-- TIN: a process comes to WAIT. It goes on where the clock is after its time; else it goes into the timer queue.
use Prim.Native.Nat.{ℕ, suc, ◌+◌, ◌^◌, ◌≤◌, ◌<◌}
use native.Mathlib.Omega.{arith}
use mathlib.Core.Path.{◌≡◌, refl, sym, ap, ◌∙◌, subst}
use mathlib.Core.Logic.{◌≢◌, ⊎_elim}
use mathlib.Core.Bool.{true, false}
use mathlib.Core.List.{List, [], ◌∷◌, Memᴰ}
use Rattle.model.specs.Word.{less, after}
use Rattle.model.specs.Limits.{word_limit}
use Rattle.model.specs.Syntax.{Expr, WAIT}
use Rattle.model.specs.Instruction.{operation, operation_of, operation_code, coded, opr}
use Rattle.model.specs.Instruction as I
use Rattle.model.specs.Code.{function_in, operand_in}
use Rattle.model.specs.Machine.{World, done, resume_word, state_word, time_link_word, time_word, release}
use Rattle.model.specs.Alternative.{waiting}
use Rattle.model.specs.Execute.{execute, operate}
use Rattle.model.specs.Timer.{sleep, timer_input}
use Rattle.model.specs.Occam.{eval, Frame, Process, before, at_wait, resume, go, look, put, State, now, Step, begins, goes_on}
use Rattle.model.specs.Demand.{step}
use Rattle.model.proofs.Cases.{never, by_bool}
use Rattle.model.proofs.Quiet.Ways.{Mem, upd, upd_same, upd_other}
use Rattle.model.proofs.Quiet.Setting.{whole}
use Rattle.model.proofs.Occam.Paths.{l-wait, leaf-resume, live-resume, silent-resume, look-put-same, put-put-same, same-path}
use Rattle.model.proofs.Occam.Paths.{off-resume}
use Rattle.model.proofs.Words.Parts.{Part, Fine}
use Rattle.model.proofs.Quiet.Continuations.{Placed, Cont, cont-placed}
use Rattle.model.proofs.Quiet.Marks.{Own}
use Rattle.model.proofs.Quiet.Arrivals.{arrives}
use Rattle.model.proofs.Invariant.Trees.{some_same, Info, Sits, Tree, bytes_left}
use Rattle.model.proofs.Invariant.Leaves.{Unmarked, Asleep, h-asleep}
use Rattle.model.proofs.Effects.OneWord.{cpu_of, size_of, stored, poke-in}
use Rattle.model.proofs.Invariant.Kernel.{Loaded, S, root, size, LeafAt, Rest, Lined, Real, node, part_small, sleeper, Dozer}
use Rattle.model.proofs.Invariant.Kernel.{at-wait, in-alt}
use Rattle.model.proofs.Invariant.Puts.{putting, tree_then, here-then, lined_then, rest_then}
use Rattle.model.proofs.Invariant.Grounds.{small_size, sound-at}
use Rattle.model.proofs.Invariant.Traces.{Trace, t-none, t-step}
use Rattle.model.proofs.Invariant.Running.{Only, Did, Executes, executes, Acting}
use Rattle.model.proofs.Invariant.Reals.{size_is, real-state}
use Rattle.model.proofs.Invariant.Moving.{other-w}
use Rattle.model.proofs.Invariant.Scheduling.{settle}
use Rattle.model.proofs.Invariant.Finish.{then-settles, silent}
use Rattle.model.proofs.Steps.Advance.{Silent, goes-as}
use Rattle.model.proofs.Steps.Basics.{before-silent}
use Rattle.model.proofs.Steps.Sleep.{queued_at, Joining, stop, joined, sleeps-in, own-joined, chan-joined, joins}
use Rattle.model.proofs.Steps.Meets.{rest_below, real-below, clean-below}

-- the words that a process writes before it goes into the timer queue
abbrev parked : (t : ℕ) → World → World
parked t s =
    let w = (cpu_of s).workspace in stored (time_word w) t (stored (state_word w) waiting (stored (resume_word w) (cpu_of s).place s))

exec-tin-past : (s : World) → after s.machine.timer.clock (cpu_of s).a ≡ true → execute opr (operation_code I.tin) s ≡ done tt s
unfolding execute operate operation_of operation_code coded timer_input
exec-tin-past s e = rw e

exec-tin-waits : (s u : World) → after s.machine.timer.clock (cpu_of s).a ≡ false
    → 5 ≤ (cpu_of s).workspace → (cpu_of s).workspace ≤ size_of s → (cpu_of s).workspace ≤ word_limit
    → sleep (cpu_of s).a (parked (cpu_of s).a s) ≡ done tt u → execute opr (operation_code I.tin) s ≡ release u
unfolding execute operate operation_of operation_code coded timer_input
exec-tin-waits s u e space inside small asleep =
    let w = (cpu_of s).workspace in
    let s₁ = stored (resume_word w) (cpu_of s).place s in
    rw (
      e,
      poke-in (resume_word w) (cpu_of s).place s (omega (arith, space, inside, small)),
      poke-in (state_word w) waiting s₁ (omega (arith, space, inside, small)),
      poke-in (time_word w) (cpu_of s).a (stored (state_word w) waiting s₁) (omega (arith, space, inside, small)),
      asleep,
    )

module _ (L : Loaded) {s : World} {st : State} {μ : Mem} {t : Tree (S L) (root L) st.process} {path : List ℕ} {e : Expr}
    {k : List Frame} {b : Part} {i : Info} {ws : List ℕ} {at hi h : ℕ}
    (A : Acting L s st μ t path (before (WAIT e) k) b i (Only path) ws at hi) (v : (cpu_of s).a ≡ eval st.store e)
    (small : eval st.store e < 2 ^ 32) (fine : Fine (S L).word b i.vars i.chans (cpu_of s).workspace (WAIT e))
    (cont : Cont (S L) b h i.vars i.chans k (suc at) (cpu_of s).workspace) (near : h ≤ whole (S L) + L.off at)
    (clean : Unmarked (S L) b i st μ) where
  abbrev w : ℕ
  w = (cpu_of s).workspace

  abbrev tm : ℕ
  tm = eval st.store e

  placed : Placed (S L) b w i.vars i.chans
  placed = cont-placed (S L) b cont

  near_on : h ≤ whole (S L) + L.off (suc at)
  near_on = omega (arith, (S L).rises at (suc at) (omega arith) A.inside)

  abbrev j : Info
  j = record { vars = i.vars; chans = i.chans; w = w; left = whole (S L) }

  -- where it waits
  abbrev st₁ : State
  st₁ = putting path (at_wait tm k) st

  coming : Step st [] st₁
  unfolding go
  coming = begins path A.leaf.found

  clock-is : s.machine.timer.clock ≡ now st
  clock-is = A.real.timed.clock-read

  -- the clock is after its time: it comes and goes on
  module _ (past : after (now st) tm ≡ true) where
    went : Trace st (step [] st₁ ∷ step [] (putting path (resume k) st) ∷ []) (putting path (resume k) st) [] []
    went =
        t-step coming
        (t-step
        (subst (λ z. Step st₁ [] (record { process = z; store = st.store; offers = st.offers; clock = st.clock }))
        (put-put-same path (resume k) (at_wait tm k) st.process)
        (goes_on path (look-put-same path st.process (at_wait tm k) A.leaf.found) past)) t-none)

    pub did-pass : Did L (Executes L (operation I.tin) s) s st (bytes_left (S L) t)
    unfolding function_in operand_in
    did-pass =
        let few : whole (S L) ≤ whole (S L) = omega arith in
        let live = live-resume k i.vars (A.rest.live A.leaf) in
        let quiet : Silent (resume k) = λ c v f e. silent-resume k e in
        let goes = goes-as L A.real A.leaf A.rest A.lined clean (before-silent (WAIT e) k) (λ e. never (cc)) (resume k)
        (leaf-resume k) j placed few (A.rest.vars (node L A.leaf)) (A.rest.chans (node L A.leaf)) live quiet (off-resume k) in
        then-settles L went (omega arith) (executes (exec-tin-past s (rw (clock-is, v) past))) (silent L s s refl)
        (settle L (real-state L (put path (resume k) st.process) st.store A.real)
        (here-then L A.leaf (resume k) (leaf-resume k) j _) goes (lined_then L A.leaf (resume k) (leaf-resume k) j _ refl A.lined)
        (whole (S L)) (record { run = A.run; operand = A.operand; place = A.placed; work = refl; inside = A.inside })
        (arrives (S L) b st.store cont near_on (sound-at L A.rest A.leaf)) clean near_on (omega arith))

  -- its time is still to come: it goes into the timer queue
  module _ (ahead : after (now st) tm ≡ false) (known : L.sleeps w tm (now st)) where
    abbrev ν₁ : Mem
    ν₁ = upd μ (resume_word w) (cpu_of s).place

    abbrev ν₂ : Mem
    ν₂ = upd ν₁ (state_word w) waiting

    abbrev ν₃ : Mem
    ν₃ = upd ν₂ (time_word w) tm

    high : (w ≤ word_limit) × (w ≤ size L) × (5 ≤ w)
    high =
        let low = placed.low in
        let small = part_small L A.leaf in
        (omega (arith, low, small, small_size L), omega (arith, low, small), omega (arith, fine.0))

    -- its own words
    below : (n : ℕ) → n ≤ 5 → 1 ≤ n → (b.bottom ≤ less w n) × (less w n < w)
    below n h k = (omega (arith, fine.0, placed.low, high.0), omega (arith, fine.0, placed.low, high.0))

    resume-low : (b.bottom ≤ resume_word w) × (resume_word w < w)
    resume-low = below 1 (omega arith) (omega arith)

    state-low : (b.bottom ≤ state_word w) × (state_word w < w)
    state-low = below 3 (omega arith) (omega arith)

    time-low : (b.bottom ≤ time_word w) × (time_word w < w)
    time-low = below 5 (omega arith) (omega arith)

    rest₃ : Rest L st ν₃ t (Only path) ws
    rest₃ =
        rest_below L A.leaf refl placed (time_word w) tm time-low.0 time-low.1 (λ e. never (cc))
        (rest_below L A.leaf refl placed (state_word w) waiting state-low.0 state-low.1 (λ e. never (cc))
        (rest_below L A.leaf refl placed (resume_word w) (cpu_of s).place resume-low.0 resume-low.1 (λ e. never (cc)) A.rest))

    real₃ : Real L (parked tm s) st ν₃ ws
    real₃ =
        real-below L A.leaf refl placed (time_word w) tm time-low.0 time-low.1 A.lined
        (real-below L A.leaf refl placed (state_word w) waiting state-low.0 state-low.1 A.lined
        (real-below L A.leaf refl placed (resume_word w) (cpu_of s).place resume-low.0 resume-low.1 A.lined A.real))

    clean₃ : Unmarked (S L) b i st₁ ν₃
    clean₃ =
        clean-below L i st st₁ ν₂ placed (time_word w) tm time-low.1
        (clean-below L i st st ν₁ placed (state_word w) waiting state-low.1
        (clean-below L i st st μ placed (resume_word w) (cpu_of s).place resume-low.1 clean))

    sits-j : Sits (S L) b j
    sits-j = record { placed = placed; few = omega arith }

    abbrev tree : Tree (S L) (root L) st₁.process
    tree = tree_then L A.leaf (at_wait tm k) l-wait j sits-j

    rest₄ : Rest L st₁ ν₃ tree (Only path) ws
    rest₄ =
        rest_then L A.leaf (at_wait tm k) l-wait j sits-j rest₃ refl (rest₃.vars (node L A.leaf)) (rest₃.chans (node L A.leaf))
        (A.rest.live A.leaf) (λ d m o. m) (λ d v g e other r p z y n m. never (cc)) (λ d v g e other r p z y n m q o. never (cc))
        (λ e. never (cc)) (λ e. never (cc))

    leaf₄ : LeafAt L st₁ tree path (at_wait tm k) b j
    leaf₄ = here-then L A.leaf (at_wait tm k) l-wait j sits-j

    lines₄ : Lined L st₁ tree (Only path) ws
    lines₄ = lined_then L A.leaf (at_wait tm k) l-wait j sits-j refl A.lined

    abbrev ts : List ℕ
    ts = rest₄.sleepers.asleep

    -- it is not in the queue yet
    absent : (v : ℕ) → Memᴰ v ts → w ≢ v
    absent v m f = elim (rest₄.sleepers.each v m) [
      | sleeper {path = other} l e a d ↦ ⊎_elim (λ p. mine p l d) (λ u. other-w L leaf₄ l u (f ∙ sym e)) (same-path path other)
    ]
      where
        mine : {other : List ℕ} {q : Process} {c : Part} {y : Info} → path ≡ other → LeafAt L st₁ tree other q c y
            → Dozer L (Only path) other q → ⊥
        mine p l (at-wait n) = n p
        mine p l (in-alt x) = never (cc (some_same (sym leaf₄.found ∙ ap (λ z. look z st₁.process) p ∙ l.found)))

    time-now : ν₃ (time_word w) ≡ tm
    time-now = upd_same ν₂ (time_word w) tm

    abbrev joining : Joining L (parked tm s) st₁ ν₃ tree path (at_wait tm k) b j ws
    joining =
        record {
          real = real-state L (put path (at_wait tm k) st.process) st.store real₃;
          rest = rest₄;
          lines = lines₄;
          leaf = leaf₄;
          work = refl;
          room = fine.0;
          absent = absent;
          tm = tm;
          time-is = time-now;
          small = small;
          knows = known;
        }

    abbrev ν₆ : Mem
    ν₆ = joined L joining

    own-now : (v : ℕ) → b.bottom ≤ v → v < w → v ≢ time_link_word w → ν₆ v ≡ ν₃ v
    own-now v lo hi d = own-joined L joining v lo (omega (arith, hi, placed.low)) d

    asleep : Asleep (S L) b j st₁ ν₆ tm k (suc at) h
    asleep =
        record {
          onward = cont;
          near = near_on;
          resumes = record {
            place = own-now (resume_word w) resume-low.0 resume-low.1 (λ e. absurd (omega (arith, e, high.0, high.2)))
                ∙ upd_other ν₂ (time_word w) tm (resume_word w) (λ e. absurd (omega (arith, e, high.0, high.2)))
                ∙ upd_other ν₁ (state_word w) waiting (resume_word w) (λ e. absurd (omega (arith, e, high.0, high.2)))
                ∙ upd_same μ (resume_word w) (cpu_of s).place ∙ A.placed;
            soon = near_on;
          };
          space = fine.0;
          state-is = own-now (state_word w) state-low.0 state-low.1 (λ e. absurd (omega (arith, e, high.0, high.2)))
              ∙ upd_other ν₂ (time_word w) tm (state_word w) (λ e. absurd (omega (arith, e, high.0, high.2)))
              ∙ upd_same ν₁ (state_word w) waiting;
          time-is = own-now (time_word w) time-low.0 time-low.1 (λ e. absurd (omega (arith, e, high.0, high.2))) ∙ time-now;
          small = small;
          unmarked = λ c m o. clean₃ c m (subst (Own b) (chan-joined L joining c m) o);
        }

    pub did-sleep : Did L (Executes L (operation I.tin) s) s st (bytes_left (S L) t)
    unfolding function_in operand_in
    did-sleep =
        joins L joining (at-wait (λ o. o)) (h-asleep asleep) A.operand coming
        (λ y e. executes (exec-tin-waits s (queued_at (stop L joining) (parked tm s)) (rw (clock-is, v) ahead) high.2
        (omega (arith, high.1, size_is L A.real)) high.0
        (subst (λ z. sleep z (parked z s) ≡ done tt (queued_at (stop L joining) (parked tm s))) (sym v) (sleeps-in L joining)) ∙ e)) refl

  -- TIN, where what is known of a sleeper is known of it
  pub did-tin : (after (now st) tm ≡ false → L.sleeps w tm (now st)) → Did L (Executes L (operation I.tin) s) s st (bytes_left (S L) t)
  did-tin known = by_bool (after (now st) tm) did-pass (λ ahead. did-sleep ahead (known ahead))
