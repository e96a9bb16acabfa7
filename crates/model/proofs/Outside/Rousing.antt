-- The first process of the timer queue, which waits, wakes at a run's beginning: it leaves that queue, is Ready, and joins the other. Here
-- what is the same for all, and WAIT.
use Prim.Native.Nat.{ℕ, ◌<◌}
use native.Mathlib.Omega.{arith}
use mathlib.Core.Path.{◌≡◌, refl, sym, ap, ap₂, ◌∙◌, subst}
use mathlib.Core.Logic.{◌≢◌, inl, inr, ⊎_elim}
use mathlib.Core.Bool.{true, false}
use mathlib.Core.List.{List, [], ◌∷◌, Memᴰ}
use Rattle.model.specs.Word.{after}
use Rattle.model.specs.Machine.{World, done, resume_word, link_word, state_word, time_link_word, time_word, name_of}
use Rattle.model.specs.Alternative.{waiting, ready}
use Rattle.model.specs.Timer.{time_set, wake_one}
use Rattle.model.specs.Occam.{Frame, Process, at_wait, put, resume, State, now, goes_on}
use Rattle.model.specs.Demand.{Segment, step}
use Rattle.model.proofs.Cases.{never}
use Rattle.model.proofs.Quiet.Ways.{Mem, front_word, upd, upd_other}
use Rattle.model.proofs.Quiet.Timing.{Linked}
use Rattle.model.proofs.Quiet.Continuations.{cont-inside}
use Rattle.model.proofs.Quiet.Marks.{Own}
use Rattle.model.proofs.Quiet.Arrivals.{arrives}
use Rattle.model.proofs.Occam.Paths.{leaf-resume, live-resume, silent-resume, is_alt, off-resume}
use Rattle.model.proofs.Words.Parts.{Part}
use Rattle.model.proofs.Effects.Queues.{LinksIn, joined, queue-same, enqueue-queue, last_of, last-in}
use Rattle.model.proofs.Effects.Waking.{fronted, roused, wake_one-in}
use Rattle.model.proofs.Invariant.Trees.{Info, Tree, bytes_left, leaf-bytes}
use Rattle.model.proofs.Invariant.Leaves.{member, Unmarked, Asleep, Held, h-queued, sleeping, held-sleeping, asleep-unqueued}
use Rattle.model.proofs.Invariant.Stays.{intact-trans}
use Rattle.model.proofs.Invariant.Kernel.{Loaded, S, root, size, LeafAt, Dozer, at-wait, Rest, rest_of, Lined, Real, node, sleeper}
use Rattle.model.proofs.Invariant.Kernel.{part_small, sits-at}
use Rattle.model.proofs.Invariant.Puts.{putting, tree_then, here-then, other-then, lined_then, rest_then, moved}
use Rattle.model.proofs.Invariant.Grounds.{chan-in, small_size, sound-at}
use Rattle.model.proofs.Invariant.Traces.{Trace, t-none, t-step}
use Rattle.model.proofs.Invariant.Moving.{lined-out}
use Rattle.model.proofs.Invariant.Reals.{size_is, mirrored, real-state, links-in, link-any}
use Rattle.model.proofs.Invariant.Scheduling.{Woken, wakes, linked_to}
use Rattle.model.proofs.Invariant.Writes.{time-words}
use Rattle.model.proofs.Steps.Advance.{Silent}
use Rattle.model.proofs.Steps.Meets.{chan-above}
use Rattle.model.proofs.Outside.Bystanders.{SameRegs, Keeps}
use Rattle.model.proofs.Outside.Wakings.{With, intact-own, intact-put}
use Rattle.model.proofs.Outside.Asides.{Known, Aside}
use Rattle.model.proofs.Outside.Leaving.{First, w-small, inside, link-low, time-low, state-low, left, real-put, plain-put, real-left}
use Rattle.model.proofs.Outside.Leaving.{plain-left, timed-out, word_kept, front-then, intact-left, member_of, Elsewhere, words}
use Rattle.model.proofs.Outside.Leaving.{asleep-left, sleepers-left}

module _ (L : Loaded) where
  -- what waking the process at w comes to: `behind` is what was behind it, and ts wait on
  pub data Wakes (c w behind : ℕ) (ts : List ℕ) (Out : List ℕ → Type 0) (Go : Known L) (s : World) (st : State) (bytes : ℕ) : Type 0 where
    wakes-on : (u : World) {st' : State} {ν : Mem} {t : Tree (S L) (root L) st'.process} {us : List ℕ} (g : Segment)
        → ((f : ℕ) → wake_one c (name_of w) (fronted f s) ≡ done behind (fronted f u)) → u.machine.timer.front ≡ behind
        → u.talk ≡ s.talk → Trace st g st' [] [] → SameRegs L u s → now st' ≡ now st → Real L u st' ν us → (then : Rest L st' ν t Out us)
        → then.sleepers.asleep ≡ ts → Lined L st' t Out us → Go u st' ν t → bytes_left (S L) t ≡ bytes
        → Wakes c w behind ts Out Go s st bytes

  -- where a process has joined the queue, words that link no queued process stay
  linked-off : (w : ℕ) (ws : List ℕ) (κ : Mem) (v : ℕ) → ((u : ℕ) → Memᴰ u ws → link_word u ≢ v) → linked_to L w ws κ v ≡ κ v
  linked-off w [] κ v f = refl
  linked-off w (u ∷ us) κ v f = upd_other κ (link_word (last_of u us)) (name_of w) v (λ e. f (last_of u us) (last-in u us) (sym e))

  -- it waits, so it is not queued
  module _ (c : ℕ) {Out : List ℕ → Type 0} {Go : Known L} (A : Aside L c Out Go) {s : World} {st : State} {μ : Mem}
      {t : Tree (S L) (root L) st.process} {ws path : List ℕ} {q : Process} {b : Part} {i : Info} {ts : List ℕ}
      (F : First L s st μ t Out ws path q b i ts) (go : Go s st μ t) (state : μ (state_word i.w) ≡ waiting)
      (unqueued : member i.w ws ≡ false) where
    abbrev w : ℕ
    w = i.w

    abbrev behind : ℕ
    behind = μ (time_link_word w)

    abbrev μ₃ : Mem
    μ₃ = left L c F

    -- it is Ready
    abbrev pub awake : Mem
    awake = upd μ₃ (state_word w) ready

    abbrev rousing : World
    rousing = roused c w (fronted behind s)

    -- its three words are others, and the rest of memory is as it was
    kept : (v : ℕ) → v < size L → v ≢ time_link_word w → v ≢ time_word w → v ≢ state_word w → awake v ≡ μ v
    kept v h d e f = upd_other μ₃ (state_word w) ready v f ∙ word_kept L c F v h d e

    pub link-awake : awake (time_link_word w) ≡ time_set
    link-awake =
        upd_other μ₃ (state_word w) ready (time_link_word w)
        (λ e. absurd (omega (arith, e, F.space, w-small L c F, part_small L F.leaf, small_size L))) ∙ (timed-out L c F).link

    pub time-awake : awake (time_word w) ≡ c
    time-awake =
        upd_other μ₃ (state_word w) ready (time_word w)
        (λ e. absurd (omega (arith, e, F.space, w-small L c F, part_small L F.leaf, small_size L))) ∙ (timed-out L c F).time

    front-awake : awake front_word ≡ behind
    front-awake = upd_other μ₃ (state_word w) ready front_word (λ e. absurd (omega (arith, e))) ∙ front-then L c F

    pub elsewhere : Elsewhere L c F awake
    elsewhere here p d j l off =
        intact-trans (intact-left L c F l off)
        (intact-own L F.leaf l off μ₃ (state_word w) ready (state-low L c F).0 (omega (arith, (state-low L c F).1, w-small L c F)))

    pub real-awake : Real L rousing st awake ws
    real-awake =
        real-put L c F (state_word w) ready (state-low L c F).0 (state-low L c F).1
        (λ e. absurd (omega (arith, e, F.space, w-small L c F, part_small L F.leaf, small_size L))) (real-left L c F)

    -- it is left out for the time being
    pub rest-awake : (Dozer L (With Out path) path q → (is_alt q ≡ true → Linked awake w) → ⊥) → Rest L st awake t (With Out path) ws
    rest-awake gone =
        rest_of L (plain-put L c F (state_word w) ready (state-low L c F).0 (state-low L c F).1 (plain-left L c F))
        (sleepers-left L c F front-awake elsewhere (λ here d n o. ⊎_elim n d o) (λ here d n o. n (inl o)) gone)

    pub lines-awake : Lined L st t (With Out path) ws
    lines-awake = lined-out L F.leaf unqueued (λ other o. ⊎_elim (λ x. inr x) (λ e. inl e) o) F.lines

    -- the machine does so, whose front is another until all are woken
    wakes-one : (f : ℕ) → wake_one c (name_of w) (fronted f s) ≡ done behind (fronted f (joined w ws rousing))
    wakes-one f =
        let sz = size_is L F.real in
        let links : LinksIn (roused c w (fronted f s)) ws = λ v m. rw sz (links-in L F.lines v m) in
        let link-in = inside L c F (link-low L c F).1 in
        let time-in = inside L c F (time-low L c F).1 in
        let state-in = inside L c F (state-low L c F).1 in
        let state-is : μ₃ (state_word w) ≡ waiting =
        word_kept L c F (state_word w) state-in
        (λ e. absurd (omega (arith, e, F.space, w-small L c F, part_small L F.leaf, small_size L)))
        (λ e. absurd (omega (arith, e, F.space, w-small L c F, part_small L F.leaf, small_size L))) ∙ state in
        wake_one-in c w behind (fronted f s) (fronted f (joined w ws rousing)) (rw sz link-in) (rw sz time-in) (rw sz state-in)
        (mirrored L F.real (time_link_word w) link-in refl) (mirrored L (real-left L c F) (state_word w) state-in state-is)
        (enqueue-queue w (roused c w (fronted f s)) links
        (queue-same (roused c w (fronted f s)) refl refl refl (λ v m. refl) real-awake.queue))

    -- it has joined the queue
    module _ {st' : State} {t' : Tree (S L) (root L) st'.process} (woken : Woken L rousing st' awake t' Out w ws)
        (keeps : Keeps L st st' μ awake t t' Out) (clock : now st' ≡ now st) where
      abbrev ν : Mem
      ν = linked_to L w ws awake

      front-joined : ν front_word ≡ behind
      front-joined =
          linked-off w ws awake front_word (λ u m e. absurd (omega (arith, e, links-in L F.lines u m, small_size L))) ∙ front-awake

      links-joined : (v : ℕ) → Memᴰ v ts → ν (time_link_word v) ≡ μ (time_link_word v)
      links-joined v m = elim (F.rest.sleepers.each v (member_of L c F v m)) [
        | sleeper {i = j} l e a d ↦
            let (lo, hi, x, y) = time-words L l a in
            ap (λ z. ν (time_link_word z)) (sym e)
            ∙ linked-off w ws awake (time_link_word j.w) (link-any L F.lines l (time_link_word j.w) lo hi
            (λ z. absurd (omega (arith, z, a, (sits-at L l).placed.low, part_small L l, small_size L))))
            ∙ ap (λ z. awake (time_link_word z)) e ∙ (words L c F elsewhere v m).0
      ]

      pub joins-on : (g : Segment) → Trace st g st' [] [] → bytes_left (S L) t' ≡ bytes_left (S L) t
          → Wakes c w behind ts Out Go s st (bytes_left (S L) t)
      joins-on g ms bytes =
          wakes-on (joined w ws rousing) g wakes-one refl refl ms (record { run = refl; place = refl; operand = refl; regs = refl }) clock
          woken.real woken.rest (asleep-left L c F woken.rest front-joined links-joined) woken.lines
          (A.stays (record { run = refl; place = refl; operand = refl; regs = refl }) clock
          (λ here p d j l o. let (l', e) = keeps here p d j l o in (l', intact-trans e (woken.intact l' o))) go) bytes

  -- one at WAIT goes on
  module _ (c : ℕ) {Out : List ℕ → Type 0} {Go : Known L} (A : Aside L c Out Go) {s : World} {st : State} {μ : Mem}
      {t : Tree (S L) (root L) st.process} {ws path : List ℕ} {tm : ℕ} {k : List Frame} {b : Part} {i : Info} {ts : List ℕ}
      (F : First L s st μ t Out ws path (at_wait tm k) b i ts) (go : Go s st μ t) (clock : now st ≡ c) (strange : Out path → ⊥)
      (late : after c (μ (time_word i.w)) ≡ true) where
    abbrev then : State
    then = putting path (resume k) st

    abbrev tree : Tree (S L) (root L) (put path (resume k) st.process)
    tree = tree_then L F.leaf (resume k) (leaf-resume k) i (sits-at L F.leaf)

    leaf-then : LeafAt L then tree path (resume k) b i
    leaf-then = here-then L F.leaf (resume k) (leaf-resume k) i (sits-at L F.leaf)

    bytes-then : bytes_left (S L) tree ≡ bytes_left (S L) t
    bytes-then = omega (
      arith,
      (moved L F.leaf (resume k) (leaf-resume k) i (sits-at L F.leaf)).bytes,
      leaf-bytes (S L) t path F.leaf.label,
    )

    module _ {hi at : ℕ} (asleep : Asleep (S L) b i st μ tm k at hi) (unqueued : member i.w ws ≡ false) where
      abbrev η : Mem
      η = awake c A F go asleep.state-is unqueued

      rest₄ : Rest L st η t (With Out path) ws
      rest₄ = rest-awake c A F go asleep.state-is unqueued gone
        where
          gone : Dozer L (With Out path) path (at_wait tm k) → (is_alt (at_wait tm k) ≡ true → Linked η i.w) → ⊥
          gone (at-wait n) f = n (inr refl)

      rest₅ : Rest L then η tree (With Out path) ws
      rest₅ =
          rest_then L F.leaf (resume k) (leaf-resume k) i (sits-at L F.leaf) rest₄ (inr refl) (rest₄.vars (node L F.leaf))
          (rest₄.chans (node L F.leaf)) (live-resume k i.vars (rest₄.live F.leaf)) (λ a m o. m)
          (λ a v l e here p d n y z m. never (cc)) (λ a v l e here p d n y z m g o. silent-resume k e) (λ e. never (cc (e)))
          (λ e. never (cc (e, off-resume k)))

      -- no channel holds a name of its part
      clean : Unmarked (S L) b i then η
      clean d m o =
          let placed = (sits-at L F.leaf).placed in
          let off : (v : ℕ) → v < i.w → (S L).word d ≢ v = λ v h. chan-above L placed v h d m in
          asleep.unmarked d m
          (subst (Own b)
          (kept c A F go asleep.state-is unqueued ((S L).word d) (chan-in L (node L F.leaf) d m)
          (off (time_link_word i.w) (link-low L c F).1) (off (time_word i.w) (time-low L c F).1)
          (off (state_word i.w) (state-low L c F).1)) o)

      resume-kept : η (resume_word i.w) ≡ μ (resume_word i.w)
      resume-kept =
          let small = part_small L F.leaf in
          let low = w-small L c F in
          kept c A F go asleep.state-is unqueued (resume_word i.w) (omega (arith, F.space, low, small, small_size L))
          (λ e. absurd (omega (arith, e, F.space, low, small, small_size L)))
          (λ e. absurd (omega (arith, e, F.space, low, small, small_size L)))
          (λ e. absurd (omega (arith, e, F.space, low, small, small_size L)))

      held : Held (S L) L.times b i then η true (resume k)
      held =
          h-queued (arrives (S L) b st.store asleep.onward asleep.near (sound-at L rest₅ leaf-then))
          (record { place = resume-kept ∙ asleep.resumes.place; soon = asleep.resumes.soon })
          (cont-inside (S L) b asleep.onward) clean

      -- those that are left out see nothing of it
      keeps_then : Keeps L st then μ η t tree Out
      keeps_then here p d j l o =
          let off : path ≢ here = λ e. strange (subst Out (sym e) o) in
          let quiet : Silent (resume k) = λ a v f e. silent-resume k e in (
            other-then L F.leaf (resume k) (leaf-resume k) i (sits-at L F.leaf) off l,
            intact-trans (elsewhere c A F go asleep.state-is unqueued here p d j l off)
                (intact-put L F.leaf l off η (resume k) (leaf-resume k) i (sits-at L F.leaf) quiet (λ a v f e m. never (cc))),
          )

      goes_on_lem : Wakes c i.w (μ (time_link_word i.w)) ts Out Go s st (bytes_left (S L) t)
      goes_on_lem =
          joins-on c A F go asleep.state-is unqueued
          (wakes L {Out' = Out}
          (real-state L (put path (resume k) st.process) st.store (real-awake c A F go asleep.state-is unqueued)) rest₅
          (lined_then L F.leaf (resume k) (leaf-resume k) i (sits-at L F.leaf) (inr refl)
          (lines-awake c A F go asleep.state-is unqueued)) leaf-then (inr refl) held
          (λ here n o. ⊎_elim (λ x. x) (λ e. absurd (n e)) o) (λ here o. inl o) strange) keeps_then refl (step [] then ∷ [])
          (t-step (goes_on path F.leaf.found (ap₂ after clock (sym asleep.time-is) ∙ late)) t-none) bytes-then

    pub wait-wakes : Wakes c i.w (μ (time_link_word i.w)) ts Out Go s st (bytes_left (S L) t)
    wait-wakes =
        let held = F.rest.leaf F.leaf strange in
        elim (held-sleeping (S L) L.times b i st μ held) [
          | sleeping a ↦ goes_on_lem a (asleep-unqueued (S L) L.times b i st μ held)
        ]
