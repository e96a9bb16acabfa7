-- An ALT is the first of the timer queue, and its time has come: one that waits wakes; one that a sender has woken before, or that has the
-- processor, leaves the timer queue.
use Prim.Native.Nat.{ℕ, ◌+◌, ◌<◌}
use native.Mathlib.Omega.{arith}
use mathlib.Core.Path.{◌≡◌, refl, sym, ap₂, ◌∙◌, subst}
use mathlib.Core.Logic.{◌≢◌, inl, inr, ⊎_elim}
use mathlib.Core.Bool.{Bool, true, false}
use mathlib.Core.List.{List, [], Memᴰ}
use Rattle.model.specs.Word.{after}
use Rattle.model.specs.Syntax.{Site, Guards, no_guard, timed}
use Rattle.model.specs.Machine.{World, done, resume_word, state_word, time_link_word, time_word, name_of}
use Rattle.model.specs.Alternative.{waiting, ready, none_selected}
use Rattle.model.specs.Scheme.{size_enable}
use Rattle.model.specs.Timer.{time_set, wake_one}
use Rattle.model.specs.Occam.{Frame, at_alt, State, now}
use Rattle.model.proofs.Cases.{never}
use Rattle.model.proofs.Quiet.Ways.{Mem, front_word, upd_same, upd_other}
use Rattle.model.proofs.Quiet.Timing.{Linked, Dozing, no-time, until, Guarding, onto_same}
use Rattle.model.proofs.Quiet.Marks.{AltCode, Marked, AnyFound}
use Rattle.model.proofs.Quiet.Arrivals.{comes}
use Rattle.model.proofs.Quiet.Onwards.{timely-found, marked-same}
use Rattle.model.proofs.Words.Parts.{Part}
use Rattle.model.proofs.Effects.Waking.{fronted, wake_one-awake}
use Rattle.model.proofs.Invariant.Trees.{Info, Tree, bytes_left}
use Rattle.model.proofs.Invariant.Leaves.{member, Resumes, Held, h-queued, h-woken, h-wait}
use Rattle.model.proofs.Invariant.Stays.{held_stays}
use Rattle.model.proofs.Invariant.Kernel.{Loaded, S, root, Dozer, in-alt, Rest, rest_of, part_small, sits-at}
use Rattle.model.proofs.Invariant.Grounds.{small_size}
use Rattle.model.proofs.Invariant.Traces.{t-none}
use Rattle.model.proofs.Invariant.Moving.{skips-off}
use Rattle.model.proofs.Invariant.Reals.{size_is, mirrored}
use Rattle.model.proofs.Invariant.Scheduling.{wakes}
use Rattle.model.proofs.Steps.Meets.{chan-above}
use Rattle.model.proofs.Outside.Bystanders.{SameRegs, part-high}
use Rattle.model.proofs.Outside.Timeouts.{passed-now, base-then, state-then, chan-then, disabling-then}
use Rattle.model.proofs.Outside.Asides.{Known, Late, Aside}
use Rattle.model.proofs.Outside.Leaving.{First, intact-front, w-small, inside, link-low, time-low, state-low, fronting, left, leaves}
use Rattle.model.proofs.Outside.Leaving.{real-left, plain-left, timed-out, word_kept, front-then, intact-left, words, asleep-left}
use Rattle.model.proofs.Outside.Leaving.{sleepers-left, plain_in}
use Rattle.model.proofs.Outside.Rousing.{Wakes, wakes-on, awake, link-awake, time-awake, elsewhere, real-awake, rest-awake}
use Rattle.model.proofs.Outside.Rousing.{lines-awake, joins-on}

module _ (L : Loaded) (c : ℕ) {Out : List ℕ → Type 0} {Go : Known L} (A : Aside L c Out Go) {s : World} {st : State} {μ : Mem}
    {t : Tree (S L) (root L) st.process} {ws path : List ℕ} {gs : Guards} {k : List Frame} {b : Part} {i : Info} {ts : List ℕ}
    (F : First L s st μ t Out ws path (at_alt gs k) b i ts) (go : Go s st μ t) (clock : now st ≡ c) where
  abbrev w : ℕ
  w = i.w

  abbrev Goal : Type 0
  Goal = Wakes L c w (μ (time_link_word w)) ts Out Go s st (bytes_left (S L) t)

  -- once its link is TimeSet it may not be in the timer queue
  not-linked : (κ : Mem) {Out' : List ℕ → Type 0} → κ (time_link_word w) ≡ time_set → Dozer L Out' path (at_alt gs k)
      → (timed gs ≡ true → Linked κ w) → ⊥
  not-linked κ e (in-alt x) f = (f x).0 e

  same_regs : SameRegs L (leaves L c F) s
  same_regs = record { run = refl; place = refl; operand = refl; regs = refl }

  -- it goes on as it was, but for its two words
  module _ (is-ready : μ (state_word w) ≡ ready)
      (held : (Out path → ⊥) → Held (S L) L.times b i st (left L c F) (member w ws) (at_alt gs k))
      (then : Go (leaves L c F) st (left L c F) t) where
    rest_then : Rest L st (left L c F) t Out ws
    rest_then =
        rest_of L (plain_in L c F held (plain-left L c F))
        (sleepers-left L c F (front-then L c F) (λ here p d j l off. intact-left L c F l off) (λ here d n o. n o) (λ here d n o. n o)
        (not-linked (left L c F) (timed-out L c F).link))

    leaves-one : (f : ℕ) → wake_one c (name_of w) (fronted f s) ≡ done (μ (time_link_word w)) (fronted f (leaves L c F))
    leaves-one f =
        let sz = size_is L F.real in
        let link-in = inside L c F (link-low L c F).1 in
        let time-in = inside L c F (time-low L c F).1 in
        let state-in = inside L c F (state-low L c F).1 in
        let state-is : left L c F (state_word w) ≡ ready =
        word_kept L c F (state_word w) state-in
        (λ e. absurd (omega (arith, e, F.space, w-small L c F, part_small L F.leaf, small_size L)))
        (λ e. absurd (omega (arith, e, F.space, w-small L c F, part_small L F.leaf, small_size L))) ∙ is-ready in
        wake_one-awake c w (μ (time_link_word w)) ready (fronted f s) (rw sz link-in) (rw sz time-in) (rw sz state-in)
        (mirrored L F.real (time_link_word w) link-in refl) (mirrored L (real-left L c F) (state_word w) state-in state-is)
        (λ e. absurd (omega (arith, e)))

    leaves-on : Goal
    leaves-on =
        wakes-on (leaves L c F) [] leaves-one refl refl t-none same_regs refl (real-left L c F) rest_then
        (asleep-left L c F rest_then (front-then L c F)
        (λ v m. (words L c F (λ here p d j l off. intact-left L c F l off) v m).0))
        F.lines then refl

  -- one that has the processor
  pub busy-leaves : timed gs ≡ true → Out path → Goal
  busy-leaves has-time out =
      let late : Late L st t Out path gs k b i = record { leaf = F.leaf; out = out; has-time = has-time; space = F.space } in
      leaves-on (A.is-ready late clock go) (λ n. absurd (n out))
      (A.leaves late clock (timed-out L c F)
      (A.stays same_regs refl (λ here p d j l o. (l, intact-front L (μ (time_link_word w)) l)) go))

  module _ (strange : Out path → ⊥) (has-time : timed gs ≡ true) (late : after c (μ (time_word w)) ≡ true) where
    abbrev μ₁ : Mem
    μ₁ = fronting L c F

    -- the front is no word of its own
    below : (v : ℕ) → v < w → μ₁ v ≡ μ v
    below v h =
        upd_other μ front_word (μ (time_link_word w)) v
        (λ e. absurd (omega (arith, e, h, w-small L c F, part_small L F.leaf, small_size L)))

    -- its resume place stays
    resumes-then : {at hi : ℕ} {κ : Mem} → κ (resume_word w) ≡ left L c F (resume_word w) → Resumes (S L) b i st μ₁ at hi
        → Resumes (S L) b i st κ at hi
    resumes-then e r =
        let small = part_small L F.leaf in
        let low = w-small L c F in
        record {
          place = e ∙ (timed-out L c F).others (resume_word w) (λ e. absurd (omega (arith, e, F.space, low, small, small_size L)))
              (λ e. absurd (omega (arith, e, F.space, low, small, small_size L))) ∙ r.place;
          soon = r.soon;
        }

    -- one that waits
    module _ {hi at : ℕ} (x : AltCode (S L) b gs i.vars i.chans k hi at (w + 1))
        (r : Resumes (S L) b i st μ₁ (at + 2 + size_enable gs + 1) hi) (state : μ₁ (state_word w) ≡ waiting) (none : μ₁ w ≡ none_selected)
        (marks : Marked (S L) b st i.vars i.chans gs μ₁ w) (dozes : Dozing L.times st gs μ₁ w)
        (known : Guarding L.times st gs no_guard w) (unqueued : member w ws ≡ false) where
      waits : μ (state_word w) ≡ waiting
      waits = sym (below (state_word w) (state-low L c F).1) ∙ state

      abbrev η : Mem
      η = awake L c A F go waits unqueued

      link : η (time_link_word w) ≡ time_set
      link = link-awake L c A F go waits unqueued

      time : η (time_word w) ≡ c
      time = time-awake L c A F go waits unqueued

      state-off : (v : ℕ) → v ≢ state_word w → η v ≡ left L c F v
      state-off v d = upd_other (left L c F) (state_word w) ready v d

      base : η w ≡ μ₁ w
      base =
          state-off w (λ e. absurd (omega (arith, e, (state-low L c F).1)))
          ∙ base-then (S L) b (part-high L F.leaf) L.times st i.vars i.chans c clock F.space x (timed-out L c F)

      chan : (d : Site) → Memᴰ d i.chans → η ((S L).word d) ≡ μ₁ ((S L).word d)
      chan d m =
          state-off ((S L).word d) (chan-above L (sits-at L F.leaf).placed (state_word w) (state-low L c F).1 d m)
          ∙ chan-then (S L) b (part-high L F.leaf) L.times st i.vars i.chans c clock F.space x (timed-out L c F) d m

      -- its least time is past
      found : Dozing L.times st gs μ₁ w → AnyFound st η w gs
      found (no-time e n) = absurd ((timed-out L c F).was.1 e)
      found (until l m) =
          timely-found η w link
          (ap₂ after time (sym m.is ∙ below (time_word w) (time-low L c F).1) ∙ late) m.one

      held : Held (S L) L.times b i st η true (at_alt gs k)
      held =
          let is-ready : η (state_word w) ≡ ready = upd_same (left L c F) (state_word w) ready in
          h-woken x
          (resumes-then
          (state-off (resume_word w)
          (λ e. absurd (omega (arith, e, F.space, w-small L c F, part_small L F.leaf, small_size L)))) r)
          is-ready
          (record {
            marks = marked-same (S L) b st i.vars i.chans gs μ₁ η w chan marks;
            state = is-ready;
            chosen = inr (base ∙ none, found dozes);
            times = λ z. passed-now (S L) b (part-high L F.leaf) L.times st i.vars i.chans c clock link time;
            known = known;
          })

      waiting-wakes : Goal
      waiting-wakes =
          joins-on L c A F go waits unqueued
          (wakes L {Out' = Out} (real-awake L c A F go waits unqueued) (rest-awake L c A F go waits unqueued (not-linked η link))
          (lines-awake L c A F go waits unqueued) F.leaf (inr refl) held (λ here n o. ⊎_elim (λ x. x) (λ e. absurd (n e)) o)
          (λ here o. inl o) strange)
          (λ here p d j l o. (l, elsewhere L c A F go waits unqueued here p d j l (λ e. strange (subst Out (sym e) o)))) refl [] t-none refl

    by-held : {f : Bool} → member w ws ≡ f → Held (S L) L.times b i st μ₁ f (at_alt gs k) → Goal
    by-held e (h-queued x r h u) = elim x [ comes sk settled sub way ↦ never (cc (skips-off sk settled, has-time)) ]
    by-held e (h-woken x r state d) =
        leaves-on (sym (below (state_word w) (state-low L c F).1) ∙ state)
        (λ n. subst (λ f. Held (S L) L.times b i st (left L c F) f (at_alt gs k)) (sym e)
        (h-woken x (resumes-then refl r)
        (state-then (S L) b (part-high L F.leaf) L.times st i.vars i.chans c clock F.space x (timed-out L c F) ∙ state)
        (disabling-then (S L) b (part-high L F.leaf) L.times st i.vars i.chans c clock F.space x (timed-out L c F) d)))
        (A.stays same_regs refl (λ here p d j l o. (l, intact-left L c F l (λ e. strange (subst Out (sym e) o)))) go)
    by-held e (h-wait x r state v m n marks dozes g) = waiting-wakes x r state v marks (dozes has-time) g e

    pub alt-wakes : Goal
    alt-wakes =
        by-held refl
        (held_stays (S L) b i (part-high L F.leaf) (sits-at L F.leaf) (intact-front L (μ (time_link_word w)) F.leaf) (onto_same refl)
        (F.rest.leaf F.leaf strange))
