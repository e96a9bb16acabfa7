-- Offers from outside: an offer is held, or a process that waits gets it, and an ALT is told.
use Prim.Native.Nat.{ℕ, ◌+◌, ◌^◌, ◌≤◌, ◌<◌}
use native.Mathlib.Omega.{arith}
use native.Mathlib.Decide.{ℕ_discrete}
use mathlib.Core.Path.{◌≡◌, refl, sym, ap, ◌∙◌, subst}
use mathlib.Core.Logic.{◌≢◌, inl, inr, ⊎_elim}
use mathlib.Core.Bool.{true, false}
use mathlib.Core.List.{List, [], ◌∷◌, append-nil, Memᴰ}
use mathlib.Core.Option.{none, some}
use lib.ListN.{get_or}
use borrow.Author.Tests.{eq-eqb}
use Rattle.model.specs.Word.{not_process}
use Rattle.model.specs.Limits.{word_limit}
use Rattle.model.specs.Syntax.{Site, input_of, Guards, no_guard, timed}
use Rattle.model.specs.Scheme.{size_enable}
use Rattle.model.specs.Machine.{World, done, resume_word, state_word, time_link_word, time_word, name_of}
use Rattle.model.specs.Alternative.{is_alt_state, notify, waiting, ready, none_selected}
use Rattle.model.specs.Run.{land}
use Rattle.model.specs.Outside.{offering}
use Rattle.model.specs.Occam.{store, Frame, Process, at_input, at_alt, resume, State, over-channel, receives, offers}
use Rattle.model.specs.Occam.{Outside, offered}
use Rattle.model.specs.Demand as Demand
use Rattle.model.specs.declared.Setup.{Setup}
use Rattle.std.specs.Prelude.{Ok}
use Rattle.model.proofs.Cases.{never}
use Rattle.model.proofs.Quiet.Names.{name-given}
use Rattle.model.proofs.Quiet.Ways.{upd_same, upd_other, upd, regs_of, Mem}
use Rattle.model.proofs.Words.Parts.{Part, Target}
use Rattle.model.proofs.Quiet.Timing.{Dozing, Guarding}
use Rattle.model.proofs.Quiet.Marks.{Own, Guarded, AltCode, Marked, Disabling, own_name}
use Rattle.model.proofs.Quiet.Onwards.{AltWay, alt-goes, Tied, guarded-present, present-found}
use Rattle.model.proofs.Invariant.Trees.{Info, Tree, bytes_left}
use Rattle.model.proofs.Invariant.Leaves.{member, Unmarked, Resumes, Waits, Held, h-woken}
use Rattle.model.proofs.Invariant.Stays.{Intact, intact-trans}
use Rattle.model.proofs.Effects.OneWord.{cpu_of, stored}
use Rattle.model.proofs.Effects.Acts.{notify-waiting, notify-other}
use Rattle.model.proofs.Invariant.Kernel.{Loaded, S, root, size, LeafAt, Rest, Lined, Real, node, part_small, sits-at}
use Rattle.model.proofs.Invariant.Writes.{changed, after-leaf, after-lined, apart_parts, own-one, write-var, change-offers, Calm}
use Rattle.model.proofs.Invariant.Puts.{putting}
use Rattle.model.proofs.Invariant.Grounds.{var-in, small_size}
use Rattle.model.proofs.Invariant.Traces.{Trace, t-none, t-step, t-event}
use Rattle.model.proofs.Invariant.Running.{Only, Here, Now, now-goes, now-alt, Inv, runs, starts, idle}
use Rattle.model.proofs.Invariant.Moving.{same-leaf, rest_in, lined-out, rest-with}
use Rattle.model.proofs.Invariant.Reals.{size_is, mirrored, real-state, real-stored, link-any, link-var, link-chan}
use Rattle.model.proofs.Steps.Channels.{Holder, holds-input, holds-output, holds-wait, holds-woken, holds-out, holder, input-at}
use Rattle.model.proofs.Steps.Meets.{not_own, clear-chan, var-above, chan-above, rest_below, real-below}
use Rattle.model.proofs.Steps.Outword.{SameTimes, found-more, picks_more, dozed, passed-more as times_more, no-alt-state}
use Rattle.model.proofs.Steps.Quiets.{tied-alt}
use Rattle.model.proofs.Outside.Bystanders.{SameRegs, Keeps, Ground, runs-ground, starts-unmarked, starts-ground, idle-ground}
use Rattle.model.proofs.Outside.Wakings.{With, Answers, answers, inv-lands, intact-var, intact-chan, intact-own, intact-offers}
use Rattle.model.proofs.Outside.Wakings.{Joins, goes_on_lem, waited-goes, answers-talk, answers-silent, input-named, outside-chan}
use Rattle.model.proofs.Outside.Wakings.{outside-in, part_of}
use Rattle.model.proofs.Outside.Offerings.{holding, offer-holds, offer-tells, offer-delivers, with_offer, passed_offer, passed-same}
use Rattle.model.proofs.Outside.Offerings.{more-senders, fewer-senders, offer-sends, same-senders, senders-same, real-offers}
use Rattle.model.proofs.Outside.Offerings.{real-held, unheld}
use Rattle.model.proofs.Outside.Notified.{Stood, stood, told-way}

module _ (L : Loaded) {s : World} {st : State} {μ : Mem} {t : Tree (S L) (root L) st.process} {Out : List ℕ → Type 0} {ws : List ℕ}
    (G : Ground L s st μ t Out ws) (k v : ℕ) (below : k < L.prog.inputs) (small : v < 2 ^ 32)
    (free : get_or s.machine.held k false ≡ false) where
  abbrev c : Site
  c = input_of k

  c-in : (S L).word c < size L
  c-in = outside-in L st t c (input-named L k below)

  -- the word that an offer looks at
  at-word : s.machine.setup.base + k ≡ (S L).word c
  at-word = omega (arith, ap (λ (u : Setup). u.base) G.real.setup-kept, input-at L k)

  none-offered : st.offers k ≡ none
  none-offered = unheld L free (G.real.offers k below)

  -- with the offer
  abbrev st₁ : State
  st₁ = changed st.store (with_offer k v st.offers) st

  there : st₁.offers k ≡ some v
  there = rw (eq-eqb k k refl)

  event : Outside st (offers k v (Ok tt)) [] st₁
  event = offered none-offered

  abbrev Goal : Type 0
  Goal = Answers L (λ u. offering k v s ≡ done tt u) s st (offers k v (Ok tt)) (bytes_left (S L) t)

  -- those whose names the channel does not hold see nothing of it
  intact-held : {b : Part} {i : Info} {skip : ℕ} → (Own b (μ ((S L).word c)) → ⊥) → Intact (S L) b i skip st st₁ μ μ
  intact-held {b} no_name =
      intact-offers L (with_offer k v st.offers) (λ d m g. more-senders st k v g)
      (λ d m n o g. fewer-senders st k v (λ e. no_name (subst (λ z. Own b (μ ((S L).word z))) e o)) g)

  idle-empty : (cpu_of s).running ≡ false → ws ≡ []
  idle-empty e = ⊎_elim (λ run. never (cc (run, e))) (λ F. F.unqueued) G.free

  -- nobody is there: the offer is held
  did-hold : μ ((S L).word c) ≡ not_process → Goal
  did-hold empty =
      let strange : (b : Part) → b.top ≤ word_limit → Own b (μ ((S L).word c)) → ⊥ = λ b h o. not_own b h (subst (Own b) empty o) in
      let rest = change-offers L (with_offer k v st.offers) G.rest (λ other r d j l n. (
        (λ a m g. more-senders st k v g),
        (λ a m x o g. fewer-senders st k v (λ e. strange d (omega (arith, part_small L l, small_size L))
            (subst (λ z. Own d (μ ((S L).word z))) e o)) g),
      )) in
      let inv = G.stays (holding k v s) st₁ μ t ws (record { run = refl; place = refl; operand = refl; regs = refl }) refl
      (λ path q b i l o. (after-leaf L l, intact-held (strange b (omega (arith, part_small L l, small_size L))))) idle-empty
      (real-held L k v below small G.real) rest (after-lined L G.lined) in
      answers (holding k v s) (Demand.outside (offers k v (Ok tt)) [] st₁ ∷ [])
      (offer-holds k v ((S L).word c) s at-word (rw (size_is L G.real) c-in) (mirrored L G.real ((S L).word c) c-in empty)
      (inv-lands L inv))
      (t-event event t-none) (sym (append-nil s.talk)) inv (omega arith)

  -- an ALT has enabled the channel
  module _ {other : List ℕ} {gs : Guards} {l : List Frame} {d : Part} {j : Info} {far to : ℕ}
      (chooser : LeafAt L st t other (at_alt gs l) d j)
      (strange : Out other → ⊥) (a : AltCode (S L) d gs j.vars j.chans l far to (j.w + 1))
      (here : μ ((S L).word c) ≡ name_of j.w) where
    chooser₁ : LeafAt L st₁ t other (at_alt gs l) d j
    chooser₁ = after-leaf L chooser

    own-chooser : Own d (μ ((S L).word c))
    own-chooser =
        let p = (sits-at L chooser).placed in subst (Own d) (sym here) (own_name d j.w (omega (arith, p.room)) p.low)

    -- its words
    t-low : (d.bottom ≤ state_word j.w) × (state_word j.w < j.w)
    t-low =
        let p = (sits-at L chooser).placed in (
          omega (arith, a.fine.0, p.low, part_small L chooser, small_size L),
          omega
              (arith, a.fine.0, p.low, part_small L chooser, small_size L),
        )

    t-high : state_word j.w < d.top
    t-high = omega (arith, t-low.1, (sits-at L chooser).placed.low)

    alt-in : state_word j.w < size L
    alt-in = omega (arith, t-high, part_small L chooser)

    abbrev ν : Mem
    ν = upd μ (state_word j.w) ready

    -- its time words are others
    alt-calm : (time_link_word j.w ≢ state_word j.w) × (time_word j.w ≢ state_word j.w)
    alt-calm =
        let low = (sits-at L chooser).placed.low in
        let tall = part_small L chooser in (
          (λ q. absurd (omega (arith, q, a.fine.0, low, tall, small_size L))),
          (λ q. absurd (omega (arith, q, a.fine.0, low, tall, small_size L))),
        )

    alt-times : SameTimes μ ν j.w
    alt-times = (
      upd_other μ (state_word j.w) ready (time_link_word j.w) alt-calm.0,
      upd_other μ (state_word j.w) ready (time_word j.w) alt-calm.1,
    )

    rest₁ : Rest L st₁ ν t (With Out other) ws
    rest₁ =
        rest_below L chooser₁ (inr refl) (sits-at L chooser).placed (state_word j.w) ready t-low.0 t-low.1 (λ e. alt-calm)
        (change-offers L (with_offer k v st.offers) (rest-with L chooser (λ t f e. never (cc)) G.rest) (λ path r b i x n. (
          (λ y m g. more-senders st k v g),
          (λ y m z o g. fewer-senders st k v (λ e. own-one L (apart_parts L chooser x (λ q. n (inr q))) own-chooser
              (subst (λ z. Own b (μ ((S L).word z))) e o)) g),
        )))

    keeps : Keeps L st st₁ μ ν t t Out
    keeps path q b i x o =
        let off : other ≢ path = λ e. strange (subst Out (sym e) o) in (
          after-leaf L x,
          intact-trans (intact-held (λ n. own-one L (apart_parts L chooser x off) own-chooser n))
              (intact-own L chooser₁ (after-leaf L x) off μ (state_word j.w) ready t-low.0 t-high),
        )

    abbrev s₁ : World
    s₁ = stored (state_word j.w) ready (holding k v s)

    same_regs : SameRegs L s₁ s
    same_regs = record { run = refl; place = refl; operand = refl; regs = refl }

    real₁ : Real L s₁ st₁ ν ws
    real₁ =
        real-stored L (state_word j.w) ready alt-in
        (link-any L G.lined chooser (state_word j.w) t-low.0 t-high
        (λ q. absurd (omega (arith, a.fine.0, (sits-at L chooser).placed.low, part_small L chooser, small_size L))))
        (real-held L k v below small G.real)

    -- the other words are as they were
    base_word : ν j.w ≡ μ j.w
    base_word = upd_other μ (state_word j.w) ready j.w (λ q. absurd (omega (arith, t-low.1)))

    resumes₁ : {at hi : ℕ} → Resumes (S L) d j st μ at hi → Resumes (S L) d j st₁ ν at hi
    resumes₁ r =
        let p = (sits-at L chooser).placed in
        record {
          place = upd_other μ (state_word j.w) ready (resume_word j.w)
              (λ q. absurd (omega (arith, a.fine.0, p.low, part_small L chooser, small_size L))) ∙ r.place;
          soon = r.soon;
        }

    marked₁ : {hs : Guards} → Marked (S L) d st j.vars j.chans hs μ j.w → Marked (S L) d st₁ j.vars j.chans hs ν j.w
    marked₁ h y m o =
        let e = upd_other μ (state_word j.w) ready ((S L).word y) (chan-above L (sits-at L chooser).placed (state_word j.w)
        t-low.1 y m) in
        let g = h y m (subst (Own d) e o) in
        (e ∙ g.0, g.1)

    tells : {z : ℕ} → μ (state_word j.w) ≡ z → is_alt_state z ≡ true → (u : World)
        → notify (name_of j.w) z (holding k v s) ≡ done tt u
        → land u ≡ done tt u → offering k v s ≡ done tt u
    tells {z} state alt u told lands =
        let p = (sits-at L chooser).placed in
        let sz = size_is L G.real in
        offer-tells k v ((S L).word c) j.w z s u at-word (rw sz c-in) (mirrored L G.real ((S L).word c) c-in here)
        (name-given j.w (omega (arith, p.low, part_small L chooser, small_size L))) (rw sz alt-in)
        (mirrored L G.real (state_word j.w) alt-in state) alt told lands

    -- it waits: it is woken
    did-wake : Guarded st.store c gs → member j.w ws ≡ false → Resumes (S L) d j st μ (to + 2 + size_enable gs + 1) far
        → μ (state_word j.w) ≡ waiting → μ j.w ≡ none_selected → Marked (S L) d st j.vars j.chans gs μ j.w
        → (timed gs ≡ true → Dozing L.times st gs μ j.w) → Guarding L.times st gs no_guard j.w → Goal
    did-wake guarded unqueued r state chosen marks dozes known =
        let lines = after-lined L (lined-out L chooser unqueued (λ y q. ⊎_elim (λ p. inr p) (λ p. inl p) q) G.lined) in
        let held : Held (S L) L.times d j st₁ ν true (at_alt gs l) =
        h-woken a (resumes₁ r) (upd_same μ (state_word j.w) ready)
        (record {
          marks = marked₁ marks;
          state = upd_same μ (state_word j.w) ready;
          chosen = inr (base_word ∙ chosen, present-found ν j.w (guarded-present guarded (offer-sends st k v)));
          times = λ e. dozed L.times st st₁ refl refl alt-times (dozes e);
          known = known;
        }) in
        answers-silent L (t-event event t-none) refl
        (λ u e lands. tells state refl u (notify-waiting j.w (holding k v s) (rw (size_is L G.real) alt-in) ∙ e) lands)
        (goes_on_lem L G same_regs refl real₁ rest₁ lines chooser₁ strange keeps held)

    -- it was woken before: it stays Ready
    did-tell : member j.w ws ≡ true → Resumes (S L) d j st μ (to + 2 + size_enable gs + 1) far → μ (state_word j.w) ≡ ready
        → Disabling (S L) d L.times st j.vars j.chans l gs gs a.choice μ j.w → Goal
    did-tell queued r state dis =
        let held : Held (S L) L.times d j st₁ ν true (at_alt gs l) =
        h-woken a (resumes₁ r) (upd_same μ (state_word j.w) ready)
        (record {
          marks = marked₁ dis.marks;
          state = upd_same μ (state_word j.w) ready;
          chosen = ⊎_elim (λ y. let (n, q, g, x) = y in inl (n, q, picks_more (λ y. more-senders st k v) refl refl g, base_word ∙ x))
              (λ y. inr (base_word ∙ y.0, found-more (λ y. more-senders st k v) refl (λ e. alt-times) y.1)) dis.chosen;
          times = λ e. times_more L.times st st₁ refl refl alt-times (dis.times e);
          known = dis.known;
        }) in
        let rest₂ = rest_in L {Out' = Out} chooser₁ (subst (λ y. Held (S L) L.times d j st₁ ν y (at_alt gs l)) (sym queued) held)
        (λ y n q. ⊎_elim (λ o. o) (λ e. absurd (n e)) q) (λ y o. inl o) (λ t f e. never (cc)) rest₁ in
        let inv = G.stays s₁ st₁ ν t ws same_regs refl keeps idle-empty real₁ rest₂ (after-lined L G.lined) in
        answers s₁ (Demand.outside (offers k v (Ok tt)) [] st₁ ∷ [])
        (tells state refl s₁
        (notify-other j.w ready (holding k v s) (rw (size_is L G.real) alt-in) (λ q. absurd (omega arith))) (inv-lands L inv))
        (t-event event t-none) (sym (append-nil s.talk)) inv (omega arith)

  -- a process waits in IN: it gets the value
  module _ {other : List ℕ} {x : Site} {l : List Frame} {d : Part} {j : Info} {to far : ℕ}
      (receiver : LeafAt L st t other (at_input c x l) d j)
      (strange : Out other → ⊥) (unqueued : member j.w ws ≡ false) (waits : Waits (S L) d j st μ c l to far ((S L).word x))
      (target : Target d j.vars x) where
    -- with the value, and with the offer gone again
    abbrev st₂ : State
    st₂ = changed (store x v st.store) st.offers st

    abbrev st₃ : State
    st₃ = changed (store x v st.store) (passed_offer k v st.offers) st

    same-offers : (n : ℕ) → st.offers n ≡ passed_offer k v st.offers n
    same-offers = passed-same k v st.offers none-offered

    abbrev η₁ : Mem
    η₁ = upd μ ((S L).word x) v

    abbrev η : Mem
    η = upd η₁ ((S L).word c) not_process

    x-in : (S L).word x < size L
    x-in = omega (arith, var-in L (node L receiver) x target.0)

    x-not-c : (S L).word c ≢ (S L).word x
    x-not-c q = (sits-at L receiver).placed.scoped.apart x c target.0 waits.scope (sym q)

    receiver₂ : LeafAt L st₂ t other (at_input c x l) d j
    receiver₂ = after-leaf L receiver

    receiver₃ : LeafAt L st₃ t other (at_input c x l) d j
    receiver₃ = after-leaf L receiver

    own-before : Own d (μ ((S L).word c))
    own-before =
        let p = (sits-at L receiver).placed in subst (Own d) (sym waits.here) (own_name d j.w (omega (arith, p.room)) p.low)

    own-then : Own d (η₁ ((S L).word c))
    own-then = subst (Own d) (sym (upd_other μ ((S L).word x) v ((S L).word c) x-not-c)) own-before

    lines₁ : Lined L st t (With Out other) ws
    lines₁ = lined-out L receiver unqueued (λ here o. ⊎_elim (λ o. inr o) (λ e. inl e) o) G.lined

    rest₃ : Rest L st₃ η t (With Out other) ws
    rest₃ =
        change-offers L (passed_offer k v st.offers)
        (clear-chan L receiver₂ (inr refl)
        (write-var L receiver (rest-with L receiver (λ t f e. never (cc)) G.rest) x v target.0 target.1 small (inr refl)) c
        waits.scope
        (inr own-then))
        (λ path r b i y n. ((λ a m g. same-senders {st = st₂} same-offers g), (λ a m z o g. senders-same {st = st₂} same-offers g)))

    abbrev s₂ : World
    s₂ = stored ((S L).word c) not_process (stored ((S L).word x) v s)

    real₃ : Real L s₂ st₃ η ws
    real₃ =
        real-offers L (passed_offer k v st.offers) same-offers
        (real-stored L ((S L).word c) not_process c-in (link-chan L (after-lined L lines₁) receiver₂ (inr refl) c waits.scope)
        (real-state L st.process (store x v st.store)
        (real-stored L ((S L).word x) v x-in (link-var L lines₁ receiver (inr refl) x target.0) G.real)))

    keeps₃ : Keeps L st st₃ μ η t t Out
    keeps₃ path q b i y o =
        let off : other ≢ path = λ e. strange (subst Out (sym e) o) in
        let y₂ : LeafAt L st₂ t path q b i = after-leaf L y in (
          after-leaf L y,
          intact-trans (intact-var L receiver y off μ x v target)
              (intact-trans
              (intact-chan L receiver₂ y₂ off η₁ c not_process waits.scope (λ n. own-one L (apart_parts L receiver y off) own-then n)
              (not_own b (omega (arith, part_small L y, small_size L))))
              (intact-offers L {st = st₂} (passed_offer k v st.offers) (λ a m g. same-senders {st = st₂} same-offers g)
              (λ a m z n g. senders-same {st = st₂} same-offers g))),
        )

    clean₃ : Unmarked (S L) d j st₃ η
    clean₃ a m o = by (ℕ_discrete ((S L).word a) ((S L).word c))
      where
        by : Dec ((S L).word a ≡ (S L).word c) → ⊥
        by (yes e) =
            not_own d (omega (arith, part_small L receiver, small_size L))
            (subst (Own d) (ap η e ∙ upd_same η₁ ((S L).word c) not_process) o)
        by (no e) =
            e (ap (S L).word (waits.only a m (subst (Own d)
            (upd_other η₁ ((S L).word c) not_process ((S L).word a) e
            ∙ upd_other μ ((S L).word x) v ((S L).word a) (λ q. (sits-at L receiver).placed.scoped.apart x a target.0 m (sym q))) o)))

    kept₃ : η (resume_word j.w) ≡ μ (resume_word j.w)
    kept₃ =
        let p = (sits-at L receiver).placed in
        let under : resume_word j.w < j.w = omega (arith, p.room, p.low, part_small L receiver, small_size L) in
        upd_other η₁ ((S L).word c) not_process (resume_word j.w) (λ e. chan-above L p (resume_word j.w) under c waits.scope (sym e))
        ∙ upd_other μ ((S L).word x) v (resume_word j.w) (λ e. var-above L p (resume_word j.w) under x target.0 (sym e))

    goes : Joins L j.w s₂ (putting other (resume l) st₃) (bytes_left (S L) t)
    goes =
        waited-goes L G (record { run = refl; place = refl; operand = refl; regs = refl }) refl real₃ rest₃
        (after-lined L lines₁) receiver₃ strange
        keeps₃ waits kept₃ refl refl clean₃ (λ a z f e here p y n q m. never (cc))

    -- offered, and received
    passes : Trace st (Demand.outside (offers k v (Ok tt)) [] st₁ ∷ Demand.step (over-channel c v) (putting other (resume l) st₃) ∷ [])
        (putting other (resume l) st₃) (over-channel c v) (offers k v (Ok tt) ∷ [])
    passes = t-event event (t-step (receives other receiver.found there) t-none)

    did-pass : Goal
    did-pass =
        let p = (sits-at L receiver).placed in
        let sz = size_is L G.real in
        let tall : state_word j.w < size L = omega (arith, waits.space, p.low, part_small L receiver, small_size L) in
        answers-talk L {c = c} {v = v} passes refl
        (λ u e lands. offer-delivers k v ((S L).word c) j.w ((S L).word x) s u at-word (rw sz c-in)
        (mirrored L G.real ((S L).word c) c-in waits.here)
        (name-given j.w (omega (arith, p.low, part_small L receiver, small_size L))) (rw sz tall)
        (mirrored L G.real (state_word j.w) tall waits.message-at) (no-alt-state ((S L).word x) (omega (arith, x-in, small_size L)))
        (rw sz x-in) e lands) goes

  -- every offer, where it is known what comes of one to a process that is left out
  by-holder : ((path : List ℕ) (q : Process) (b : Part) (i : Info) → LeafAt L st t path q b i → Out path → Memᴰ c i.chans
      → Own b (μ ((S L).word c)) → Goal) → Holder L st μ t Out ws c → Goal
  by-holder out (holds-input y n e w x inp unsent) = did-pass y n e w x
  by-holder out (holds-output y n e w o low z tiny) = absurd (L.one_way k ((part_of L y).outputs c o))
  by-holder out (holds-wait y n e a r g z all un mk dozes known here guarded inp) = did-wake y n a here guarded e r g z mk dozes known
  by-holder out (holds-woken y n e a r g d here guarded inp) = did-tell y n a here e r g d
  by-holder out (holds-out y o m n) = out _ _ _ _ y o m n

  pub ground-offers : ((path : List ℕ) (q : Process) (b : Part) (i : Info) → LeafAt L st t path q b i → Out path → Memᴰ c i.chans
      → Own b (μ ((S L).word c)) → Goal) → Goal
  ground-offers out =
      ⊎_elim did-hold (λ o. by-holder out (holder L G.rest G.known o refl)) (outside-chan L G.rest c (input-named L k below))

-- an ALT that has the processor has marked the channel: it is told
module _ (L : Loaded) {s : World} {st : State} {μ : Mem} {t : Tree (S L) (root L) st.process} {path : List ℕ} {q : Process}
    {b : Part} {i : Info}
    {ws : List ℕ} (G : Ground L s st μ t (Only path) ws) (run : (cpu_of s).running ≡ true) (leaf : LeafAt L st t path q b i) (k v : ℕ)
    (below : k < L.prog.inputs) (small : v < 2 ^ 32) (free : get_or s.machine.held k false ≡ false)
    (m : Memᴰ (input_of k) i.chans) (o : Own b (μ ((S L).word (input_of k)))) where
  high : b.top ≤ word_limit
  high = omega (arith, part_small L leaf, small_size L)

  -- its workspace, and its state word
  module _ {p : ℕ} (tied : Tied q p i.w) (named : μ ((S L).word (input_of k)) ≡ name_of p) (stood : Stood L b i st μ p) where
    w-low : (b.bottom ≤ state_word p) × (state_word p < p + 1)
    w-low =
        let l = stood.placed.low in (omega (arith, stood.low, l, high), omega (arith, stood.low, l, high))

    w-in : state_word p < size L
    w-in = omega (arith, w-low.1, stood.placed.low, part_small L leaf)

    abbrev st₄ : State
    st₄ = changed st.store (with_offer k v st.offers) st

    abbrev η₄ : Mem
    η₄ = upd μ (state_word p) ready

    -- its time words are others
    own-calm : Calm L q i (state_word p)
    own-calm e =
        let same = tied-alt q e tied in
        let l = stood.placed.low in (
          (λ z. absurd (omega (arith, z, same, stood.low, l, high))),
          (λ z. absurd (omega (arith, z, same, stood.low, l, high))),
        )

    rest₄ : Rest L st₄ η₄ t (Only path) ws
    rest₄ =
        rest_below L (after-leaf L leaf) refl stood.placed (state_word p) ready w-low.0 w-low.1 own-calm
        (change-offers L (with_offer k v st.offers) G.rest (λ other r d j x n. (
          (λ y l g. more-senders st k v g),
          (λ y l z f g. fewer-senders st k v (λ e. own-one L (apart_parts L leaf x n) o (subst (λ z. Own d (μ ((S L).word z))) e f)) g),
        )))

    abbrev s₄ : World
    s₄ = stored (state_word p) ready (holding k v s)

    real₄ : Real L s₄ st₄ η₄ ws
    real₄ =
        real-below L (after-leaf L leaf) refl stood.placed (state_word p) ready w-low.0 w-low.1 (after-lined L G.lined)
        (real-held L k v below small G.real)

    told : {z : ℕ} → μ (state_word p) ≡ z → is_alt_state z ≡ true → z ≢ waiting → land s₄ ≡ done tt s₄ → offering k v s ≡ done tt s₄
    told {z} state alt n lands =
        let sz = size_is L G.real in
        let inside-c = c-in L G k v below small free in
        offer-tells k v ((S L).word (input_of k)) p z s s₄ (at-word L G k v below small free) (rw sz inside-c)
        (mirrored L G.real ((S L).word (input_of k)) inside-c named) (λ e. not_own b high (subst (Own b) (named ∙ e) o)) (rw sz w-in)
        (mirrored L G.real (state_word p) w-in state) alt (notify-other p z (holding k v s) (rw sz w-in) n) lands

    did-alert : {hi at : ℕ} → Here L at (cpu_of s).place (cpu_of s).operand
        → AltWay (S L) b L.times st i.vars i.chans q p hi μ at (regs_of (cpu_of s))
        → hi ≤ i.left + (cpu_of s).place → Answers L (λ u. offering k v s ≡ done tt u) s st (offers k v (Ok tt)) (bytes_left (S L) t)
    did-alert here way soon =
        let inv = runs real₄ run (after-leaf L leaf) rest₄ (after-lined L G.lined)
        (now-alt here (alt-goes p tied (told-way L b i st (input_of k) m high k v refl p (subst (Own b) named o) stood.low
        (record {
          holds = named;
          now-ready = upd_same μ (state_word p) ready;
          others = λ u d. upd_other μ (state_word p) ready u d;
        }) way)) soon) in
        let lands = inv-lands L inv in
        answers s₄ (Demand.outside (offers k v (Ok tt)) [] st₄ ∷ [])
        (⊎_elim (λ e. told e refl (λ z. absurd (omega arith)) lands) (λ e. told e refl (λ z. absurd (omega arith)) lands) stood.state)
        (t-event (offered (unheld L free (G.real.offers k below))) t-none) (sym (append-nil s.talk)) inv (omega arith)

  now-alerts : Now L s st μ b i q → Answers L (λ u. offering k v s ≡ done tt u) s st (offers k v (Ok tt)) (bytes_left (S L) t)
  now-alerts (now-goes h way settled clean soon) = absurd (clean (input_of k) m o)
  now-alerts (now-alt {hi} {at} h (alt-goes w tied way) soon) =
      let there = stood L b i st (input_of k) m high o way in
      did-alert tied there.holds there.stood h way soon

-- every offer that is not turned down
pub offers-does : (L : Loaded) {s : World} {st : State} {n : ℕ} → Inv L s st n → (k v : ℕ) → k < L.prog.inputs → v < 2 ^ 32
    → get_or s.machine.held k false ≡ false → Answers L (λ u. offering k v s ≡ done tt u) s st (offers k v (Ok tt)) n
offers-does L (runs {μ} real run leaf rest lines now) k v below small free =
    let G = runs-ground L real run leaf rest lines now in
    ground-offers L G k v below small free (λ other p d j y e m o.
    now-alerts L G run leaf k v below small free (same-leaf L (λ p d (j : Info). Memᴰ (input_of k) j.chans) (sym e) y leaf m)
    (same-leaf L (λ p d (j : Info). Own d (μ ((S L).word (input_of k)))) (sym e) y leaf o) now)
offers-does L (starts B real run leaf rest lines now) k v below small free =
    let G = starts-ground L real run leaf B rest lines now in
    ground-offers L G k v below small free (λ other p d j y e m o. absurd
    (starts-unmarked L real run leaf B now other p d j y e (input_of k) m o))
offers-does L (idle real stop operand rest) k v below small free =
    ground-offers L (idle-ground L real stop operand rest) k v below small free (λ other p d j y e m o. absurd e)
