-- Who is at a channel: the process whose name the channel's word holds, and the sender.
use Prim.Native.Nat.{ℕ, ◌+◌, ◌-◌, ◌^◌, ◌≤◌, ◌<◌}
use native.Mathlib.Omega.{arith}
use mathlib.Core.Path.{◌≡◌, refl, sym, ap, ◌∙◌, subst}
use mathlib.Core.Logic.{◌⊎◌, inl, inr, ⊎_elim}
use mathlib.Core.Bool.{Bool, true, false}
use mathlib.Core.List.{List, Memᴰ}
use mathlib.Core.Option.{none, some}
use lib.ListN.{get_or}
use borrow.Author.Tests.{lt-ltb, le-ltb, le-leb, lt-leb}
use Rattle.model.specs.Syntax.{Site, input_of, output_of, Guards, no_guard, timed}
use Rattle.model.specs.Scheme.{size_enable}
use Rattle.model.specs.Layout.{base, word_of}
use Rattle.model.specs.Machine.{World, is_held, state_word, name_of}
use Rattle.model.specs.Alternative.{waiting, ready, none_selected}
use Rattle.model.specs.Occam.{Frame, Process, at_input, at_output, at_alt, look, State, Sender, process, outside}
use Rattle.model.specs.declared.Setup.{Setup}
use Rattle.model.proofs.Cases.{never}
use Rattle.model.proofs.Quiet.Ways.{Mem}
use Rattle.model.proofs.Quiet.Timing.{Dozing, Guarding}
use Rattle.model.proofs.Occam.Paths.{l-output}
use Rattle.model.proofs.Words.Parts.{Part, Target}
use Rattle.model.proofs.Quiet.Marks.{Own, AnyPresent, Guarded, AltCode, Marked, Disabling}
use Rattle.model.proofs.Quiet.Arrivals.{comes}
use Rattle.model.proofs.Quiet.Onwards.{guarded-fine}
use Rattle.model.proofs.Invariant.Trees.{Label, Info, Tree, labelled, label-alone}
use Rattle.model.proofs.Invariant.Zones.{zone_of}
use Rattle.model.proofs.Invariant.Leaves.{member, Resumes, Waits, Held, h-queued, h-woken, h-input, h-output, h-stop, h-wait}
use Rattle.model.proofs.Invariant.Leaves.{h-asleep}
use Rattle.model.proofs.Invariant.Kernel.{Loaded, S, root, LeafAt, NodeAt, Owned, owned, Rest, Real, Offer, no-offer, held-offer}
use Rattle.model.proofs.Invariant.Grounds.{OutsideAt, an-input, an-output, channel-at}
use Rattle.model.proofs.Invariant.Moving.{skips-silent}

module _ (L : Loaded) where
  -- the process at a channel
  pub data Holder (st : State) (μ : Mem) (t : Tree (S L) (root L) st.process) (Out : List ℕ → Type 0) (ws : List ℕ)
      (c : Site) : Type 0 where
    holds-input : {path : List ℕ} {x : Site} {k : List Frame} {b : Part} {i : Info} {at hi : ℕ} → LeafAt L st t path (at_input c x k) b i
        → (Out path → ⊥) → member i.w ws ≡ false → Waits (S L) b i st μ c k at hi ((S L).word x) → Target b i.vars x
        → Memᴰ c b.inputs → (Sender st c → ⊥) → Holder st μ t Out ws c
    holds-output : {path : List ℕ} {v : ℕ} {k : List Frame} {b : Part} {i : Info} {at hi : ℕ} → LeafAt L st t path (at_output c v k) b i
        → (Out path → ⊥) → member i.w ws ≡ false → Waits (S L) b i st μ c k at hi i.w → Memᴰ c b.outputs → i.w < b.top
        → μ i.w ≡ v → v < 2 ^ 32 → Holder st μ t Out ws c
    holds-wait : {path : List ℕ} {gs : Guards} {k : List Frame} {b : Part} {i : Info} {hi at : ℕ} → LeafAt L st t path (at_alt gs k) b i
        → (Out path → ⊥) → member i.w ws ≡ false → (a : AltCode (S L) b gs i.vars i.chans k hi at (i.w + 1))
        → Resumes (S L) b i st μ (at + 2 + size_enable gs + 1) hi → μ (state_word i.w) ≡ waiting → μ i.w ≡ none_selected
        → ((d : Site) → Guarded st.store d gs → μ ((S L).word d) ≡ name_of i.w) → (AnyPresent st gs → ⊥)
        → Marked (S L) b st i.vars i.chans gs μ i.w → (timed gs ≡ true → Dozing L.times st gs μ i.w)
        → Guarding L.times st gs no_guard i.w → μ ((S L).word c) ≡ name_of i.w → Guarded st.store c gs
        → Memᴰ c b.inputs → Holder st μ t Out ws c
    holds-woken : {path : List ℕ} {gs : Guards} {k : List Frame} {b : Part} {i : Info} {hi at : ℕ} → LeafAt L st t path (at_alt gs k) b i
        → (Out path → ⊥) → member i.w ws ≡ true → (a : AltCode (S L) b gs i.vars i.chans k hi at (i.w + 1))
        → Resumes (S L) b i st μ (at + 2 + size_enable gs + 1) hi → μ (state_word i.w) ≡ ready
        → Disabling (S L) b L.times st i.vars i.chans k gs gs a.choice μ i.w → μ ((S L).word c) ≡ name_of i.w
        → Guarded st.store c gs → Memᴰ c b.inputs → Holder st μ t Out ws c
    -- one that is left out
    holds-out : {path : List ℕ} {q : Process} {b : Part} {i : Info} → LeafAt L st t path q b i → Out path → Memᴰ c i.chans
        → Own b (μ ((S L).word c)) → Holder st μ t Out ws c

  module _ {st : State} {μ : Mem} {t : Tree (S L) (root L) st.process} {Out : List ℕ → Type 0} {ws : List ℕ}
      (rest : Rest L st μ t Out ws)
    where
      -- by what a process waits for
      by-held : {path : List ℕ} {q : Process} {b : Part} {i : Info} {f : Bool} (c : Site) → LeafAt L st t path q b i → (Out path → ⊥)
          → member i.w ws ≡ f → Memᴰ c i.chans → Own b (μ ((S L).word c)) → Held (S L) L.times b i st μ f q
          → Holder st μ t Out ws c
      by-held c k n e m o (h-queued z r h u) = absurd (u c m o)
      by-held {b = b} {i} c k n e m o (h-woken a r s d) =
          let g = d.marks c m o in
          holds-woken k n e a r s d g.0 g.1 (guarded-fine (S L).word b i.vars i.chans (i.w + 1) g.1 a.fine.1).1
      by-held c k n e m o (h-input w x inp free) = subst (λ z. Holder st μ t Out ws z) (sym (w.only c m o))
          (holds-input k n e w x inp free)
      by-held c k n e m o (h-output w out l v z) = subst (λ z. Holder st μ t Out ws z) (sym (w.only c m o))
          (holds-output k n e w out l v z)
      by-held c k n e m o (h-stop u) = absurd (u c m o)
      by-held c k n e m o (h-asleep a) = absurd (a.unmarked c m o)
      by-held {b = b} {i} c k n e m o (h-wait a r s v all free d dozes known) =
          let g = d c m o in
          holds-wait k n e a r s v all free d dozes known g.0 g.1
          (guarded-fine (S L).word b i.vars i.chans (i.w + 1) g.1 a.fine.1).1

      -- the process whose name a channel's word holds
      pub holder : ((other : List ℕ) → Out other ⊎ (Out other → ⊥)) → {c : Site} {n : ℕ} → Owned L st t c n → μ ((S L).word c) ≡ n
          → Holder st μ t Out ws c
      holder dec {c} (owned {path = other} {b} k m o) e =
          let mine = subst (Own b) (sym e) o in
          ⊎_elim (λ out. holds-out k out m mine) (λ n. by-held c k n refl m mine (rest.leaf k n)) (dec other)

      -- a process that sends is at the channel: its word holds its name
      pub data Sends (c : Site) : Type 0 where
        sends : {path : List ℕ} {v : ℕ} {k : List Frame} {b : Part} {i : Info} → LeafAt L st t path (at_output c v k) b i → (Out path → ⊥)
            → μ ((S L).word c) ≡ name_of i.w → Memᴰ c b.outputs → Memᴰ c i.chans → Sends c

      sends-held : {path : List ℕ} {c : Site} {v : ℕ} {k : List Frame} {b : Part} {i : Info} {f : Bool}
          → LeafAt L st t path (at_output c v k) b i → (Out path → ⊥) → Held (S L) L.times b i st μ f (at_output c v k) → Sends c
      sends-held l n (h-queued (comes sk settled sub way) r h u) = absurd (skips-silent sk settled refl)
      sends-held l n (h-output w out z v s) = sends l n w.here out w.scope

      pub sender-at : (c : Site)
          → ((path : List ℕ) (v : ℕ) (k : List Frame) → look path st.process ≡ some (at_output c v k) → Out path → ⊥)
          → Sender st c → Sends c ⊎ ((n : ℕ) × (v : ℕ) × (c ≡ input_of n) × (st.offers n ≡ some v))
      sender-at c silent (process path {v} {k} e) =
          elim (label-alone (S L) t path e l-output) [
            | labelled b i f ↦
                let l : LeafAt L st t path (at_output c v k) b i = record { found = e; leaf = l-output; label = f } in
                let n = silent path v k e in
                inl (sends-held l n (rest.leaf l n))
          ]
      sender-at c silent (outside {n} {v} e) = inr (n, v, refl, e)

  -- whether an offer is held on a channel in scope
  pub data HeldAt (s : World) (st : State) (c : Site) : Type 0 where
    held_at : (n v : ℕ) → n < L.prog.inputs → c ≡ input_of n → (S L).word c ≡ base L.prog + n → is_held ((S L).word c) s.machine ≡ true
        → v < 2 ^ 32 → get_or s.machine.offers n 0 ≡ v → st.offers n ≡ some v → HeldAt s st c
    not-held : is_held ((S L).word c) s.machine ≡ false → ((n : ℕ) → c ≡ input_of n → st.offers n ≡ none) → HeldAt s st c

  input-same : {j k : ℕ} → input_of j ≡ input_of k → j ≡ k
  input-same e = cc

  -- an outside input's word
  pub input-at : (k : ℕ) → (S L).word (input_of k) ≡ base L.prog + k
  unfolding word_of
  input-at k = refl

  pub output-at : (k : ℕ) → (S L).word (output_of k) ≡ base L.prog + L.prog.inputs + k
  unfolding word_of
  output-at k = refl

  inside-input : {c : Site} {k : ℕ} → (S L).word c < base L.prog → c ≡ input_of k → ◌≡◌ {A = ℕ} 0 1
  inside-input {k = k} h e = absurd (omega (arith, input-at k, ap (S L).word e))

  module _ {s : World} {st : State} {μ : Mem} {ws : List ℕ} (real : Real L s st μ ws) where
    held_below : (a : ℕ) → a < base L.prog → is_held a s.machine ≡ false
    held_below a h = rw (lt-leb s.machine.setup.base a (omega (arith, ap (λ (u : Setup). u.base) real.setup-kept)))

    held-above : (a : ℕ) → base L.prog + L.prog.inputs ≤ a → is_held a s.machine ≡ false
    held-above a h =
        let eb = ap (λ (u : Setup). u.base) real.setup-kept in
        let ei = ap (λ (u : Setup). u.inputs) real.setup-kept in
        rw (
          le-leb s.machine.setup.base a (omega arith),
          le-ltb (a - s.machine.setup.base) s.machine.setup.inputs (omega arith),
        )

    held-is : (n : ℕ) → n < L.prog.inputs → is_held (base L.prog + n) s.machine ≡ get_or s.machine.held n false
    held-is n h =
        let eb = ap (λ (u : Setup). u.base) real.setup-kept in
        let ei = ap (λ (u : Setup). u.inputs) real.setup-kept in
        let d : base L.prog + n - s.machine.setup.base ≡ n = omega arith in
        rw (
          le-leb s.machine.setup.base (base L.prog + n) (omega arith),
          d,
          lt-ltb n s.machine.setup.inputs (omega arith),
        )

    pub held-here : {t : Tree (S L) (root L) st.process} {path : List ℕ} {l : Label} → NodeAt L st t path l → (c : Site)
        → Memᴰ c (zone_of l).chans → HeldAt s st c
    held-here n c m = ⊎_elim from-outside
        (λ h. not-held (held_below ((S L).word c) h) (λ k e. never (inside-input h e))) (channel-at L n c m)
      where
        from-offer : (k : ℕ) → k < L.prog.inputs → c ≡ input_of k → (S L).word c ≡ base L.prog + k → Offer L s st k → HeldAt s st c
        from-offer k h e w (no-offer f o) =
            not-held (ap (λ a. is_held a s.machine) w ∙ held-is k h ∙ f) (λ j g. ap st.offers (input-same (sym g ∙ e)) ∙ o)
        from-offer k h e w (held-offer v l f g o) = held_at k v h e w (ap (λ a. is_held a s.machine) w ∙ held-is k h ∙ f) l g o

        from-outside : OutsideAt L c → HeldAt s st c
        from-outside (an-input k h e w) = from-offer k h e w (real.offers k h)
        from-outside (an-output k h e w) = not-held (held-above ((S L).word c) (omega arith)) (λ j f. never (cc (sym e ∙ f)))
