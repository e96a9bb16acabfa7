-- IN: a process comes to an input. It takes a held offer or a sender's value, or waits.
use Prim.Native.Nat.{ℕ, suc, ◌+◌, ◌-◌, ◌^◌, ◌≤◌, ◌<◌}
use native.Mathlib.Omega.{arith}
use native.Mathlib.Decide.{ℕ_discrete}
use mathlib.Core.Path.{◌≡◌, refl, sym, ap, ◌∙◌, subst}
use mathlib.Core.Logic.{◌≢◌, inl, inr, ⊎_elim}
use mathlib.Core.Bool.{true, false}
use mathlib.Core.List.{List, [], ◌∷◌, ◌++◌, map, Memᴰ}
use mathlib.Core.Option.{Option, none, some}
use lib.ListN.{get_or}
use lib.Dec.{eqb}
use borrow.Author.Tests.{ne_eqb}
use Rattle.model.specs.Word.{not_process}
use Rattle.model.specs.Limits.{word_limit}
use Rattle.model.specs.Syntax.{Site, input_of, input}
use Rattle.model.specs.Instruction.{operation}
use Rattle.model.specs.Instruction as I
use Rattle.model.specs.Code.{function_in, operand_in}
use Rattle.model.specs.Layout.{base}
use Rattle.model.specs.Machine.{World, is_held, resume_word, state_word, name_of, talks}
use Rattle.model.specs.Occam.{store, Frame, before, at_input, at_output, resume, go, look, put, State, over-channel, Sender, process}
use Rattle.model.specs.Occam.{outside, Step, begins, communicates, receives}
use Rattle.model.specs.Demand.{step, talk_of}
use Rattle.model.specs.declared.Setup.{Setup}
use Rattle.model.proofs.Cases.{never, by_bool}
use Rattle.model.proofs.Quiet.Names.{name-given}
use Rattle.model.proofs.Quiet.Ways.{upd_same, upd_other, upd, Mem}
use Rattle.model.proofs.Quiet.Setting.{whole}
use Rattle.model.proofs.Occam.Paths.{l-input, l-output, leaf-resume, live-resume, silent-resume, same-path, look-put-same}
use Rattle.model.proofs.Occam.Paths.{put-put-same, Apart, apart-sym as path-apart-sym, leaves-apart, look-put-other, put-put-apart}
use Rattle.model.proofs.Occam.Paths.{off-resume}
use Rattle.model.proofs.Words.Parts.{Part, Fine}
use Rattle.model.proofs.Quiet.Continuations.{Placed, Cont, cont-placed}
use Rattle.model.proofs.Quiet.Marks.{Own, own_name}
use Rattle.model.proofs.Quiet.Arrivals.{arrives}
use Rattle.model.proofs.Invariant.Trees.{Info, Sits, Tree, bytes_left}
use Rattle.model.proofs.Invariant.Leaves.{member, Unmarked, Waits, h-input}
use Rattle.model.proofs.Effects.OneWord.{cpu_of, stored}
use Rattle.model.proofs.Effects.Acts.{dropped, parked, exec-in-held, exec-in-wait, exec-in-sender}
use Rattle.model.proofs.Invariant.Kernel.{Loaded, S, root, size, LeafAt, Rest, Lined, Real, node, part_small, sits-at}
use Rattle.model.proofs.Invariant.Writes.{changed, after-leaf, after-lined, apart_parts, apart-zones, write-var, change-offers}
use Rattle.model.proofs.Invariant.Puts.{putting, tree_then, here-then, other-then, lined_then, rest_then, sender-before}
use Rattle.model.proofs.Invariant.Grounds.{var-in, chan-in, small_size, sound-at}
use Rattle.model.proofs.Invariant.Traces.{Trace, t-none, t-step}
use Rattle.model.proofs.Invariant.Running.{Only, Did, Executes, executes, Acting}
use Rattle.model.proofs.Invariant.Reals.{size_is, mirrored, real-state, real-stored, real-talk, real-dropped, without_offer, link-var}
use Rattle.model.proofs.Invariant.Reals.{link-chan}
use Rattle.model.proofs.Invariant.Scheduling.{settle, linked_to, Woken}
use Rattle.model.proofs.Effects.Queues.{joined, join-queue}
use Rattle.model.proofs.Invariant.Finish.{then-settles, silent}
use Rattle.model.proofs.Steps.Advance.{Silent, goes-as, leaves-as}
use Rattle.model.proofs.Steps.Basics.{before-silent}
use Rattle.model.proofs.Steps.Channels.{Holder, holds-input, holds-output, holds-wait, holds-woken, holds-out, holder, Sends, sends}
use Rattle.model.proofs.Steps.Channels.{sender-at, held_at, not-held, held-here}
use Rattle.model.proofs.Steps.Meets.{Both, not_own, clear-chan, mark-chan, chan-above, rest_below, real-below, partner-goes}
use Rattle.model.proofs.Invariant.Moving.{same-leaf, lined-out, rest-with}

pub output-channel : {c d : Site} {v w : ℕ} {k l : List Frame} → at_output c v k ≡ at_output d w l → c ≡ d
output-channel e = cc

module _ (L : Loaded) {s : World} {st : State} {μ : Mem} {t : Tree (S L) (root L) st.process} {path : List ℕ}
    {c x : Site} {k : List Frame}
    {b : Part} {i : Info} {ws : List ℕ} {at hi h : ℕ} (A : Acting L s st μ t path (before (input c x) k) b i (Only path) ws at hi)
    (ea : (cpu_of s).a ≡ 4) (eb : (cpu_of s).b ≡ (S L).word c) (ec : (cpu_of s).c ≡ (S L).word x)
    (f : Fine (S L).word b i.vars i.chans (cpu_of s).workspace (input c x))
    (cont : Cont (S L) b h i.vars i.chans k (suc at) (cpu_of s).workspace) (near : h ≤ whole (S L) + L.off at)
    (clean : Unmarked (S L) b i st μ) where
  abbrev w : ℕ
  w = (cpu_of s).workspace

  placed : Placed (S L) b w i.vars i.chans
  placed = cont-placed (S L) b cont

  high : b.top ≤ word_limit
  high = omega (arith, part_small L A.leaf, small_size L)

  near_on : h ≤ whole (S L) + L.off (suc at)
  near_on = omega (arith, (S L).rises at (suc at) (omega arith) A.inside)

  -- words of the variable and the channel
  x-in : (S L).word x < size L
  x-in = omega (arith, var-in L (node L A.leaf) x f.1.0)

  c-in : (S L).word c < size L
  c-in = chan-in L (node L A.leaf) c f.2

  x-not-c : (S L).word x ≢ (S L).word c
  x-not-c e = placed.scoped.apart x c f.1.0 f.2 e

  -- where it waits
  abbrev st₁ : State
  st₁ = putting path (at_input c x k) st

  coming : Step st [] st₁
  unfolding go
  coming = begins path A.leaf.found

  -- a held offer
  module _ (n v : ℕ) (below : n < L.prog.inputs) (named : c ≡ input_of n) (word-is : (S L).word c ≡ base L.prog + n)
      (small : v < 2 ^ 32) (offer-is : get_or s.machine.offers n 0 ≡ v) (there : st.offers n ≡ some v)
      (held : is_held ((S L).word c) s.machine ≡ true) where
    abbrev offers₀ : ℕ → Option ℕ
    offers₀ = without_offer L n st.offers

    abbrev st₀ : State
    st₀ = changed (store x v st.store) offers₀ st

    abbrev ν : Mem
    ν = upd μ ((S L).word x) v

    -- the sender is gone, for this process alone
    gone : {d : Site} → d ≢ input_of n → Sender (changed (store x v st.store) st.offers st) d → Sender st₀ d
    gone e (process p g) = process p g
    gone {d} e (outside {n = m} {v} g) = outside {n = m} {v = v} (rw (ne_eqb m n (λ z. e (ap input_of z))) g)

    fewer : {d : Site} → Sender st₀ d → Sender (changed (store x v st.store) st.offers st) d
    fewer (process p g) = process p g
    fewer (outside {n = m} {v} g) =
        by_bool (eqb m n) (λ z. never (cc (rw z at g))) (λ z. outside {n = m} {v = v} (rw z at g))

    rest₀ : Rest L st₀ ν t (Only path) ws
    rest₀ =
        change-offers L offers₀ (write-var L A.leaf A.rest x v f.1.0 f.1.1 small refl)
        (λ other r d j y o. (
          (λ a m g. gone (λ e. (apart_parts L A.leaf (record { found = y.found; leaf = y.leaf; label = y.label }) o).inputs c f.3
              (subst (λ z. Memᴰ z d.inputs) (e ∙ sym named) m)) g),
          (λ a m q o g. fewer g),
        ))

    abbrev told : World
    told = stored ((S L).word x) v (dropped ((S L).word c) s)

    abbrev u : World
    u = record { machine = told.machine; memory = told.memory; talk = told.talk ++ talks ((S L).word c) v ∷ [] }

    real₀ : Real L u st₀ ν ws
    real₀ =
        let k : (S L).word c - s.machine.setup.base ≡ n = omega (arith, ap (λ (u : Setup). u.base) A.real.setup-kept) in
        let dropped-real : Real L (dropped ((S L).word c) s) (changed st.store offers₀ st) μ ws =
        rw k (real-dropped L n below A.real) in
        real-talk L (told.talk ++ talks ((S L).word c) v ∷ [])
        (real-state L st.process (store x v st.store)
        (real-stored L ((S L).word x) v x-in (link-var L A.lined A.leaf refl x f.1.0) dropped-real))

    clean₀ : Unmarked (S L) b i st₀ ν
    clean₀ d m q =
        clean d m (subst (Own b) (upd_other μ ((S L).word x) v ((S L).word d) (λ e. placed.scoped.apart x d f.1.0 m (sym e))) q)

    -- it comes, and takes the offer
    took : Trace st (step [] st₁ ∷ step (over-channel c v) (putting path (resume k) st₀) ∷ [])
        (putting path (resume k) st₀) (over-channel c v) []
    took =
        t-step coming
        (t-step
        (subst
        (λ z.
        Step st₁ (over-channel c v) (record { process = z; store = store x v st.store; offers = offers₀; clock = st.clock }))
        (put-put-same path (resume k) (at_input c x k) st.process)
        (subst (λ d. Step st₁ (over-channel d v) (record {
          process = put path (resume k) (put path (at_input c x k) st.process);
          store = store x v st.store;
          offers = offers₀;
          clock = st.clock;
        })) (sym named)
        (receives path (subst (λ d. look path (put path (at_input c x k) st.process) ≡ some (at_input d x k)) named
        (look-put-same path st.process (at_input c x k) A.leaf.found)) there)))
        t-none)

    executed : Executes L (operation I.«in») s u
    unfolding function_in operand_in
    executed =
        let k : (S L).word c - s.machine.setup.base ≡ n = omega (arith, ap (λ (u : Setup). u.base) A.real.setup-kept) in
        executes (exec-in-held ((S L).word c) ((S L).word x) v s ea eb ec held (rw k offer-is) (rw (size_is L A.real) x-in))

    pub did-take-offer : Did L (Executes L (operation I.«in») s) s st (bytes_left (S L) t)
    did-take-offer =
        let leaf₀ : LeafAt L st₀ t path (before (input c x) k) b i = after-leaf L A.leaf in
        let lines₀ : Lined L st₀ t (Only path) ws = after-lined L A.lined in
        let j : Info = record { vars = i.vars; chans = i.chans; w = w; left = whole (S L) } in
        let few : whole (S L) ≤ whole (S L) = omega arith in
        let live = live-resume k i.vars (A.rest.live A.leaf) in
        let quiet : Silent (resume k) = λ c v f e. silent-resume k e in
        let now = goes-as L real₀ leaf₀ rest₀ lines₀ clean₀ (before-silent (input c x) k) (λ e. never (cc)) (resume k) (leaf-resume k) j
        placed few
        (rest₀.vars (node L leaf₀)) (rest₀.chans (node L leaf₀)) live quiet (off-resume k) in
        then-settles L took (omega arith) executed (talk-is)
        (settle L (real-state L (put path (resume k) st.process) (store x v st.store) real₀)
        (here-then L leaf₀ (resume k) (leaf-resume k) j _) now (lined_then L leaf₀ (resume k) (leaf-resume k) j _ refl lines₀)
        (whole (S L)) (record { run = A.run; operand = A.operand; place = A.placed; work = refl; inside = A.inside })
        (arrives (S L) b st₀.store cont near_on (sound-at L rest₀ leaf₀)) clean₀ near_on (omega arith))
      where
        talk-is : u.talk ≡ s.talk ++ map (talk_of L.prog) (over-channel c v)
        talk-is = refl

  -- nobody sends: it waits
  module _ (no-offer-held : is_held ((S L).word c) s.machine ≡ false) (nothing : (n : ℕ) → c ≡ input_of n → st.offers n ≡ none)
      (empty : μ ((S L).word c) ≡ not_process) where
    own-w : Own b (name_of w)
    own-w = own_name b w (omega (arith, placed.room)) placed.low

    abbrev ν₁ : Mem
    ν₁ = upd μ ((S L).word c) (name_of w)

    abbrev ν₂ : Mem
    ν₂ = upd ν₁ (resume_word w) (cpu_of s).place

    abbrev ν₃ : Mem
    ν₃ = upd ν₂ (state_word w) ((S L).word x)

    -- its own words
    r-low : (b.bottom ≤ resume_word w) × (resume_word w < w)
    r-low = (omega (arith, placed.room, placed.low, high), omega (arith, placed.room, placed.low, high))

    s-low : (b.bottom ≤ state_word w) × (state_word w < w)
    s-low = (omega (arith, f.0, placed.low, high), omega (arith, f.0, placed.low, high))

    r-not-s : resume_word w ≢ state_word w
    r-not-s e = absurd (omega (arith, f.0, placed.low, high))

    rest₃ : Rest L st ν₃ t (Only path) ws
    rest₃ =
        rest_below L A.leaf refl placed (state_word w) ((S L).word x) s-low.0 s-low.1 (λ e. never (cc))
        (rest_below L A.leaf refl placed (resume_word w) (cpu_of s).place r-low.0 r-low.1 (λ e. never (cc))
        (mark-chan L A.leaf refl A.rest c f.2 (name_of w) own-w empty))

    real₃ : Real L (parked ((S L).word c) w (cpu_of s).place ((S L).word x) s) st ν₃ ws
    real₃ =
        real-below L A.leaf refl placed (state_word w) ((S L).word x) s-low.0 s-low.1 A.lined
        (real-below L A.leaf refl placed (resume_word w) (cpu_of s).place r-low.0 r-low.1 A.lined
        (real-stored L ((S L).word c) (name_of w) c-in (link-chan L A.lined A.leaf refl c f.2) A.real))

    -- the channels' words
    chan-now : (d : Site) → Memᴰ d i.chans → ν₃ ((S L).word d) ≡ ν₁ ((S L).word d)
    chan-now d m =
        upd_other ν₂ (state_word w) ((S L).word x) ((S L).word d)
        (chan-above L placed (state_word w) s-low.1 d m)
        ∙ upd_other ν₁ (resume_word w) (cpu_of s).place ((S L).word d)
        (chan-above L placed (resume_word w) r-low.1 d m)

    only : (d : Site) → Memᴰ d i.chans → Own b (ν₃ ((S L).word d)) → d ≡ c
    only d m o = by (ℕ_discrete ((S L).word d) ((S L).word c))
      where
        by : Dec ((S L).word d ≡ (S L).word c) → d ≡ c
        by (yes e) = placed.scoped.chans-distinct d c m f.2 e
        by (no e) = absurd (clean d m (subst (Own b) (chan-now d m ∙ upd_other μ ((S L).word c) (name_of w) ((S L).word d) e) o))

    nobody : Sender st c → ⊥
    nobody g = ⊎_elim (λ z. by z) (λ z. let (n, v, e, o) = z in never (cc (o, nothing n e)))
        (sender-at L A.rest c (λ p v l e q. never (cc (sym A.leaf.found, ap (λ y. look y st.process) q, e))) g)
      where
        by : Sends L A.rest c → ⊥
        by (sends {i = j} k n e out m) =
            let p = (sits-at L k).placed in name-given j.w (omega (arith, p.low, part_small L k, small_size L)) (sym e ∙ empty)

    pub did-wait : Did L (Executes L (operation I.«in») s) s st (bytes_left (S L) t)
    unfolding function_in operand_in
    did-wait =
        let j : Info = record { vars = i.vars; chans = i.chans; w = w; left = whole (S L) } in
        let sits-j : Sits (S L) b j = record { placed = placed; few = omega arith } in
        leaves-as L real₃ A.leaf A.lined (at_input c x k) l-input j sits-j
        (rest_then L A.leaf (at_input c x k) l-input j sits-j rest₃ refl (rest₃.vars (node L A.leaf))
        (rest₃.chans (node L A.leaf)) (A.rest.live A.leaf) (λ d m o. m) (λ d v g e other r p z y n m. never (cc))
        (λ d v g e other r p z y n m q o. never (cc)) (λ e. never (cc)) (λ e. never (cc)))
        (λ t f e. never (cc)) (h-input (record {
          scope = f.2;
          onward = cont;
          near = near_on;
          resumes = record {
            place = upd_other ν₂ (state_word w) ((S L).word x) (resume_word w) r-not-s ∙ upd_same ν₁ (resume_word w)
                (cpu_of s).place ∙ A.placed;
            soon = near_on;
          };
          space = f.0;
          here = chan-now c f.2 ∙ upd_same μ ((S L).word c) (name_of w);
          only = only;
          message-at = upd_same ν₂ (state_word w) ((S L).word x);
        }) f.1 f.3 (λ g. nobody (sender-before L A.leaf (at_input c x k) l-input j sits-j c (λ v l e. never (cc)) g)))
        A.operand coming
        (λ y e z. executes (exec-in-wait ((S L).word c) ((S L).word x) w (cpu_of s).place s ea eb ec refl refl no-offer-held
        (rw (size_is L A.real) c-in) (mirrored L A.real ((S L).word c) c-in empty)
        (rw (size_is L A.real) (omega (arith, r-low.1, placed.low, part_small L A.leaf)))
        (rw (size_is L A.real) (omega (arith, s-low.1, placed.low, part_small L A.leaf))) ∙ e))
        (silent L s (parked ((S L).word c) w (cpu_of s).place ((S L).word x) s) refl)

  -- a sender is there: its value is taken, and it goes on
  module _ {other : List ℕ} {v : ℕ} {l : List Frame} {d : Part} {j : Info} {to far : ℕ} (sender : LeafAt L st t other (at_output c v l) d j)
      (apart : path ≢ other) (idle : member j.w ws ≡ false) (waits : Waits (S L) d j st μ c l to far j.w) (low : j.w < d.top)
      (holds : μ j.w ≡ v) (small : v < 2 ^ 32) (free : is_held ((S L).word c) s.machine ≡ false) where
    abbrev st₂ : State
    st₂ = changed (store x v st.store) st.offers st

    abbrev η₁ : Mem
    η₁ = upd μ ((S L).word x) v

    abbrev η : Mem
    η = upd η₁ ((S L).word c) not_process

    sender₂ : LeafAt L st₂ t other (at_output c v l) d j
    sender₂ = after-leaf L sender

    own-sender : Own d (η₁ ((S L).word c))
    own-sender =
        let p = (sits-at L sender).placed in
        subst (Own d) (sym (upd_other μ ((S L).word x) v ((S L).word c) (λ e. x-not-c (sym e)) ∙ waits.here))
        (own_name d j.w (omega (arith, p.room)) p.low)

    rest₂ : Rest L st₂ η t (Both path other) ws
    rest₂ =
        clear-chan L sender₂ (inr refl)
        (write-var L A.leaf (rest-with L sender (λ t f e. never (cc)) A.rest) x v f.1.0 f.1.1 small (inl refl)) c
        waits.scope
        (inr own-sender)

    lines₂ : Lined L st₂ t (Both path other) ws
    lines₂ = after-lined L (lined-out L sender idle (λ z e. ⊎_elim (λ q. inr q) (λ q. inl q) e) A.lined)

    abbrev s₂ : World
    s₂ = stored ((S L).word c) not_process (stored ((S L).word x) v s)

    real₂ : Real L s₂ st₂ η ws
    real₂ =
        real-stored L ((S L).word c) not_process c-in (link-chan L lines₂ (after-leaf L A.leaf) (inl refl) c f.2)
        (real-state L st.process (store x v st.store)
        (real-stored L ((S L).word x) v x-in (link-var L A.lined A.leaf refl x f.1.0) A.real))

    -- a channel of either process
    chan-after : (e : Part) (a : Site) → e.top ≤ word_limit → (S L).word a ≢ (S L).word x → Own e (η ((S L).word a))
        → ((S L).word a ≢ (S L).word c) × Own e (μ ((S L).word a))
    chan-after e a tall n o = by (ℕ_discrete ((S L).word a) ((S L).word c))
      where
        by : Dec ((S L).word a ≡ (S L).word c) → ((S L).word a ≢ (S L).word c) × Own e (μ ((S L).word a))
        by (yes z) = absurd (not_own e tall (subst (Own e) (ap η z ∙ upd_same η₁ ((S L).word c) not_process) o))
        by (no z) =
            (z, subst (Own e) (upd_other η₁ ((S L).word c) not_process ((S L).word a) z ∙ upd_other μ ((S L).word x) v ((S L).word a) n) o)

    sender-clean : Unmarked (S L) d j st₂ η
    sender-clean a q o =
        let far = apart-zones L apart (node L A.leaf) (node L sender) in
        let (n, o') = chan-after d a (omega (arith, part_small L sender, small_size L)) (λ e. far.cross x a f.1.0 q (sym e)) o in
        n (ap (S L).word (waits.only a q o'))

    sender-same : η (resume_word j.w) ≡ μ (resume_word j.w)
    sender-same =
        let far = apart-zones L apart (node L A.leaf) (node L sender) in
        let p = (sits-at L sender).placed in
        let lo : d.bottom ≤ resume_word j.w = omega (arith, p.room, p.low, part_small L sender, small_size L) in
        let hi : resume_word j.w < d.top = omega (arith, p.room, p.low, part_small L sender, small_size L) in
        upd_other η₁ ((S L).word c) not_process (resume_word j.w) (λ e. far.chans-out c f.2 (omega (arith, e), omega (arith, e)))
        ∙ upd_other μ ((S L).word x) v (resume_word j.w) (λ e. far.vars-out x f.1.0 (omega (arith, e), omega (arith, e)))

    woken : Woken L s₂ (putting other (resume l) st₂) η
        (tree_then L sender₂ (resume l) (leaf-resume l) j (sits-at L sender₂)) (Only path) j.w ws
    woken =
        partner-goes L real₂ rest₂ lines₂ sender₂ apart waits sender-same refl refl sender-clean
        (λ a y q e here p z n k o i. (apart_parts L (after-leaf L A.leaf) k (λ w. o (inl w))).inputs c f.3
        (subst (λ g. Memᴰ g z.inputs) (output-channel (sym e)) i))

    abbrev st₃ : State
    st₃ = putting other (resume l) st₂

    leaf₃ : LeafAt L st₃ (tree_then L sender₂ (resume l) (leaf-resume l) j (sits-at L sender₂)) path (before (input c x) k) b i
    leaf₃ = other-then L sender₂ (resume l) (leaf-resume l) j (sits-at L sender₂) (λ e. apart (sym e)) (after-leaf L A.leaf)

    abbrev η₃ : Mem
    η₃ = linked_to L j.w ws η

    clean₃ : Unmarked (S L) b i st₃ η₃
    clean₃ a q o =
        let intact = woken.intact {skip = b.top} leaf₃ refl in
        ⊎_elim (λ e. clean a q (chan-after b a high (λ z. placed.scoped.apart x a f.1.0 q (sym z)) (subst (Own b) e o)).1)
        (λ n. n.1 o) (intact.chans a q)

    -- they meet
    apart-paths : Apart other path
    apart-paths =
        leaves-apart other path st.process sender.found l-output A.leaf.found A.leaf.leaf (λ e. apart (sym e))

    meets : Trace st (step [] st₁ ∷ step (over-channel c v) (putting path (resume k) st₃) ∷ [])
        (putting path (resume k) st₃) (over-channel c v) []
    meets =
        t-step coming
        (t-step
        (subst
        (λ z.
        Step st₁ (over-channel c v) (record { process = z; store = store x v st.store; offers = st.offers; clock = st.clock }))
        (ap (put other (resume l)) (put-put-same path (resume k) (at_input c x k) st.process)
        ∙ put-put-apart (resume l) (resume k) st.process apart-paths)
        (communicates other path
        (look-put-other (at_input c x k) st.process (path-apart-sym apart-paths) ∙ sender.found)
        (look-put-same path st.process (at_input c x k) A.leaf.found)))
        t-none)

    abbrev u₃ : World
    u₃ =
        let y = joined j.w ws s₂ in
        record { machine = y.machine; memory = y.memory; talk = y.talk ++ talks ((S L).word c) v ∷ [] }

    executed₃ : Executes L (operation I.«in») s u₃
    unfolding function_in operand_in
    executed₃ =
        let p = (sits-at L sender).placed in
        let small-j : state_word j.w < size L = omega (arith, waits.space, p.low, part_small L sender, small_size L) in
        let not-c : (S L).word c ≢ (S L).word x = λ e. x-not-c (sym e) in
        executes
        (exec-in-sender ((S L).word c) ((S L).word x) j.w j.w v s ea eb ec free (rw (size_is L A.real) c-in)
        (mirrored L A.real ((S L).word c) c-in waits.here)
        (name-given j.w (omega (arith, p.low, part_small L sender, small_size L)))
        (rw (size_is L A.real) small-j) (mirrored L A.real (state_word j.w) small-j waits.message-at)
        (rw (size_is L A.real) (omega (arith, low, part_small L sender)))
        (mirrored L A.real j.w (omega (arith, low, part_small L sender)) holds) (rw (size_is L A.real) x-in)
        ∙ rw (join-queue j.w s₂ A.run woken.enqueued))

    pub did-receive : Did L (Executes L (operation I.«in») s) s st (bytes_left (S L) t)
    did-receive =
        let i' : Info = record { vars = i.vars; chans = i.chans; w = w; left = whole (S L) } in
        let few : whole (S L) ≤ whole (S L) = omega arith in
        let live = live-resume k i.vars (A.rest.live A.leaf) in
        let quiet : Silent (resume k) = λ c v f e. silent-resume k e in
        let real₃ = real-talk L u₃.talk woken.real in
        let now = goes-as L real₃ leaf₃ woken.rest woken.lines clean₃ (before-silent (input c x) k) (λ e. never (cc)) (resume k)
        (leaf-resume k) i' placed few
        (woken.rest.vars (node L leaf₃)) (woken.rest.chans (node L leaf₃)) live quiet (off-resume k) in
        then-settles L meets (omega arith) executed₃ refl
        (settle L (real-state L (put path (resume k) st₃.process) st₃.store real₃)
        (here-then L leaf₃ (resume k) (leaf-resume k) i' _) now (lined_then L leaf₃ (resume k) (leaf-resume k) i' _ refl woken.lines)
        (whole (S L)) (record { run = A.run; operand = A.operand; place = A.placed; work = refl; inside = A.inside })
        (arrives (S L) b st₃.store cont near_on (sound-at L woken.rest leaf₃)) clean₃ near_on (omega arith))

  by-holder : is_held ((S L).word c) s.machine ≡ false → Holder L st μ t (Only path) ws c
      → Did L (Executes L (operation I.«in») s) s st (bytes_left (S L) t)
  by-holder free (holds-input y n e z tg inp none-sends) = absurd ((apart_parts L A.leaf y n).inputs c f.3 inp)
  by-holder free (holds-output y n e z out low v small) = did-receive y n e z low v small free
  by-holder free (holds-wait y n e a r g v all un mk dozes known here guarded inp) =
      absurd ((apart_parts L A.leaf y n).inputs c f.3 inp)
  by-holder free (holds-woken y n e a r g d here guarded inp) = absurd ((apart_parts L A.leaf y n).inputs c f.3 inp)
  by-holder free (holds-out y e m o) =
      absurd (clean c f.2 (same-leaf L (λ q d (j : Info). Own d (μ ((S L).word c))) (sym e) y A.leaf o))

  pub did-in : Did L (Executes L (operation I.«in») s) s st (bytes_left (S L) t)
  did-in = elim (held-here L A.real (node L A.leaf) c f.2) [
    | held_at n v below named word-is held small offer-is there ↦ did-take-offer n v below named word-is small offer-is there held
    | not-held free nothing ↦
        ⊎_elim (did-wait free nothing) (λ o. by-holder free (holder L A.rest (same-path path) o refl))
        (A.rest.chans (node L A.leaf) c f.2)
  ]
