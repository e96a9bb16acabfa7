-- OUTWORD: a process comes to an output. It hands its value to a process that waits in IN, or waits itself, and tells an ALT.
use Prim.Native.Nat.{ℕ, suc, ◌+◌, ◌^◌, ◌≤◌, ◌<◌}
use native.Mathlib.Omega.{arith}
use native.Mathlib.Decide.{ℕ_discrete}
use mathlib.Core.Path.{◌≡◌, refl, sym, ap, ap₂, ◌∙◌, subst}
use mathlib.Core.Logic.{◌≢◌, inl, inr, ⊎_elim}
use mathlib.Core.Bool.{true, false}
use mathlib.Core.List.{List, [], ◌∷◌, ◌++◌, Memᴰ}
use borrow.Author.Tests.{ne_eqb}
use Rattle.model.specs.Word.{after, not_process}
use Rattle.model.specs.Limits.{word_limit}
use Rattle.model.specs.Syntax.{Site, Expr, Stmt, Guard, input_guard, skip_guard, time_guard, Guards, no_guard, guard, timed, output}
use Rattle.model.specs.Instruction.{plain, operation}
use Rattle.model.specs.Instruction as I
use Rattle.model.specs.Code.{function_in, operand_in}
use Rattle.model.specs.Machine.{World, release, ◌>>◌, resume_word, state_word, time_link_word, time_word, name_of, talks}
use Rattle.model.specs.Occam.{eval, is_true, store, Frame, Process, before, at_input, at_output, at_alt, resume, go, put, State}
use Rattle.model.specs.Occam.{over-channel, Sender, process, Ready, by-input, by-skip, by-time, Step, begins, communicates, now}
use Rattle.model.specs.Demand.{step}
use Rattle.model.proofs.Cases.{never}
use Rattle.model.proofs.Quiet.Names.{name-given}
use Rattle.model.proofs.Quiet.Ways.{upd_same, upd_other, upd, Mem}
use Rattle.model.proofs.Quiet.Setting.{whole, At}
use Rattle.model.proofs.Occam.Paths.{l-input, l-output, leaf-resume, live-resume, silent-resume, same-path, look-put-same}
use Rattle.model.proofs.Occam.Paths.{put-put-same, Apart, apart-sym as path-apart-sym, leaves-apart, look-put-other, put-put-apart}
use Rattle.model.proofs.Occam.Paths.{off-resume}
use Rattle.model.proofs.Words.Parts.{Part, Target, Fine}
use Rattle.model.proofs.Quiet.Timing.{Times, Timely, EachTime, Bringing, not_set, is_set, Dozing, no-time, until, Passed, p-unset}
use Rattle.model.proofs.Quiet.Timing.{p-set, p-linked, Guarding, linked-same}
use Rattle.model.proofs.Quiet.Continuations.{Placed, Cont, c-up, cont-low, cont-placed}
use Rattle.model.proofs.Quiet.Marks.{Own, Present, is-sent, is-skip, AnyFound, f-first, f-later, finds-present, finds-time, Picks}
use Rattle.model.proofs.Quiet.Marks.{own_name, p-first, p-later, Guarded, AltCode, Marked, Disabling}
use Rattle.model.proofs.Quiet.Arrivals.{arrives}
use Rattle.model.proofs.Invariant.Trees.{alone, Info, Sits, Tree, bytes_left}
use Rattle.model.proofs.Invariant.Leaves.{member, Unmarked, Resumes, Waits, Held, h-output, h-woken}
use Rattle.model.proofs.Effects.OneWord.{cpu_of, stored}
use Rattle.model.proofs.Effects.Acts.{parked, exec-out-wait, exec-out-alt, exec-out-receiver, notify-waiting, notify-other}
use Rattle.model.proofs.Invariant.Kernel.{Loaded, S, root, size, LeafAt, owned, Rest, Lined, Real, node, part_small, sits-at}
use Rattle.model.proofs.Invariant.Writes.{changed, after-leaf, after-lined, apart_parts, apart-zones, own-one, write-var, write-chan}
use Rattle.model.proofs.Invariant.Writes.{Calm, time-words}
use Rattle.model.proofs.Invariant.Puts.{putting, tree_then, here-then, other-then, lined_then, rest_then, sender-then}
use Rattle.model.proofs.Invariant.Grounds.{var-in, chan-in, small_size, sound-at}
use Rattle.model.proofs.Invariant.Traces.{Trace, t-none, t-step}
use Rattle.model.proofs.Invariant.Running.{Only, Nobody, Did, Executes, executes, Acting}
use Rattle.model.proofs.Invariant.Reals.{size_is, mirrored, real-state, real-stored, real-talk, link-any, link-var, link-chan}
use Rattle.model.proofs.Invariant.Scheduling.{settle, lets_go, linked_to, wakes, Woken}
use Rattle.model.proofs.Effects.Queues.{joined, join-queue}
use Rattle.model.proofs.Invariant.Finish.{then-settles, step-lets-go, silent}
use Rattle.model.proofs.Steps.Advance.{Silent, goes-as, leaves-as}
use Rattle.model.proofs.Steps.Basics.{before-silent}
use Rattle.model.proofs.Steps.Channels.{Holder, holds-input, holds-output, holds-wait, holds-woken, holds-out, holder}
use Rattle.model.proofs.Steps.Meets.{Both, not_own, clear-chan, mark-chan, var-above, chan-above, rest_below, real-below}
use Rattle.model.proofs.Steps.Meets.{partner-goes}
use Rattle.model.proofs.Invariant.Moving.{same-leaf, rest_in, lined-in, lined-out, unqueued, rest-with}
use Rattle.model.proofs.Steps.In.{output-channel}
use Rattle.model.specs.Alternative.{notify, is_alt_state, enabling, waiting, ready, none_selected}
use Rattle.model.specs.Execute.{execute}
use Rattle.model.proofs.Quiet.Onwards.{guarded-present, present-found, timed-fine}
use Rattle.model.specs.Scheme.{size_enable}
use Rattle.model.proofs.Invariant.Zones.{zone_of, Distant}

-- the two words of an ALT's times stay
abbrev pub SameTimes : (μ ν : Mem) (w : ℕ) → Type 0
SameTimes μ ν w = (ν (time_link_word w) ≡ μ (time_link_word w)) × (ν (time_word w) ≡ μ (time_word w))

timed-later : (g : Guard) (s : Stmt) (gs : Guards) → timed gs ≡ true → timed (guard g s gs) ≡ true
unfolding timed
timed-later (input_guard e c x) s gs h = h
timed-later (skip_guard e) s gs h = h
timed-later (time_guard e t) s gs h = refl

timed-first : (e t : Expr) (s : Stmt) (gs : Guards) → timed (guard (time_guard e t) s gs) ≡ true
unfolding timed
timed-first e t s gs = refl

-- what is ready, picked or found stays so where no sender goes, with the same store and clock
module _ {st st' : State} (more : (c : Site) → Sender st c → Sender st' c) (same : st.store ≡ st'.store) where
  true-in : (e : Expr) → is_true st.store e ≡ true → is_true st'.store e ≡ true
  true-in e h = subst (λ σ. is_true σ e ≡ true) same h

  present-in : {g : Guard} → Present st g → Present st' g
  present-in (is-sent {e} h s) = is-sent (true-in e h) (more _ s)
  present-in (is-skip {e} h) = is-skip (true-in e h)

  pub found-more : {μ ν : Mem} {w : ℕ} {gs : Guards} → (timed gs ≡ true → SameTimes μ ν w) → AnyFound st μ w gs → AnyFound st' ν w gs
  found-more words (f-first (finds-present h)) = f-first (finds-present (present-in h))
  found-more words (f-first {s = s} {gs} (finds-time {e} {t} x y z)) =
      let (link, time) = words (timed-first e t s gs) in
      f-first (finds-time (true-in e x) (link ∙ y) (ap₂ after time (ap (λ σ. eval σ t) (sym same)) ∙ z))
  found-more words (f-later {g} {s} {gs} h) = f-later (found-more (λ e. words (timed-later g s gs e)) h)

  module _ (clock : now st ≡ now st') where
    ready-in : {g : Guard} → Ready st g → Ready st' g
    ready-in (by-input {e} h s) = by-input (true-in e h) (more _ s)
    ready-in (by-skip {e} h) = by-skip (true-in e h)
    ready-in (by-time {e} {t} h p) = by-time (true-in e h) (ap₂ after (sym clock) (ap (λ σ. eval σ t) (sym same)) ∙ p)

    pub picks_more : {T : Times} {k : List Frame} {gs : Guards} {b t : ℕ} {p : Process} → Picks T st k gs b t p → Picks T st' k gs b t p
    picks_more (p-first r) = p-first (λ o. ready-in (r o))
    picks_more (p-later g) = p-later (picks_more g)

-- what holds of an ALT's times stays so
module _ (T : Times) (st st' : State) {gs : Guards} {μ ν : Mem} {w : ℕ} (same : st.store ≡ st'.store) (clock : now st ≡ now st')
    (words : SameTimes μ ν w) where
  pub bringing-more : {hs : Guards} → Bringing T st gs hs μ w → Bringing T st' gs hs ν w
  bringing-more {hs} (not_set z n) = not_set (words.0 ∙ z) (subst (λ σ. EachTime σ (λ u. ⊥) gs hs) same n)
  bringing-more {hs} (is_set z l) =
      is_set (words.0 ∙ z)
      (record {
        tm = l.tm;
        is = words.1 ∙ l.is;
        small = l.small;
        one = subst (λ σ. Timely σ l.tm gs) same l.one;
        knows = subst (T.guarded w l.tm) clock l.knows;
        least = subst (λ σ. EachTime σ (λ u. T.sure → after l.tm u ≡ false) gs hs) same l.least;
      })

  -- one that waited is woken: it stays in the timer queue
  pub dozed : Dozing T st gs μ w → Passed T st' gs gs ν w
  dozed (no-time z n) = p-unset (words.0 ∙ z)
  dozed (until z l) = p-linked (linked-same T st μ ν w words.0 z) l.tm (subst (λ σ. Timely σ l.tm gs) same l.one)

  pub passed-more : {hs : Guards} → Passed T st gs hs μ w → Passed T st' gs hs ν w
  passed-more (p-unset z) = p-unset (words.0 ∙ z)
  passed-more (p-set z h) =
      p-set (words.0 ∙ z)
      (λ u m a o. subst (λ k. after k u ≡ true) clock
      (h u (subst (λ σ. Timely σ u gs) (sym same) m) (ap (λ y. after y u) (sym words.1) ∙ a) o))
  passed-more {hs} (p-linked z u m) = p-linked (linked-same T st μ ν w words.0 z) u (subst (λ σ. Timely σ u hs) same m)

-- a word of memory is no ALT state
pub no-alt-state : (v : ℕ) → v ≤ word_limit → is_alt_state v ≡ false
no-alt-state v h =
    rw (
      ne_eqb v enabling (λ e. absurd (omega arith)),
      ne_eqb v waiting (λ e. absurd (omega arith)),
      ne_eqb v ready (λ e. absurd (omega arith)),
    )

module _ (L : Loaded) {s : World} {st : State} {μ : Mem} {t : Tree (S L) (root L) st.process} {path : List ℕ} {c : Site} {e : Expr}
    {k : List Frame} {b : Part} {i : Info} {ws : List ℕ} {at hi h : ℕ}
    (A : Acting L s st μ t path (before (output c e) k) b i (Only path) ws at hi) (ea : (cpu_of s).a ≡ eval st.store e)
    (small : eval st.store e < 2 ^ 32) (eb : (cpu_of s).b ≡ (S L).word c)
    (f : Fine (S L).word b i.vars i.chans ((cpu_of s).workspace + 1) (output c e)) (lifts : At (S L) (suc at) (plain I.ajw 1))
    (cont : Cont (S L) b h i.vars i.chans k (suc (suc at)) ((cpu_of s).workspace + 1)) (near : h ≤ whole (S L) + L.off at)
    (clean : Unmarked (S L) b i st μ) where
  abbrev w : ℕ
  w = (cpu_of s).workspace

  abbrev z : ℕ
  z = eval st.store e

  space : b.bottom + 3 ≤ w
  space = omega (arith, f.0)

  -- behind OUTWORD comes AJW 1
  onward : Cont (S L) b h i.vars i.chans k (suc at) w
  onward = let room : b.bottom + 2 ≤ w = omega (arith, space) in c-up lifts room cont

  placed : Placed (S L) b w i.vars i.chans
  placed = cont-placed (S L) b onward

  above : Placed (S L) b (w + 1) i.vars i.chans
  above = cont-placed (S L) b cont

  high : b.top ≤ word_limit
  high = omega (arith, part_small L A.leaf, small_size L)

  near_on : h ≤ whole (S L) + L.off (suc at)
  near_on = omega (arith, (S L).rises at (suc at) (omega arith) A.inside)

  c-in : (S L).word c < size L
  c-in = chan-in L (node L A.leaf) c f.2

  -- its own words
  w-low : (b.bottom ≤ w) × (w < w + 1)
  w-low = (omega (arith, space), omega arith)

  w-in : w < size L
  w-in = omega (arith, above.low, part_small L A.leaf)

  r-low : (b.bottom ≤ resume_word w) × (resume_word w < w)
  r-low = (omega (arith, placed.room, placed.low, high), omega (arith, placed.room, placed.low, high))

  s-low : (b.bottom ≤ state_word w) × (state_word w < w)
  s-low = (omega (arith, space, placed.low, high), omega (arith, space, placed.low, high))

  r-not-s : resume_word w ≢ state_word w
  r-not-s q = absurd (omega (arith, space, placed.low, high))

  own-w : Own b (name_of w)
  own-w = own_name b w (omega (arith, placed.room)) placed.low

  c-not-w : (S L).word c ≢ w
  c-not-w = chan-above L above w w-low.1 c f.2

  -- where it waits
  abbrev st₁ : State
  st₁ = putting path (at_output c z k) st

  coming : Step st [] st₁
  unfolding go
  coming = begins path A.leaf.found

  -- the words after its value, its name at the channel, its resume place and its state
  abbrev ν₀ : Mem
  ν₀ = upd μ w z

  abbrev ν₁ : Mem
  ν₁ = upd ν₀ ((S L).word c) (name_of w)

  abbrev ν₂ : Mem
  ν₂ = upd ν₁ (resume_word w) (cpu_of s).place

  abbrev ν₃ : Mem
  ν₃ = upd ν₂ (state_word w) w

  -- from its name on
  parks : {Out : List ℕ → Type 0} → Out path → Rest L st ν₁ t Out ws → Rest L st ν₃ t Out ws
  parks out r =
      rest_below L A.leaf out placed (state_word w) w s-low.0 s-low.1 (λ e. never (cc))
      (rest_below L A.leaf out placed (resume_word w) (cpu_of s).place r-low.0 r-low.1 (λ e. never (cc)) r)

  parked-real : Real L (parked ((S L).word c) w (cpu_of s).place w (stored w z s)) st ν₃ ws
  parked-real =
      real-below L A.leaf refl placed (state_word w) w s-low.0 s-low.1 A.lined
      (real-below L A.leaf refl placed (resume_word w) (cpu_of s).place r-low.0 r-low.1 A.lined
      (real-stored L ((S L).word c) (name_of w) c-in (link-chan L A.lined A.leaf refl c f.2)
      (real-below L A.leaf refl above w z w-low.0 w-low.1 A.lined A.real)))

  -- the channels' words
  chan-now : (d : Site) → Memᴰ d i.chans → ν₃ ((S L).word d) ≡ ν₁ ((S L).word d)
  chan-now d m =
      upd_other ν₂ (state_word w) w ((S L).word d) (chan-above L placed (state_word w) s-low.1 d m)
      ∙ upd_other ν₁ (resume_word w) (cpu_of s).place ((S L).word d) (chan-above L placed (resume_word w) r-low.1 d m)

  only : (d : Site) → Memᴰ d i.chans → Own b (ν₃ ((S L).word d)) → d ≡ c
  only d m o = by (ℕ_discrete ((S L).word d) ((S L).word c))
    where
      by : Dec ((S L).word d ≡ (S L).word c) → d ≡ c
      by (yes q) = placed.scoped.chans-distinct d c m f.2 q
      by (no q) =
          absurd (clean d m (subst (Own b) (chan-now d m ∙ upd_other ν₀ ((S L).word c) (name_of w) ((S L).word d) q
          ∙ upd_other μ w z ((S L).word d) (chan-above L above w w-low.1 d m)) o))

  abbrev waiting-info : Info
  waiting-info = record { vars = i.vars; chans = i.chans; w = w; left = whole (S L) }

  sits_here : Sits (S L) b waiting-info
  sits_here = record { placed = placed; few = omega arith }

  -- what holds of it as it waits, in a memory that has these words
  waits-here : {st' : State} {ν : Mem} → ((v : ℕ) → b.bottom ≤ v → v < b.top → ν v ≡ ν₃ v)
      → ((d : Site) → Memᴰ d i.chans → ν ((S L).word d) ≡ ν₃ ((S L).word d)) → Held (S L) L.times b waiting-info st' ν false
      (at_output c z k)
  waits-here {ν = ν} own chans =
      h-output (record {
        scope = f.2;
        onward = onward;
        near = near_on;
        resumes = record {
          place =
              own (resume_word w) r-low.0 (omega (arith, r-low.1, placed.low))
              ∙ upd_other ν₂ (state_word w) w (resume_word w) r-not-s ∙ upd_same ν₁ (resume_word w) (cpu_of s).place ∙ A.placed;
          soon = near_on;
        };
        space = space;
        here = chans c f.2 ∙ chan-now c f.2 ∙ upd_same ν₀ ((S L).word c) (name_of w);
        only = λ d m o. only d m (subst (Own b) (chans d m) o);
        message-at = own (state_word w) s-low.0 (omega (arith, s-low.1, placed.low)) ∙ upd_same ν₂ (state_word w) w;
      }) f.3 (omega (arith, above.low))
      (own w w-low.0 (omega (arith, above.low)) ∙ upd_other ν₂ (state_word w) w w (λ q. absurd (omega (arith, s-low.1)))
      ∙ upd_other ν₁ (resume_word w) (cpu_of s).place w (λ q. absurd (omega (arith, r-low.1)))
      ∙ upd_other ν₀ ((S L).word c) (name_of w) w (λ q. c-not-w (sym q)) ∙ upd_same μ w z) small

  -- nobody is there: it waits
  pub did-wait : μ ((S L).word c) ≡ not_process → Did L (Executes L (operation I.outword) s) s st (bytes_left (S L) t)
  unfolding function_in operand_in
  did-wait empty =
      let old : ν₀ ((S L).word c) ≡ not_process = upd_other μ w z ((S L).word c) c-not-w ∙ empty in
      let rest = parks refl
      (mark-chan L A.leaf refl (rest_below L A.leaf refl above w z w-low.0 w-low.1 (λ e. never (cc)) A.rest) c f.2
      (name_of w) own-w old) in
      leaves-as L parked-real A.leaf A.lined (at_output c z k) l-output waiting-info sits_here
      (rest_then L A.leaf (at_output c z k) l-output waiting-info sits_here rest refl (rest.vars (node L A.leaf))
      (rest.chans (node L A.leaf)) (A.rest.live A.leaf) (λ d m o. m) (λ d v g q other r p y x n m. never (cc))
      (λ d v g q other r p y x n m inp o.
      own-one L (apart_parts L A.leaf x n) own-w
      (subst (Own p) (ap (λ a. ν₃ ((S L).word a)) (output-channel (sym q)) ∙ chan-now c f.2 ∙ upd_same ν₀ ((S L).word c) (name_of w)) o))
      (λ e. never (cc)) (λ e. never (cc)))
      (λ t f e. never (cc)) (waits-here (λ v lo hi. refl) (λ d m. refl)) A.operand coming
      (λ y q g. executes (exec-out-wait ((S L).word c) z w (cpu_of s).place s ea eb refl refl (rw (size_is L A.real) w-in)
      (rw (size_is L A.real) c-in) c-not-w (mirrored L A.real ((S L).word c) c-in empty)
      (rw (size_is L A.real) (omega (arith, r-low.1, w-in))) (rw (size_is L A.real) (omega (arith, s-low.1, w-in))) ∙ q))
      (silent L s (parked ((S L).word c) w (cpu_of s).place w (stored w z s)) refl)

  -- a process waits in IN: it gets the value, and both go on
  module _ {other : List ℕ} {x : Site} {l : List Frame} {d : Part} {j : Info} {to far : ℕ}
      (receiver : LeafAt L st t other (at_input c x l) d j)
      (apart : path ≢ other) (idle : member j.w ws ≡ false) (waits : Waits (S L) d j st μ c l to far ((S L).word x))
      (target : Target d j.vars x) where
    abbrev st₂ : State
    st₂ = changed (store x z st.store) st.offers st

    abbrev η₁ : Mem
    η₁ = upd ν₀ ((S L).word x) z

    abbrev η : Mem
    η = upd η₁ ((S L).word c) not_process

    x-in : (S L).word x < size L
    x-in = omega (arith, var-in L (node L receiver) x target.0)

    zones : Distant (S L) (zone_of (alone b i)) (zone_of (alone d j))
    zones = apart-zones L apart (node L A.leaf) (node L receiver)

    x-not-c : (S L).word c ≢ (S L).word x
    x-not-c q = zones.crossed c x f.2 target.0 q

    receiver₂ : LeafAt L st₂ t other (at_input c x l) d j
    receiver₂ = after-leaf L receiver

    own-receiver : Own d (η₁ ((S L).word c))
    own-receiver =
        let p = (sits-at L receiver).placed in
        subst (Own d) (sym (upd_other ν₀ ((S L).word x) z ((S L).word c) x-not-c ∙ upd_other μ w z ((S L).word c) c-not-w ∙ waits.here))
        (own_name d j.w (omega (arith, p.room)) p.low)

    lines₁ : Lined L st t (Both path other) ws
    lines₁ = lined-out L receiver idle (λ y q. ⊎_elim (λ p. inr p) (λ p. inl p) q) A.lined

    rest₂ : Rest L st₂ η t (Both path other) ws
    rest₂ =
        clear-chan L receiver₂ (inr refl)
        (write-var L receiver (rest_below L A.leaf (inl refl) above w z w-low.0 w-low.1 (λ e. never (cc))
        (rest-with L receiver (λ t f e. never (cc)) A.rest)) x z
        target.0 target.1 small (inr refl)) c waits.scope (inr own-receiver)

    lines₂ : Lined L st₂ t (Both path other) ws
    lines₂ = after-lined L lines₁

    abbrev s₂ : World
    s₂ = stored ((S L).word c) not_process (stored ((S L).word x) z (stored w z s))

    real₂ : Real L s₂ st₂ η ws
    real₂ =
        real-stored L ((S L).word c) not_process c-in (link-chan L lines₂ (after-leaf L A.leaf) (inl refl) c f.2)
        (real-state L st.process (store x z st.store)
        (real-stored L ((S L).word x) z x-in (link-var L lines₁ receiver (inr refl) x target.0)
        (real-below L A.leaf refl above w z w-low.0 w-low.1 A.lined A.real)))

    -- a channel's word then
    chan-after : (y : Part) (a : Site) → y.top ≤ word_limit → (S L).word a ≢ (S L).word x → (S L).word a ≢ w → Own y (η ((S L).word a))
        → ((S L).word a ≢ (S L).word c) × Own y (μ ((S L).word a))
    chan-after y a tall n m o = by (ℕ_discrete ((S L).word a) ((S L).word c))
      where
        by : Dec ((S L).word a ≡ (S L).word c) → ((S L).word a ≢ (S L).word c) × Own y (μ ((S L).word a))
        by (yes q) = absurd (not_own y tall (subst (Own y) (ap η q ∙ upd_same η₁ ((S L).word c) not_process) o))
        by (no q) = (
          q,
          subst (Own y) (upd_other η₁ ((S L).word c) not_process ((S L).word a) q ∙ upd_other ν₀ ((S L).word x) z ((S L).word a) n
              ∙ upd_other μ w z ((S L).word a) m) o,
        )

    receiver-clean : Unmarked (S L) d j st₂ η
    receiver-clean a q o =
        let (n, o') = chan-after d a (omega (arith, part_small L receiver, small_size L))
        (λ p. (sits-at L receiver).placed.scoped.apart x a target.0 q (sym p))
        (λ p. zones.chans-in a q (omega (arith, p, w-low.0), omega (arith, p, above.low))) o in
        n (ap (S L).word (waits.only a q o'))

    receiver-same : η (resume_word j.w) ≡ μ (resume_word j.w)
    receiver-same =
        let p = (sits-at L receiver).placed in
        let lo : d.bottom ≤ resume_word j.w = omega (arith, p.room, p.low, part_small L receiver, small_size L) in
        let up : resume_word j.w < d.top = omega (arith, p.room, p.low, part_small L receiver, small_size L) in
        let below : resume_word j.w < j.w = omega (arith, p.room, p.low, part_small L receiver, small_size L) in
        upd_other η₁ ((S L).word c) not_process (resume_word j.w) (λ q. zones.chans-out c f.2 (omega (arith, q), omega (arith, q)))
        ∙ upd_other ν₀ ((S L).word x) z (resume_word j.w) (λ q. var-above L p (resume_word j.w) below x target.0 (sym q))
        ∙ upd_other μ w z (resume_word j.w)
        (λ q. zones.words (resume_word j.w) (omega (arith, q, w-low.0), omega (arith, q, above.low)) (lo, up))

    woken : Woken L s₂ (putting other (resume l) st₂) η
        (tree_then L receiver₂ (resume l) (leaf-resume l) j (sits-at L receiver₂)) (Only path) j.w ws
    woken =
        partner-goes L real₂ rest₂ lines₂ receiver₂ apart waits receiver-same refl refl receiver-clean
        (λ a y q p here r g n v o m. never (cc))

    abbrev st₃ : State
    st₃ = putting other (resume l) st₂

    leaf₃ : LeafAt L st₃ (tree_then L receiver₂ (resume l) (leaf-resume l) j (sits-at L receiver₂)) path (before (output c e) k) b i
    leaf₃ = other-then L receiver₂ (resume l) (leaf-resume l) j (sits-at L receiver₂) (λ q. apart (sym q)) (after-leaf L A.leaf)

    abbrev η₃ : Mem
    η₃ = linked_to L j.w ws η

    clean₃ : Unmarked (S L) b i st₃ η₃
    clean₃ a q o =
        let intact = woken.intact {skip = b.top} leaf₃ refl in
        ⊎_elim
        (λ p. clean a q
        (chan-after b a high (λ y. zones.crossed a x q target.0 y) (chan-above L above w w-low.1 a q) (subst (Own b) p o)).1)
        (λ n. n.1 o) (intact.chans a q)

    -- they meet
    apart-paths : Apart path other
    apart-paths = leaves-apart path other st.process A.leaf.found A.leaf.leaf receiver.found l-input apart

    meets : Trace st (step [] st₁ ∷ step (over-channel c z) (putting path (resume k) st₃) ∷ [])
        (putting path (resume k) st₃) (over-channel c z) []
    meets =
        t-step coming
        (t-step
        (subst
        (λ y.
        Step st₁ (over-channel c z) (record { process = y; store = store x z st.store; offers = st.offers; clock = st.clock }))
        (ap (put path (resume k)) (put-put-apart (resume l) (at_output c z k) st.process (path-apart-sym apart-paths))
        ∙ put-put-same path (resume k) (at_output c z k) (put other (resume l) st.process))
        (communicates path other (look-put-same path st.process (at_output c z k) A.leaf.found)
        (look-put-other (at_output c z k) st.process apart-paths ∙ receiver.found)))
        t-none)

    abbrev u₃ : World
    u₃ =
        let y = joined j.w ws s₂ in
        record { machine = y.machine; memory = y.memory; talk = y.talk ++ talks ((S L).word c) z ∷ [] }

    executed₃ : Executes L (operation I.outword) s u₃
    unfolding function_in operand_in
    executed₃ =
        let p = (sits-at L receiver).placed in
        let size-s = size_is L A.real in
        let small-j : state_word j.w < size L = omega (arith, waits.space, p.low, part_small L receiver, small_size L) in
        let lo : d.bottom ≤ state_word j.w = omega (arith, waits.space, p.low, part_small L receiver, small_size L) in
        let up : state_word j.w < d.top = omega (arith, waits.space, p.low, part_small L receiver, small_size L) in
        executes
        (exec-out-receiver ((S L).word c) z w j.w ((S L).word x) s ea eb refl (rw size-s w-in) (rw size-s c-in) c-not-w
        (mirrored L A.real ((S L).word c) c-in waits.here)
        (name-given j.w (omega (arith, p.low, part_small L receiver, small_size L)))
        (rw size-s small-j) (λ q. zones.words (state_word j.w) (omega (arith, q, w-low.0), omega (arith, q, above.low)) (lo, up))
        (mirrored L A.real (state_word j.w) small-j waits.message-at)
        (no-alt-state ((S L).word x) (omega (arith, x-in, small_size L)))
        (rw size-s x-in)
        ∙ rw (join-queue j.w s₂ A.run woken.enqueued))

    pub did-send : Did L (Executes L (operation I.outword) s) s st (bytes_left (S L) t)
    did-send =
        let few : whole (S L) ≤ whole (S L) = omega arith in
        let live = live-resume k i.vars (A.rest.live A.leaf) in
        let quiet : Silent (resume k) = λ c v f e. silent-resume k e in
        let real₃ = real-talk L u₃.talk woken.real in
        let now = goes-as L real₃ leaf₃ woken.rest woken.lines clean₃ (before-silent (output c e) k) (λ e. never (cc)) (resume k)
        (leaf-resume k) waiting-info
        placed few (woken.rest.vars (node L leaf₃)) (woken.rest.chans (node L leaf₃)) live quiet (off-resume k) in
        then-settles L meets (omega arith) executed₃ refl
        (settle L (real-state L (put path (resume k) st₃.process) st₃.store real₃)
        (here-then L leaf₃ (resume k) (leaf-resume k) waiting-info _) now
        (lined_then L leaf₃ (resume k) (leaf-resume k) waiting-info _ refl woken.lines)
        (whole (S L)) (record { run = A.run; operand = A.operand; place = A.placed; work = refl; inside = A.inside })
        (arrives (S L) b st₃.store onward near_on (sound-at L woken.rest leaf₃)) clean₃ near_on (omega arith))

  -- an ALT has enabled the channel: the process waits, and the ALT is told
  module _ {other : List ℕ} {gs : Guards} {l : List Frame} {d : Part} {j : Info} {far to : ℕ}
      (chooser : LeafAt L st t other (at_alt gs l) d j)
      (apart : path ≢ other) (a : AltCode (S L) d gs j.vars j.chans l far to (j.w + 1)) (here : μ ((S L).word c) ≡ name_of j.w)
      (guarded : Guarded st.store c gs) where
    zones-alt : Distant (S L) (zone_of (alone b i)) (zone_of (alone d j))
    zones-alt = apart-zones L apart (node L A.leaf) (node L chooser)

    own-j : Own d (name_of j.w)
    own-j = let p = (sits-at L chooser).placed in own_name d j.w (omega (arith, p.room)) p.low

    -- its words
    t-low : (d.bottom ≤ state_word j.w) × (state_word j.w < j.w)
    t-low =
        let p = (sits-at L chooser).placed in (
          omega (arith, a.fine.0, p.low, part_small L chooser, small_size L),
          omega (arith, a.fine.0, p.low, part_small L chooser, small_size L),
        )

    t-high : state_word j.w < d.top
    t-high = omega (arith, t-low.1, (sits-at L chooser).placed.low)

    -- the words of this process are not the ALT's
    mine-not : (v : ℕ) → b.bottom ≤ v → v < b.top → (u : ℕ) → d.bottom ≤ u → u < d.top → u ≢ v
    mine-not v lo hi u lo' hi' q = zones-alt.words u (omega (arith, q), omega (arith, q)) (lo', hi')

    rest₁ : Rest L st ν₃ t (Both path other) ws
    rest₁ =
        parks (inl refl)
        (write-chan L A.leaf
        (rest_below L A.leaf (inl refl) above w z w-low.0 w-low.1 (λ e. never (cc))
        (rest-with L chooser (λ t f e. never (cc)) A.rest)) c (name_of w) f.2
        (λ y r p g x n. (
          (λ o. own-one L (apart_parts L chooser x (λ q. n (inr q))) own-j
              (subst (Own p) (upd_other μ w z ((S L).word c) c-not-w ∙ here) o)),
          (λ o. own-one L (apart_parts L A.leaf x (λ q. n (inl q))) own-w o),
        ))
        (inr (owned A.leaf f.2 own-w)) (inl refl))

    abbrev ν₄ : Mem
    ν₄ = upd ν₃ (state_word j.w) ready

    -- its time words are others
    alt-calm : Calm L (at_alt gs l) j (state_word j.w)
    alt-calm e =
        let low = (sits-at L chooser).placed.low in
        let small = part_small L chooser in (
          (λ q. absurd (omega (arith, q, a.fine.0, low, small, small_size L))),
          (λ q. absurd (omega (arith, q, a.fine.0, low, small, small_size L))),
        )

    rest₄ : Rest L st ν₄ t (Both path other) ws
    rest₄ = rest_below L chooser (inr refl) (sits-at L chooser).placed (state_word j.w) ready t-low.0 t-low.1 alt-calm rest₁

    -- what the process waits with
    own₄ : (v : ℕ) → b.bottom ≤ v → v < b.top → ν₄ v ≡ ν₃ v
    own₄ v lo hi = upd_other ν₃ (state_word j.w) ready v (λ q. mine-not v lo hi (state_word j.w) t-low.0 t-high (sym q))

    chans₄ : (y : Site) → Memᴰ y i.chans → ν₄ ((S L).word y) ≡ ν₃ ((S L).word y)
    chans₄ y m =
        upd_other ν₃ (state_word j.w) ready ((S L).word y)
        (λ q. zones-alt.chans-out y m (omega (arith, q, t-low.0), omega (arith, q, t-high)))

    rest₅ : Rest L st₁ ν₄ (tree_then L A.leaf (at_output c z k) l-output waiting-info sits_here) (Both path other) ws
    rest₅ =
        rest_then L A.leaf (at_output c z k) l-output waiting-info sits_here rest₄ (inl refl) (rest₄.vars (node L A.leaf))
        (rest₄.chans (node L A.leaf)) (A.rest.live A.leaf) (λ d m o. m) (λ d v g q other r p y x n m. never (cc))
        (λ y v g q here r p n x out m inp o.
        own-one L (apart_parts L A.leaf x (λ q. out (inl q))) own-w
        (subst (Own p)
        (ap (λ a. ν₄ ((S L).word a)) (output-channel (sym q)) ∙ chans₄ c f.2 ∙ chan-now c f.2
        ∙ upd_same ν₀ ((S L).word c) (name_of w)) o))
        (λ e. never (cc)) (λ e. never (cc))

    -- the ALT's words
    alt-word : (v : ℕ) → d.bottom ≤ v → v < d.top → v ≢ state_word j.w → ν₄ v ≡ μ v
    alt-word v lo hi n =
        upd_other ν₃ (state_word j.w) ready v n
        ∙ upd_other ν₂ (state_word w) w v (mine-not (state_word w) s-low.0 (omega (arith, s-low.1, placed.low)) v lo hi)
        ∙ upd_other ν₁ (resume_word w) (cpu_of s).place v (mine-not (resume_word w) r-low.0 (omega (arith, r-low.1, placed.low)) v lo hi)
        ∙ upd_other ν₀ ((S L).word c) (name_of w) v (λ q. zones-alt.chans-out c f.2 (omega (arith, q), omega (arith, q)))
        ∙ upd_other μ w z v (mine-not w w-low.0 (omega (arith, above.low)) v lo hi)

    alt-times : timed gs ≡ true → SameTimes μ ν₄ j.w
    alt-times e =
        let room = timed-fine (S L).word d j.vars j.chans (j.w + 1) gs a.fine.1 e in
        let words = time-words L chooser (omega (arith, room)) in
        let calm = alt-calm e in
        (alt-word (time_link_word j.w) words.0 words.1 calm.0, alt-word (time_word j.w) words.2 words.3 calm.1)

    -- and its channels'
    alt-chan : (y : Site) → Memᴰ y j.chans → (S L).word y ≢ (S L).word c → ν₄ ((S L).word y) ≡ μ ((S L).word y)
    alt-chan y m n =
        let p = (sits-at L chooser).placed in
        let off : (v : ℕ) → b.bottom ≤ v → v < b.top → (S L).word y ≢ v =
        λ v lo hi q. zones-alt.chans-in y m (omega (arith, q), omega (arith, q)) in
        upd_other ν₃ (state_word j.w) ready ((S L).word y) (chan-above L p (state_word j.w) t-low.1 y m)
        ∙ upd_other ν₂ (state_word w) w ((S L).word y) (off (state_word w) s-low.0 (omega (arith, s-low.1, placed.low)))
        ∙ upd_other ν₁ (resume_word w) (cpu_of s).place ((S L).word y) (off (resume_word w) r-low.0 (omega (arith, r-low.1, placed.low)))
        ∙ upd_other ν₀ ((S L).word c) (name_of w) ((S L).word y) n
        ∙ upd_other μ w z ((S L).word y) (off w w-low.0 (omega (arith, above.low)))

    alt-marked : {hs : Guards} → Marked (S L) d st j.vars j.chans hs μ j.w → Marked (S L) d st₁ j.vars j.chans hs ν₄ j.w
    alt-marked {hs} h y m o = by (ℕ_discrete ((S L).word y) ((S L).word c))
      where
        by : Dec ((S L).word y ≡ (S L).word c) → (ν₄ ((S L).word y) ≡ name_of j.w) × Guarded st.store y hs
        by (yes q) =
            absurd (own-one L (apart_parts L A.leaf chooser apart) own-w
            (subst (Own d) (ap ν₄ q ∙ chans₄ c f.2 ∙ chan-now c f.2 ∙ upd_same ν₀ ((S L).word c) (name_of w)) o))
        by (no q) = let e = alt-chan y m q in let g = h y m (subst (Own d) e o) in (e ∙ g.0, g.1)

    chooser₅ : LeafAt L st₁ (tree_then L A.leaf (at_output c z k) l-output waiting-info sits_here) other (at_alt gs l) d j
    chooser₅ = other-then L A.leaf (at_output c z k) l-output waiting-info sits_here apart chooser

    leaf₅ : LeafAt L st₁ (tree_then L A.leaf (at_output c z k) l-output waiting-info sits_here) path (at_output c z k) b waiting-info
    leaf₅ = here-then L A.leaf (at_output c z k) l-output waiting-info sits_here

    -- the process sends
    sends-now : Sender st₁ c
    sends-now = process path leaf₅.found

    abbrev s₃ : World
    s₃ = parked ((S L).word c) w (cpu_of s).place w (stored w z s)

    abbrev s₄ : World
    s₄ = stored (state_word j.w) ready s₃

    alt-in : state_word j.w < size L
    alt-in = omega (arith, t-high, part_small L chooser)

    real₄ : (lines : Lined L st t (Both path other) ws) → Real L s₄ st₁ ν₄ ws
    real₄ lines =
        real-state L (put path (at_output c z k) st.process) st.store
        (real-below L chooser (inr refl) (sits-at L chooser).placed (state_word j.w) ready t-low.0 t-low.1 lines parked-real)

    -- the state was an ALT's
    told : {v : ℕ} → μ (state_word j.w) ≡ v → is_alt_state v ≡ true
        → execute I.opr (I.operation_code I.outword) s ≡ ◌>>◌ (notify (name_of j.w) v) release s₃
    told {v} q g =
        let p = (sits-at L chooser).placed in
        let size-s = size_is L A.real in
        exec-out-alt ((S L).word c) z w (cpu_of s).place j.w v s ea eb refl refl (rw size-s w-in) (rw size-s c-in) c-not-w
        (mirrored L A.real ((S L).word c) c-in here) (name-given j.w (omega (arith, p.low, part_small L chooser, small_size L)))
        (rw size-s alt-in) (mine-not w w-low.0 (omega (arith, above.low)) (state_word j.w) t-low.0 t-high)
        (mirrored L A.real (state_word j.w) alt-in q) g (rw size-s (omega (arith, r-low.1, w-in)))
        (rw size-s (omega (arith, s-low.1, w-in)))

    -- it waits in the ALT: it is woken
    pub did-wake : member j.w ws ≡ false → Resumes (S L) d j st μ (to + 2 + size_enable gs + 1) far → μ (state_word j.w) ≡ waiting
        → μ j.w ≡ none_selected → Marked (S L) d st j.vars j.chans gs μ j.w
        → (timed gs ≡ true → Dozing L.times st gs μ j.w) → Guarding L.times st gs no_guard j.w
        → Did L (Executes L (operation I.outword) s) s st (bytes_left (S L) t)
    unfolding function_in operand_in
    did-wake idle r state chosen marks dozes known =
        let p = (sits-at L chooser).placed in
        let lines = lined-out L chooser idle (λ y q. ⊎_elim (λ p. inr p) (λ p. inl p) q) A.lined in
        let lines₅ = lined_then L A.leaf (at_output c z k) l-output waiting-info sits_here (inl refl) lines in
        let tall : j.w + 1 ≤ d.top = cont-low (S L) d a.after in
        let unheld = unqueued L {Out = Both path other} leaf₅ (inl refl) lines₅ in
        let rest₆ = rest_in L {Out' = Only other} leaf₅
        (subst (λ y. Held (S L) L.times b waiting-info st₁ ν₄ y (at_output c z k)) (sym unheld) (waits-here own₄ chans₄))
        (λ y n q. ⊎_elim (λ e. absurd (n e)) (λ e. e) q) (λ y q. inr q) (λ t f e. never (cc)) rest₅ in
        let resume-word : ν₄ (resume_word j.w) ≡ μ (resume_word j.w) =
        alt-word (resume_word j.w) (omega (arith, p.room, p.low, part_small L chooser, small_size L))
        (omega (arith, p.room, p.low, part_small L chooser, small_size L))
        (λ q. absurd (omega (arith, a.fine.0, p.low, part_small L chooser, small_size L))) in
        let base_word : ν₄ j.w ≡ μ j.w =
        alt-word j.w (omega (arith, p.room)) (omega arith) (λ q. absurd (omega (arith, t-low.1))) in
        let held : Held (S L) L.times d j st₁ ν₄ true (at_alt gs l) =
        h-woken a (record { place = resume-word ∙ r.place; soon = r.soon }) (upd_same ν₃ (state_word j.w) ready)
        (record {
          marks = alt-marked marks;
          state = upd_same ν₃ (state_word j.w) ready;
          chosen = inr (base_word ∙ chosen, present-found ν₄ j.w (guarded-present guarded sends-now));
          times = λ e. dozed L.times st st₁ refl refl (alt-times e) (dozes e);
          known = known;
        }) in
        let woken = wakes L {Out' = Nobody} (real₄ lines) rest₆
        (lined-in L (λ y q. inr q) lines₅) chooser₅ refl held (λ y n q. absurd (n q))
        (λ y q. absurd q) (λ q. q) in
        step-lets-go L coming
        (λ y q g. executes (told state refl
        ∙ rw (notify-waiting j.w s₃ (rw (size_is L A.real) alt-in), join-queue j.w s₄ A.run woken.enqueued) q))
        (silent L s (joined j.w ws s₄) refl) (lets_go L A.operand woken.real woken.rest woken.lines)

    -- it was woken before: it stays Ready
    pub did-tell : member j.w ws ≡ true → Resumes (S L) d j st μ (to + 2 + size_enable gs + 1) far → μ (state_word j.w) ≡ ready
        → Disabling (S L) d L.times st j.vars j.chans l gs gs a.choice μ j.w
        → Did L (Executes L (operation I.outword) s) s st (bytes_left (S L) t)
    unfolding function_in operand_in
    did-tell queued r state dis =
        let p = (sits-at L chooser).placed in
        let tall : j.w + 1 ≤ d.top = cont-low (S L) d a.after in
        let lines₅ = lined_then L A.leaf (at_output c z k) l-output waiting-info sits_here refl A.lined in
        let unheld = unqueued L {Out = Only path} leaf₅ refl lines₅ in
        let resume-word : ν₄ (resume_word j.w) ≡ μ (resume_word j.w) =
        alt-word (resume_word j.w) (omega (arith, p.room, p.low, part_small L chooser, small_size L))
        (omega (arith, p.room, p.low, part_small L chooser, small_size L))
        (λ q. absurd (omega (arith, a.fine.0, p.low, part_small L chooser, small_size L))) in
        let base_word : ν₄ j.w ≡ μ j.w =
        alt-word j.w (omega (arith, p.room)) (omega arith) (λ q. absurd (omega (arith, t-low.1))) in
        let more : (y : Site) → Sender st y → Sender st₁ y =
        λ y q. sender-then L A.leaf (at_output c z k) l-output waiting-info sits_here y (λ v g e. never (cc)) q in
        let held : Held (S L) L.times d j st₁ ν₄ true (at_alt gs l) =
        h-woken a (record { place = resume-word ∙ r.place; soon = r.soon }) (upd_same ν₃ (state_word j.w) ready)
        (record {
          marks = alt-marked dis.marks;
          state = upd_same ν₃ (state_word j.w) ready;
          chosen = ⊎_elim (λ y. let (v, q, g, x) = y in inl (v, q, picks_more more refl refl g, base_word ∙ x))
              (λ y. inr (base_word ∙ y.0, found-more more refl alt-times y.1)) dis.chosen;
          times = λ e. passed-more L.times st st₁ refl refl (alt-times e) (dis.times e);
          known = dis.known;
        }) in
        let rest₆ = rest_in L {Out' = Only other} leaf₅
        (subst (λ y. Held (S L) L.times b waiting-info st₁ ν₄ y (at_output c z k)) (sym unheld) (waits-here own₄ chans₄))
        (λ y n q. ⊎_elim (λ e. absurd (n e)) (λ e. e) q) (λ y q. inr q) (λ t f e. never (cc)) rest₅ in
        let rest₇ = rest_in L {Out' = Nobody} chooser₅ (subst (λ y. Held (S L) L.times d j st₁ ν₄ y (at_alt gs l)) (sym queued) held)
        (λ y n q. absurd (n q)) (λ y q. absurd q) (λ t f e. never (cc)) rest₆ in
        step-lets-go L coming
        (λ y q g. executes
        (told state refl ∙ rw (notify-other j.w ready s₃ (rw (size_is L A.real) alt-in) (λ q. absurd (omega arith))) q))
        (silent L s s₄ refl)
        (lets_go L A.operand (real-here) rest₇ (lined-in L (λ y q. absurd q) lines₅))
      where
        real-here : Real L s₄ st₁ ν₄ ws
        real-here =
            real-state L (put path (at_output c z k) st.process) st.store
            (real-stored L (state_word j.w) ready alt-in
            (link-any L A.lined chooser (state_word j.w) t-low.0 t-high
            (λ q. absurd (omega (arith, a.fine.0, (sits-at L chooser).placed.low, part_small L chooser, small_size L)))) parked-real)

  by-holder : Holder L st μ t (Only path) ws c → Did L (Executes L (operation I.outword) s) s st (bytes_left (S L) t)
  by-holder (holds-input y n q x tg inp free) = did-send y n q x tg
  by-holder (holds-output y n q x out low v tiny) = absurd ((apart_parts L A.leaf y n).outputs c f.3 out)
  by-holder (holds-wait y n q a r g v all un mk dozes known here guarded inp) = did-wake y n a here guarded q r g v mk dozes known
  by-holder (holds-woken y n q a r g d here guarded inp) = did-tell y n a here guarded q r g d
  by-holder (holds-out y q m o) =
      absurd (clean c f.2 (same-leaf L (λ q d (j : Info). Own d (μ ((S L).word c))) (sym q) y A.leaf o))

  pub did-out : Did L (Executes L (operation I.outword) s) s st (bytes_left (S L) t)
  did-out =
      ⊎_elim did-wait (λ o. by-holder (holder L A.rest (same-path path) o refl)) (A.rest.chans (node L A.leaf) c f.2)
