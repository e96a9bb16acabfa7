-- The significant instructions of an ALT up to ALTWT: ALT, ENBC, ENBS and ALTWT.
use Prim.Native.Nat.{ℕ, suc, ◌+◌, ◌^◌, ◌≤◌, ◌<◌}
use native.Mathlib.Omega.{arith}
use native.Mathlib.Decide.{ℕ_discrete}
use mathlib.Core.Path.{◌≡◌, refl, sym, ap, ◌∙◌, subst}
use mathlib.Core.Logic.{◌≢◌, ◌⊎◌, inl, inr, ⊎_elim}
use mathlib.Core.Bool.{true, false}
use mathlib.Core.List.{List, [], ◌∷◌, Memᴰ}
use mathlib.Core.Option.{Option, none, some}
use lib.ListN.{get_or, set}
use borrow.Author.Tests.{eq-eqb, ne_eqb}
use Rattle.model.specs.Word.{not_process}
use Rattle.model.specs.Limits.{word_limit}
use Rattle.model.specs.Syntax.{Site, input_of, Expr, Stmt, ALT, Guard, input_guard, skip_guard, Guards, no_guard, guard, time_guard, timed}
use Rattle.model.specs.Instruction.{Instruction, operation}
use Rattle.model.specs.Instruction as I
use Rattle.model.specs.Code.{function_in, operand_in}
use Rattle.model.specs.Scheme.{size_enable, code_enable}
use Rattle.model.specs.Machine.{World, with_cpu, with_memory, stack, resume_word, state_word, is_held, name_of, time_link_word, time_word}
use Rattle.model.specs.Machine.{done, release}
use Rattle.model.specs.Alternative.{enabling, waiting, ready, none_selected}
use Rattle.model.specs.Occam.{Store, eval, is_true, Frame, Process, before, at_alt, look, State, Sender, process, outside, Step, begins}
use Rattle.model.specs.Occam.{go}
use Rattle.model.specs.Demand.{step}
use Rattle.model.proofs.Cases.{never}
use Rattle.model.proofs.Quiet.Names.{name-given}
use Rattle.model.proofs.Quiet.Ways.{upd_same, upd_other, upd, regs_of, Mem}
use Rattle.model.proofs.Quiet.Stretches.{Seg}
use Rattle.model.proofs.Quiet.Setting.{whole}
use Rattle.model.proofs.Quiet.CodeParts.{rises-le}
use Rattle.model.proofs.Occam.Paths.{l-alt, same-path}
use Rattle.model.proofs.Words.Parts.{Part, FineGuards}
use Rattle.model.proofs.Quiet.Continuations.{Placed, placed-down, cont-placed, cont-low}
use Rattle.model.proofs.Quiet.Marks.{Own, Rest as RestOf, rest_all, Unready, Noticed, n-none, n-later, own_name, Guarded, g-first}
use Rattle.model.proofs.Quiet.Marks.{AltCode, Marked, Enabling, Disabling, AnyPresent, a_first, is-skip, is-sent as is-here}
use Rattle.model.proofs.Quiet.Marks.{AnyFound}
use Rattle.model.proofs.Quiet.Onwards.{AltGoes, alt-goes, rest-past, rest-guarded, rest-fine, noticed-past, noticed-unready}
use Rattle.model.proofs.Quiet.Onwards.{noticed-marked, enable-way, enable-first, disable-first, timed-fine, rest-present}
use Rattle.model.proofs.Quiet.Onwards.{present-found, guarded-fine, marked-same}
use Rattle.model.proofs.Invariant.Trees.{Info, Sits, Tree, bytes_left, part-inside}
use Rattle.model.proofs.Invariant.Leaves.{Unmarked, Held, h-wait}
use Rattle.model.proofs.Invariant.Stays.{Intact, noticed-stays, marked-stays, guarding-stays, found-stays}
use Rattle.model.proofs.Effects.OneWord.{cpu_of, size_of, stored}
use Rattle.model.proofs.Effects.Acts.{exec-alt, enabled, exec-enbc-off, exec-enbc-held, exec-enbc-empty, exec-enbc-marked}
use Rattle.model.proofs.Effects.Acts.{exec-enbc-sender, exec-enbs-off, exec-enbs, exec-altwt-ready, exec-altwt-wait}
use Rattle.model.proofs.Invariant.Kernel.{Loaded, S, root, size, LeafAt, owned, Rest, Real, node, part_small, sits-at, Lined}
use Rattle.model.proofs.Invariant.Writes.{apart_parts, own-one, write-own, write-chan, left_out, Calm}
use Rattle.model.proofs.Invariant.Puts.{putting, tree_then, here-then, lined_then, rest_then, sender-then, sender-before}
use Rattle.model.proofs.Invariant.Grounds.{chan-in, sound-at}
use Rattle.model.proofs.Invariant.Traces.{t-none, t-step}
use Rattle.model.proofs.Invariant.Running.{Only, fresh, now-alt, runs, Did, came, Executes, executes, Acting}
use Rattle.model.proofs.Invariant.Moving.{relaid, same-leaf}
use Rattle.model.proofs.Invariant.Reals.{size_is, mirrored, real-cpu, real-state, real-stored, link-own, link-chan}
use Rattle.model.proofs.Invariant.Finish.{alt-goes-on, silent}
use Rattle.model.proofs.Steps.Meets.{not_own}
use Rattle.model.proofs.Steps.Advance.{Silent, leaves-as}
use Rattle.model.proofs.Steps.Channels.{Holder, holds-input, holds-output, holds-wait, holds-woken, holds-out, holder, Sends, sends}
use Rattle.model.proofs.Steps.Channels.{sender-at, HeldAt, held_at, not-held, held-here}
use Rattle.model.proofs.Quiet.Timing.{Bringing, bringing-same, bringing-past, each-past, e-none, Guarding, Linked, Dozing, onto_same}

-- a condition's register says whether it is true
pub true-when : (σ : Store) (e : Expr) (v : ℕ) → v ≡ eval σ e → v ≢ 0 → is_true σ e ≡ true
true-when σ e v q d = rw (ne_eqb (eval σ e) 0 (λ z. d (q ∙ z)))

pub false-when : (σ : Store) (e : Expr) (v : ℕ) → v ≡ eval σ e → v ≡ 0 → is_true σ e ≡ false
false-when σ e v q d = rw (eq-eqb (eval σ e) 0 (sym q ∙ d))

-- processes that begin a statement or are at an ALT send nothing
before-silent : {s : Stmt} {k : List Frame} → Silent (before s k)
before-silent y v l e = never (cc)

pub alt-silent : {gs : Guards} {k : List Frame} → Silent (at_alt gs k)
alt-silent y v l e = never (cc)

-- an offer is a sender
pub offer-sends : {st : State} {y : Site} {n v : ℕ} → y ≡ input_of n → st.offers n ≡ some v → Sender st y
offer-sends {st} e o = subst (Sender st) (sym e) (outside o)

-- guards stay noticed where their marks stay
unready-more : (st : State) (word : Site → ℕ) (μ ν : Mem) (w : ℕ) → ((d : Site) → μ (word d) ≡ name_of w → ν (word d) ≡ name_of w)
    → (g : Guard)
    → Unready st word μ w g → Unready st word ν w g
unready-more st word μ ν w f (input_guard e c x) u = λ z. (f c (u z).0, (u z).1)
unready-more st word μ ν w f (skip_guard e) u = u
unready-more st word μ ν w f (time_guard e t) u = u

noticed-more : {st : State} (word : Site → ℕ) (μ ν : Mem) (w : ℕ) {gs hs : Guards}
    → ((d : Site) → μ (word d) ≡ name_of w → ν (word d) ≡ name_of w)
    → Noticed st word μ w gs hs → Noticed st word ν w gs hs
noticed-more word μ ν w f n-none = n-none
noticed-more {st} word μ ν w f (n-later {g} u n) = n-later (unready-more st word μ ν w f g u) (noticed-more word μ ν w f n)

-- the workspace of the process that has the processor
abbrev pub space : World → ℕ
space s = (cpu_of s).workspace

-- inside an ALT
module _ (L : Loaded) {s : World} {st : State} {μ : Mem} {t : Tree (S L) (root L) st.process} {path : List ℕ} {q : Process} {b : Part}
    {i : Info} {ws : List ℕ} {at hi : ℕ} (A : Acting L s st μ t path q b i (Only path) ws at hi) {gs : Guards} {k : List Frame}
    {hi₀ i₀ : ℕ} (c : AltCode (S L) b gs i.vars i.chans k hi₀ i₀ ((cpu_of s).workspace + 1)) where
  abbrev w : ℕ
  w = (cpu_of s).workspace

  -- the workspace and the words below it are the process's own
  w-room : b.bottom + 3 ≤ w
  w-room = omega (arith, c.fine.0)

  pub w-under : w < b.top
  w-under = omega (arith, cont-low (S L) b c.after)

  pub top_small : b.top ≤ word_limit
  top_small = omega (arith, part_small L A.leaf, (S L).top_small)

  pub w-own : Own b (name_of w)
  w-own = own_name b w (omega (arith, w-room)) (omega (arith, w-under))

  pub w-some : name_of w ≢ not_process
  w-some = name-given w (omega (arith, w-under, top_small))

  -- such a word
  abbrev pub Mine : ℕ → Type 0
  Mine v = (b.bottom ≤ v) × (v ≤ w)

  pub base-mine : Mine w
  base-mine = (omega (arith, w-room), omega arith)

  pub state-mine : Mine (state_word w)
  state-mine = (omega (arith, w-room, w-under, top_small), omega (arith, w-room, w-under, top_small))

  pub resume-mine : Mine (resume_word w)
  resume-mine = (omega (arith, w-room, w-under, top_small), omega (arith, w-room, w-under, top_small))

  -- those for times, where there is room for them
  pub link-mine : b.bottom + 5 ≤ w → Mine (time_link_word w)
  link-mine room = (omega (arith, room, w-under, top_small), omega (arith, room, w-under, top_small))

  pub time-mine : b.bottom + 5 ≤ w → Mine (time_word w)
  time-mine room = (omega (arith, room, w-under, top_small), omega (arith, room, w-under, top_small))

  pub times-room : timed gs ≡ true → b.bottom + 5 ≤ w
  times-room t = omega (arith, timed-fine (S L).word b i.vars i.chans (w + 1) gs c.fine.1 t)

  -- the other own words are none of these
  pub base-other : (time_link_word w ≢ w) × (time_word w ≢ w)
  base-other = ((λ e. absurd (omega (arith, e, w-under, top_small))), (λ e. absurd (omega (arith, e, w-under, top_small))))

  pub state-other : (time_link_word w ≢ state_word w) × (time_word w ≢ state_word w)
  state-other = ((λ e. absurd (omega (arith, e, w-under, top_small))), (λ e. absurd (omega (arith, e, w-under, top_small))))

  pub resume-other : (time_link_word w ≢ resume_word w) × (time_word w ≢ resume_word w)
  resume-other = ((λ e. absurd (omega (arith, e, w-under, top_small))), (λ e. absurd (omega (arith, e, w-under, top_small))))

  -- they are different
  pub base-state : w ≢ state_word w
  base-state e = omega (arith, w-room, w-under, top_small)

  pub base-resume : w ≢ resume_word w
  base-resume e = omega (arith, w-room, w-under, top_small)

  pub state-resume : state_word w ≢ resume_word w
  state-resume e = omega (arith, w-room, w-under, top_small)

  -- names in scope have other words
  pub placed : Placed (S L) b w i.vars i.chans
  placed = placed-down (S L) w 1 (omega (arith, w-room)) (cont-placed (S L) b c.after)

  var-off : {v : ℕ} → Mine v → (x : Site) → Memᴰ x i.vars → (S L).word x ≢ v
  var-off h x m e = absurd (omega (arith, (cont-placed (S L) b c.after).scoped.vars-above x m, h.1, e))

  pub chan-off : {v : ℕ} → Mine v → (x : Site) → Memᴰ x i.chans → (S L).word x ≢ v
  chan-off h x m e = absurd (omega (arith, (cont-placed (S L) b c.after).scoped.chans-above x m, h.1, e))

  -- they are in memory, and so are channels
  mine-in : {v : ℕ} → Mine v → v < size L
  mine-in h = omega (arith, h.1, w-under, part_small L A.leaf)

  pub mine-size : {v : ℕ} → Mine v → v < size_of s
  mine-size h = rw (size_is L A.real) (mine-in h)

  pub mine-holds : {v z : ℕ} → Mine v → μ v ≡ z → get_or s.memory v 0 ≡ z
  mine-holds {v} h e = mirrored L A.real v (mine-in h) e

  pub chan-size : (y : Site) → Memᴰ y i.chans → (S L).word y < size_of s
  chan-size y m = rw (size_is L A.real) (chan-in L (node L A.leaf) y m)

  pub chan-holds : (y : Site) → Memᴰ y i.chans → {z : ℕ} → μ ((S L).word y) ≡ z → get_or s.memory ((S L).word y) 0 ≡ z
  chan-holds y m e = mirrored L A.real ((S L).word y) (chan-in L (node L A.leaf) y m) e

  -- names: none is NotProcess, and none of another process is w
  strange-none : {other : List ℕ} {r : Process} {d : Part} {j : Info} → LeafAt L st t other r d j → {v : ℕ} → v ≡ not_process → Own d v
      → ⊥
  strange-none {d = d} l e o = not_own d (omega (arith, part_small L l, (S L).top_small)) (subst (Own d) e o)

  pub none-own : {v : ℕ} → v ≡ not_process → Own b v → ⊥
  none-own e o = strange-none A.leaf e o

  strange-w : {other : List ℕ} {r : Process} {d : Part} {j : Info} → LeafAt L st t other r d j → (Only path other → ⊥) → {v : ℕ}
      → v ≡ name_of w → Own d v → ⊥
  strange-w {d = d} l n e o = own-one L (apart_parts L A.leaf l n) w-own (subst (Own d) e o)

  named-own : {other : List ℕ} {r : Process} {d : Part} {j : Info} → LeafAt L st t other r d j → {v : ℕ} → v ≡ name_of j.w
      → Own d v
  named-own {d = d} {j} l e =
      let p = (sits-at L l).placed in subst (Own d) (sym e) (own_name d j.w (omega (arith, p.room)) p.low)

  -- a number that is no other process's name
  abbrev pub Free : ℕ → Type 0
  Free v = (other : List ℕ) (r : Process) (d : Part) (j : Info) → LeafAt L st t other r d j → (Only path other → ⊥) → Own d v → ⊥

  pub free-none : {v : ℕ} → v ≡ not_process → Free v
  free-none e other r d j l n o = strange-none l e o

  pub free-w : {v : ℕ} → v ≡ name_of w → Free v
  free-w e other r d j l n o = strange-w l n e o

  -- memories that the machine may have now
  pub record Shows (l : List ℕ) (ν : Mem) : Type 0 where
    pub real : Real L (with_memory l s) st ν ws
    pub rest : Rest L st ν t (Only path) ws

  pub shown : Shows s.memory μ
  shown = record { real = A.real; rest = A.rest }

  -- an own word is written
  pub own-write : {l : List ℕ} {ν : Mem} (v z : ℕ) → Mine v → Calm L q i v → Shows l ν → Shows (set l v z) (upd ν v z)
  own-write v z h calm m =
      let high : v < b.top = omega (arith, h.1, w-under) in
      record {
        real = real-stored L v z (mine-in h) (link-own L A.lined A.leaf refl v h.0 high) m.real;
        rest = write-own L A.leaf m.rest v z h.0 high (var-off h) (chan-off h) (left_out refl calm);
      }

  -- a channel's word is written: it gets the mark, or is empty
  pub chan-write : {l : List ℕ} {ν : Mem} (y : Site) (z : ℕ) → Memᴰ y i.chans → Free (ν ((S L).word y))
      → (z ≡ not_process) ⊎ (z ≡ name_of w)
      → Shows l ν → Shows (set l ((S L).word y) z) (upd ν ((S L).word y) z)
  chan-write y z mine old new m =
      record {
        real = real-stored L ((S L).word y) z (chan-in L (node L A.leaf) y mine) (link-chan L A.lined A.leaf refl y mine) m.real;
        rest = write-chan L A.leaf m.rest y z mine
            (λ other r d j l n. (old other r d j l n, ⊎_elim (λ e. free-none e other r d j l n) (λ e. free-w e other r d j l n) new))
            (⊎_elim (λ e. inl e) (λ e. inr (owned A.leaf mine (subst (Own b) (sym e) w-own))) new) refl;
      }

  -- what an own word's writing leaves as it was
  module _ (ν : Mem) (v z : ℕ) (h : Mine v) where
    pub own-chan : (d : Site) → Memᴰ d i.chans → upd ν v z ((S L).word d) ≡ ν ((S L).word d)
    own-chan d m = upd_other ν v z ((S L).word d) (chan-off h d m)

    own-intact : Intact (S L) b i v st st ν (upd ν v z)
    own-intact =
        record {
          own = λ a lo up d. upd_other ν v z a d;
          reads = λ x m g. refl;
          chans = λ d m. inl (own-chan d m);
          sends = λ d m f. f;
          none-sends = λ d m g o f. f;
        }

    pub own-noticed : {hs : Guards} → Noticed st (S L).word ν w gs hs → Noticed st (S L).word (upd ν v z) w gs hs
    own-noticed n = noticed-stays (S L) b i (omega (arith, top_small)) (sits-at L A.leaf) own-intact (w + 1) w-own c.fine.1 n

    -- its times, where the word is none of theirs
    module _ (link : time_link_word w ≢ v) (time : time_word w ≢ v) where
      pub own-bringing : {hs : Guards} → Bringing L.times st gs hs ν w → Bringing L.times st gs hs (upd ν v z) w
      own-bringing n =
          bringing-same L.times st (upd_other ν v z (time_link_word w) link) (upd_other ν v z (time_word w) time) n

    pub own-marked : Marked (S L) b st i.vars i.chans gs ν w → Marked (S L) b st i.vars i.chans gs (upd ν v z) w
    own-marked n = marked-stays (S L) b i (omega (arith, top_small)) (sits-at L A.leaf) own-intact (w + 1) w c.fine.1 n

  -- the process goes on inside the ALT, with another stack and another memory
  pub onward : {x : Instruction} (f g h : ℕ) {l : List ℕ} {ν : Mem} → Executes L x s (with_cpu (stack f g h (cpu_of s)) (with_memory l s))
      → Shows l ν → AltGoes (S L) b L.times st i.vars i.chans q i.w hi ν (suc at) (record { a = f; b = g; c = h; w = w })
      → Did L (Executes L x s) s st (bytes_left (S L) t)
  onward f g h {l} ran m way =
      let r = stack f g h (cpu_of s) in
      alt-goes-on L A (with_cpu r (with_memory l s)) ran refl (real-cpu L r refl refl refl m.real) A.run A.operand m.rest
      A.lined (suc at) hi A.placed A.inside (omega arith) way

  -- the guards are fine
  pub fine-rest : {hs : Guards} {m n : ℕ} → RestOf gs m hs n → FineGuards (S L).word b i.vars i.chans (w + 1) hs
  fine-rest r = rest-fine (S L).word b i.vars i.chans (w + 1) r c.fine.1

  -- what a channel's word holds: nothing, the ALT's own mark, or the name of a sender
  pub data ChannelIs (y : Site) : Type 0 where
    is-empty : μ ((S L).word y) ≡ not_process → ChannelIs y
    is_ours : μ ((S L).word y) ≡ name_of w → ChannelIs y
    is-sent : μ ((S L).word y) ≢ not_process → μ ((S L).word y) ≢ name_of w → (Own b (μ ((S L).word y)) → ⊥) → Sender st y
        → Memᴰ y (root L).outputs → ChannelIs y

  module _ (y : Site) (mine : Memᴰ y i.chans) (inputs : Memᴰ y b.inputs) where
    by-holder : (Own b (μ ((S L).word y)) → μ ((S L).word y) ≡ name_of w) → Holder L st μ t (Only path) ws y → ChannelIs y
    by-holder marks (holds-input l n e wt x inp free) = absurd ((apart_parts L A.leaf l n).inputs y inputs inp)
    by-holder marks (holds-output {path = other} {b = d} l n e wt out m v z) =
        let theirs = named-own l wt.here in
        is-sent (λ f. strange-none l f theirs) (λ f. strange-w l n f theirs) (λ o. own-one L (apart_parts L A.leaf l n) o theirs)
        (process _ l.found) ((part-inside (S L) t other {b = d} (rw l.label)).outputs y out)
    by-holder marks (holds-wait l n e a r f v all free m dz kn g gd inp) = absurd ((apart_parts L A.leaf l n).inputs y inputs inp)
    by-holder marks (holds-woken l n e a r f d g gd inp) = absurd ((apart_parts L A.leaf l n).inputs y inputs inp)
    by-holder marks (holds-out l o m own) =
        is_ours (marks (same-leaf L (λ r d (j : Info). Own d (μ ((S L).word y))) (sym o) l A.leaf own))

    pub channel-is : (Own b (μ ((S L).word y)) → μ ((S L).word y) ≡ name_of w) → ChannelIs y
    channel-is marks =
        ⊎_elim (λ e. is-empty e) (λ o. by-holder marks (holder L A.rest (λ other. same-path path other) o refl))
        (A.rest.chans (node L A.leaf) y mine)

    -- nobody sends on a channel that no sender is at and no offer is held for
    pub unsent : Silent q → ((n : ℕ) → y ≡ input_of n → st.offers n ≡ none)
        → (μ ((S L).word y) ≡ not_process) ⊎ (μ ((S L).word y) ≡ name_of w)
        → Sender st y → ⊥
    unsent silently no-offer here sd =
        ⊎_elim at-word (λ f. let (n, v, e, o) = f in never (cc (no-offer n e, o)))
        (sender-at L A.rest y
        (λ other v l e o. silently y v l (some-process (sym A.leaf.found ∙ ap (λ z. look z st.process) o ∙ e))) sd)
      where
        some-process : {x z : Process} → ◌≡◌ {A = Option Process} (some x) (some z) → x ≡ z
        some-process e = cc

        at-word : Sends L A.rest y → ⊥
        at-word (sends l n e out m) =
            let theirs = named-own l e in ⊎_elim (λ f. strange-none l f theirs) (λ f. strange-w l n f theirs) here

-- before ALTWT
module _ (L : Loaded) {s : World} {st : State} {μ : Mem} {t : Tree (S L) (root L) st.process} {path : List ℕ} {b : Part} {i : Info}
    {ws : List ℕ} {at hi : ℕ} {gs : Guards} {k : List Frame} (A : Acting L s st μ t path (before (ALT gs) k) b i (Only path) ws at hi)
    {hi₀ i₀ : ℕ} (c : AltCode (S L) b gs i.vars i.chans k hi₀ i₀ ((cpu_of s).workspace + 1)) where
  -- the guards before hs are enabled, in a memory
  abbrev pub Enabled : Guards → Mem → Type 0
  Enabled hs ν = Enabling (S L) b L.times st i.vars i.chans gs hs ν (space s)

  abbrev pub Marks : Mem → Type 0
  Marks ν = Marked (S L) b st i.vars i.chans gs ν (space s)

  -- what is to be shown of an instruction
  abbrev pub Goal : Instruction → Type 0
  Goal x = Did L (Executes L x s) s st (bytes_left (S L) t)

  abbrev pub state-word : ℕ
  state-word = state_word (space s)

  pub state-size : state-word < size_of s
  state-size = mine-size L A c (state-mine L A c)

  -- the state is written
  pub state-write : (z : ℕ) → Shows L A c (set s.memory state-word z) (upd μ state-word z)
  state-write z = own-write L A c state-word z (state-mine L A c) (λ e. never (cc)) (shown L A c)

  -- ALT
  module _ (here : at ≡ i₀ + 1) (near : hi₀ ≤ hi) (clean : Unmarked (S L) b i st μ) (untimed : timed gs ≡ false) where
    begun : Enabled gs (upd μ state-word enabling)
    begun =
        record {
          rest = (0, rest_all);
          marks = λ d m o. absurd (clean d m (subst (Own b) (own-chan L A c μ state-word enabling (state-mine L A c) d m) o));
          state = inl (upd_same μ state-word enabling, n-none);
          times = λ z. never (cc (z, untimed));
          known = e-none;
        }

    pub alt-begins : Goal (operation I.alt)
    unfolding function_in operand_in
    alt-begins =
        let e : i₀ + 2 ≡ suc at = omega arith in
        let m = state-write enabling in
        onward L A c (cpu_of s).a (cpu_of s).b (cpu_of s).c (executes (exec-alt (space s) s refl state-size)) m
        (subst (λ z. AltGoes (S L) b L.times st i.vars i.chans (before (ALT gs) k) i.w hi (upd μ state-word enabling) z
        (regs_of (cpu_of s))) e
        (enable-first (S L) b L.times st (space s) c (sound-at L m.rest A.leaf) near begun refl))

  -- the enabling goes on with the rest of the guards
  module _ {x : Instruction} (hs : Guards) (near : hi₀ ≤ hi)
      (code : Seg (S L).xs (suc at) (code_enable (S L).word (space s) hs) (i₀ + 2 + size_enable gs)) (f g h : ℕ) where
    pub enables-on : {l : List ℕ} {ν : Mem} → Executes L x s (with_cpu (stack f g h (cpu_of s)) (with_memory l s)) → Shows L A c l ν
        → Enabled hs ν
        → Goal x
    enables-on ran m n =
        onward L A c f g h ran m
        (alt-goes (space s) tt
        (enable-way (S L) b L.times st (space s) c (sound-at L m.rest A.leaf) hs near (fine-rest L A c n.rest.1) n code refl))

    -- the state becomes Ready
    turns-ready : Executes L x s (with_cpu (stack f g h (cpu_of s)) (stored state-word ready s)) → (m : ℕ) × RestOf gs 0 hs m → Marks μ
        → AnyPresent st gs → (timed gs ≡ true → Bringing L.times st gs hs μ (space s)) → Guarding L.times st gs hs (space s) → Goal x
    turns-ready ran rest marks now times known =
        enables-on ran (state-write ready)
        (record {
          rest = rest;
          marks = own-marked L A c μ state-word ready (state-mine L A c) marks;
          state = inr (upd_same μ state-word ready, now);
          times = λ z. own-bringing L A c μ state-word ready (state-mine L A c) (state-other L A c).0 (state-other L A c).1 (times z);
          known = known;
        })

  -- ENBC of a guard
  module _ (e : Expr) (y z : Site) (g : Stmt) (hs : Guards) (near : hi₀ ≤ hi) (n : Enabled (guard (input_guard e y z) g hs) μ)
      (val : (cpu_of s).a ≡ eval st.store e) (chan : (cpu_of s).b ≡ (S L).word y)
      (code : Seg (S L).xs (suc at) (code_enable (S L).word (space s) hs) (i₀ + 2 + size_enable gs)) where
    mine : Memᴰ y i.chans
    mine = (fine-rest L A c n.rest.1).1.1

    inputs : Memᴰ y b.inputs
    inputs = (fine-rest L A c n.rest.1).1.2

    past : (m : ℕ) × RestOf gs 0 hs m
    past = (_, rest-past n.rest.1)

    times-past : timed gs ≡ true → Bringing L.times st gs hs μ (space s)
    times-past t = bringing-past L.times st (input_guard e y z) refl (n.times t)

    known_past : Guarding L.times st gs hs (space s)
    known_past = each-past st.store (input_guard e y z) n.known tt

    -- nothing changes
    passes : Executes L (operation I.enbc) s (enabled s)
        → (is_true st.store e ≡ true → (μ ((S L).word y) ≡ name_of (space s)) × (Sender st y → ⊥)) → Goal (operation I.enbc)
    passes ran f =
        enables-on hs near code (cpu_of s).a (cpu_of s).c (cpu_of s).c ran (shown L A c)
        (record {
          rest = past;
          marks = n.marks;
          state = ⊎_elim (λ m. inl (m.0, noticed-past (input_guard e y z) m.1 f)) (λ m. inr m) n.state;
          times = times-past;
          known = known_past;
        })

    enbc-off : (cpu_of s).a ≡ 0 → Goal (operation I.enbc)
    unfolding function_in operand_in
    enbc-off a = passes (executes (exec-enbc-off s a)) (λ h. never (cc (h, false-when st.store e (cpu_of s).a val a)))

    -- a sender is there
    enbc-ready : (cpu_of s).a ≢ 0 → Sender st y → Executes L (operation I.enbc) s (enabled (stored state-word ready s))
        → Goal (operation I.enbc)
    enbc-ready a sd ran =
        turns-ready hs near code (cpu_of s).a (cpu_of s).c (cpu_of s).c ran past n.marks
        (rest-present n.rest.1 (a_first (is-here (true-when st.store e (cpu_of s).a val a) sd))) times-past known_past

    -- no offer is held
    module _ (a : (cpu_of s).a ≢ 0) (free : is_held ((S L).word y) s.machine ≡ false)
        (no-offer : (m : ℕ) → y ≡ input_of m → st.offers m ≡ none) where
      abbrev marked : Mem
      marked = upd μ ((S L).word y) (name_of (space s))

      -- the marks that are there stay, and the new one is this guard's
      mark-here : (d : Site) → (S L).word d ≡ (S L).word y → marked ((S L).word d) ≡ name_of (space s)
      mark-here d h = ap marked h ∙ upd_same μ ((S L).word y) (name_of (space s))

      mark-stays : (d : Site) → μ ((S L).word d) ≡ name_of (space s) → marked ((S L).word d) ≡ name_of (space s)
      mark-stays d f = by (ℕ_discrete ((S L).word d) ((S L).word y))
        where
          by : Dec ((S L).word d ≡ (S L).word y) → marked ((S L).word d) ≡ name_of (space s)
          by (yes h) = mark-here d h
          by (no h) = upd_other μ ((S L).word y) (name_of (space s)) ((S L).word d) h ∙ f

      new-marks : Marks marked
      new-marks d m o = by (ℕ_discrete ((S L).word d) ((S L).word y))
        where
          by : Dec ((S L).word d ≡ (S L).word y) → (marked ((S L).word d) ≡ name_of (space s)) × Guarded st.store d gs
          by (yes h) =
              let same : d ≡ y = (placed L A c).scoped.chans-distinct d y m mine h in
              let it : Guarded st.store y gs = rest-guarded n.rest.1 (g-first (true-when st.store e (cpu_of s).a val a)) in
              (mark-here d h, subst (λ v. Guarded st.store v gs) (sym same) it)
          by (no h) =
              let old = upd_other μ ((S L).word y) (name_of (space s)) ((S L).word d) h in
              let (f, it) = n.marks d m (subst (Own b) old o) in
              (old ∙ f, it)

      marks-it : μ ((S L).word y) ≡ not_process → Enabled hs marked
      marks-it f =
          let off = upd_other μ ((S L).word y) (name_of (space s)) state-word (λ h. chan-off L A c (state-mine L A c) y mine (sym h)) in
          let it : (marked ((S L).word y) ≡ name_of (space s)) × (Sender st y → ⊥) =
          (upd_same μ ((S L).word y) (name_of (space s)), unsent L A c y mine inputs before-silent no-offer (inl f)) in
          record {
            rest = past;
            marks = new-marks;
            state = ⊎_elim
                (λ m. inl (
                  off ∙ m.0,
                  noticed-past (input_guard e y z) (noticed-more (S L).word μ marked (space s) mark-stays m.1) (λ h. it),
                ))
                (λ m. inr (off ∙ m.0, m.1)) n.state;
            times = λ t.
                let room = times-room L A c t in
                bringing-same L.times st
                (upd_other μ ((S L).word y) (name_of (space s)) (time_link_word (space s))
                (λ h. chan-off L A c (link-mine L A c room) y mine (sym h)))
                (upd_other μ ((S L).word y) (name_of (space s)) (time_word (space s))
                (λ h. chan-off L A c (time-mine L A c room) y mine (sym h))) (times-past t);
            known = known_past;
          }

      -- an empty channel gets the mark, one that has it keeps it; a sender makes the ALT ready
      enbc-free : ChannelIs L A c y → Goal (operation I.enbc)
      unfolding function_in operand_in
      enbc-free (is-empty f) =
          enables-on hs near code (cpu_of s).a (cpu_of s).c (cpu_of s).c
          (executes
          (exec-enbc-empty ((S L).word y) (space s) s a chan refl free (chan-size L A c y mine) (chan-holds L A c y mine f)))
          (chan-write L A c y (name_of (space s)) mine (free-none L A c f) (inr refl) (shown L A c)) (marks-it f)
      enbc-free (is_ours f) =
          passes
          (executes
          (exec-enbc-marked ((S L).word y) (space s) s a chan refl free (chan-size L A c y mine) (chan-holds L A c y mine f)
          (w-some L A c)))
          (λ h. (f, unsent L A c y mine inputs before-silent no-offer (inr f)))
      enbc-free (is-sent f h o sd out) =
          enbc-ready a sd
          (executes
          (exec-enbc-sender ((S L).word y) (space s) (μ ((S L).word y)) s a chan refl free (chan-size L A c y mine)
          (chan-holds L A c y mine refl) f h state-size))

    enbc-on : (cpu_of s).a ≢ 0 → HeldAt L s st y → Goal (operation I.enbc)
    unfolding function_in operand_in
    enbc-on a (held_at m v l f wd h small d o) =
        enbc-ready a (offer-sends f o) (executes (exec-enbc-held ((S L).word y) (space s) s a chan refl h state-size))
    enbc-on a (not-held h no-offer) = enbc-free a h no-offer (channel-is L A c y mine inputs (λ o. (n.marks y mine o).0))

    pub does-enbc : Goal (operation I.enbc)
    does-enbc = by (ℕ_discrete (cpu_of s).a 0)
      where
        by : Dec ((cpu_of s).a ≡ 0) → Goal (operation I.enbc)
        by (yes a) = enbc-off a
        by (no a) = enbc-on a (held-here L A.real (node L A.leaf) y mine)

  -- ENBS of a guard
  module _ (e : Expr) (g : Stmt) (hs : Guards) (near : hi₀ ≤ hi) (n : Enabled (guard (skip_guard e) g hs) μ)
      (val : (cpu_of s).a ≡ eval st.store e)
      (code : Seg (S L).xs (suc at) (code_enable (S L).word (space s) hs) (i₀ + 2 + size_enable gs)) where
    past_skip : (m : ℕ) × RestOf gs 0 hs m
    past_skip = (_, rest-past n.rest.1)

    enbs-off : (cpu_of s).a ≡ 0 → Goal (operation I.enbs)
    unfolding function_in operand_in
    enbs-off a =
        enables-on hs near code (cpu_of s).a (cpu_of s).b (cpu_of s).c (executes (exec-enbs-off s a)) (shown L A c)
        (record {
          rest = past_skip;
          marks = n.marks;
          state = ⊎_elim (λ m. inl (m.0, noticed-past (skip_guard e) m.1 (false-when st.store e (cpu_of s).a val a)))
              (λ m. inr m) n.state;
          times = λ t. bringing-past L.times st (skip_guard e) refl (n.times t);
          known = each-past st.store (skip_guard e) n.known tt;
        })

    enbs-on : (cpu_of s).a ≢ 0 → Goal (operation I.enbs)
    unfolding function_in operand_in
    enbs-on a =
        turns-ready hs near code (cpu_of s).a (cpu_of s).b (cpu_of s).c (executes (exec-enbs (space s) s a refl state-size)) past_skip
        n.marks (rest-present n.rest.1 (a_first (is-skip (true-when st.store e (cpu_of s).a val a))))
        (λ t. bringing-past L.times st (skip_guard e) refl (n.times t)) (each-past st.store (skip_guard e) n.known tt)

    pub does-enbs : Goal (operation I.enbs)
    does-enbs = by (ℕ_discrete (cpu_of s).a 0)
      where
        by : Dec ((cpu_of s).a ≡ 0) → Goal (operation I.enbs)
        by (yes a) = enbs-off a
        by (no a) = enbs-on a

  -- ALTWT or TALTWT: the process comes to the ALT
  abbrev pub waits-as : Info
  waits-as = relaid (space s) (whole (S L)) i

  abbrev pub then_at : State
  then_at = putting path (at_alt gs k) st

  pub sits-there : Sits (S L) b waits-as
  sits-there = record { placed = placed L A c; few = omega arith }

  abbrev pub tree-there : Tree (S L) (root L) then_at.process
  tree-there = tree_then L A.leaf (at_alt gs k) l-alt waits-as sits-there

  pub leaf-there : LeafAt L then_at tree-there path (at_alt gs k) b waits-as
  leaf-there = here-then L A.leaf (at_alt gs k) l-alt waits-as sits-there

  pub lined-there : Lined L then_at tree-there (Only path) ws
  lined-there = lined_then L A.leaf (at_alt gs k) l-alt waits-as sits-there refl A.lined

  pub comes-to : Step st [] then_at
  unfolding go
  comes-to = begins path A.leaf.found

  -- it is not in the timer queue then
  pub rest-there : {ν : Mem} → (timed gs ≡ true → Linked ν (space s) → ⊥) → Rest L st ν t (Only path) ws
      → Rest L then_at ν tree-there (Only path) ws
  rest-there free r =
      rest_then L A.leaf (at_alt gs k) l-alt waits-as sits-there r refl (r.vars (node L A.leaf)) (r.chans (node L A.leaf))
      (A.rest.live A.leaf) (λ d m o. m) (λ d v l e other p a j f g h. before-silent d v l e)
      (λ d v l e other p a j f g h m o. alt-silent d v l e) (λ e. never (cc)) free

  -- that changes no word, and no sender
  pub intact-there : (ν : Mem) → Intact (S L) b i 0 st then_at ν ν
  intact-there ν =
      record {
        own = λ v a z y. refl;
        reads = λ x m g. refl;
        chans = λ d m. inl refl;
        sends = λ d m f. sender-then L A.leaf (at_alt gs k) l-alt waits-as sits-there d (before-silent d) f;
        none-sends = λ d m g o f. sender-before L A.leaf (at_alt gs k) l-alt waits-as sits-there d (alt-silent d) f;
      }

  pub high : b.top < 2 ^ 32
  high = omega (arith, top_small L A c)

  pub marks-there : (ν : Mem) → Marks ν → Marked (S L) b then_at i.vars i.chans gs ν (space s)
  marks-there ν m = marked-stays (S L) b i high (sits-at L A.leaf) (intact-there ν) (space s + 1) (space s) c.fine.1 m

  pub known-there : (ν : Mem) → Guarding L.times st gs no_guard (space s) → Guarding L.times then_at gs no_guard (space s)
  known-there ν n =
      guarding-stays (S L) b i high (sits-at L A.leaf) (intact-there ν) (space s + 1) {T = L.times} {T' = L.times} {w = space s}
      (onto_same refl) c.fine.1 n

  pub found-there : (ν : Mem) → AnyFound st ν (space s) gs → AnyFound then_at ν (space s) gs
  found-there ν f =
      found-stays (S L) b i high (sits-at L A.leaf) (intact-there ν) (space s + 1) refl (λ room. (refl, refl)) c.fine.1 f

  pub noticed-there : (ν : Mem) → Noticed st (S L).word ν (space s) gs no_guard → Noticed then_at (S L).word ν (space s) gs no_guard
  noticed-there ν n =
      noticed-stays (S L) b i high (sits-at L A.leaf) (intact-there ν) (space s + 1) (w-own L A c) c.fine.1 n

  -- its own words are written while it has not come
  pub base-write : {l : List ℕ} {ν : Mem} (v z : ℕ) → Mine L A c v → Shows L A c l ν → Shows L A c (set l v z) (upd ν v z)
  base-write v z h m = own-write L A c v z h (λ e. never (cc)) m

  module _ (here : at ≡ i₀ + 2 + size_enable gs) (marks : Marks μ) where
    -- the bytes that are left reach as far as is needed
    pub soon-there : hi₀ ≤ whole (S L) + L.off (suc at)
    soon-there = omega (arith, c.near, rises-le (S L) i₀ (suc at) (omega arith) A.inside)

    -- no branch is chosen yet
    abbrev pub μ₁ : Mem
    μ₁ = upd μ (space s) none_selected

    pub none_yet_lem : Shows L A c (set s.memory (space s) none_selected) μ₁
    none_yet_lem = base-write (space s) none_selected (base-mine L A c) (shown L A c)

    pub marks₁ : Marks μ₁
    marks₁ = own-marked L A c μ (space s) none_selected (base-mine L A c) marks

    -- the disabling begins, in a memory
    pub goes-there : {x : Instruction} {l : List ℕ} (ν : Mem) → Executes L x s (with_memory l s) → Shows L A c l ν
        → (timed gs ≡ true → Linked ν (space s) → ⊥)
        → Disabling (S L) b L.times then_at i.vars i.chans k gs gs c.choice ν (space s) → Goal x
    goes-there {l = l} ν ran m free disabling =
        let e : i₀ + 2 + size_enable gs + 1 ≡ suc at = omega arith in
        let near : hi₀ ≤ hi₀ = omega arith in
        let there = rest-there free m.rest in
        let sound = sound-at L there leaf-there in
        let way = subst
        (λ z. AltGoes (S L) b L.times then_at i.vars i.chans (at_alt gs k) (space s) hi₀ ν z (regs_of (cpu_of s))) e
        (disable-first (S L) b L.times then_at (space s) c sound near disabling refl) in
        came (with_memory l s) (step [] then_at ∷ []) ran (t-step comes-to t-none) (silent L s s refl)
        (runs (real-state L then_at.process st.store m.real) A.run leaf-there there lined-there
        (now-alt (fresh L (suc at) (cpu_of s).place (cpu_of s).operand A.inside A.placed A.operand) way
        (omega (arith, soon-there, A.placed))))
        (inr (omega arith))

    -- it waits, in a memory
    abbrev pub resume-word : ℕ
    resume-word = resume_word (space s)

    abbrev pub μ₂ : Mem
    μ₂ = upd μ₁ state-word waiting

    abbrev pub μ₃ : Mem
    μ₃ = upd μ₂ resume-word (L.off (suc at))

    abbrev pub asleep : World
    asleep = stored resume-word (L.off (suc at)) (stored state-word waiting (stored (space s) none_selected s))

    pub asleep-shows : Shows L A c asleep.memory μ₃
    asleep-shows =
        base-write resume-word (L.off (suc at)) (resume-mine L A c) (base-write state-word waiting (state-mine L A c) none_yet_lem)

    pub asleep-state : μ₃ state-word ≡ waiting
    asleep-state = upd_other μ₂ resume-word (L.off (suc at)) state-word (state-resume L A c) ∙ upd_same μ₁ state-word waiting

    pub asleep-none : μ₃ (space s) ≡ none_selected
    asleep-none =
        upd_other μ₂ resume-word (L.off (suc at)) (space s) (base-resume L A c)
        ∙ upd_other μ₁ state-word waiting (space s) (base-state L A c)
        ∙ upd_same μ (space s) none_selected

    pub asleep-seen : Noticed st (S L).word μ (space s) gs no_guard → Noticed then_at (S L).word μ₃ (space s) gs no_guard
    asleep-seen seen =
        noticed-there μ₃
        (own-noticed L A c μ₂ resume-word (L.off (suc at)) (resume-mine L A c)
        (own-noticed L A c μ₁ state-word waiting (state-mine L A c)
        (own-noticed L A c μ (space s) none_selected (base-mine L A c) seen)))

    pub asleep-marks : Marked (S L) b then_at i.vars i.chans gs μ₃ (space s)
    asleep-marks =
        marks-there μ₃
        (own-marked L A c μ₂ resume-word (L.off (suc at)) (resume-mine L A c)
        (own-marked L A c μ₁ state-word waiting (state-mine L A c) marks₁))

    -- also where its time link is another
    pub asleep-held : (η : Mem) → ((v : ℕ) → Mine L A c v → v ≢ time_link_word (space s) → η v ≡ μ₃ v)
        → ((d : Site) → Memᴰ d i.chans → η ((S L).word d) ≡ μ₃ ((S L).word d)) → Noticed st (S L).word μ (space s) gs no_guard
        → (timed gs ≡ true → Dozing L.times then_at gs η (space s)) → Guarding L.times st gs no_guard (space s)
        → Held (S L) L.times b waits-as then_at η false (at_alt gs k)
    asleep-held η own chans seen dozes known =
        let e : suc at ≡ i₀ + 2 + size_enable gs + 1 = omega arith in
        h-wait c
        (record {
          place = own resume-word (resume-mine L A c) (λ z. (resume-other L A c).0 (sym z)) ∙ upd_same μ₂ resume-word (L.off (suc at))
              ∙ ap L.off e;
          soon = omega (arith, soon-there, ap L.off e);
        })
        (own state-word (state-mine L A c) (λ z. (state-other L A c).0 (sym z)) ∙ asleep-state)
        (own (space s) (base-mine L A c) (λ z. (base-other L A c).0 (sym z)) ∙ asleep-none)
        (λ d g. chans d (guarded-fine (S L).word b i.vars i.chans (space s + 1) g c.fine.1).0 ∙ noticed-marked
        (asleep-seen seen) g)
        (noticed-unready (asleep-seen seen)) (marked-same (S L) b then_at i.vars i.chans gs μ₃ η (space s) chans asleep-marks) dozes
        (known-there μ₃ known)

    -- without a time it leaves the processor
    pub waits_there : {x : Instruction} → (timed gs ≡ true → Linked μ₃ (space s) → ⊥)
        → Held (S L) L.times b waits-as then_at μ₃ false (at_alt gs k)
        → ((v : World) → release asleep ≡ done tt v → Executes L x s v) → Goal x
    waits_there free held ran =
        leaves-as L asleep-shows.real A.leaf A.lined (at_alt gs k) l-alt waits-as sits-there
        (rest-there free asleep-shows.rest) (λ t f e. never (cc)) held A.operand comes-to (λ v e f. ran v e)
        (silent L s asleep refl)

  -- ALTWT
  module _ (untimed : timed gs ≡ false) (here : at ≡ i₀ + 2 + size_enable gs) (n : Enabled no_guard μ) where
    no-link : (ν : Mem) → timed gs ≡ true → Linked ν (space s) → ⊥
    no-link ν t l = never (cc (t, untimed))

    altwt-ready : μ state-word ≡ ready → AnyPresent st gs → Goal (operation I.altwt)
    unfolding function_in operand_in
    altwt-ready set-ready now =
        let ν = μ₁ here n.marks in
        goes-there here n.marks ν
        (executes
        (exec-altwt-ready (space s) s refl (mine-size L A c (base-mine L A c)) state-size (mine-holds L A c (state-mine L A c) set-ready)))
        (none_yet_lem here n.marks) (no-link ν)
        (record {
          marks = marks-there ν (marks₁ here n.marks);
          state = upd_other μ (space s) none_selected state-word (λ e. base-state L A c (sym e)) ∙ set-ready;
          chosen = inr (upd_same μ (space s) none_selected, found-there ν (present-found ν (space s) now));
          times = λ t. never (cc (t, untimed));
          known = known-there ν n.known;
        })

    altwt-waits : μ state-word ≡ enabling → Noticed st (S L).word μ (space s) gs no_guard → Goal (operation I.altwt)
    unfolding function_in operand_in
    altwt-waits set-enabling seen =
        let no-ready : enabling ≢ ready = λ e. omega arith in
        waits_there here n.marks (no-link (μ₃ here n.marks)) (asleep-held here n.marks (μ₃ here n.marks) (λ v m d. refl)
        (λ d m. refl) seen (λ t. never (cc (t, untimed))) n.known)
        (λ v e. executes
        (exec-altwt-wait (space s) (L.off (suc at)) enabling s refl A.placed (mine-size L A c (base-mine L A c)) state-size
        (mine-holds L A c (state-mine L A c) set-enabling) no-ready (mine-size L A c (resume-mine L A c))
        ∙ e))

    pub does-altwt : Goal (operation I.altwt)
    does-altwt = ⊎_elim (λ m. altwt-waits m.0 m.1) (λ m. altwt-ready m.0 m.1) n.state
