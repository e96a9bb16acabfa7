-- Takes from outside: the sender that waits at an outside output goes on, or nobody sends.
use Prim.Native.Nat.{ℕ, ◌+◌, ◌<◌}
use native.Mathlib.Omega.{arith}
use native.Mathlib.Decide.{ℕ_discrete}
use mathlib.Core.Path.{◌≡◌, refl, sym, ap, ◌∙◌, subst}
use mathlib.Core.Logic.{◌≢◌, ◌⊎◌, inl, inr, ⊎_elim}
use mathlib.Core.Bool.{false}
use mathlib.Core.List.{List, [], ◌∷◌, ◌++◌, Memᴰ}
use mathlib.Core.Option.{none, some}
use lib.ListN.{get_or}
use borrow.Author.Tests.{ne_eqb}
use Rattle.model.specs.Word.{not_process}
use Rattle.model.specs.Syntax.{Site, output_of}
use Rattle.model.specs.Machine.{World, done, Act, return, join, resume_word, state_word, name_of, talks}
use Rattle.model.specs.Execute.{receive, received}
use Rattle.model.specs.Run.{land, waking}
use Rattle.model.specs.Outside.{looking, taking}
use Rattle.model.specs.Occam.{Frame, Process, at_output, resume, State, Sender, takes, taken}
use Rattle.model.specs.declared.Setup.{Setup}
use Rattle.std.specs.Prelude.{Ok, Some}
use Rattle.model.proofs.Cases.{never, by_bool}
use Rattle.model.proofs.Quiet.Names.{name_back, name-given}
use Rattle.model.proofs.Quiet.Ways.{upd_same, upd_other, upd, Mem}
use Rattle.model.proofs.Words.Parts.{Part}
use Rattle.model.proofs.Quiet.Marks.{Own, own_name}
use Rattle.model.proofs.Invariant.Trees.{Info, Tree, bytes_left}
use Rattle.model.proofs.Invariant.Leaves.{member, Unmarked, Waits}
use Rattle.model.proofs.Effects.OneWord.{cpu_of, size_of, stored, poke-in}
use Rattle.model.proofs.Effects.Acts.{when_true, when_false, peek-at}
use Rattle.model.proofs.Invariant.Kernel.{Loaded, S, root, size, LeafAt, Rest, Lined, Real, part_small, sits-at}
use Rattle.model.proofs.Invariant.Writes.{apart_parts, own-one}
use Rattle.model.proofs.Invariant.Puts.{putting}
use Rattle.model.proofs.Invariant.Grounds.{small_size}
use Rattle.model.proofs.Invariant.Traces.{t-none, t-event}
use Rattle.model.proofs.Invariant.Running.{Inv, runs, starts, idle}
use Rattle.model.proofs.Invariant.Moving.{lined-out, rest-with}
use Rattle.model.proofs.Invariant.Reals.{size_is, mirrored, real-stored, link-chan}
use Rattle.model.proofs.Steps.Channels.{Holder, holds-input, holds-output, holds-wait, holds-woken, holds-out, holder, Sends, sends}
use Rattle.model.proofs.Steps.Channels.{sender-at, output-at}
use Rattle.model.proofs.Steps.Meets.{not_own, clear-chan, chan-above}
use Rattle.model.proofs.Steps.In.{output-channel}
use Rattle.model.proofs.Outside.Bystanders.{Keeps, Ground, runs-ground, starts-ground, idle-ground}
use Rattle.model.proofs.Outside.Wakings.{With, Answers, intact-chan, Joins, waited-goes, answers-talk, output-named, outside-chan}
use Rattle.model.proofs.Outside.Wakings.{outside-in, part_of}

-- where a free processor has taken a process, the place where it goes is tested
pub waking-does : (act : Act (Unit {0})) (s u : World) → act s ≡ done tt u → land u ≡ done tt u → waking act s ≡ done tt u
unfolding waking
waking-does act s u e f =
    rw e (by_bool (cpu_of s).running (λ r. when_true (cpu_of s).running (return tt) land u r refl)
    (λ r. when_false (cpu_of s).running (return tt) land u r f))

-- the channel is empty again, and the process that waited is woken
abbrev pub communicated : ℕ → ℕ → World → World
communicated c v u = record { machine = u.machine; memory = u.memory; talk = u.talk ++ talks c v ∷ [] }

pub received-does : (c p v : ℕ) (s u : World) → c < size_of s → join p (stored c not_process s) ≡ done tt u
    → received c p v s ≡ done tt (communicated c v u)
unfolding received
received-does c p v s u h e = rw (poke-in c not_process s h, e)

-- a take without a sender
take_none : (k c : ℕ) (s : World) → s.machine.setup.base + s.machine.setup.inputs + k ≡ c → c < size_of s
    → get_or s.memory c 0 ≡ not_process → taking k s ≡ done none s
unfolding taking looking
take_none k c s e h f = rw (peek-at s e h f)

-- a take with one
module _ (k c p m v : ℕ) (s u : World) (at : s.machine.setup.base + s.machine.setup.inputs + k ≡ c) (h : c < size_of s)
    (name : get_or s.memory c 0 ≡ name_of p) (some-name : name_of p ≢ not_process) (hm : state_word p < size_of s)
    (place : get_or s.memory (state_word p) 0 ≡ m)
    (hv : m < size_of s) (holds : get_or s.memory m 0 ≡ v) (joined : join (name_of p) (stored c not_process s) ≡ done tt u)
    (lands : land (communicated c v u) ≡ done tt (communicated c v u)) where
  look-some : looking k s ≡ done (some v) s
  unfolding looking receive
  look-some =
      rw (
        peek-at s at h name,
        ne_eqb (name_of p) not_process some-name,
        peek-at s (ap state_word (name_back p)) hm place,
        peek-at s refl hv holds,
      )

  take-some : taking k s ≡ done (some v) (communicated c v u)
  unfolding taking
  take-some =
      rw (
        look-some,
        peek-at s at h name,
        at,
        waking-does (received c (name_of p) v) s (communicated c v u)
            (received-does c (name_of p) v s u h joined) lands,
      )

module _ (L : Loaded) {s : World} {st : State} {μ : Mem} {t : Tree (S L) (root L) st.process} {Out : List ℕ → Type 0} {ws : List ℕ}
    (G : Ground L s st μ t Out ws) (k : ℕ) (below : k < L.prog.outputs) where
  abbrev c : Site
  c = output_of k

  c-in : (S L).word c < size L
  c-in = outside-in L st t c (output-named L k below)

  -- the word that a take looks at
  at-word : s.machine.setup.base + s.machine.setup.inputs + k ≡ (S L).word c
  at-word =
      let e = G.real.setup-kept in
      omega (arith, ap (λ (u : Setup). u.base) e, ap (λ (u : Setup). u.inputs) e, output-at L k)

  -- nobody inputs from an outside output
  unread : {path : List ℕ} {q : Process} {b : Part} {i : Info} → LeafAt L st t path q b i → Memᴰ c b.inputs → ⊥
  unread l m = L.no_return k ((part_of L l).inputs c m)

  -- nobody sends
  nobody : μ ((S L).word c) ≡ not_process → Sender st c → ⊥
  nobody empty g =
      ⊎_elim by (λ z. let (n, v, e, o) = z in never (cc)) (sender-at L G.rest c (λ path v l e o. G.silent path c v l e o) g)
    where
      by : Sends L G.rest c → ⊥
      by (sends {i = j} l n e out m) =
          let p = (sits-at L l).placed in name-given j.w (omega (arith, p.low, part_small L l, small_size L)) (sym e ∙ empty)

  -- a sender waits: it goes on
  module _ {other : List ℕ} {v : ℕ} {f : List Frame} {d : Part} {j : Info} {to far : ℕ} (sender : LeafAt L st t other (at_output c v f) d j)
      (strange : Out other → ⊥) (unqueued : member j.w ws ≡ false) (waits : Waits (S L) d j st μ c f to far j.w) (low : j.w < d.top)
      (holds : μ j.w ≡ v) where
    abbrev ν : Mem
    ν = upd μ ((S L).word c) not_process

    own-sender : Own d (μ ((S L).word c))
    own-sender = let p = (sits-at L sender).placed in subst (Own d) (sym waits.here) (own_name d j.w (omega (arith, p.room)) p.low)

    lines : Lined L st t (With Out other) ws
    lines = lined-out L sender unqueued (λ here o. ⊎_elim (λ o. inr o) (λ e. inl e) o) G.lined

    rest : Rest L st ν t (With Out other) ws
    rest = clear-chan L sender (inr refl) (rest-with L sender (λ t f e. never (cc)) G.rest) c waits.scope (inr own-sender)

    real : Real L (stored ((S L).word c) not_process s) st ν ws
    real = real-stored L ((S L).word c) not_process c-in (link-chan L lines sender (inr refl) c waits.scope) G.real

    clean : Unmarked (S L) d j st ν
    clean a m o = by (ℕ_discrete ((S L).word a) ((S L).word c))
      where
        by : Dec ((S L).word a ≡ (S L).word c) → ⊥
        by (yes e) =
            not_own d (omega (arith, part_small L sender, small_size L))
            (subst (Own d) (ap ν e ∙ upd_same μ ((S L).word c) not_process) o)
        by (no e) = e (ap (S L).word (waits.only a m (subst (Own d) (upd_other μ ((S L).word c) not_process ((S L).word a) e) o)))

    kept : ν (resume_word j.w) ≡ μ (resume_word j.w)
    kept =
        let p = (sits-at L sender).placed in
        let under : resume_word j.w < j.w = omega (arith, p.room, p.low, part_small L sender, small_size L) in
        upd_other μ ((S L).word c) not_process (resume_word j.w) (λ e. chan-above L p (resume_word j.w) under c waits.scope (sym e))

    keeps : Keeps L st st μ ν t t Out
    keeps path q b i l o =
        let off : other ≢ path = λ e. strange (subst Out (sym e) o) in (
          l,
          intact-chan L sender l off μ c not_process waits.scope (λ n. own-one L (apart_parts L sender l off) own-sender n)
              (not_own b (omega (arith, part_small L l, small_size L))),
        )

    goes : Joins L j.w (stored ((S L).word c) not_process s) (putting other (resume f) st) (bytes_left (S L) t)
    goes =
        waited-goes L G
        (record { run = refl; place = refl; operand = refl; regs = refl }) refl real rest lines sender strange keeps waits kept refl refl
        clean (λ a z l e here p x n y m. unread y (subst (λ q. Memᴰ q x.inputs) (output-channel (sym e)) m))

    pub did-take : Answers L (λ u. taking k s ≡ done (some v) u) s st (takes k (Ok (Some v))) (bytes_left (S L) t)
    did-take =
        let p = (sits-at L sender).placed in
        let sz = size_is L G.real in
        let tall : state_word j.w < size L = omega (arith, waits.space, p.low, part_small L sender, small_size L) in
        let in_memory : j.w < size L = omega (arith, low, part_small L sender) in
        answers-talk L {c = c} {v = v} (t-event (taken other sender.found) t-none) refl
        (λ u e l. take-some k ((S L).word c) j.w j.w v s u at-word (rw sz c-in) (mirrored L G.real ((S L).word c) c-in waits.here)
        (name-given j.w (omega (arith, p.low, part_small L sender, small_size L))) (rw sz tall)
        (mirrored L G.real (state_word j.w) tall waits.message-at) (rw sz in_memory)
        (mirrored L G.real j.w in_memory holds) e l) goes

  -- what a take comes to
  abbrev pub Took : Type 0
  Took =
      ((taking k s ≡ done none s) × (Sender st (output_of k) → ⊥))
      ⊎ ((v : ℕ) × Answers L (λ u. taking k s ≡ done (some v) u) s st (takes k (Ok (Some v))) (bytes_left (S L) t))

  by-holder : Holder L st μ t Out ws c → Took
  by-holder (holds-input l n e w x inp free) = absurd (unread l inp)
  by-holder (holds-output l n e w out low v small) = inr (_, did-take l n e w low v)
  by-holder (holds-wait l n e a r g v all un mk dozes known here guarded inp) = absurd (unread l inp)
  by-holder (holds-woken l n e a r g d here guarded inp) = absurd (unread l inp)
  by-holder (holds-out l o m n) = absurd (unread l (G.marks _ _ _ _ l o c m n))

  pub ground-takes : Took
  ground-takes =
      ⊎_elim
      (λ e. inl (
        take_none k ((S L).word c) s at-word (rw (size_is L G.real) c-in) (mirrored L G.real ((S L).word c) c-in e),
        nobody e,
      ))
      (λ o. by-holder (holder L G.rest G.known o refl)) (outside-chan L G.rest c (output-named L k below))

-- every take
pub takes-does : (L : Loaded) {s : World} {st : State} {n : ℕ} → Inv L s st n → (k : ℕ) → k < L.prog.outputs
    → ((taking k s ≡ done none s) × (Sender st (output_of k) → ⊥))
    ⊎ ((v : ℕ) × Answers L (λ u. taking k s ≡ done (some v) u) s st (takes k (Ok (Some v))) n)
takes-does L (runs real run leaf rest lines now) k h = ground-takes L (runs-ground L real run leaf rest lines now) k h
takes-does L (starts B real run leaf rest lines now) k h = ground-takes L (starts-ground L real run leaf B rest lines now) k h
takes-does L (idle real stop operand rest) k h = ground-takes L (idle-ground L real stop operand rest) k h
