-- The significant instructions of an ALT behind ALTWT without a time: DISC, DISS and ALTEND.
use Prim.Native.Nat.{ℕ, suc, ◌+◌, ◌≤◌}
use native.Mathlib.Omega.{arith}
use native.Mathlib.Decide.{ℕ_discrete}
use mathlib.Core.Path.{◌≡◌, refl, sym, ap, ◌∙◌, subst}
use mathlib.Core.Logic.{◌≢◌, ◌⊎◌, inl, inr, ⊎_elim}
use mathlib.Core.Bool.{true, false}
use mathlib.Core.List.{List, Memᴰ}
use mathlib.Core.Option.{none}
use lib.ListN.{length, set}
use Rattle.model.specs.Word.{low, less, not_process, after}
use Rattle.model.specs.Syntax.{Site, input_of, Expr, Stmt, Guard, input_guard, skip_guard, Guards, no_guard, guard, time_guard, timed}
use Rattle.model.specs.Instruction.{ldc, Instruction, distance, operation}
use Rattle.model.specs.Instruction as I
use Rattle.model.specs.Code.{function_in, operand_in}
use Rattle.model.specs.Scheme.{code_disable}
use Rattle.model.specs.Machine.{World, with_cpu, with_memory, stack, goto, is_held, state_word, name_of, time_link_word, time_word}
use Rattle.model.specs.Alternative.{ready, none_selected}
use Rattle.model.specs.Occam.{Store, eval, is_true, Frame, Process, at_alt, frames_of, begin, State, Sender, by-input, by-skip, chooses}
use Rattle.model.specs.Demand.{live_in}
use Rattle.model.proofs.Cases.{never}
use Rattle.model.proofs.Quiet.Ways.{upd_same, upd_other, upd, Mem}
use Rattle.model.proofs.Quiet.Stretches.{Seg}
use Rattle.model.proofs.Quiet.Setting.{Setting, whole}
use Rattle.model.proofs.Quiet.CodeParts.{rises-le}
use Rattle.model.proofs.Occam.Paths.{Leaf, leaf-begin, live-begin, silent-begin, is_alt, off-begin}
use Rattle.model.proofs.Words.Parts.{Part, Within, FineGuards}
use Rattle.model.proofs.Quiet.Marks.{Own, next_branch, Picks, p-first, p-later, Rest as RestOf, Guarded, g-first, g-later, AltCode}
use Rattle.model.proofs.Quiet.Marks.{Marked, Disabling, AnyFound, f-first, f-later, Finds, finds-present, finds-time}
use Rattle.model.proofs.Quiet.Marks.{is-sent as here-sent, is-skip}
use Rattle.model.proofs.Quiet.Arrivals.{Comes, comes}
use Rattle.model.proofs.Quiet.Onwards.{alt-goes, picks-choice, rest-picks, rest-past, disable-way, branch-comes}
use Rattle.model.proofs.Invariant.Trees.{Info, Tree, bytes_left}
use Rattle.model.proofs.Invariant.Leaves.{Unmarked}
use Rattle.model.proofs.Effects.OneWord.{cpu_of}
use Rattle.model.proofs.Effects.Acts.{disabled, exec-disc-off, exec-disc-held-first, exec-disc-held-later, exec-disc-empty}
use Rattle.model.proofs.Effects.Acts.{exec-disc-marked, exec-disc-sender-first, exec-disc-sender-later, unskipped, exec-diss-off}
use Rattle.model.proofs.Effects.Acts.{exec-diss-first, exec-diss-later, exec-altend}
use Rattle.model.proofs.Invariant.Kernel.{Loaded, S, root, node}
use Rattle.model.proofs.Invariant.Grounds.{sound-at}
use Rattle.model.proofs.Invariant.Running.{Only, Did, Executes, executes, Acting}
use Rattle.model.proofs.Invariant.Moving.{relaid}
use Rattle.model.proofs.Invariant.Reals.{real-cpu}
use Rattle.model.proofs.Quiet.PathEnds.{point-in, way-inside}
use Rattle.model.proofs.Invariant.Finish.{silent}
use Rattle.model.proofs.Steps.Quiets.{target}
use Rattle.model.proofs.Steps.Advance.{advances}
use Rattle.model.proofs.Steps.Channels.{HeldAt, held_at, not-held, held-here}
use Rattle.model.proofs.Steps.Enabling.{true-when, false-when, alt-silent, offer-sends, space, w-some, base-mine, state-mine}
use Rattle.model.proofs.Steps.Enabling.{base-state, mine-size, mine-holds, placed, chan-off, chan-size, chan-holds, none-own, Free}
use Rattle.model.proofs.Steps.Enabling.{free-none, free-w, Shows, shown, own-write, chan-write, own-chan, onward, fine-rest}
use Rattle.model.proofs.Steps.Enabling.{ChannelIs, is-empty, is_ours, is-sent, channel-is, unsent, times-room, base-other, link-mine}
use Rattle.model.proofs.Steps.Enabling.{time-mine}
use Rattle.model.proofs.Quiet.Timing.{Times, Timely, t-first, t-later, Linked, Passed, p-unset, p-set, p-linked, passed-same}

-- a guarded channel, or a ready guard, that is not the first guard's is one of the rest
past-guarded : {σ : Store} {e : Expr} {d y z : Site} {g : Stmt} {hs : Guards} → Guarded σ d (guard (input_guard e y z) g hs)
    → (is_true σ e ≡ true → d ≡ y → ⊥) → Guarded σ d hs
past-guarded (g-first h) f = absurd (f h refl)
past-guarded (g-later h) f = h

past_skip : {σ : Store} {e : Expr} {d : Site} {g : Stmt} {hs : Guards} → Guarded σ d (guard (skip_guard e) g hs) → Guarded σ d hs
past_skip (g-later h) = h

pub past-found : {st : State} {μ : Mem} {w : ℕ} {g : Guard} {s : Stmt} {hs : Guards} → AnyFound st μ w (guard g s hs)
    → (Finds st μ w g → ⊥) → AnyFound st μ w hs
past-found (f-first r) f = absurd (f r)
past-found (f-later h) f = h

-- a time of guards whose first has none, or is false, is one of the rest
pub past-timely : {σ : Store} {u : ℕ} (g : Guard) {s : Stmt} {hs : Guards} → ((e t : Expr) → g ≡ time_guard e t → is_true σ e ≡ false)
    → Timely σ u (guard g s hs) → Timely σ u hs
past-timely (time_guard e t) f (t-first z y) = never (cc (z, f e t refl))
past-timely g f (t-later h) = h

pub passed-past : {T : Times} {st : State} {gs : Guards} (g : Guard) {s : Stmt} {hs : Guards} {μ : Mem} {w : ℕ}
    → ((e t : Expr) → g ≡ time_guard e t → is_true st.store e ≡ false) → Passed T st gs (guard g s hs) μ w → Passed T st gs hs μ w
passed-past g f (p-unset z) = p-unset z
passed-past g f (p-set z h) = p-set z h
passed-past g f (p-linked z u m) = p-linked z u (past-timely g f m)

-- no guard is left
unguarded : {σ : Store} {d : Site} → Guarded σ d no_guard → ⊥
unguarded h = elim h [ ]

unfound : {st : State} {μ : Mem} {w : ℕ} → AnyFound st μ w no_guard → ⊥
unfound h = elim h [ ]

untimely : {σ : Store} {u : ℕ} → Timely σ u no_guard → ⊥
untimely h = elim h [ ]

-- a picked branch is not before the first, and begins a statement
picks-behind : {T : Times} {st : State} {k : List Frame} {gs : Guards} {b m : ℕ} {p : Process} → Picks T st k gs b m p → b ≤ m
picks-behind (p-first r) = omega arith
picks-behind (p-later h) = omega (arith, picks-behind h)

picks-begins : {T : Times} {st : State} {k : List Frame} {gs : Guards} {b m : ℕ} {p : Process} → Picks T st k gs b m p → (g : Stmt) ×
    (p ≡ begin g k)
picks-begins (p-first r) = (_, refl)
picks-begins (p-later h) = picks-begins h

-- a process is led on from a place in the code, or from its end
comes-inside : (S : Setting) (a : Part) {σ : Store} {vars chans : List Site} {hi : ℕ} {p : Process} {m w : ℕ}
    → Comes S a σ vars chans hi p m w → m ≤ length S.xs
comes-inside S a {w = w} (comes sk settled sub way) =
    way-inside S (point-in S a) (way (λ v. 0) (record { a = 0; b = 0; c = 0; w = w }) refl)

-- behind ALTWT
module _ (L : Loaded) {s : World} {st : State} {μ : Mem} {t : Tree (S L) (root L) st.process} {path : List ℕ} {b : Part} {i : Info}
    {ws : List ℕ} {at hi : ℕ} {gs : Guards} {k : List Frame} (A : Acting L s st μ t path (at_alt gs k) b i (Only path) ws at hi)
    {hi₀ i₀ : ℕ} (c : AltCode (S L) b gs i.vars i.chans k hi₀ i₀ ((cpu_of s).workspace + 1)) (tied : (cpu_of s).workspace ≡ i.w) where
  -- the guards before hs are disabled, in a memory
  abbrev pub Disabled : Guards → Mem → Type 0
  Disabled hs ν = Disabling (S L) b L.times st i.vars i.chans k gs hs c.choice ν (space s)

  -- the distance to a branch, and which is chosen
  abbrev pub far : ℕ → ℕ
  far m = operand_in L.off (distance ldc m c.choice)

  abbrev pub Chosen : Guards → Mem → Type 0
  Chosen hs ν =
      ((m : ℕ) × (p : Process) × Picks L.times st k gs (c.choice + 1) m p × (ν (space s) ≡ far m))
      ⊎ ((ν (space s) ≡ none_selected) × AnyFound st ν (space s) hs)

  abbrev pub Marks : Guards → Mem → Type 0
  Marks hs ν = Marked (S L) b st i.vars i.chans hs ν (space s)

  -- the ALT's state is Ready
  abbrev pub IsReady : Mem → Type 0
  IsReady ν = ν (state_word (space s)) ≡ ready

  -- channels are as they were
  abbrev pub Kept : Mem → Type 0
  Kept ν = (d : Site) → Memᴰ d i.chans → ν ((S L).word d) ≡ μ ((S L).word d)

  -- what is to be shown of an instruction
  abbrev pub Goal : Instruction → Type 0
  Goal x = Did L (Executes L x s) s st (bytes_left (S L) t)

  -- the words for times are as they were, where there is room for them
  abbrev pub SameTimes : Mem → Type 0
  SameTimes ν =
      b.bottom + 5 ≤ space s
      → (ν (time_link_word (space s)) ≡ μ (time_link_word (space s))) × (ν (time_word (space s)) ≡ μ (time_word (space s)))

  -- what is found stays so then
  pub found-kept : (ν : Mem) → SameTimes ν → (hs : Guards) → FineGuards (S L).word b i.vars i.chans (space s + 1) hs
      → AnyFound st μ (space s) hs → AnyFound st ν (space s) hs
  found-kept ν same no_guard fine m = elim m [ ]
  found-kept ν same (guard g x hs) fine (f-first (finds-present h)) = f-first (finds-present h)
  found-kept ν same (guard (time_guard e u) x hs) fine (f-first (finds-time h y z)) =
      let (f, g) = same (omega (arith, fine.1.2)) in
      f-first (finds-time h (f ∙ y) (ap (λ v. after v (eval st.store u)) g ∙ z))
  found-kept ν same (guard g x hs) fine (f-later h) = f-later (found-kept ν same hs fine.3 h)

  -- and so is what is known of times that are past
  pub times-kept : {ν : Mem} {hs : Guards} → SameTimes ν → (timed gs ≡ true → Passed L.times st gs hs μ (space s)) → timed gs ≡ true
      → Passed L.times st gs hs ν (space s)
  times-kept same h z = let (f, g) = same (times-room L A c z) in passed-same L.times st f g (h z)

  -- the disabling goes on with the rest of the guards
  pub disables-on : {x : Instruction} (hs : Guards) {m : ℕ} → hi₀ ≤ hi → RestOf gs (c.choice + 1) hs m
      → Seg (S L).xs (suc at) (code_disable (S L).word (space s) c.choice m hs) c.choice → (f g h : ℕ) {l : List ℕ} {ν : Mem}
      → Executes L x s (with_cpu (stack f g h (cpu_of s)) (with_memory l s)) → Shows L A c l ν → Disabled hs ν → Goal x
  disables-on hs near past code f g h ran m n =
      onward L A c f g h ran m
      (alt-goes (space s) tied
      (disable-way (S L) b L.times st (space s) c (sound-at L m.rest A.leaf) hs near (fine-rest L A c past) past n code refl))

  -- a branch is chosen
  pub chooses-it : (m : ℕ) → Shows L A c (set s.memory (space s) (far m)) (upd μ (space s) (far m))
  chooses-it m =
      own-write L A c (space s) (far m) (base-mine L A c)
      (λ e. subst (λ v. (time_link_word v ≢ space s) × (time_word v ≢ space s)) tied (base-other L A c)) (shown L A c)

  pub kept-choosing : (m : ℕ) → Kept (upd μ (space s) (far m))
  kept-choosing m = own-chan L A c μ (space s) (far m) (base-mine L A c)

  pub times-choosing : (m : ℕ) → SameTimes (upd μ (space s) (far m))
  times-choosing m room = (
    upd_other μ (space s) (far m) (time_link_word (space s)) (base-other L A c).0,
    upd_other μ (space s) (far m) (time_word (space s)) (base-other L A c).1,
  )

  pub ready-choosing : (m : ℕ) → IsReady μ → IsReady (upd μ (space s) (far m))
  ready-choosing m h = upd_other μ (space s) (far m) (state_word (space s)) (λ e. base-state L A c (sym e)) ∙ h

  pub same-μ : SameTimes μ
  same-μ room = (refl, refl)

  -- DISC of a guard
  module _ (e : Expr) (y z : Site) (g : Stmt) (hs : Guards) {m : ℕ} (near : hi₀ ≤ hi)
      (past : RestOf gs (c.choice + 1) (guard (input_guard e y z) g hs) m) (n : Disabled (guard (input_guard e y z) g hs) μ)
      (branch : (cpu_of s).a ≡ far m) (val : (cpu_of s).b ≡ eval st.store e) (chan : (cpu_of s).c ≡ (S L).word y)
      (code : Seg (S L).xs (suc at) (code_disable (S L).word (space s) c.choice (next_branch m (input_guard e y z) g) hs)
      c.choice) where
    mine : Memᴰ y i.chans
    mine = (fine-rest L A c past).1.1

    inputs : Memᴰ y b.inputs
    inputs = (fine-rest L A c past).1.2

    -- a memory in which the channel's word is emptied
    abbrev emptied : Mem → Mem
    emptied ν = upd ν ((S L).word y) not_process

    -- the marks of the rest, where this guard's is gone
    marks-past : (ν : Mem)
        → ((d : Site) → Memᴰ d i.chans → Own b (ν ((S L).word d))
        → (ν ((S L).word d) ≡ μ ((S L).word d)) × (is_true st.store e ≡ true → d ≡ y → ⊥))
        → Marks hs ν
    marks-past ν f d l o =
        let (same, other) = f d l o in
        let (own, h) = n.marks d l (subst (Own b) same o) in
        (same ∙ own, past-guarded h other)

    marks-kept : (ν : Mem) → Kept ν → (is_true st.store e ≡ true → Own b (μ ((S L).word y)) → ⊥) → Marks hs ν
    marks-kept ν same no_own =
        marks-past ν
        (λ d l o. (same d l, (λ h f. no_own h (subst (λ v. Own b (μ ((S L).word v))) f (subst (Own b) (same d l) o)))))

    marks-gone : (ν : Mem) → Kept ν → Marks hs (emptied ν)
    marks-gone ν same = marks-past (emptied ν) (λ d l o. by d l o (ℕ_discrete ((S L).word d) ((S L).word y)))
      where
        by : (d : Site) → Memᴰ d i.chans → Own b (emptied ν ((S L).word d)) → Dec ((S L).word d ≡ (S L).word y)
            → (emptied ν ((S L).word d) ≡ μ ((S L).word d)) × (is_true st.store e ≡ true → d ≡ y → ⊥)
        by d l o (yes f) = absurd (none-own L A c (ap (emptied ν) f ∙ upd_same ν ((S L).word y) not_process) o)
        by d l o (no f) = (upd_other ν ((S L).word y) not_process ((S L).word d) f ∙ same d l, (λ h j. f (ap (S L).word j)))

    -- this guard was not ready; one was chosen before; this guard is chosen
    chosen-past : (ν : Mem) → ν (space s) ≡ μ (space s) → SameTimes ν → (is_true st.store e ≡ true → Sender st y → ⊥) → Chosen hs ν
    chosen-past ν same times f =
        ⊎_elim (λ h. let (l, p, q, d) = h in inl (l, p, q, same ∙ d))
        (λ h. inr (
          same ∙ h.0,
          found-kept ν times hs (fine-rest L A c (rest-past past))
              (past-found h.1 (λ r. elim r [ finds-present (here-sent e s) ↦ f e s ])),
        )) n.chosen

    chosen-before : (ν : Mem) → ν (space s) ≡ μ (space s) → μ (space s) ≢ none_selected → Chosen hs ν
    chosen-before ν same f = ⊎_elim (λ h. let (l, p, q, d) = h in inl (l, p, q, same ∙ d)) (λ h. absurd (f h.0)) n.chosen

    chosen-now : (ν : Mem) → ν (space s) ≡ far m → is_true st.store e ≡ true → Sender st y → Chosen hs ν
    chosen-now ν f h sd = inl (m, _, rest-picks past (p-first (λ o. by-input h sd)), f)

    -- a channel's word is not the one for the choice
    base-off : (ν : Mem) → emptied ν (space s) ≡ ν (space s)
    base-off ν = upd_other ν ((S L).word y) not_process (space s) (λ f. chan-off L A c (base-mine L A c) y mine (sym f))

    -- nor one for times
    times-off : (ν : Mem) → SameTimes ν → SameTimes (emptied ν)
    times-off ν same room =
        let (f, g) = same room in (
          upd_other ν ((S L).word y) not_process (time_link_word (space s)) (λ f. chan-off L A c (link-mine L A c room) y mine (sym f)) ∙ f,
          upd_other ν ((S L).word y) not_process (time_word (space s)) (λ f. chan-off L A c (time-mine L A c room) y mine (sym f)) ∙ g,
        )

    -- nor the state word
    state-off : (ν : Mem) → IsReady ν → IsReady (emptied ν)
    state-off ν h =
        upd_other ν ((S L).word y) not_process (state_word (space s)) (λ f. chan-off L A c (state-mine L A c) y mine (sym f)) ∙ h

    -- on to the next guard
    disc-on : (a : ℕ) {l : List ℕ} (ν : Mem) → Executes L (operation I.disc) s (disabled a (with_memory l s)) → Shows L A c l ν → Marks hs ν
        → IsReady ν → SameTimes ν → Chosen hs ν → Goal (operation I.disc)
    disc-on a ν ran m marks state same chosen =
        disables-on hs near (rest-past past) code a (cpu_of s).b (cpu_of s).c ran m
        (record {
          marks = marks;
          state = state;
          chosen = chosen;
          times = times-kept same (λ h. passed-past (input_guard e y z) (λ e t f. never (cc)) (n.times h));
          known = n.known;
        })

    disc-off : (cpu_of s).b ≡ 0 → Goal (operation I.disc)
    unfolding function_in operand_in
    disc-off f =
        let off = false-when st.store e (cpu_of s).b val f in
        disc-on 0 μ (executes (exec-disc-off s f)) (shown L A c) (marks-kept μ (λ d l. refl) (λ h. never (cc (h, off)))) n.state
        same-μ (chosen-past μ refl same-μ (λ h. never (cc (h, off))))

    module _ (on : (cpu_of s).b ≢ 0) where
      is-on : is_true st.store e ≡ true
      is-on = true-when st.store e (cpu_of s).b val on

      -- the channel's word is emptied
      clears : {l : List ℕ} {ν : Mem} → Kept ν → Free L A c (μ ((S L).word y)) → Shows L A c l ν
          → Shows L A c (set l ((S L).word y) not_process) (emptied ν)
      clears same free m =
          chan-write L A c y not_process mine (λ other r d j l o x. free other r d j l o (subst (Own d) (same y mine) x)) (inl refl) m

      -- a held offer
      module _ (held : is_held ((S L).word y) s.machine ≡ true) (sd : Sender st y) (free : Free L A c (μ ((S L).word y))) where
        disc-held : Dec (μ (space s) ≡ none_selected) → Goal (operation I.disc)
        unfolding function_in operand_in
        disc-held (yes f) =
            let ν = upd μ (space s) (far m) in
            disc-on 1 (emptied ν)
            (executes
            (exec-disc-held-first ((S L).word y) (far m) (space s) s branch on chan refl held (chan-size L A c y mine)
            (mine-size L A c (base-mine L A c)) (mine-holds L A c (base-mine L A c) f)))
            (clears (kept-choosing m) free (chooses-it m)) (marks-gone ν (kept-choosing m)) (state-off ν (ready-choosing m n.state))
            (times-off ν (times-choosing m)) (chosen-now (emptied ν) (base-off ν ∙ upd_same μ (space s) (far m)) is-on sd)
        disc-held (no f) =
            disc-on 0 (emptied μ)
            (executes
            (exec-disc-held-later ((S L).word y) (space s) (μ (space s)) s on chan refl held (chan-size L A c y mine)
            (mine-size L A c (base-mine L A c)) (mine-holds L A c (base-mine L A c) refl) f))
            (clears (λ d l. refl) free (shown L A c)) (marks-gone μ (λ d l. refl)) (state-off μ n.state)
            (times-off μ same-μ) (chosen-before (emptied μ) (base-off μ) f)

      -- a sender, and no held offer
      module _ (held : is_held ((S L).word y) s.machine ≡ false) where
        disc-sent : μ ((S L).word y) ≢ not_process → μ ((S L).word y) ≢ name_of (space s) → (Own b (μ ((S L).word y)) → ⊥) → Sender st y
            → Dec (μ (space s) ≡ none_selected) → Goal (operation I.disc)
        unfolding function_in operand_in
        disc-sent some-name not-w no_own sd (yes f) =
            let ν = upd μ (space s) (far m) in
            disc-on 1 ν
            (executes
            (exec-disc-sender-first ((S L).word y) (far m) (space s) (μ ((S L).word y)) s branch on chan refl held (chan-size L A c y mine)
            (chan-holds L A c y mine refl) some-name not-w (mine-size L A c (base-mine L A c)) (mine-holds L A c (base-mine L A c) f)))
            (chooses-it m) (marks-kept ν (kept-choosing m) (λ x. no_own)) (ready-choosing m n.state)
            (times-choosing m) (chosen-now ν (upd_same μ (space s) (far m)) is-on sd)
        disc-sent some-name not-w no_own sd (no f) =
            disc-on 0 μ
            (executes
            (exec-disc-sender-later ((S L).word y) (space s) (μ ((S L).word y)) (μ (space s)) s on chan refl held (chan-size L A c y mine)
            (chan-holds L A c y mine refl) some-name not-w (mine-size L A c (base-mine L A c)) (mine-holds L A c (base-mine L A c) refl) f))
            (shown L A c) (marks-kept μ (λ d l. refl) (λ x. no_own)) n.state same-μ (chosen-before μ refl f)

        -- by what the channel's word holds
        disc-free : ((l : ℕ) → y ≡ input_of l → st.offers l ≡ none) → Dec (μ (space s) ≡ none_selected) → ChannelIs L A c y
            → Goal (operation I.disc)
        unfolding function_in operand_in
        disc-free no-offer d (is-empty f) =
            disc-on 0 μ
            (executes (exec-disc-empty ((S L).word y) s on chan held (chan-size L A c y mine) (chan-holds L A c y mine f)))
            (shown L A c) (marks-kept μ (λ d l. refl) (λ h. none-own L A c f)) n.state
            same-μ (chosen-past μ refl same-μ (λ h. unsent L A c y mine inputs alt-silent no-offer (inl f)))
        disc-free no-offer d (is_ours f) =
            disc-on 0 (emptied μ)
            (executes
            (exec-disc-marked ((S L).word y) (space s) s on chan refl held (chan-size L A c y mine) (chan-holds L A c y mine f)
            (w-some L A c)))
            (clears (λ d l. refl) (free-w L A c f) (shown L A c)) (marks-gone μ (λ d l. refl)) (state-off μ n.state)
            (times-off μ same-μ) (chosen-past (emptied μ) (base-off μ) (times-off μ same-μ)
            (λ h. unsent L A c y mine inputs alt-silent no-offer (inr f)))
        disc-free no-offer d (is-sent f h o sd out) = disc-sent f h o sd d

    -- no process outputs to an outside input, so none but this one is at it
    module _ (one_way : (l : ℕ) → Memᴰ (input_of l) (root L).outputs → ⊥) where
      nobody-there : {l : ℕ} → y ≡ input_of l → ChannelIs L A c y → Free L A c (μ ((S L).word y))
      nobody-there f (is-empty h) = free-none L A c h
      nobody-there f (is_ours h) = free-w L A c h
      nobody-there {l} f (is-sent h q p sd out) = absurd (one_way l (subst (λ v. Memᴰ v (root L).outputs) f out))

      disc-true : (cpu_of s).b ≢ 0 → HeldAt L s st y → ChannelIs L A c y → Dec (μ (space s) ≡ none_selected) → Goal (operation I.disc)
      disc-true on (held_at l v lt f wd h small q o) is d = disc-held on h (offer-sends f o) (nobody-there f is) d
      disc-true on (not-held h no-offer) is d = disc-free on h no-offer d is

      pub does-disc : Goal (operation I.disc)
      does-disc = by (ℕ_discrete (cpu_of s).b 0)
        where
          by : Dec ((cpu_of s).b ≡ 0) → Goal (operation I.disc)
          by (yes f) = disc-off f
          by (no f) =
              disc-true f (held-here L A.real (node L A.leaf) y mine) (channel-is L A c y mine inputs (λ o. (n.marks y mine o).0))
              (ℕ_discrete (μ (space s)) none_selected)

  -- DISS of a guard
  module _ (e : Expr) (g : Stmt) (hs : Guards) {m : ℕ} (near : hi₀ ≤ hi) (past : RestOf gs (c.choice + 1) (guard (skip_guard e) g hs) m)
      (n : Disabled (guard (skip_guard e) g hs) μ) (branch : (cpu_of s).a ≡ far m) (val : (cpu_of s).b ≡ eval st.store e)
      (code : Seg (S L).xs (suc at) (code_disable (S L).word (space s) c.choice (next_branch m (skip_guard e) g) hs) c.choice) where
    -- the marks are those of the rest
    skip-marks : (ν : Mem) → Kept ν → Marks hs ν
    skip-marks ν same d l o =
        let (own, h) = n.marks d l (subst (Own b) (same d l) o) in (same d l ∙ own, past_skip h)

    -- on to the next guard
    diss-on : (a : ℕ) {l : List ℕ} (ν : Mem) → Executes L (operation I.diss) s (unskipped a (with_memory l s)) → Shows L A c l ν → Kept ν
        → IsReady ν → SameTimes ν → Chosen hs ν → Goal (operation I.diss)
    diss-on a ν ran m same state times chosen =
        disables-on hs near (rest-past past) code a (cpu_of s).c (cpu_of s).c ran m
        (record {
          marks = skip-marks ν same;
          state = state;
          chosen = chosen;
          times = times-kept times (λ h. passed-past (skip_guard e) (λ e t f. never (cc)) (n.times h));
          known = n.known;
        })

    diss-off : (cpu_of s).b ≡ 0 → Goal (operation I.diss)
    unfolding function_in operand_in
    diss-off f =
        let off = false-when st.store e (cpu_of s).b val f in
        diss-on 0 μ (executes (exec-diss-off s f)) (shown L A c) (λ d l. refl) n.state same-μ
        (⊎_elim (λ h. inl h) (λ h. inr (h.0, past-found h.1 (λ r. elim r [ finds-present (is-skip x) ↦ never (cc (x, off)) ])))
        n.chosen)

    diss-true : (cpu_of s).b ≢ 0 → Dec (μ (space s) ≡ none_selected) → Goal (operation I.diss)
    unfolding function_in operand_in
    diss-true on (yes f) =
        diss-on 1 (upd μ (space s) (far m))
        (executes
        (exec-diss-first (far m) (space s) s branch on refl (mine-size L A c (base-mine L A c)) (mine-holds L A c (base-mine L A c) f)))
        (chooses-it m) (kept-choosing m) (ready-choosing m n.state) (times-choosing m)
        (inl (m, _, rest-picks past (p-first (λ o. by-skip (true-when st.store e (cpu_of s).b val on))), upd_same μ (space s) (far m)))
    diss-true on (no f) =
        diss-on 0 μ
        (executes
        (exec-diss-later (space s) (μ (space s)) s on refl (mine-size L A c (base-mine L A c)) (mine-holds L A c (base-mine L A c) refl) f))
        (shown L A c) (λ d l. refl) n.state same-μ (⊎_elim (λ h. inl h) (λ h. absurd (f h.0)) n.chosen)

    pub does-diss : Goal (operation I.diss)
    does-diss = by (ℕ_discrete (cpu_of s).b 0)
      where
        by : Dec ((cpu_of s).b ≡ 0) → Goal (operation I.diss)
        by (yes f) = diss-off f
        by (no f) = diss-true f (ℕ_discrete (μ (space s)) none_selected)

  -- ALTEND: the process goes on in the chosen branch, where what is chosen is ready by what is known of times
  module _ (here : at ≡ c.choice) {T : Times} (sure : T.sure)
      (n : Disabling (S L) b T st i.vars i.chans k gs no_guard c.choice μ (space s)) where
    clean : Unmarked (S L) b i st μ
    clean d l o = unguarded (n.marks d l o).1

    -- it is not in the timer queue
    pub unlinked : timed gs ≡ true → Linked μ i.w → ⊥
    unlinked z l = by (subst (Linked μ) (sym tied) l) (n.times z)
      where
        by : Linked μ (space s) → Passed T st gs no_guard μ (space s) → ⊥
        by (a, d) (p-unset e) = d e
        by (a, d) (p-set e h) = a e
        by l (p-linked e u m) = untimely m

    module _ {m : ℕ} {p : Process} (pick : Picks T st k gs (c.choice + 1) m p) (word : μ (space s) ≡ far m) where
      led : Comes (S L) b st.store i.vars i.chans hi₀ p m (space s)
      led = branch-comes (S L) b T st (space s) c (sound-at L A.rest A.leaf) pick

      inner : m ≤ length (S L).xs
      inner = comes-inside (S L) b led

      abbrev there : World
      there = with_cpu (goto (low (L.off (suc at) + far m)) (cpu_of s)) s

      did-altend : Executes L (operation I.altend) s there
      unfolding function_in operand_in
      did-altend =
          executes
          (exec-altend (space s) (L.off (suc at)) (far m) s refl A.placed (mine-size L A c (base-mine L A c))
          (mine-holds L A c (base-mine L A c) word))

      -- the distance leads to the branch
      reaches : (cpu_of there).place ≡ L.off m
      unfolding operand_in
      reaches =
          ap (λ z. low (L.off (suc at) + less (L.off m) (L.off (suc z)))) (sym here)
          ∙ ap (λ z. low (z + less (L.off m) (L.off (suc at)))) (sym A.placed)
          ∙ target L A m inner

      soon : hi₀ ≤ whole (S L) + L.off m
      soon = omega (arith, c.near, rises-le (S L) i₀ m (omega (arith, c.choice-is, picks-behind pick)) inner)

      altend-goes : Goal (operation I.altend)
      altend-goes =
          let (g, f) = picks-begins pick in
          advances L (real-cpu L (cpu_of there) refl refl refl A.real) A.leaf A.rest A.lined clean alt-silent unlinked p
          (subst Leaf (sym f) (leaf-begin g k)) (relaid (space s) (whole (S L)) i) (placed L A c) (omega arith)
          (A.rest.vars (node L A.leaf)) (A.rest.chans (node L A.leaf))
          (subst (λ z. Within (live_in (frames_of z)) i.vars) (sym f) (live-begin g k i.vars (A.rest.live A.leaf)))
          (λ d v l e. silent-begin g k (sym f ∙ e)) (ap is_alt f ∙ off-begin g k)
          (chooses path A.leaf.found (picks-choice sure pick)) did-altend (silent L s there refl)
          (record { run = A.run; operand = A.operand; place = reaches; work = refl; inside = inner }) led clean soon

    pub does-altend : Goal (operation I.altend)
    does-altend = ⊎_elim (λ h. let (m, p, pick, word) = h in altend-goes pick word) (λ h. absurd (unfound h.1)) n.chosen
