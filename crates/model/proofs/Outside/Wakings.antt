-- The outside wakes a process that waited: it joins the queue, or gets the processor at once where that is free.
use Prim.Native.Nat.{ℕ, zero, suc, ◌≤◌, ◌<◌}
use native.Mathlib.Omega.{arith}
use native.Mathlib.Decide.{ℕ_discrete}
use mathlib.Core.Path.{◌≡◌, refl, sym, ap, ◌∙◌, subst}
use mathlib.Core.Logic.{◌≢◌, ◌⊎◌, inl, inr, ⊎_elim}
use mathlib.Core.Bool.{true, false}
use mathlib.Core.List.Memᴰ
use mathlib.Core.List.{List, [], ◌∷◌, ◌++◌, map, append-nil, Memᴰ}
use mathlib.Core.Option.{Option, some}
use lib.ListN.{length}
use Rattle.model.specs.Word.{not_process}
use Rattle.model.specs.Syntax.{Site, input_of, output_of, Stmts}
use Rattle.model.specs.Reader.{numbered}
use Rattle.model.specs.Usage.{same}
use Rattle.model.specs.Machine.{Talk, World, done, return, test_place, join, resume_word, name_of, talks}
use Rattle.model.specs.Run.{land}
use Rattle.model.specs.Occam.{store, Frame, Process, Branches, at_output, frames_of, put, resume, State, Sender, Communication}
use Rattle.model.specs.Occam.{over-channel, Event, now}
use Rattle.model.specs.Demand.{Segment, live_in, talk_of}
use Rattle.model.proofs.Cases.{never, by_bool}
use Rattle.model.proofs.Tables.Sites.{same-eq}
use Rattle.model.proofs.Quiet.Ways.{upd_same, upd_other, upd, Mem}
use Rattle.model.proofs.Quiet.Setting.{Setting}
use Rattle.model.proofs.Quiet.CodeParts.{inside, rises-le}
use Rattle.model.proofs.Occam.Paths.{Leaf, leaf-resume, live-resume, silent-resume, is_alt, off-resume}
use Rattle.model.proofs.Words.Parts as Parts
use Rattle.model.proofs.Words.Parts.{Part, Target}
use Rattle.model.proofs.Quiet.Marks.{Own}
use Rattle.model.proofs.Quiet.Timing.{onto_same}
use Rattle.model.proofs.Invariant.Trees.{some_same, Label, alone, Info, Sits, Tree, t-leaf, t-par, Forest, f-none, f-live, f-over}
use Rattle.model.proofs.Invariant.Trees.{label_at, label_in, part-inside, bytes_left, leaf-bytes}
use Rattle.model.proofs.Invariant.Zones.{zone_of, Distant}
use Rattle.model.proofs.Invariant.Leaves.{Unmarked, Waits, Held}
use Rattle.model.proofs.Invariant.Stays.{Intact, intact-trans}
use Rattle.model.proofs.Effects.OneWord.{cpu_of}
use Rattle.model.proofs.Effects.Acts.{when_true, when_false, test_place-in}
use Rattle.model.proofs.Effects.Queues.{joined, released, join-queue, join-queue-free, free-queue}
use Rattle.model.proofs.Invariant.Kernel.{Loaded, S, root, size, LeafAt, Owned, Rest, Lined, Real, node, part_small, sits-at}
use Rattle.model.proofs.Invariant.Writes.{changed, state_with, apart-zones, apart_parts, sender-stored, sender-kept}
use Rattle.model.proofs.Invariant.Puts.{putting, tree_then, here-then, other-then, lined_then, rest_then, moved, sender-then}
use Rattle.model.proofs.Invariant.Puts.{sender-before}
use Rattle.model.proofs.Invariant.Grounds.{chan-in, small_size, sound-at, code-end}
use Rattle.model.proofs.Words.FineParts.{outside_names}
use Rattle.model.proofs.Invariant.Traces.{Trace, t-none, trace-then}
use Rattle.model.proofs.Invariant.Running.{Only, Here, within, at-end, off_small, Now, now-goes, now-alt, Inv, runs, starts, idle}
use Rattle.model.proofs.Invariant.Moving.{rest_out, lined-in}
use Rattle.model.proofs.Invariant.Reals.{size_is, mirrored, real-state, real-queue, real-talk}
use Rattle.model.proofs.Invariant.Scheduling.{got, Given, gets, linked_to, wakes}
use Rattle.model.proofs.Steps.Meets.{resumed}
use Rattle.model.proofs.Steps.Advance.{Silent}
use Rattle.model.specs.declared.Setup.{Setup}
pub use Rattle.model.proofs.Outside.Bystanders.{intact-refl}
use Rattle.model.proofs.Outside.Bystanders.{SameRegs, now-stays, starts-stays, Keeps, Free, Ground, part-high}

-- one process more is left out
abbrev pub With : (List ℕ → Type 0) → List ℕ → List ℕ → Type 0
With Out other here = Out here ⊎ (other ≡ here)

module _ (L : Loaded) where
  -- what an offer or a take comes to
  pub data Answers (did : World → Type 0) (s : World) (st : State) (e : Event) (n : ℕ) : Type 0 where
    answers : (u : World) {st' : State} {m : ℕ} {cs : List Communication} (g : Segment) → did u → Trace st g st' cs (e ∷ [])
        → u.talk ≡ s.talk ++ map (talk_of L.prog) cs → Inv L u st' m → m ≤ n → Answers did s st e n

  -- a process that is on its way stands in the code, or at its end
  here-inside : {at place operand : ℕ} → Here L at place operand → place ≤ length L.code
  here-inside {at} (within {x} f g) =
      omega (arith, g.upto, rises-le (S L) (suc at) (length (S L).xs) (inside (S L) f) (omega arith), code-end L)
  here-inside {at} (at-end e f) = omega (arith, off_small L at (omega arith))

  lands : (s : World) → ((cpu_of s).running ≡ true → (cpu_of s).place ≤ s.machine.setup.code) → land s ≡ done tt s
  unfolding land
  lands s h =
      by_bool (cpu_of s).running
      (λ e. when_true (cpu_of s).running (test_place (cpu_of s).place) (return tt) s e (test_place-in (cpu_of s).place s (h e)))
      (λ e. when_false (cpu_of s).running (test_place (cpu_of s).place) (return tt) s e refl)

  -- so the place where the processor goes passes the test
  pub inv-lands : {s : World} {st : State} {n : ℕ} → Inv L s st n → land s ≡ done tt s
  inv-lands {s} (runs real run leaf rest lines now) =
      lands s (λ e. omega (arith, now-inside now, ap (λ (z : Setup). z.code) real.setup-kept))
    where
      now-inside : {st : State} {μ : Mem} {b : Part} {i : Info} {q : Process} → Now L s st μ b i q → (cpu_of s).place ≤ length L.code
      now-inside (now-goes h way settled clean soon) = here-inside h
      now-inside (now-alt h way soon) = here-inside h
  inv-lands {s} (starts B real run leaf rest lines now) =
      lands s (λ e. omega (arith, here-inside now.here, ap (λ (z : Setup). z.code) real.setup-kept))
  inv-lands {s} (idle real stop operand rest) = lands s (λ e. never (cc (e, stop)))

  -- a communication is of no process
  pub inv-talk : {s : World} {st : State} {n : ℕ} (l : List Talk) → Inv L s st n
      → Inv L (record { machine = s.machine; memory = s.memory; talk = l }) st n
  inv-talk {s} l inv = by inv
    where
      same : SameRegs L (record { machine = s.machine; memory = s.memory; talk = l }) s
      same = record { run = refl; place = refl; operand = refl; regs = refl }

      by : {st : State} {n : ℕ} → Inv L s st n → Inv L (record { machine = s.machine; memory = s.memory; talk = l }) st n
      by (runs real run leaf rest lines now) =
          runs (real-talk L l real) run leaf rest lines
          (now-stays L same (part-high L leaf) (sits-at L leaf) (λ w. onto_same refl) (intact-refl L) now)
      by (starts B real run leaf rest lines now) =
          starts B (real-talk L l real) run leaf rest lines (starts-stays L same leaf (λ path q b i k o. (k, intact-refl L)) now)
      by (idle real stop operand rest) = idle (real-talk L l real) stop operand rest

  -- what one process does leaves another alone
  module _ {st : State} {t : Tree (S L) (root L) st.process} {other here : List ℕ} {r q : Process} {d b : Part} {j i : Info}
      (writer : LeafAt L st t other r d j) (stander : LeafAt L st t here q b i) (off : other ≢ here) (μ : Mem) where
    zones : Distant (S L) (zone_of (alone d j)) (zone_of (alone b i))
    zones = apart-zones L off (node L writer) (node L stander)

    -- a variable of its own
    pub intact-var : (x : Site) (z : ℕ) → Target d j.vars x
        → Intact (S L) b i b.top st (changed (store x z st.store) st.offers st) μ (upd μ ((S L).word x) z)
    intact-var x z target =
        record {
          own = λ a lo hi u. upd_other μ ((S L).word x) z a (λ e. zones.vars-out x target.0 (omega (arith, e), omega (arith, e)));
          reads = λ y m g.
              by_bool (same y x)
              (λ e. absurd ((apart_parts L writer stander off).left x target.1 (subst (λ u. Memᴰ u b.reads) (same-eq y x e) g)))
              (λ e. rw e);
          chans = λ c m. inl (upd_other μ ((S L).word x) z ((S L).word c) (λ e. zones.cross x c target.0 m (sym e)));
          sends = λ c m s. sender-stored L s;
          none-sends = λ c m g o s. sender-kept L s;
        }

    -- a channel's word that holds no name of the other
    pub intact-chan : (c : Site) (z : ℕ) → Memᴰ c j.chans → (Own b (μ ((S L).word c)) → ⊥) → (Own b z → ⊥)
        → Intact (S L) b i b.top st st μ (upd μ ((S L).word c) z)
    intact-chan c z mine old new =
        record {
          own = λ a lo hi u. upd_other μ ((S L).word c) z a (λ e. zones.chans-out c mine (omega (arith, e), omega (arith, e)));
          reads = λ y m g. refl;
          chans = λ a m. by a (ℕ_discrete ((S L).word a) ((S L).word c));
          sends = λ c m s. s;
          none-sends = λ c m g o s. s;
        }
      where
        ν : Mem
        ν = upd μ ((S L).word c) z

        by : (a : Site) → Dec ((S L).word a ≡ (S L).word c)
            → (ν ((S L).word a) ≡ μ ((S L).word a)) ⊎ ((Own b (μ ((S L).word a)) → ⊥) × (Own b (ν ((S L).word a)) → ⊥))
        by a (yes e) =
            inr ((λ o. old (subst (λ w. Own b (μ w)) e o)), (λ o. new (subst (Own b) (ap ν e ∙ upd_same μ ((S L).word c) z) o)))
        by a (no e) = inl (upd_other μ ((S L).word c) z ((S L).word a) e)

    -- a word of its own
    pub intact-own : (v z : ℕ) → d.bottom ≤ v → v < d.top → Intact (S L) b i b.top st st μ (upd μ v z)
    intact-own v z low high =
        record {
          own = λ a lo hi u. upd_other μ v z a (λ e. zones.words a (omega (arith, e), omega (arith, e)) (lo, hi));
          reads = λ y m g. refl;
          chans = λ a m. inl (upd_other μ v z ((S L).word a) (λ e. zones.chans-in a m (omega (arith, e), omega (arith, e))));
          sends = λ c m s. s;
          none-sends = λ c m g o s. s;
        }

    -- it goes on as a process that sends nothing
    pub intact-put : (p : Process) (l : Leaf p) (i' : Info) (sits : Sits (S L) d i') → Silent p
        → ((c : Site) (v : ℕ) (k : List Frame) → r ≡ at_output c v k → Memᴰ c b.inputs → ⊥)
        → Intact (S L) b i b.top st (putting other p st) μ μ
    intact-put p l i' sits quiet lost =
        record {
          own = λ a lo hi u. refl;
          reads = λ y m g. refl;
          chans = λ a m. inl refl;
          sends = λ c m s. sender-then L writer p l i' sits c (λ v k e. lost c v k e m) s;
          none-sends = λ c m g o s. sender-before L writer p l i' sits c (λ v k e. quiet c v k e) s;
        }

  -- other offers, and another clock
  pub intact-offers : {b : Part} {i : Info} {skip : ℕ} {st : State} {μ : Mem} {k : Option ℕ} (o : ℕ → Option ℕ)
      → ((c : Site) → Memᴰ c b.inputs → Sender st c → Sender (state_with st.store o k st) c)
      → ((c : Site) → Memᴰ c i.chans → Memᴰ c b.inputs → Own b (μ ((S L).word c))
      → Sender (state_with st.store o k st) c → Sender st c)
      → Intact (S L) b i skip st (state_with st.store o k st) μ μ
  intact-offers o more fewer =
      record { own = λ a lo hi d. refl; reads = λ x m g. refl; chans = λ d m. inl refl; sends = more; none-sends = fewer }

  -- a process has joined the queue, or has the processor
  pub data Joins (w : ℕ) (s : World) (st : State) (n : ℕ) : Type 0 where
    joins : (u : World) {st' : State} (g : Segment) → join (name_of w) s ≡ done tt u → u.talk ≡ s.talk → Trace st g st' [] []
        → Inv L u st' n → Joins w s st n

  -- where it can go on
  module _ {s₀ : World} {st₀ : State} {μ₀ : Mem} {t₀ : Tree (S L) (root L) st₀.process} {Out : List ℕ → Type 0} {ws : List ℕ}
      (G : Ground L s₀ st₀ μ₀ t₀ Out ws) {s : World} {st : State} {μ : Mem} {t : Tree (S L) (root L) st.process}
      (same_Regs : SameRegs L s s₀) (same-clock : now st ≡ now st₀)
      {other : List ℕ} {r : Process} {d : Part} {j : Info} (real : Real L s st μ ws) (rest : Rest L st μ t (With Out other) ws)
      (lines : Lined L st t (With Out other) ws) (leaf : LeafAt L st t other r d j) (strange : Out other → ⊥)
      (keeps : Keeps L st₀ st μ₀ μ t₀ t Out) where
    joins-back : (cpu_of s₀).running ≡ true → Held (S L) L.times d j st μ true r → Joins j.w s st (bytes_left (S L) t)
    joins-back run held =
        let woken = wakes L {Out' = Out} real rest lines leaf (inr refl) held (λ here n o. ⊎_elim (λ x. x) (λ e. absurd (n e)) o)
        (λ here o. inl o) strange in
        joins (joined j.w ws s) [] (join-queue j.w s (same_Regs.run ∙ run) woken.enqueued) refl t-none
        (G.stays (joined j.w ws s) st (linked_to L j.w ws μ) t (ws ++ j.w ∷ [])
        (record { run = same_Regs.run; place = same_Regs.place; operand = same_Regs.operand; regs = same_Regs.regs }) same-clock
        (λ path q b i k o. let (k', intact) = keeps path q b i k o in (k', intact-trans intact (woken.intact k' o)))
        (λ e. never (cc (e, run))) woken.real woken.rest woken.lines)

    module _ (F : Free L s₀ Out ws) where
      abbrev taken : World
      taken = released j.w [] s

      low : resume_word j.w < size L
      low = let p = (sits-at L leaf).placed in omega (arith, p.room, p.low, part_small L leaf, small_size L)

      join_is : join (name_of j.w) s ≡ done tt taken
      join_is = join-queue-free j.w s (same_Regs.run ∙ F.stopped) (rw (size_is L real) low)

      only : (here : List ℕ) → With Out other here → Only other here
      only here o = ⊎_elim (λ o. absurd (F.nobody here o)) (λ e. e) o

      free_real : Real L taken st μ []
      free_real = real-queue L (cpu_of taken) (free-queue j.w s) real

      free-rest : Rest L st μ t (Only other) []
      free-rest = subst (λ l. Rest L st μ t (Only other) l) F.unqueued (rest_out L only (λ here tm k b i l n e. n (inr e)) rest)

      free-lines : Lined L st t (Only other) []
      free-lines = subst (λ l. Lined L st t (Only other) l) F.unqueued (lined-in L (λ here e. inr e) lines)

      -- it gets the processor
      joins-free : Held (S L) L.times d j st μ true r → Joins j.w s st (bytes_left (S L) t)
      joins-free held =
          let given : Given L taken μ j.w = record {
            run = refl;
            operand = same_Regs.operand ∙ F.operand;
            place = mirrored L real (resume_word j.w) low refl;
            work = refl;
          } in
          elim (gets L given free_real free-rest free-lines leaf held) [ got g ms inv ↦ joins taken g join_is refl ms inv ]

    pub goes_on_lem : Held (S L) L.times d j st μ true r → Joins j.w s st (bytes_left (S L) t)
    goes_on_lem held = ⊎_elim (λ run. joins-back run held) (λ F. joins-free F held) G.free

    -- it waited at a channel, whose word is another now: it goes on behind its input or output
    module _ {st₁ : State} {μ₁ : Mem} {c : Site} {k : List Frame} {at hi m : ℕ} (waits : Waits (S L) d j st₁ μ₁ c k at hi m)
        (kept : μ (resume_word j.w) ≡ μ₁ (resume_word j.w)) (frames : frames_of r ≡ k) (plain : is_alt r ≡ false)
        (clean : Unmarked (S L) d j st μ)
        (lost : (a : Site) (v : ℕ) (l : List Frame) → r ≡ at_output a v l → (here : List ℕ) (p : Process) (e : Part) (n : Info)
        → LeafAt L st t here p e n → Memᴰ a e.inputs → ⊥) where
      abbrev tree : Tree (S L) (root L) (put other (resume k) st.process)
      tree = tree_then L leaf (resume k) (leaf-resume k) j (sits-at L leaf)

      waited-rest : Rest L (putting other (resume k) st) μ tree (With Out other) ws
      waited-rest =
          rest_then L leaf (resume k) (leaf-resume k) j (sits-at L leaf) rest (inr refl) (rest.vars (node L leaf))
          (rest.chans (node L leaf))
          (live-resume k j.vars (λ x m. rest.live leaf x (subst (λ z. Memᴰ x (live_in z)) (sym frames) m))) (λ a m o. m)
          (λ a v l e here p q n y z m. lost a v l e here p q n y m) (λ a v l e here p q n y z m g o. silent-resume k e)
          (λ e. never (cc (e, plain))) (λ e. never (cc (e, off-resume k)))

      waited-leaf : LeafAt L (putting other (resume k) st) tree other (resume k) d j
      waited-leaf = here-then L leaf (resume k) (leaf-resume k) j (sits-at L leaf)

      waited-keeps : Keeps L st₀ (putting other (resume k) st) μ₀ μ t₀ tree Out
      waited-keeps path q b i l o =
          let (l', intact) = keeps path q b i l o in
          let off : other ≢ path = λ e. strange (subst Out (sym e) o) in
          let quiet : Silent (resume k) = λ a v f e. silent-resume k e in (
            other-then L leaf (resume k) (leaf-resume k) j (sits-at L leaf) off l',
            intact-trans intact (intact-put leaf l' off μ (resume k) (leaf-resume k) j (sits-at L leaf) quiet
                (λ a v f e m. lost a v f e path q b i l' m)),
          )

      waited-bytes : bytes_left (S L) tree ≡ bytes_left (S L) t
      waited-bytes = omega (
        arith,
        (moved L leaf (resume k) (leaf-resume k) j (sits-at L leaf)).bytes,
        leaf-bytes (S L) t other
            leaf.label,
      )

  -- the process that waited, as it goes on
  pub waited-goes : {s₀ : World} {st₀ : State} {μ₀ : Mem} {t₀ : Tree (S L) (root L) st₀.process} {Out : List ℕ → Type 0} {ws : List ℕ}
      (G : Ground L s₀ st₀ μ₀ t₀ Out ws) {s : World} {st : State} {μ : Mem} {t : Tree (S L) (root L) st.process} → SameRegs L s s₀
      → now st ≡ now st₀ → {other : List ℕ} {r : Process} {d : Part} {j : Info} → Real L s st μ ws → Rest L st μ t (With Out other) ws
      → Lined L st t (With Out other) ws → LeafAt L st t other r d j → (Out other → ⊥) → Keeps L st₀ st μ₀ μ t₀ t Out
      → {st₁ : State} {μ₁ : Mem} {c : Site} {k : List Frame} {at hi m : ℕ} → Waits (S L) d j st₁ μ₁ c k at hi m
      → μ (resume_word j.w) ≡ μ₁ (resume_word j.w) → frames_of r ≡ k → is_alt r ≡ false → Unmarked (S L) d j st μ
      → ((a : Site) (v : ℕ) (l : List Frame) → r ≡ at_output a v l → (here : List ℕ) (p : Process) (e : Part) (n : Info)
      → LeafAt L st t here p e n → Memᴰ a e.inputs → ⊥)
      → Joins j.w s (putting other (resume k) st) (bytes_left (S L) t)
  waited-goes G {s} {st} {μ} same_Regs same-clock {other} {j = j} real rest lines leaf strange keeps {k = k} waits kept frames plain clean
      lost =
      let rest' = waited-rest G same_Regs same-clock real rest lines leaf strange keeps waits kept frames plain clean lost in
      let leaf' = waited-leaf G same_Regs same-clock real rest lines leaf strange keeps waits kept frames plain clean lost in
      subst (λ n. Joins j.w s (putting other (resume k) st) n)
      (waited-bytes G same_Regs same-clock real rest lines leaf strange keeps waits kept frames plain clean lost)
      (goes_on_lem G same_Regs same-clock (real-state L (put other (resume k) st.process) st.store real) rest'
      (lined_then L leaf (resume k) (leaf-resume k) j (sits-at L leaf) (inr refl) lines) leaf' strange
      (waited-keeps G same_Regs same-clock real rest lines leaf strange keeps waits kept frames plain clean lost)
      (resumed (S L) _ j waits kept clean (sound-at L rest' leaf')))

  -- with its communication
  abbrev pub talked : Site → ℕ → World → World
  talked c v u = record { machine = u.machine; memory = u.memory; talk = u.talk ++ talks ((S L).word c) v ∷ [] }

  -- a process was woken by a communication
  pub answers-talk : {did : World → Type 0} {s₀ s : World} {st₀ st : State} {e : Event} {c : Site} {v w n : ℕ} {g : Segment}
      → Trace st₀ g st (over-channel c v) (e ∷ []) → s.talk ≡ s₀.talk
      → ((u : World) → join (name_of w) s ≡ done tt u → land (talked c v u) ≡ done tt (talked c v u) → did (talked c v u)) → Joins w s st n
      → Answers did s₀ st₀ e n
  answers-talk {c = c} {v} {g = g} ms talk ran (joins u h e f ns inv) =
      let inv' = inv-talk (u.talk ++ talks ((S L).word c) v ∷ []) inv in
      answers (talked c v u) (g ++ h) (ran u e (inv-lands inv')) (trace-then ms ns)
      (ap (λ z. z ++ talks ((S L).word c) v ∷ []) (f ∙ talk)) inv' (omega arith)

  -- without one
  pub answers-silent : {did : World → Type 0} {s₀ s : World} {st₀ st : State} {e : Event} {w n : ℕ} {g : Segment}
      → Trace st₀ g st [] (e ∷ [])
      → s.talk ≡ s₀.talk → ((u : World) → join (name_of w) s ≡ done tt u → land u ≡ done tt u → did u) → Joins w s st n
      → Answers did s₀ st₀ e n
  answers-silent {s₀ = s₀} {g = g} ms talk ran (joins u h e f ns inv) =
      answers u (g ++ h) (ran u e (inv-lands inv)) (trace-then ms ns) (f ∙ talk ∙ sym (append-nil s₀.talk)) inv (omega arith)

-- names in scope around are in scope of every process
module _ (S : Setting) where
  mutual
    unfolding label_at label_in

    pub outer-chans : {a : Part} {p : Process} (t : Tree S a p) (path : List ℕ) {l : Label} → label_at S t path ≡ some l → (c : Site)
        → Memᴰ c a.chans → Memᴰ c (zone_of l).chans
    outer-chans (t-leaf q i h) [] e c m = subst (λ l. Memᴰ c (zone_of l).chans) (some_same e) (h.placed.chans-outer c m)
    outer-chans (t-leaf q i h) (j ∷ path) e c m = never (cc)
    outer-chans (t-par a f) [] e c m = subst (λ l. Memᴰ c (zone_of l).chans) (some_same e) (a.placed.chans-outer c m)
    outer-chans (t-par a f) (j ∷ path) e c m = branch-chans f j path e c (a.placed.chans-outer c m)

    branch-chans : {vars chans : List Site} {w d : ℕ} {ss : Stmts} {bs : Branches} (f : Forest S vars chans w d ss bs) (i : ℕ)
        (path : List ℕ)
        {l : Label} → label_in S f i path ≡ some l → (c : Site) → Memᴰ c chans → Memᴰ c (zone_of l).chans
    branch-chans f-none i path e c m = never (cc)
    branch-chans (f-live t f) zero path e c m = outer-chans t path e c m
    branch-chans (f-live t f) (suc i) path e c m = branch-chans f i path e c m
    branch-chans (f-over f) zero path e c m = never (cc)
    branch-chans (f-over f) (suc i) path e c m = branch-chans f i path e c m

  whole-label : {a : Part} {p : Process} (t : Tree S a p) → (l : Label) × (label_at S t [] ≡ some l)
  unfolding label_at
  whole-label (t-leaf q i h) = (_, refl)
  whole-label (t-par a f) = (_, refl)

-- one of some numbered names
numbered-here : (of : ℕ → Site) (n k : ℕ) → k < n → Memᴰ (of k) (numbered of n)
unfolding numbered
numbered-here of zero k h = absurd (omega arith)
numbered-here of (suc n) k h = by (λ l. numbered-here of n k l) (ℕ_discrete k n)
  where
    by : (k < n → Memᴰ (of k) (numbered of n)) → Dec (k ≡ n) → Memᴰ (of k) (numbered of n ++ of n ∷ [])
    by f (yes e) = Memᴰ.append_right (numbered of n) (Memᴰ.head (ap of e))
    by f (no e) = Memᴰ.append_left (of n ∷ []) (f (omega arith))

module _ (L : Loaded) where
  pub input-named : (k : ℕ) → k < L.prog.inputs → Memᴰ (input_of k) (outside_names L.prog)
  input-named k h = Memᴰ.append_left _ (numbered-here input_of L.prog.inputs k h)

  pub output-named : (k : ℕ) → k < L.prog.outputs → Memᴰ (output_of k) (outside_names L.prog)
  output-named k h = Memᴰ.append_right (numbered input_of L.prog.inputs) (numbered-here output_of L.prog.outputs k h)

  -- an outside channel is empty, or some process waits at it
  pub outside-chan : {st : State} {μ : Mem} {t : Tree (S L) (root L) st.process} {Out : List ℕ → Type 0} {ws : List ℕ}
      → Rest L st μ t Out ws
      → (c : Site) → Memᴰ c (outside_names L.prog) → (μ ((S L).word c) ≡ not_process) ⊎ Owned L st t c (μ ((S L).word c))
  outside-chan {t = t} rest c m =
      let (l, e) = whole-label (S L) t in rest.chans {path = []} (record { label = e }) c (outer-chans (S L) t [] e c m)

  -- and in the machine's memory
  pub outside-in : (st : State) (t : Tree (S L) (root L) st.process) → (c : Site) → Memᴰ c (outside_names L.prog)
      → (S L).word c < size L
  outside-in st t c m =
      let (l, e) = whole-label (S L) t in
      chan-in L {st = st} {t = t} {path = []} {l = l} (record { label = e }) c (outer-chans (S L) t [] e c m)

  -- what a process inputs from and outputs to, the program does
  pub part_of : {st : State} {t : Tree (S L) (root L) st.process} {path : List ℕ} {q : Process} {b : Part} {i : Info}
      → LeafAt L st t path q b i → Parts.Inside b (root L)
  part_of {t = t} {path} k = part-inside (S L) t path (rw k.label)
