-- Who has the processor: a process gets it and takes the steps without code that are next; it leaves it; another is woken.
use Prim.Native.Nat.{ℕ, ◌+◌, ◌≤◌, ◌<◌}
use native.Mathlib.Omega.{arith}
use native.Mathlib.Decide.{ℕ_discrete}
use mathlib.Core.Path.{◌≡◌, refl, sym, ap, ◌∙◌, subst}
use mathlib.Core.Logic.{◌≢◌, inl, ⊎_elim}
use mathlib.Core.Bool.{true, false}
use mathlib.Core.List.Memᴰ
use mathlib.Core.List.{List, [], ◌∷◌, ◌++◌}
use lib.ListN.{length, get_or, set, length-set}
use lib.Seq.{get_or-set_same, get_or-set_other}
use Rattle.model.specs.Machine.{World, done, release, enqueue, with_cpu, resume_word, link_word, name_of}
use Rattle.model.specs.Machine as M
use Rattle.model.specs.Scheme.{size_enable}
use Rattle.model.specs.Occam.{Process, put, State, look}
use Rattle.model.specs.Demand.{Segment}
use Rattle.model.proofs.Quiet.Ways.{upd_same, upd_other, upd, regs_of, Mem, front_word}
use Rattle.model.proofs.Quiet.Setting.{whole}
use Rattle.model.proofs.Quiet.CodeParts.{inside}
use Rattle.model.proofs.Occam.Paths.{Leaf, same-path}
use Rattle.model.proofs.Words.Parts.{Part}
use Rattle.model.proofs.Quiet.Arrivals.{Comes, comes}
use Rattle.model.proofs.Quiet.Onwards.{disable-first}
use Rattle.model.proofs.Invariant.Trees.{Info, Sits, Tree, bytes_left, leaf-bytes, some_same}
use Rattle.model.proofs.Invariant.Leaves.{member, Unmarked, Held, h-queued, h-woken, held-awake}
use Rattle.model.proofs.Invariant.Stays.{Intact}
use Rattle.model.proofs.Effects.OneWord.{cpu_of}
use Rattle.model.proofs.Effects.Queues.{LinksIn, Apart, apart, released, joined, last_of, release-queue, released-queue}
use Rattle.model.proofs.Effects.Queues.{release-queue-none, idle-queue, enqueue-queue, joined-queue, apart_snoc, link-injective}
use Rattle.model.proofs.Effects.Queues.{last-in}
use Rattle.model.proofs.Invariant.Kernel.{Loaded, S, root, size, LeafAt, Rest, whose, Lined, Real, node, part_small, sits-at}
use Rattle.model.proofs.Invariant.Writes.{apart-zones, write-own, link}
use Rattle.model.proofs.Invariant.Puts.{putting, tree_then, here-then, lined_then, rest_then, moved}
use Rattle.model.proofs.Invariant.Grounds.{small_size, sound-at}
use Rattle.model.proofs.Invariant.Traces.{Trace, t-none, Moves, moves, skip-moves}
use Rattle.model.proofs.Invariant.Running.{Only, Nobody, fresh, Now, now-goes, now-alt, Inv, runs, idle}
use Rattle.model.proofs.Invariant.Moving.{other-w, same-leaf, member-cons, member-snoc, member-head, member-last, settled-silent}
use Rattle.model.proofs.Invariant.Moving.{skips-silent, settled-leaf, sleepers-out, settled-off, skips-off}
use Rattle.model.proofs.Invariant.Reals.{size_is, mirrored, real-state, real-queue, real-memory, links-in}
use Rattle.model.proofs.Cases.{never}

module _ (L : Loaded) where
  -- a process has settled: the moves that it made, and the invariant. m bytes were left, of which n are now its own instead of k
  pub data Settles (s : World) (st : State) (m k n : ℕ) : Type 0 where
    settles : {st' : State} {l : ℕ} (g : Segment) → Trace st g st' [] [] → Inv L s st' l → l + k ≡ m + n → Settles s st m k n

  -- it has the processor, at the first byte of an instruction
  pub record Stands (s : World) (i : Info) (at : ℕ) : Type 0 where
    pub run : (cpu_of s).running ≡ true
    pub operand : (cpu_of s).operand ≡ 0
    pub place : (cpu_of s).place ≡ L.off at
    pub work : (cpu_of s).workspace ≡ i.w
    pub inside : at ≤ length (S L).xs

  module _ {s : World} {st : State} {μ : Mem} {t : Tree (S L) (root L) st.process} {path : List ℕ} {p : Process} {b : Part} {i : Info}
      {ws : List ℕ} (real : Real L s st μ ws) (leaf : LeafAt L st t path p b i) (rest : Rest L st μ t (Only path) ws)
      (lines : Lined L st t (Only path) ws) where
    -- the invariant, once it has settled as q, with these names in scope
    pub settled-inv : {at n : ℕ} (q : Process) (j : Info) (sits : Sits (S L) b j) (m : Leaf q) → Stands s j at
        → Rest L (putting path q st) μ (tree_then L leaf q m j sits) (Only path) ws → Now L s (putting path q st) μ b j q
        → Moves st (putting path q st) [] → j.left ≡ n → Settles s st (bytes_left (S L) t) i.left n
    settled-inv {n = n} q j sits m stands r now (moves g ms) e =
        settles g ms
        (runs (real-state L (put path q st.process) st.store real) stands.run (here-then L leaf q m j sits) r
        (lined_then L leaf q m j sits refl lines) now)
        (omega (arith, (moved L leaf q m j sits).bytes, leaf-bytes (S L) t path leaf.label, e))

    -- where its code leads it to its next significant instruction
    pub settle : {at hi : ℕ} (n : ℕ) → Stands s i at → Comes (S L) b st.store i.vars i.chans hi p at i.w
        → Unmarked (S L) b i st μ
        → hi ≤ n + L.off at → n ≤ whole (S L) → Settles s st (bytes_left (S L) t) i.left n
    settle {at} n stands (comes {q} {vars'} {chans'} sk settled sub way) clean soon few =
        settled-inv q j sits m stands'
        (rest_then L leaf q m j sits rest refl (λ x l. rest.vars (node L leaf) x (sub.vars-in x l))
        (λ c l. rest.chans (node L leaf) c (sub.chans-in c l)) sub.live (λ c l o. absurd (clean c l o))
        (λ c v k e other r d z y u l. skips-silent sk settled e) (λ c v k e other r d z y u l h o. settled-silent settled e)
        (λ e. never (cc (e, skips-off sk settled))) (λ e. never (cc (e, settled-off q settled))))
        (now-goes (fresh L at (cpu_of s).place (cpu_of s).operand stands.inside stands.place stands.operand)
        (way μ (regs_of (cpu_of s)) stands.work) settled (λ c l o. clean c (sub.chans-in c l) o) (omega (arith, stands.place)))
        (skip-moves path leaf.found sk) refl
      where
        m : Leaf q
        m = settled-leaf q settled

        j : Info
        j = record { vars = vars'; chans = chans'; w = i.w; left = n }

        sits : Sits (S L) b j
        sits = record { placed = sub.placed; few = few }

        stands' : Stands s j at
        stands' = record {
          run = stands.run;
          operand = stands.operand;
          place = stands.place;
          work = stands.work;
          inside = stands.inside;
        }

  -- a process got the processor: the moves without code that it makes, and the invariant
  pub data Got (s : World) (st : State) (n : ℕ) : Type 0 where
    got : {st' : State} (g : Segment) → Trace st g st' [] [] → Inv L s st' n → Got s st n

  -- its registers: it goes on at its resume place
  pub record Given (s : World) (μ : Mem) (w : ℕ) : Type 0 where
    pub run : (cpu_of s).running ≡ true
    pub operand : (cpu_of s).operand ≡ 0
    pub place : (cpu_of s).place ≡ μ (resume_word w)
    pub work : (cpu_of s).workspace ≡ w

  -- a process that can go on gets the processor, whomever it is taken from
  pub gets : {s : World} {st : State} {μ : Mem} {t : Tree (S L) (root L) st.process} {path : List ℕ} {q : Process} {b : Part} {i : Info}
      {ws : List ℕ} → Given s μ i.w → Real L s st μ ws → Rest L st μ t (Only path) ws → Lined L st t (Only path) ws
      → LeafAt L st t path q b i → Held (S L) L.times b i st μ true q → Got s st (bytes_left (S L) t)
  gets {s} {t = t} {i = i} has real rest lines leaf (h-queued {at} c r h clean) =
      let stands : Stands s i at = record {
        run = has.run;
        operand = has.operand;
        place = has.place ∙ r.place;
        work = has.work;
        inside = h;
      } in
      elim (settle real leaf rest lines i.left stands c clean r.soon (sits-at L leaf).few) [
        | settles {st'} {l} g ms inv e ↦
            let same : l ≡ bytes_left (S L) t = omega arith in got g ms (subst (λ z. Inv L s st' z) same inv)
      ]
  gets {s} {st} {b = b} {i = i} has real rest lines leaf (h-woken {gs} {hi = hi} {at} c r state d) =
      let near : at + 2 + size_enable gs + 1 ≤ length (S L).xs = omega (arith, c.choice-is, inside (S L) c.ends) in
      let same : hi ≤ hi = omega arith in
      got [] t-none
      (runs real has.run leaf rest lines
      (now-alt
      (fresh L (at + 2 + size_enable gs + 1) (cpu_of s).place (cpu_of s).operand near (has.place ∙ r.place) has.operand)
      (disable-first (S L) b L.times st i.w c (sound-at L rest leaf) same d has.work)
      (omega (arith, r.soon, has.place ∙ r.place))))

  -- the processor is let go: the front of the queue gets it, or no process runs
  pub data LetGo (s : World) (st : State) (m : ℕ) : Type 0 where
    let_go : (u : World) {st' : State} (g : Segment) → release s ≡ done tt u → u.talk ≡ s.talk → Trace st g st' [] [] → Inv L u st' m
        → LetGo s st m

  module _ {s : World} {st : State} {μ : Mem} {t : Tree (S L) (root L) st.process} (operand : (cpu_of s).operand ≡ 0) where
    -- the front of the queue
    module _ {ws : List ℕ} {path : List ℕ} {q : Process} {b : Part} {i : Info} (real : Real L s st μ (i.w ∷ ws))
        (rest : Rest L st μ t Nobody (i.w ∷ ws)) (lines : Lined L st t Nobody (i.w ∷ ws)) (leaf : LeafAt L st t path q b i) where
      abbrev front : World
      front = released i.w ws s

      low : resume_word i.w < size L
      low = let p = (sits-at L leaf).placed in omega (arith, p.room, p.low, part_small L leaf, small_size L)

      gone : release s ≡ done tt front
      gone =
          release-queue i.w s lines.once (λ v m. rw (size_is L real) (links-in L lines v m)) (rw (size_is L real) low) real.queue

      front-real : Real L front st μ ws
      front-real = real-queue L (cpu_of front) (released-queue i.w s real.queue) real

      -- the others are queued as they were
      front_rest : Rest L st μ t (Only path) ws
      front_rest =
          record {
            vars = rest.vars;
            chans = rest.chans;
            live = rest.live;
            leaf = λ {path = other} {q = r} {b = c} {i = j} k n.
                subst (λ f. Held (S L) L.times c j st μ f r)
                (member-cons j.w i.w ws (λ e. other-w L leaf k n (sym e))) (rest.leaf k (λ o. o));
            par = rest.par;
            sleepers = sleepers-out L (λ other tm k c j l n e.
                held-awake (S L) L.times b i st μ
                (subst (λ z. Held (S L) L.times b i st μ z q) (member-head i.w ws) (rest.leaf leaf (λ o. o))) tm k
                (some_same (sym leaf.found ∙ ap (λ z. look z st.process) e ∙ l.found)))
                (λ other tm k c j l n o. o) rest.sleepers;
          }

      front-lines : Lined L st t (Only path) ws
      front-lines = after lines.once
        where
          after : Apart (i.w ∷ ws) → Lined L st t (Only path) ws
          after (apart d a) =
              record {
                each = λ w m. elim (lines.each w (Memᴰ.tail m)) [
                  | whose {path = other} {i = j} k e n ↦ whose k e (λ p.
                      d w m (ap link_word (same-leaf L (λ q b (z : Info). z.w ≡ w) (sym p) k leaf e)))
                ];
                once = a;
              }

      front_goes : Held (S L) L.times b i st μ true q → LetGo s st (bytes_left (S L) t)
      front_goes held =
          let given : Given front μ i.w = record {
            run = refl;
            operand = operand;
            place = mirrored L real (resume_word i.w) low refl;
            work = refl;
          } in
          elim (gets given front-real front_rest front-lines leaf held) [ got g ms inv ↦ let_go front g gone refl ms inv ]

    pub lets_go : {ws : List ℕ} → Real L s st μ ws → Rest L st μ t Nobody ws → Lined L st t Nobody ws → LetGo s st (bytes_left (S L) t)
    lets_go {ws = []} real rest lines =
        let r = M.running false (cpu_of s) in
        let_go (with_cpu r s) [] (release-queue-none s real.queue) refl t-none
        (idle (real-queue L r (idle-queue s real.queue) real) refl operand rest)
    lets_go {ws = w ∷ ws} real rest lines = elim (lines.each w (Memᴰ.head refl)) [
      | whose {q} {b} {i} leaf e n ↦
          let f : i.w ∷ ws ≡ w ∷ ws = ap (λ z. z ∷ ws) e in
          let rest' : Rest L st μ t Nobody (i.w ∷ ws) = subst (λ l. Rest L st μ t Nobody l) (sym f) rest in
          front_goes (subst (λ l. Real L s st μ l) (sym f) real) rest' (subst (λ l. Lined L st t Nobody l) (sym f) lines) leaf
          (subst (λ z. Held (S L) L.times b i st μ z q) (member-head i.w ws) (rest'.leaf leaf (λ o. o)))
    ]

  -- the memory in which w is linked behind the last of the queue
  abbrev pub linked_to : ℕ → List ℕ → Mem → Mem
  linked_to w [] μ = μ
  linked_to w (v ∷ vs) μ = upd μ (link_word (last_of v vs)) (name_of w)

  -- a process has joined the queue
  pub record Woken (s : World) (st : State) (μ : Mem) (t : Tree (S L) (root L) st.process) (Out : List ℕ → Type 0) (w : ℕ) (ws : List ℕ)
      : Type 0 where
    pub enqueued : enqueue (name_of w) (cpu_of s) s ≡ done tt (joined w ws s)
    pub real : Real L (joined w ws s) st (linked_to w ws μ) (ws ++ w ∷ [])
    pub rest : Rest L st (linked_to w ws μ) t Out (ws ++ w ∷ [])
    pub lines : Lined L st t Out (ws ++ w ∷ [])
    -- those that are left out see nothing of it
    pub intact : {path : List ℕ} {q : Process} {b : Part} {i : Info} {skip : ℕ} → LeafAt L st t path q b i → Out path
        → Intact (S L) b i skip st st μ (linked_to w ws μ)

  module _ {s : World} {st : State} {μ : Mem} {t : Tree (S L) (root L) st.process} {Out Out' : List ℕ → Type 0} {ws : List ℕ}
      {path : List ℕ} {q : Process} {b : Part} {i : Info} (real : Real L s st μ ws) (rest : Rest L st μ t Out ws)
      (lines : Lined L st t Out ws)
      (leaf : LeafAt L st t path q b i) (out : Out path) (held : Held (S L) L.times b i st μ true q)
      (in-again : (other : List ℕ) → path ≢ other → Out other → Out' other) (fewer : (other : List ℕ) → Out' other → Out other)
      (not-out : Out' path → ⊥) where
    abbrev w : ℕ
    w = i.w

    wake-rest : Rest L st μ t Out' (ws ++ w ∷ [])
    wake-rest =
        record {
          vars = rest.vars;
          chans = rest.chans;
          live = rest.live;
          leaf = λ {path = other} {q = r} {b = c} {i = j} k n.
              ⊎_elim
              (λ e. same-leaf L (λ q b (z : Info). Held (S L) L.times b z st μ (member z.w (ws ++ w ∷ [])) q) e leaf k
              (subst (λ f. Held (S L) L.times b i st μ f q) (sym (member-last w ws)) held))
              (λ d. subst (λ f. Held (S L) L.times c j st μ f r) (sym (member-snoc j.w w ws (λ e. other-w L leaf k d (sym e))))
              (rest.leaf k (λ o. n (in-again other d o)))) (same-path path other);
          par = rest.par;
          sleepers = sleepers-out L (λ other tm k c j l n o. n (fewer other o))
              (λ other tm k c j l n o.
              ⊎_elim (λ e. held-awake (S L) L.times b i st μ held tm k
              (some_same (sym leaf.found ∙ ap (λ z. look z st.process) e ∙ l.found))) (λ d. n (in-again other d o))
              (same-path path other)) rest.sleepers;
        }

    wake-lines : Lined L st t Out' (ws ++ w ∷ [])
    wake-lines =
        record {
          each = λ v m.
              ⊎_elim (λ l. elim (lines.each v l) [ whose {path = other} k e n ↦ whose k e (λ o. n (fewer other o)) ])
              (λ l. whose leaf (sym (Memᴰ.eq_of_singleton l)) not-out) (Memᴰ.append_cases ws m);
          once = apart_snoc w (λ v m e. elim (lines.each v m) [
            | whose {path = other} {i = j} k f n ↦
                let p = (sits-at L k).placed in
                let r = (sits-at L leaf).placed in
                other-w L leaf k (λ z. n (subst Out z out))
                (sym (link-injective v w (omega (arith, f, p.low, part_small L k, small_size L))
                (omega (arith, r.low, part_small L leaf, small_size L)) e) ∙ sym f)
          ]) lines.once;
        }

    -- the last of the queue links to it
    module _ (v : ℕ) {other : List ℕ} {r : Process} {c : Part} {j : Info} (last : LeafAt L st t other r c j) (e : j.w ≡ v)
        (stays : Out other → ⊥) where
      link-low : (c.bottom ≤ link_word v) × (link_word v < c.top)
      link-low =
          let p = (sits-at L last).placed in
          (omega (arith, p.room, p.low, part_small L last, small_size L), omega (arith, p.room, p.low, part_small L last, small_size L))

      under : link_word v < j.w
      under = let p = (sits-at L last).placed in omega (arith, p.room, p.low, part_small L last, small_size L)

      linked-rest : Rest L st (upd μ (link_word v) (name_of w)) t Out' (ws ++ w ∷ [])
      linked-rest =
          let p = (sits-at L last).placed.scoped in
          write-own L last wake-rest (link_word v) (name_of w) link-low.0 link-low.1
          (λ x m f. absurd (omega (arith, p.vars-above x m, under, f)))
          (λ x m f. absurd (omega (arith, p.chans-above x m, under, f))) (link (ap link_word (sym e)))

      linked-intact : {path : List ℕ} {q : Process} {b : Part} {i : Info} {skip : ℕ} → LeafAt L st t path q b i → Out' path
          → Intact (S L) b i skip st st μ (upd μ (link_word v) (name_of w))
      linked-intact {path = here} k o =
          let far = apart-zones L (λ z. stays (subst Out z (fewer here o))) (node L k) (node L last) in
          record {
            own = λ a lo hi d. upd_other μ (link_word v) (name_of w) a
                (λ f. far.words a (lo, hi) (omega (arith, f, link-low.0), omega (arith, f, link-low.1)));
            reads = λ x m g. refl;
            chans = λ d m. inl (upd_other μ (link_word v) (name_of w) ((S L).word d)
                (λ f. far.chans-out d m (omega (arith, f, link-low.0), omega (arith, f, link-low.1))));
            sends = λ d m z. z;
            none-sends = λ d m g z y. y;
          }

  linked-mirror : {s : World} {st : State} {μ : Mem} {ws : List ℕ} (v w : ℕ) → Real L s st μ ws → link_word v < size L → (a : ℕ)
      → a < size L
      → get_or (set s.memory (link_word v) w) a 0 ≡ upd μ (link_word v) w a
  linked-mirror {s} {μ = μ} v w real h a k = by (ℕ_discrete a (link_word v))
    where
      by : Dec (a ≡ link_word v) → get_or (set s.memory (link_word v) w) a 0 ≡ upd μ (link_word v) w a
      by (yes e) = rw e (get_or-set_same s.memory (link_word v) w 0 (omega (arith, real.room)) ∙ sym (upd_same μ (link_word v) w))
      by (no e) = get_or-set_other s.memory (link_word v) a w 0 e ∙ real.mirror a k ∙ sym (upd_other μ (link_word v) w a e)

  -- a process that can go on joins the back of the queue
  pub wakes : {s : World} {st : State} {μ : Mem} {t : Tree (S L) (root L) st.process} {Out Out' : List ℕ → Type 0} {ws : List ℕ}
      {path : List ℕ} {q : Process} {b : Part} {i : Info} → Real L s st μ ws → Rest L st μ t Out ws → Lined L st t Out ws
      → LeafAt L st t path q b i → Out path → Held (S L) L.times b i st μ true q
      → ((other : List ℕ) → path ≢ other → Out other → Out' other) → ((other : List ℕ) → Out' other → Out other) → (Out' path → ⊥)
      → Woken s st μ t Out' i.w ws
  wakes {s} {ws = []} {i = i} real rest lines leaf out held in-again fewer not-out =
      let links : LinksIn s [] = λ v m. rw (size_is L real) (links-in L lines v m) in
      record {
        enqueued = enqueue-queue i.w s links real.queue;
        real = real-memory L real s.memory (M.queueing (name_of i.w) (name_of i.w) true (cpu_of s)) refl real.mirror
            (joined-queue i.w s (omega (arith, size_is L real, real.room)) links lines.once real.queue) refl;
        rest = wake-rest real rest lines leaf out held in-again fewer not-out;
        lines = wake-lines real rest lines leaf out held in-again fewer not-out;
        intact = λ k o. record {
          own = λ a lo hi d. refl;
          reads = λ x m g. refl;
          chans = λ d m. inl refl;
          sends = λ d m z. z;
          none-sends = λ d m g z y. y;
        };
      }
  wakes {s} {st} {μ} {t} {Out} {Out'} {ws = v ∷ vs} {i = i} real rest lines leaf out held in-again fewer not-out =
      let links : LinksIn s (v ∷ vs) = λ w m. rw (size_is L real) (links-in L lines w m) in
      let k = link_word (last_of v vs) in
      elim (lines.each (last_of v vs) (last-in v vs)) [
        | whose last e stays ↦ record {
          enqueued = enqueue-queue i.w s links real.queue;
          real = real-memory L real (set s.memory k (name_of i.w))
              (M.queueing (name_of v) (name_of i.w) true (cpu_of s)) (length-set s.memory k (name_of i.w))
              (linked-mirror (last_of v vs) (name_of i.w) real (links-in L lines (last_of v vs) (last-in v vs)))
              (joined-queue i.w s (omega (arith, size_is L real, real.room)) links lines.once real.queue)
              (upd_other μ k (name_of i.w) front_word
              (λ e. absurd (omega (arith, links-in L lines (last_of v vs) (last-in v vs), small_size L))));
          rest = linked-rest real rest lines leaf out held in-again fewer not-out (last_of v vs) last e stays;
          lines = wake-lines real rest lines leaf out held in-again fewer not-out;
          intact = linked-intact real rest lines leaf out held in-again fewer not-out (last_of v vs) last e stays;
        }
      ]
